use Rattle.std.proofs.Common.{rules, ◌≡◌, List, arith, ◌<◌, length, take, sym, subst, refl}
use Rattle.std.specs.Prelude.{Err}
use Rattle.std.proofs.lemmas.List.{take_all, take_more, map-append}
use Rattle.ga_source.specs.inner.{AreRequestsLaidOut, AreItemsGrouped, requests_without_lines, ArePlainRequestsPacked}
use Rattle.ga_parser.specs.declared.item.LocatedRequest.{LocatedRequest}
use Rattle.ga_source.proofs.CellGroups.{none_packed, one_plain}
use Rattle.ga_source.proofs.Marking.{walked_none, laid_out}
use Rattle.ga_source.proofs.Grouped.{grouped_none, grouped}
use Rattle.ga_source.proofs.packing.pack.Goals as goal

pub loop-one-init : goal.loop-one-init
loop-one-init c = record { cell = record { slot = search rules; size = search rules }; walked = walked_none _ (search rules) (search rules) (search rules); grouped = grouped_none _ (search rules) (search rules) (search rules) refl; packed = λ plain. none_packed _ c.new-2.ensures refl c.first_spot_of_cell.ensures c.new.ensures.items }

pub loop-one-preserved : goal.loop-one-preserved
loop-one-preserved c =
    let l : c.loop-one.one-index < length c.args.asked.now = omega arith in
    record {
      cell = c.in_ok-take.ensures.taken.cell;
      walked = subst (AreRequestsLaidOut c.take.new.self) (sym (take_more c.args.asked.now c.loop-one.one-index _ l)) (c.in_ok-take.ensures.taken.walked (take c.loop-one.one-index c.args.asked.now) c.loop-one.invariant.walked);
      grouped = subst (AreItemsGrouped c.take.new.self) (sym (take_more c.args.asked.now c.loop-one.one-index _ l)) (c.in_ok-take.ensures.taken.grouped (take c.loop-one.one-index c.args.asked.now) c.loop-one.invariant.walked c.loop-one.invariant.grouped);
      packed = λ plain.
          subst (λ (list : List LocatedRequest). ArePlainRequestsPacked c.take.new.self (requests_without_lines list)) (sym (take_more c.args.asked.now c.loop-one.one-index _ l))
          (subst (ArePlainRequestsPacked c.take.new.self) (sym (map-append (λ one. one.request) (take c.loop-one.one-index c.args.asked.now) _))
          (c.in_ok-take.ensures.packed (requests_without_lines (take c.loop-one.one-index c.args.asked.now)) (one_plain c.args.asked.now c.loop-one.one-index _ l plain) (c.loop-one.invariant.packed plain)));
    }

pub returns-clause-laid_out : goal.returns-clause-laid_out
returns-clause-laid_out c =
    let walked = subst (AreRequestsLaidOut c.loop-one.packer) (take_all c.loop-one.one-index c.args.asked.now (omega arith)) c.loop-one.invariant.walked in
    laid_out c.loop-one.packer c.close.new.self _ c.args.asked.now walked c.in_ok-close.ensures.closed refl refl

pub returns-in_err-take-clause-refused : goal.returns-in_err-take-clause-refused
returns-in_err-take-clause-refused c =
    let e : c.from_residual-in_err-take.result ≡ Err c.in_err-take.field-0.0 = search rules in
    rw e (λ plain. c.in_err-take.ensures.refused (one_plain c.args.asked.now c.loop-one.one-index _ c.loop-one-test.true plain))

pub returns-clause-groups : goal.returns-clause-groups
returns-clause-groups c =
    let all = subst (AreItemsGrouped c.loop-one.packer) (take_all c.loop-one.one-index c.args.asked.now (omega arith)) c.loop-one.invariant.grouped in
    grouped c.loop-one.packer c.close.new.self c.args.asked.now all c.in_ok-close.ensures.closed c.in_ok-close.ensures.gathered
