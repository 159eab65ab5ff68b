use Rattle.std.proofs.Common.{rules, ◌++◌, ◌∷◌, [], sym, subst}
use Rattle.std.proofs.lemmas.Bool.{both_ways}
use Rattle.ga_parser.specs.declared.item.LocatedRequest.{LocatedRequest}
use Rattle.ga_parser.specs.declared.item.AssemblyRequest.TheVariants.{PlaceItem}
use Rattle.ga_source.specs.inner.{HasKnownLabelIfJumpBack, AreRequestsLaidOut, AreItemsGrouped, ArePlainRequestsPacked}
use Rattle.ga_source.proofs.CellGroups.{cell_fits}
use Rattle.ga_source.proofs.Marking.{of_request}
use Rattle.ga_source.proofs.packing.Packer.put.Goals as goal

pub returns-clause-taken : goal.returns-clause-taken
returns-clause-taken c =
    let known : HasKnownLabelIfJumpBack c.args.self.now.labels.items c.args.item = search rules in
    let one : LocatedRequest = record { line = c.args.asked.line; request = PlaceItem c.args.item } in
    let same = sym (of_request c.args.asked (PlaceItem c.args.item) c.requires.put) in
    record {
      cell = c.in_ok-add.ensures.cell;
      walked = λ before w. subst (λ (asked : LocatedRequest). AreRequestsLaidOut c.add.new.self (before ++ asked ∷ [])) same
          (c.in_ok-add.ensures.walked (before ++ one ∷ []) (c.in_ok-make_room.ensures.pending before c.args.asked.line known w));
      grouped = λ before w g. subst (λ (asked : LocatedRequest). AreItemsGrouped c.add.new.self (before ++ asked ∷ [])) same
          (c.in_ok-add.ensures.grouped (before ++ one ∷ []) (c.in_ok-make_room.ensures.putting before c.args.asked.line known w g));
    }

pub returns-clause-packed : goal.returns-clause-packed
returns-clause-packed c = λ n requests is w.
    let stays = c.make_room.ensures.stays (cell_fits c.args.self.now requests c.args.item n is w) in
    c.in_ok-add.ensures.packed n requests is (subst (λ packer. ArePlainRequestsPacked packer requests) (sym stays) w)

pub returns-then-not-is_known-clause-refused : goal.returns-then-not-is_known-clause-refused
returns-then-not-is_known-clause-refused c = λ n is. let known = c.is_known.ensures.data n is in absurd (both_ways c.is_known.result c.if-not-is_known.true known)
