use Rattle.std.proofs.Common.{◌++◌, ◌∷◌, [], sym, subst, refl}
use Rattle.ga_parser.specs.declared.item.LocatedRequest.{LocatedRequest}
use Rattle.ga_parser.specs.declared.item.AssemblyRequest.TheVariants.{Unext}
use Rattle.ga_source.specs.declared.packing.Packer.{Packer}
use Rattle.ga_source.specs.inner.{AreRequestsLaidOut, AreItemsGrouped}
use Rattle.ga_source.proofs.Marking.{of_request, pending_unext}
use Rattle.ga_source.proofs.Grouped.{putting_unext}
use Rattle.ga_source.proofs.packing.Packer.unext.Goals as goal

pub returns : goal.returns
returns c =
    let self = c.args.self.now in
    let marked : Packer = record self { broken = c.broken_by-broken.result } in
    let one : LocatedRequest = record { line = c.args.asked.line; request = Unext c.args.label } in
    let same = sym (of_request c.args.asked (Unext c.args.label) c.requires.unext) in
    record {
      cell = c.in_ok-add.ensures.cell;
      walked = λ before w. subst (λ (asked : LocatedRequest). AreRequestsLaidOut c.add.new.self (before ++ asked ∷ [])) same
          (c.in_ok-add.ensures.walked (before ++ one ∷ []) (pending_unext self marked before c.args.asked.line c.args.label
          (λ e. let parts = c.broken_by-broken.ensures e in (parts.0, c.is_loop-is_loop.ensures parts.1)) refl refl refl refl w));
      grouped = λ before w g. subst (λ (asked : LocatedRequest). AreItemsGrouped c.add.new.self (before ++ asked ∷ [])) same
          (c.in_ok-add.ensures.grouped (before ++ one ∷ []) (putting_unext self marked before c.args.asked.line c.args.label refl refl refl refl refl w g));
    }
