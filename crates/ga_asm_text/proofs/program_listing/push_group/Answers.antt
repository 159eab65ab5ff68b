use Rattle.std.proofs.Common.{ℕ, List, subst, sym}
use Rattle.ga_asm_text.specs.inner.{fault_lines_left, IsListingExtended}
use Rattle.ga_asm_text.proofs.FaultListing.{grows_both, tells_none, tells_both}
use Rattle.ga_asm_text.proofs.program_listing.push_group.Goals as goal

pub returns : goal.returns
returns c =
    let grown = grows_both _ _ _ (grows_both _ _ _ (grows_both _ _ _ c.in_ok-push_cell.ensures c.in_ok-push_items.ensures) c.in_ok-push_line.ensures) c.in_ok-push_literals.ensures in
    subst (λ (left : List (List ℕ)). IsListingExtended c.args.text.now.items c.push_literals.new.text.items (fault_lines_left c.args.lines.now) left) (sym c.line-3.ensures)
    (tells_both _ _ _ _ _ _ c.in_ok-push_before.ensures (tells_none _ _ _ grown))
