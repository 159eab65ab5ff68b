use Rattle.ga_asm_text.proofs.FaultListing.{tells_both, all_told}
use Rattle.ga_asm_text.proofs.listing.listing.Goals as goal

pub loop-program-preserved : goal.loop-program-preserved
loop-program-preserved c = tells_both _ _ _ _ _ _ c.loop-program.invariant c.in_ok-push_listed_program.ensures

pub returns : goal.returns
returns c = all_told _ _ (tells_both _ _ _ _ _ _ c.loop-program.invariant c.in_ok-push_rest.ensures)
