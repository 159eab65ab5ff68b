use Rattle.ga_asm_text.proofs.FaultListing.{tells_both}
use Rattle.ga_asm_text.proofs.program_listing.push_program.Goals as goal

pub loop-group-preserved : goal.loop-group-preserved
loop-group-preserved c = tells_both _ _ _ _ _ _ (tells_both _ _ _ _ _ _ c.loop-group.invariant c.in_ok-told.ensures) c.in_ok-push_group.ensures
