use Rattle.ga_asm_text.proofs.FaultListing.{grows, tells_none, tells_both}
use Rattle.ga_asm_text.proofs.program_listing.push_listed_program.Goals as goal

pub returns : goal.returns
returns c =
    let node = grows _ _ c.in_ok-push_node.ensures.0 c.in_ok-push_node.ensures.1 in
    tells_both _ _ _ _ _ _ (tells_both _ _ _ _ _ _ c.in_ok-push_before.ensures (tells_none _ _ _ node)) c.in_ok-push_program.ensures
