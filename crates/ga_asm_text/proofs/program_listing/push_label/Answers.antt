use Rattle.ga_asm_text.proofs.FaultListing.{grows, grows_both, tells_none, tells_both}
use Rattle.ga_asm_text.proofs.program_listing.push_label.Goals as goal

pub returns : goal.returns
returns c =
    tells_both _ _ _ _ _ _ c.in_ok-push_before.ensures
    (tells_none _ _ _ (grows_both _ _ _ (grows _ _ _ c.in_ok-extend_from_slice.ensures.items) (grows _ _ _ c.in_ok-extend_from_slice-2.ensures.items)))
