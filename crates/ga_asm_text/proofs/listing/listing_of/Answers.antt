use Rattle.std.proofs.Common.{◌∙◌, ap}
use Rattle.ga_parser.specs.Saying.{token_contents}
use Rattle.ga_asm_text.proofs.Sources.{listed_whole}
use Rattle.ga_asm_text.proofs.listing.listing_of.Goals as goal

pub returns-in-Ok : goal.returns-in-Ok
returns-in-Ok c =
    listed_whole c.args.source.now c.in_ok-text-in-Ok.text.items c.as_slice-all.result.now c.in-Ok.assembled
    (ap token_contents c.as_slice-all.ensures.value ∙ c.in_ok-words.ensures.says) c.in-Ok.ensures.assembled

pub faulty_listing-requires : goal.faulty_listing-requires
faulty_listing-requires c = c.in-Err.ensures.refused c.args.source.now (ap token_contents c.as_slice-all.ensures.value ∙ c.in_ok-words.ensures.says)
