use Rattle.std.proofs.Common.{rules, ◌≢◌, ◌∙◌, List, ℕ, ap, subst}
use Rattle.ga_parser.specs.declared.fault.SourceFaultCause.TheVariants.{Memory}
use Rattle.ga_parser.specs.Saying.{token_contents}
use Rattle.ga_source.specs.Recovery.{tokens_with_word_numbers, AreFaultsOfWords}
use Rattle.ga_asm_text.specs.Source.{HasTextPartsInOrder}
use Rattle.ga_asm_text.proofs.Sources.{listed_faulty}
use Rattle.ga_asm_text.proofs.listing.faulty_listing.Goals as goal

pub returns : goal.returns
returns c =
    let other : c.args.fault.cause ≢ Memory = search rules in
    let are : AreFaultsOfWords (token_contents (tokens_with_word_numbers 1 c.as_slice-words.result.now)) c.in_ok-assembled.field-0.faults.items = search rules in
    listed_faulty c.args.source.now c.in_ok-text.text.items c.as_slice-words.result.now c.args.fault c.in_ok-assembled.field-0.faults.items c.in_ok-faults.faults.items (ap token_contents c.as_slice-words.ensures.value ∙ c.in_ok-all.ensures) c.requires other are c.in_ok-faults.ensures
    (subst (λ (lines : List (List ℕ)). HasTextPartsInOrder lines c.in_ok-text.text.items) c.new-lines.ensures c.in_ok-text.ensures)
