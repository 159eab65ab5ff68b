use Rattle.std.proofs.Common.{◌≡◌}
use Rattle.ga_parser.specs.Words.{source_tokens_until_fault}
use Rattle.ga_asm_text.proofs.Telling.{read_says, made_of_same}
use Rattle.ga_asm_text.proofs.laws.disassembly_round_trips.Goals as goal

pub returns-clause-made : goal.returns-clause-made
returns-clause-made c = λ image text made accepted is. (accepted.0, accepted.1, accepted.2.same made is)

pub returns-clause-written : goal.returns-clause-written
returns-clause-written c = λ image text again accepted is. (accepted.0, is.chip, accepted.1, is.back, accepted.2.same is.chip is.made)

pub returns-clause-read : goal.returns-clause-read
returns-clause-read c = λ image text read rest again accepted input of.
    let is = of.4 in
    let same : source_tokens_until_fault of.0 ≡ source_tokens_until_fault text = read_says text read rest of.0 of.1 input of.2 of.3 in
    (accepted.0, is.chip, accepted.1, is.back, accepted.2.same is.chip (made_of_same of.0 text is.chip same is.made))
