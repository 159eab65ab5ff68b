use Rattle.std.proofs.Common.{◌∙◌, sym}
use Rattle.ga_state_expectations.proofs.LinkWords.{split_thrice}
use Rattle.ga_state_expectations.proofs.link.parse_link.Goals as goal

pub returns : goal.returns
returns c =
    c.parse_link_of_words.ensures
    ∙ sym (split_thrice c.args.names.now c.args.text.now c.split_first_word.result.0.now c.split_first_word.result.1.now c.split_first_word-2.result.0.now c.split_first_word-2.result.1.now
    c.split_first_word-3.result.0.now c.split_first_word-3.result.1.now (sym c.split_first_word.ensures) (sym c.split_first_word-2.ensures) (sym c.split_first_word-3.ensures))
