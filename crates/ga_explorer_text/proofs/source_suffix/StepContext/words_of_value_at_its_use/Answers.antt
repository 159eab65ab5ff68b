use Rattle.std.proofs.Common.{sym, ◌∙◌}
use Rattle.ga_explorer_text.proofs.Saying.{worded_as}
use Rattle.ga_explorer_text.proofs.Words.{no_word, used_line, apart_of}
use Rattle.ga_explorer_text.proofs.source_suffix.StepContext.words_of_value_at_its_use.Goals as goal

pub returns-then-has_only_transferred_word : goal.returns-then-has_only_transferred_word
returns-then-has_only_transferred_word c = no_word c.args.self.now.lab.now c.args.value c.from_low_bits-none.result c.from_low_bits-none.result (sym c.has_only_transferred_word.ensures ∙ c.if-has_only_transferred_word.true)

pub returns-then-is_made_with_a_or_carry : goal.returns-then-is_made_with_a_or_carry
returns-then-is_made_with_a_or_carry c = worded_as c.args.self.now.lab.now c.args.value c.words_of_value.result.word c.words_of_value.result.a c.words_of_value.ensures.word c.words_of_value.ensures.a

pub word_of_use-requires-clause-apart : goal.word_of_use-requires-clause-apart
word_of_use-requires-clause-apart c = apart_of c.args.self.now.lab.now c.args.value c.args.used c.requires.0 (sym c.is_made_with_a_or_carry.ensures ∙ c.if-is_made_with_a_or_carry.false)

pub returns-else-is_made_with_a_or_carry : goal.returns-else-is_made_with_a_or_carry
returns-else-is_made_with_a_or_carry c = used_line c.args.self.now.lab.now c.args.value c.args.used c.word_of_use.result c.from_low_bits-none.result (sym c.is_made_with_a_or_carry.ensures ∙ c.if-is_made_with_a_or_carry.false) c.requires.0 c.word_of_use.ensures
