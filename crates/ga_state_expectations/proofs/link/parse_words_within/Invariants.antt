use Rattle.std.proofs.Common.{◌≡◌, ◌-◌, length}
use Rattle.ga_state_expectations.specs.Spelling.{parsed_link_words_within, link_expectation_without_words}
use Rattle.ga_state_expectations.proofs.link.parse_words_within.Given as goal

abbrev pub invariant-words : goal.invariant-words
invariant-words l = record {
  size : length l.expected.words.items ≡ l._place;
  rest : parsed_link_words_within l.names (64 - l._place) l.expected l.left ≡ parsed_link_words_within l.names 64 (link_expectation_without_words l.fn.from l.fn.to) l.text;
}
