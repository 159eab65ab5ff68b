use Rattle.std.proofs.Common.{◌≡◌, ◌++◌, drop}
use Rattle.ga_source.specs.Recovery.{tokens_with_word_numbers}
use Rattle.ga_source.proofs.numbered_words.number_words.Given as goal

abbrev pub invariant-loop-word : goal.invariant-loop-word
invariant-loop-word l = l.all.items ++ tokens_with_word_numbers l.number (drop l.word-index l.words) ≡ tokens_with_word_numbers 1 l.words
