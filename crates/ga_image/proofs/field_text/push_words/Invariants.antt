use Rattle.std.proofs.Common.{◌≡◌, ◌++◌, take}
use Rattle.ga_text.specs.Digits.{spaced_words_text}
use Rattle.ga_image.proofs.field_text.push_words.Given as goal

abbrev pub invariant-loop-word : goal.invariant-loop-word
invariant-loop-word l = l.text.items ≡ l.initial.text.items ++ spaced_words_text (take l.word-index l.words)
