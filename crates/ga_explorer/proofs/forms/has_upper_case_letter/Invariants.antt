use Rattle.std.proofs.Common.{◌≡◌, drop}
use Rattle.ga_explorer.specs.NoCommand.{has_upper_case_letter}
use Rattle.ga_explorer.proofs.forms.has_upper_case_letter.Given as goal

abbrev pub invariant-letters : goal.invariant-letters
invariant-letters l = has_upper_case_letter (drop l.letter-index l.word) ≡ has_upper_case_letter l.word
