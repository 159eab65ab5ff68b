use Rattle.std.proofs.Common.{◌≡◌, drop}
use Rattle.ga_journal.specs.Walked.{old_value_of_place}
use Rattle.ga_journal.proofs.history.overwritten_value.old_value_of_place.Given as goal

-- the wanted place is not among those that were read
abbrev pub invariant-loop-k : goal.invariant-loop-k
invariant-loop-k l = old_value_of_place l.fn.what l.fn.saved ≡ old_value_of_place l.fn.what (drop l.k l.fn.saved)
