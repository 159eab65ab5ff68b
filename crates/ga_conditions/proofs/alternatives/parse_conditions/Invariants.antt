use Rattle.std.proofs.Common.{◌≡◌, length}
use Rattle.ga_conditions.proofs.OrLemmas.{IsGiven, IsLeft}
use Rattle.ga_conditions.proofs.alternatives.parse_conditions.Given as goal

abbrev pub invariant-loop-place : goal.invariant-loop-place
invariant-loop-place l = record {
  size : length l.conditions ≡ 8;
  given : IsGiven l.notes l.text l.conditions l.place l.left;
  rest : IsLeft l.conditions l.place;
}
