use Rattle.std.proofs.Common.{◌≡◌, length, Option, None}
use Rattle.std.specs.List.{All}
use Rattle.ga_race_detector.specs.declared.around.Around.{Around}
use Rattle.ga_race_detector.proofs.readings.none_known.Given as goal

abbrev pub invariant-many : goal.invariant-many
invariant-many l = record {
  size : length l.known.items ≡ l._place;
  none : All (λ (around : Option Around). around ≡ None) l.known.items;
}
