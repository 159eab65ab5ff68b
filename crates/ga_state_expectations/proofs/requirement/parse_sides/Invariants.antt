use Rattle.std.proofs.Common.{◌≡◌, ◌-◌, ◌<◌}
use Rattle.ga_state_expectations.specs.Spelling.{parsed_sides_within}
use Rattle.ga_state_expectations.proofs.requirement.parse_sides.Given as goal

abbrev pub invariant-words : goal.invariant-words
invariant-words l = record {
  small : l.sides < 16;
  rest : parsed_sides_within (4 - l._place) l.sides l.left ≡ parsed_sides_within 4 0 l.text;
}
