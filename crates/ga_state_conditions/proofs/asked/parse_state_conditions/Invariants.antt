use Rattle.std.proofs.Common.{◌≡◌, ◌-◌, length}
use Rattle.ga_state_conditions.specs.Asked.{parsed_state_conditions_within, parsed_state_conditions}
use Rattle.ga_state_conditions.proofs.Spelling.{after_others}
use Rattle.ga_state_conditions.proofs.asked.parse_state_conditions.Given as goal

abbrev pub invariant-conditions : goal.invariant-conditions
invariant-conditions l = record {
  size : length l.conditions.items ≡ l._place;
  rest : after_others l.conditions.items (parsed_state_conditions_within l.notes (8 - l._place) l.left) ≡ parsed_state_conditions l.notes l.text;
}
