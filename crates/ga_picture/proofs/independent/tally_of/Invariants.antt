use Rattle.std.proofs.Common.{◌≡◌, ℕ, ◌-◌, ◌<◌, Bool, false, length, map, get_or}
use Rattle.std.specs.List.{range_with_len}
use Rattle.ga_picture.specs.Items.{picture_item_at, is_plain_event_at}
use Rattle.ga_picture.specs.inner.{picture_facts_of_events, IsActivityOfItems, HasNodeStepsWithinBound}
use Rattle.ga_picture.proofs.independent.tally_of.Given as goal

abbrev pub invariant-events : goal.invariant-events
invariant-events l = record {
  few : HasNodeStepsWithinBound l.tally (l.place - l.fn.from);
  tallied : (ready : ℕ → Bool)
      → ((place : ℕ) → place < length l.fn.facts.events.now → get_or l.fn.facts.plain.now place false ≡ is_plain_event_at ready l.fn.facts.events.now place)
      → IsActivityOfItems (map (picture_item_at (picture_facts_of_events l.fn.facts ready) l.fn.view) (range_with_len l.fn.from (l.place - l.fn.from))) l.tally;
}
