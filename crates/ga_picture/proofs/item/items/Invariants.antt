use Rattle.std.proofs.Common.{◌≡◌, ℕ, ◌-◌, ◌<◌, Bool, false, length, map, get_or}
use Rattle.std.specs.List.{range_with_len}
use Rattle.ga_causal.specs.Dependence.{is_node_flagged}
use Rattle.ga_picture.specs.Items.{picture_item_at, is_plain_event_at}
use Rattle.ga_picture.specs.Drawing.{item_with_nodes_left_out}
use Rattle.ga_picture.specs.inner.{picture_facts_of_events}
use Rattle.ga_picture.proofs.item.items.Given as goal

abbrev pub invariant-events : goal.invariant-events
invariant-events l = (ready : ℕ → Bool)
    → ((place : ℕ) → place < length l.fn.facts.events.now → get_or l.fn.facts.plain.now place false ≡ is_plain_event_at ready l.fn.facts.events.now place)
    → l.items.items ≡ map (item_with_nodes_left_out (is_node_flagged l.alone)) (map (picture_item_at (picture_facts_of_events l.fn.facts ready) l.fn.view) (range_with_len l.fn.from (l.place - l.fn.from)))
