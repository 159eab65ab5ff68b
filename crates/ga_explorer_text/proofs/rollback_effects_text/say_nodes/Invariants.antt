use Rattle.std.proofs.Common.{◌≡◌, ℕ, List, drop}
use Rattle.std.specs.Prelude.{flat_map}
use Rattle.ga_text.specs.Output.{IsTextWrittenOrPending}
use Rattle.ga_explorer_text.specs.Effects.{rollback_effect_text, rollback_effects_text}
use Rattle.ga_explorer_text.proofs.Saying.{IsWrittenUpTo}
use Rattle.ga_explorer_text.proofs.rollback_effects_text.say_nodes.Given as goal

abbrev pub invariant-nodes : goal.invariant-nodes
invariant-nodes g l = (l.writer.stream.ghost_name ≡ l.fn.writer.stream.ghost_name)
    × ((before said : List ℕ) → IsTextWrittenOrPending (g.W.Write.contents l.fn.writer.stream.now) before said l.fn.writer.pending.items
    → IsWrittenUpTo (g.W.Write.contents l.writer.stream.now) before said (rollback_effects_text l.notes l.lab l.events l.nodes) (flat_map (rollback_effect_text l.notes l.lab) (drop l.effect-index l.nodes)) l.writer.pending.items)
