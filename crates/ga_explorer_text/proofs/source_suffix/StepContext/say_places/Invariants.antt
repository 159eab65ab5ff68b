use Rattle.std.proofs.Common.{◌≡◌, ℕ, ◌-◌, List}
use Rattle.ga_text.specs.Output.{IsTextWrittenOrPending}
use Rattle.ga_explorer_text.specs.Around.{numbered_steps_text}
use Rattle.ga_explorer_text.proofs.Saying.{IsWrittenUpTo}
use Rattle.ga_explorer_text.proofs.source_suffix.StepContext.say_places.Given as goal

abbrev pub invariant-places : goal.invariant-places
invariant-places g l = (l.writer.stream.ghost_name ≡ l.fn.writer.stream.ghost_name)
    × ((before said : List ℕ) → IsTextWrittenOrPending (g.W.Write.contents l.fn.writer.stream.now) before said l.fn.writer.pending.items
    → IsWrittenUpTo (g.W.Write.contents l.writer.stream.now) before said (numbered_steps_text l.self.notes.now l.self.lab.now l.self.node l.first (l.self.near.step - l.first)) (numbered_steps_text l.self.notes.now l.self.lab.now l.self.node l.place (l.self.near.step - l.place)) l.writer.pending.items)
