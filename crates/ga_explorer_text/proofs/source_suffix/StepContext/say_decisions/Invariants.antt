use Rattle.std.proofs.Common.{◌≡◌, ℕ, List}
use Rattle.ga_text.specs.Output.{IsTextWrittenOrPending}
use Rattle.ga_lab.specs.Machine.{node_at_step}
use Rattle.ga_explorer_text.specs.Because.{decisions_text}
use Rattle.ga_explorer_text.proofs.Saying.{IsWrittenUpTo}
use Rattle.ga_explorer_text.proofs.source_suffix.StepContext.say_decisions.Given as goal

abbrev pub invariant-telling : goal.invariant-telling
invariant-telling g l = record {
  decisions : l.decisions ≡ node_at_step l.self.lab.now l.self.node l.decisions.step;
  same : l.writer.stream.ghost_name ≡ l.fn.writer.stream.ghost_name;
  said : (before said : List ℕ) → IsTextWrittenOrPending (g.W.Write.contents l.fn.writer.stream.now) before said l.fn.writer.pending.items
      → IsWrittenUpTo (g.W.Write.contents l.writer.stream.now) before said (decisions_text l.self.notes.now l.self.lab.now l.self.node l.most l.fn.decisions.step) (decisions_text l.self.notes.now l.self.lab.now l.self.node l.left l.decisions.step) l.writer.pending.items;
}

abbrev pub decreases-telling : goal.decreases-telling
decreases-telling g l = l.left
