use Rattle.std.proofs.Common.{◌≡◌, ◌+◌, ℕ, List, drop}
use Rattle.ga_text.specs.Output.{IsTextWrittenOrPending}
use Rattle.ga_explorer_text.specs.Whence.{numbered_provenance_lines_text}
use Rattle.ga_explorer_text.proofs.Saying.{IsWrittenUpTo}
use Rattle.ga_explorer_text.proofs.source_suffix.StepContext.say_lines.Given as goal

abbrev pub invariant-lines : goal.invariant-lines
invariant-lines g l = record {
  lab : l.here.lab.now ≡ l.self.lab.now;
  notes : l.here.notes.now ≡ l.self.notes.now;
  number : l.number ≡ l.skipped + l.line-index;
  same : l.writer.stream.ghost_name ≡ l.fn.writer.stream.ghost_name;
  said : (before said : List ℕ) → IsTextWrittenOrPending (g.W.Write.contents l.fn.writer.stream.now) before said l.fn.writer.pending.items
      → IsWrittenUpTo (g.W.Write.contents l.writer.stream.now) before said (numbered_provenance_lines_text l.self.notes.now l.self.lab.now l.is_moved l.skipped l.lines)
      (numbered_provenance_lines_text l.self.notes.now l.self.lab.now l.is_moved l.number (drop l.line-index l.lines)) l.writer.pending.items;
}
