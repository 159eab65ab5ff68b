use Rattle.std.proofs.Common.{◌≡◌, ℕ, List}
use Rattle.ga_event.specs.Told.{count_steps}
use Rattle.ga_text.specs.Output.{IsTextWrittenOrPending}
use Rattle.ga_provenance.specs.Writes.{cell_write_search}
use Rattle.ga_explorer_text.specs.Writing.{cell_writes_lines}
use Rattle.ga_explorer_text.proofs.Saying.{IsWrittenUpTo}
use Rattle.ga_explorer_text.proofs.writes_text.say_cell.Given as goal

abbrev pub invariant-going : goal.invariant-going
invariant-going g l = record {
  writes : l.writes ≡ cell_write_search l.lab l.node l.cell l.writes.step;
  same : l.writer.stream.ghost_name ≡ l.fn.writer.stream.ghost_name;
  said : (before said : List ℕ) → IsTextWrittenOrPending (g.W.Write.contents l.fn.writer.stream.now) before said l.fn.writer.pending.items
      → IsWrittenUpTo (g.W.Write.contents l.writer.stream.now) before said (cell_writes_lines l.lab l.node l.cell (count_steps l.node.number l.lab.kept)) (cell_writes_lines l.lab l.node l.cell l.writes.step) l.writer.pending.items;
}

abbrev pub decreases-going : goal.decreases-going
decreases-going g l = l.writes.step
