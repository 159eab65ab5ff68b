use Rattle.std.proofs.Common.{◌≡◌, ℕ, List, drop}
use Rattle.std.specs.Prelude.{flat_map}
use Rattle.ga_text.specs.Output.{IsTextWrittenOrPending}
use Rattle.ga_causal.specs.Dependence.{is_node_flagged}
use Rattle.ga_explorer_text.specs.Expected.{status_line}
use Rattle.ga_explorer_text.proofs.Saying.{IsWrittenUpTo}
use Rattle.ga_explorer_text.proofs.expectations_text.write_lines.Given as goal

abbrev pub invariant-lines : goal.invariant-lines
invariant-lines g l = (l.writer.stream.ghost_name ≡ l.fn.writer.stream.ghost_name)
    × ((before said : List ℕ) → IsTextWrittenOrPending (g.W.Write.contents l.fn.writer.stream.now) before said l.fn.writer.pending.items
    → IsWrittenUpTo (g.W.Write.contents l.writer.stream.now) before said (flat_map (status_line (is_node_flagged l.stuck) l.is_quiet l.lab) l.expectations) (flat_map (status_line (is_node_flagged l.stuck) l.is_quiet l.lab) (drop l.one-index l.expectations)) l.writer.pending.items)
