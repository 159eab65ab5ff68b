use Rattle.std.proofs.Common.{◌≡◌, drop}
use Rattle.ga_dap_breakpoints.specs.inner.Cells.{tally_after_breakpoints_by_cells, instruction_cells_after_breakpoints, tally_after_event_by_cells, instruction_cells_after_event}
use Rattle.ga_dap_breakpoints.proofs.hits.count_hits.Given as goal

abbrev pub invariant-breakpoints : goal.invariant-breakpoints
invariant-breakpoints l = record {
  tally : tally_after_breakpoints_by_cells l.made l.lab l.place (drop l.place l.breakpoints) l.cells l.tally ≡ tally_after_event_by_cells l.breakpoints l.made l.lab l.fn.cells l.fn.tally;
  cells : instruction_cells_after_breakpoints l.made l.lab (drop l.place l.breakpoints) l.cells ≡ instruction_cells_after_event l.breakpoints l.made l.lab l.fn.cells;
}
