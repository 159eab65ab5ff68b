use Rattle.std.proofs.Common.{◌≡◌, ◌∙◌, ◌+◌, List, ◌∷◌, drop, sym, ap, arith}
use Rattle.std.proofs.lemmas.List.{drop_more}
use Rattle.ga_dap_breakpoints.specs.declared.breakpoint.Breakpoint.{Breakpoint}
use Rattle.ga_dap_breakpoints.specs.inner.Cells.{InstructionCellsByNode, instruction_cells_after_watch, tally_after_breakpoints_by_cells, instruction_cells_after_breakpoints}
use Rattle.ga_dap_breakpoints.proofs.hits.count_hits.Goals as goal

pub breakpoints-preserved : goal.breakpoints-preserved
breakpoints-preserved c =
    let made = c.args.made.now in
    let lab = c.args.lab.now in
    let place = c.breakpoints.place in
    let rest : List Breakpoint = drop (place + 1) c.args.breakpoints.now in
    let one : Breakpoint = c.index-breakpoints-place.result in
    let at : drop place c.args.breakpoints.now ≡ one ∷ rest =
    drop_more c.args.breakpoints.now place one (omega (arith, c.breakpoints-test.true)) ∙ ap (λ (z : Breakpoint). z ∷ rest) (sym c.index-breakpoints-place.is) in
    record {
      tally = ap (λ (z : InstructionCellsByNode). tally_after_breakpoints_by_cells made lab (place + 1) rest z c.count_one.new.tally) c.count_one.ensures.cells
          ∙ ap (tally_after_breakpoints_by_cells made lab (place + 1) rest (instruction_cells_after_watch one.watched one.node made lab c.breakpoints.cells)) c.count_one.ensures.tally
          ∙ sym (ap (λ (z : List Breakpoint). tally_after_breakpoints_by_cells made lab place z c.breakpoints.cells c.breakpoints.tally) at)
          ∙ c.breakpoints.invariant.tally;
      cells = ap (instruction_cells_after_breakpoints made lab rest) c.count_one.ensures.cells
          ∙ sym (ap (λ (z : List Breakpoint). instruction_cells_after_breakpoints made lab z c.breakpoints.cells) at)
          ∙ c.breakpoints.invariant.cells;
    }
