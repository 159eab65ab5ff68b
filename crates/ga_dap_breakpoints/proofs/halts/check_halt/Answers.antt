use Rattle.std.proofs.Common.{◌≡◌, ◌∙◌, ◌||◌, Bool, sym, ap, subst}
use Rattle.std.specs.Prelude.{is_some}
use Rattle.ga_dap_breakpoints.specs.declared.halts.HaltConditions.{HaltConditions}
use Rattle.ga_dap_breakpoints.specs.declared.hits.HitTally.{HitTally}
use Rattle.ga_dap_breakpoints.specs.Breakpoints.{tally_after_event, is_move_ending_stop}
use Rattle.ga_dap_breakpoints.specs.inner.Cells.{InstructionCellsByNode}
use Rattle.ga_dap_breakpoints.specs.inner.Halting.{AreInstructionCells}
use Rattle.ga_dap_breakpoints.proofs.Cells.{tally_after_step, cells_after_step}
use Rattle.ga_dap_breakpoints.proofs.halts.check_halt.Goals as goal

pub returns-clause-ends : goal.returns-clause-ends
returns-clause-ends c =
    let before = c.requires.remembered in
    let halts : HaltConditions = c.args.watch.now.halts in
    let tally : c.count_hits.new.tally ≡ tally_after_event halts.breakpoints.now c.args.made.now c.args.lab.now halts.tally =
    c.count_hits.ensures.tally ∙ tally_after_step before.0 c.args.lab.now c.args.made.now before.2 halts.breakpoints.now c.args.watch.now.cells halts.tally before.1.cells in
    let stops : Bool = is_move_ending_stop halts.stops c.args.node c.args.made.now in
    c.ends_move_given_breach.ensures
    ∙ ap (λ (z : HitTally). (is_some z.hit || stops) || c.breaks_one_expectation-breaks.result) tally
    ∙ ap (λ (b : Bool). (is_some (tally_after_event halts.breakpoints.now c.args.made.now c.args.lab.now halts.tally).hit || stops) || b) c.breaks_one_expectation-breaks.ensures.answer

pub returns-clause-counted : goal.returns-clause-counted
returns-clause-counted c =
    let before = c.requires.remembered in
    let halts : HaltConditions = c.args.watch.now.halts in
    ap (λ (z : HitTally). record halts { tally = z })
    (c.count_hits.ensures.tally ∙ tally_after_step before.0 c.args.lab.now c.args.made.now before.2 halts.breakpoints.now c.args.watch.now.cells halts.tally before.1.cells)

pub returns-clause-remembers : goal.returns-clause-remembers
returns-clause-remembers c =
    let before = c.requires.remembered in
    record {
      cells = subst (λ (z : InstructionCellsByNode). AreInstructionCells c.args.lab.now z) (sym c.count_hits.ensures.cells)
          (cells_after_step before.0 c.args.lab.now c.args.made.now before.2 c.args.watch.now.halts.breakpoints.now c.args.watch.now.cells before.1.cells);
      known = c.breaks_one_expectation-breaks.ensures.known;
    }
