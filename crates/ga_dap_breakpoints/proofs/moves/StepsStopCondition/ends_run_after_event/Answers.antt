use Rattle.std.proofs.Common.{◌∙◌, ◌||◌, Bool, false, sym, ap}
use Rattle.ga_dap_breakpoints.specs.declared.stepping.StepMove.{StepMove}
use Rattle.ga_dap_breakpoints.specs.Stepping.{completes_move}
use Rattle.ga_dap_breakpoints.proofs.Cells.{well_of}
use Rattle.ga_dap_breakpoints.proofs.Following.{completed_alike}
use Rattle.ga_dap_breakpoints.proofs.Moving.{word_remembered}
use Rattle.ga_dap_breakpoints.proofs.moves.StepsStopCondition.ends_run_after_event.Goals as goal

pub returns-then-check_halt-clause-remembers : goal.returns-then-check_halt-clause-remembers
returns-then-check_halt-clause-remembers c =
    let before = c.requires.remembered in
    record {
      halting = c.check_halt.ensures.remembers;
      word = word_remembered c.args.self.now.stepping c.move_after_event-next.result before.0 c.args.lab.now c.args.made.now before.2 c.move_after_event-next.ensures c.args.self.now.word c.instruction_cell_after_event-behind.result
          c.instruction_cell_after_event-behind.ensures before.1.word;
    }

pub returns-else-check_halt-clause-answer : goal.returns-else-check_halt-clause-answer
returns-else-check_halt-clause-answer c =
    let before = c.requires.remembered in
    let by : StepMove = c.args.self.now.stepping in
    c.completes_move_by_cell.ensures
    ∙ completed_alike c.args.self.now.notes.now by c.args.self.now.word before.0 c.args.lab.now c.args.made.now before.2 (well_of before.0 before.2.replays by.node.number).counted before.1.word
    ∙ sym (ap (λ (b : Bool). b || completes_move c.args.self.now.notes.now by c.args.made.now c.args.lab.now) (sym c.check_halt.ensures.ends ∙ c.if-check_halt.false))

pub returns-else-check_halt-clause-remembers : goal.returns-else-check_halt-clause-remembers
returns-else-check_halt-clause-remembers c =
    let before = c.requires.remembered in
    record {
      halting = c.check_halt.ensures.remembers;
      word = word_remembered c.args.self.now.stepping c.move_after_event-next.result before.0 c.args.lab.now c.args.made.now before.2 c.move_after_event-next.ensures c.args.self.now.word c.instruction_cell_after_event-behind.result
          c.instruction_cell_after_event-behind.ensures before.1.word;
    }
