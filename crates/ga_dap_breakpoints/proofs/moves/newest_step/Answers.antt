use Rattle.std.proofs.Common.{ap, arith}
use Rattle.std.specs.Prelude.{is_some}
use Rattle.ga_scheduler.proofs.Newest.{newest_steps}
use Rattle.ga_dap_breakpoints.proofs.moves.newest_step.Goals as goal

pub returns-clause-within : goal.returns-clause-within
returns-clause-within c =
    let more = newest_steps c.args.lab.now c.args.node.number c.args.made.now (ap is_some c.chip.ensures.replays) c.requires.newest c.requires.own in
    omega (arith, more, c.steps.ensures.steps)
