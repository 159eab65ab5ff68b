use Rattle.std.proofs.Common.{Option, Some, codes, subst}
use Rattle.std.specs.Prelude.{IfOk}
use Rattle.ga_scheduler.specs.declared.schedule.Schedule.{Schedule}
use Rattle.ga_dap_queries.specs.Sending.{Messages, SendsMessages}
use Rattle.ga_dap_control.specs.declared.launched.LaunchedSession.{LaunchedSession}
use Rattle.ga_dap.specs.Launches.{LaunchesWithArguments}
use Rattle.ga_dap.proofs.LaunchedSession.{not_launched}
use Rattle.ga_dap.proofs.launching.launched_limit.Goals as goal

pub returns-in-None : goal.returns-in-None
returns-in-None g c =
    let P : Option Schedule → Type 0 = λ z. IfOk c.refuse_launch.result (λ (l : Option LaunchedSession). (messages : Messages) × LaunchesWithArguments g.S.ProgramFiles.gives c.args.sources.now c.args.request.now (Some c.args.path.now) (Some c.args.limit) z messages c.args.sources.now l × SendsMessages c.args.out.now messages c.refuse_launch.new.out) in
    subst P c.in-None.ensures (not_launched c.args.sources.now c.args.request.now (codes "launch: the order is rounds, greedy, or random with a seed of 0 to 4294967295") c.args.out.now c.refuse_launch.new.out c.refuse_launch.result c.refuse_launch.ensures)

pub returns-in-Some : goal.returns-in-Some
returns-in-Some g c =
    let P : Option Schedule → Type 0 = λ z. IfOk c.launched_file.result (λ (l : Option LaunchedSession). (messages : Messages) × LaunchesWithArguments g.S.ProgramFiles.gives c.args.sources.now c.args.request.now (Some c.args.path.now) (Some c.args.limit) z messages c.launched_file.new.sources l × SendsMessages c.args.out.now messages c.launched_file.new.out) in
    subst P c.in-Some.ensures c.launched_file.ensures
