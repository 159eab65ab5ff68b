use Rattle.std.proofs.Common.{Option, codes, subst}
use Rattle.std.specs.Prelude.{IfOk}
use Rattle.serde_json.specs.View.{view}
use Rattle.ga_text.specs.Lines.{Text}
use Rattle.ga_dap_queries.specs.Launching.{parse_history_limit, parse_schedule}
use Rattle.ga_dap_queries.specs.Sending.{Messages, SendsMessages}
use Rattle.ga_dap_control.specs.declared.launched.LaunchedSession.{LaunchedSession}
use Rattle.ga_dap.specs.Launches.{LaunchesWithArguments}
use Rattle.ga_dap.proofs.LaunchedSession.{not_launched}
use Rattle.ga_dap.proofs.launching.launch_program.Goals as goal

pub returns-in-None : goal.returns-in-None
returns-in-None g c =
    let P : Option Text → Type 0 = λ z. IfOk c.refuse_launch.result (λ (l : Option LaunchedSession). (messages : Messages) × LaunchesWithArguments g.S.ProgramFiles.gives c.args.sources.now c.args.request.now z (parse_history_limit (view c.args.request.now.arguments)) (parse_schedule (view c.args.request.now.arguments)) messages c.args.sources.now l × SendsMessages c.args.out.now messages c.refuse_launch.new.out) in
    subst P c.in-None.ensures (not_launched c.args.sources.now c.args.request.now (codes "launch: there is no program") c.args.out.now c.refuse_launch.new.out c.refuse_launch.result c.refuse_launch.ensures)

pub returns-in-Some : goal.returns-in-Some
returns-in-Some g c =
    let P : Option Text → Type 0 = λ z. IfOk c.launched_path.result (λ (l : Option LaunchedSession). (messages : Messages) × LaunchesWithArguments g.S.ProgramFiles.gives c.args.sources.now c.args.request.now z (parse_history_limit (view c.args.request.now.arguments)) (parse_schedule (view c.args.request.now.arguments)) messages c.launched_path.new.sources l × SendsMessages c.args.out.now messages c.launched_path.new.out) in
    subst P c.in-Some.ensures c.launched_path.ensures
