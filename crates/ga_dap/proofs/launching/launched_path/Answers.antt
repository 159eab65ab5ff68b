use Rattle.std.proofs.Common.{ℕ, Option, Some, codes, subst}
use Rattle.std.specs.Prelude.{IfOk}
use Rattle.serde_json.specs.View.{view}
use Rattle.ga_dap_queries.specs.Launching.{parse_schedule}
use Rattle.ga_dap_queries.specs.Sending.{Messages, SendsMessages}
use Rattle.ga_dap_control.specs.declared.launched.LaunchedSession.{LaunchedSession}
use Rattle.ga_dap.specs.Launches.{LaunchesWithArguments}
use Rattle.ga_dap.proofs.LaunchedSession.{not_launched}
use Rattle.ga_dap.proofs.launching.launched_path.Goals as goal

pub returns-in-None : goal.returns-in-None
returns-in-None g c =
    let P : Option ℕ → Type 0 = λ z. IfOk c.refuse_launch.result (λ (l : Option LaunchedSession). (messages : Messages) × LaunchesWithArguments g.S.ProgramFiles.gives c.args.sources.now c.args.request.now (Some c.args.path.now) z (parse_schedule (view c.args.request.now.arguments)) messages c.args.sources.now l × SendsMessages c.args.out.now messages c.refuse_launch.new.out) in
    subst P c.in-None.ensures.value (not_launched c.args.sources.now c.args.request.now (codes "launch: the limit is 1 to 100000000") c.args.out.now c.refuse_launch.new.out c.refuse_launch.result c.refuse_launch.ensures)

pub returns-in-Some : goal.returns-in-Some
returns-in-Some g c =
    let P : Option ℕ → Type 0 = λ z. IfOk c.launched_limit.result (λ (l : Option LaunchedSession). (messages : Messages) × LaunchesWithArguments g.S.ProgramFiles.gives c.args.sources.now c.args.request.now (Some c.args.path.now) z (parse_schedule (view c.args.request.now.arguments)) messages c.launched_limit.new.sources l × SendsMessages c.args.out.now messages c.launched_limit.new.out) in
    subst P c.in-Some.ensures.value c.launched_limit.ensures
