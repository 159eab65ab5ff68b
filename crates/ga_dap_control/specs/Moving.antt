-- The requests that begin a run, and the one that ends it (Debug Adapter Protocol, "ContinueRequest", "NextRequest", "StepInRequest", "StepOutRequest",
-- "PauseRequest"). A run is made between the requests: none of them makes an event.
use Rattle.std.specs.Prelude.{◌≡◌, ◌==◌, if◌then◌else◌, ℕ, Bool, true, false, List, [], ◌∷◌, codes, Option, Some, None, unwrap_or}
use Rattle.serde_json.specs.Data.{Data, boolean, object, no_members, member}
use Rattle.serde_json.specs.View.{view}
use Rattle.ga_text.specs.Lines.{Text}
use Rattle.ga_grid.specs.Chip.{node_record_at}
use Rattle.ga_grid.specs.declared.node_id.NodeId.{NodeId}
use Rattle.ga_lab.specs.Machine.{chip_of_machine}
use Rattle.ga_dap_breakpoints.specs.declared.stepping.StepMove.{StepMove}
use Rattle.ga_dap_breakpoints.specs.Stepping.{step_in, step_over, step_out}
use Rattle.ga_dap_protocol.specs.declared.request.ClientRequest.{ClientRequest}
use Rattle.ga_dap_queries.specs.declared.debuggee.Debuggee.{Debuggee}
use Rattle.ga_dap_control.specs.declared.execution.Execution.{Execution}
use Rattle.ga_dap_control.specs.declared.execution.RunGoal.{RunGoal}
use Rattle.ga_dap_control.specs.declared.execution.RunGoal.TheVariants.{Continue, Step}
use Rattle.ga_dap_control.specs.declared.moving.DapStepKind.{DapStepKind}
use Rattle.ga_dap_control.specs.declared.moving.DapStepKind.TheVariants.{Over, In, Out}
use Rattle.ga_dap_queries.specs.Arguments.{IsThreadArgument}
use Rattle.ga_dap_control.specs.Back.{requested_granularity}
use Rattle.ga_dap_queries.specs.Events.{IsFirstThreadNode}
use Rattle.ga_dap_control.specs.Stopping.{stopped_message}
use Rattle.ga_dap_queries.specs.Sending.{Message, Messages, success_response, bare_success_response, refused_response}

-- a run for this goal is in progress, which first counts the hits in the history; or none is, and the chip is stopped
abbrev pub execution_with_goal : Execution → RunGoal → Execution
execution_with_goal r goal = record r { goal = Some goal; tally = None }

abbrev pub execution_without_goal : Execution → Execution
execution_without_goal r = record r { goal = None }

-- `continue`
unfoldable pub continue_body : Data
continue_body = object (member (codes "allThreadsContinued") (boolean true) no_members)

abbrev pub AnswersContinue : Execution → ClientRequest → Messages → Execution → Type 0
AnswersContinue r request messages new = (messages ≡ success_response request continue_body ∷ []) × (new ≡ execution_with_goal r Continue)

-- the requested move of a node; none if no call is open from which it could return
abbrev pub requested_step_move : Debuggee → DapStepKind → NodeId → Data → Option StepMove
requested_step_move p Over node d = Some (step_over p.lab node (requested_granularity p d))
requested_step_move p In node d = Some (step_in p.lab node (requested_granularity p d))
requested_step_move p Out node d = step_out p.lab node

abbrev pub BeginsStepMove : Execution → ClientRequest → Option StepMove → Message → Execution → Type 0
BeginsStepMove r request None message new = (message ≡ refused_response request (codes "stepOut: the node is in no call that is kept")) × (new ≡ r)
BeginsStepMove r request (Some stepping) message new = (message ≡ bare_success_response request) × (new ≡ execution_with_goal r (Step stepping))

abbrev pub no_such_thread_text : DapStepKind → Text
no_such_thread_text Over = codes "next: no such thread"
no_such_thread_text In = codes "stepIn: no such thread"
no_such_thread_text Out = codes "stepOut: no such thread"

abbrev pub node_stopped_text : DapStepKind → Text
node_stopped_text Over = codes "next: the node is stopped"
node_stopped_text In = codes "stepIn: the node is stopped"
node_stopped_text Out = codes "stepOut: the node is stopped"

abbrev pub BeginsStepUnlessStopped : Bool → DapStepKind → Execution → ClientRequest → Option StepMove → Message → Execution → Type 0
BeginsStepUnlessStopped true kind r request stepping message new = BeginsStepMove r request stepping message new
BeginsStepUnlessStopped false kind r request stepping message new = (message ≡ refused_response request (node_stopped_text kind)) × (new ≡ r)

abbrev pub BeginsStepOfNode : Debuggee → DapStepKind → Execution → ClientRequest → NodeId → Message → Execution → Type 0
BeginsStepOfNode p kind r request node message new =
    BeginsStepUnlessStopped ((node_record_at (chip_of_machine p.lab) node.number).stop == 0) kind r request (requested_step_move p kind node (view request.arguments)) message new

abbrev pub BeginsStepOfThread : Debuggee → DapStepKind → Execution → ClientRequest → Option NodeId → Message → Execution → Type 0
BeginsStepOfThread p kind r request None message new = (message ≡ refused_response request (no_such_thread_text kind)) × (new ≡ r)
BeginsStepOfThread p kind r request (Some node) message new = BeginsStepOfNode p kind r request node message new

-- `next`, `stepIn` and `stepOut`
abbrev pub BeginsStep : Debuggee → DapStepKind → Execution → ClientRequest → Message → Execution → Type 0
BeginsStep p kind r request message new =
    (asked : Option NodeId) × IsThreadArgument (view request.arguments) asked × BeginsStepOfThread p kind r request asked message new

-- `pause`: a run in progress ends, and the chip is stopped; the message names the thread of the request, else the first
abbrev pub ArePauseMessages : Debuggee → ClientRequest → Messages → Type 0
ArePauseMessages p request messages = (first : NodeId) × (asked : Option NodeId) × IsFirstThreadNode p.lab p.nodes.items first.number
    × IsThreadArgument (view request.arguments) asked
    × (messages ≡ bare_success_response request ∷ stopped_message (codes "pause") (codes "pause") (unwrap_or asked first).number ∷ [])

abbrev pub PausesIfRunning : Debuggee → ClientRequest → Option RunGoal → Messages → Type 0
PausesIfRunning p request None messages = messages ≡ bare_success_response request ∷ []
PausesIfRunning p request (Some goal) messages = ArePauseMessages p request messages

abbrev pub AnswersPause : Debuggee → Execution → ClientRequest → Messages → Execution → Type 0
AnswersPause p r request messages new = PausesIfRunning p request r.goal messages × (new ≡ execution_without_goal r)
