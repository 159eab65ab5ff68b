-- A slice of the run under way, and the requests that go back (Debug Adapter Protocol, "StepBackRequest", "ReverseContinueRequest", "StoppedEvent").
use Rattle.std.specs.Prelude.{◌≡◌, ℕ, Bool, List, ◌==◌, if◌then◌else◌, [], ◌∷◌, codes, Option, Some, None}
use Rattle.serde_json.specs.View.{view}
use Rattle.ga_text.specs.Lines.{Text}
use Rattle.ga_event.specs.Told.{count_steps}
use Rattle.ga_grid.specs.declared.node_id.NodeId.{NodeId}
use Rattle.ga_dap_protocol.specs.declared.request.ClientRequest.{ClientRequest}
use Rattle.ga_dap_queries.specs.Arguments.{IsThreadArgument}
use Rattle.ga_dap_queries.specs.declared.debuggee.Debuggee.{Debuggee}
use Rattle.ga_dap_queries.specs.Sending.{Messages, refused_response}
use Rattle.ga_dap_control.specs.Configuring.{AreNodesWithThreads}
use Rattle.ga_dap_control.specs.Back.{requested_granularity, debuggee_after_step_back, debuggee_after_reverse_continue, rollback_summary_text, IsRollbackSummary}
use Rattle.ga_dap_control.specs.Slices.{MakesEventSlice}
use Rattle.ga_dap_control.specs.declared.configuration.Configuration.{Configuration}
use Rattle.ga_dap_control.specs.declared.stop_reason.StopReason.{StopReason}
use Rattle.ga_dap_control.specs.declared.launched.LaunchedSession.{LaunchedSession}
use Rattle.ga_dap.specs.Telling.{AreRunSliceMessages, AreMoveBackMessages}

-- some events of the run are made, and the messages have what changed and why the run ended, if it did
abbrev pub MakesRunSliceWithStopReason : LaunchedSession → Option StopReason → Messages → LaunchedSession → Type 0
MakesRunSliceWithStopReason l stop messages new = (watched : Bool) × MakesEventSlice watched l.program l.settings l.execution new.program new.execution stop × (new.settings ≡ l.settings)
    × (before : ℕ → Bool) × AreNodesWithThreads l.program before × AreRunSliceMessages before new.program new.settings stop messages

abbrev pub MakesRunSlice : LaunchedSession → Messages → LaunchedSession → Type 0
MakesRunSlice l messages new = (stop : Option StopReason) × MakesRunSliceWithStopReason l stop messages new

-- a node was rolled back: the messages have what was removed with it, the threads that changed, and that the chip is stopped
abbrev pub AreRollbackMessages : Debuggee → Debuggee → ClientRequest → NodeId → Text → Messages → Type 0
AreRollbackMessages p new request node reason messages = (before : ℕ → Bool) × (steps : List ℕ) × (removed : ℕ) × AreNodesWithThreads p before × IsRollbackSummary p.lab new.lab steps removed
    × AreMoveBackMessages before new request node (rollback_summary_text node steps removed new.lab) reason messages

-- `stepBack`
abbrev pub AnswersStepBackOfThread : Debuggee → ClientRequest → Option NodeId → Messages → Debuggee → Type 0
AnswersStepBackOfThread p request None messages new = (messages ≡ refused_response request (codes "stepBack: no such thread") ∷ []) × (new ≡ p)
AnswersStepBackOfThread p request (Some node) messages new =
    (new ≡ debuggee_after_step_back (requested_granularity p (view request.arguments)) p node)
    × AreRollbackMessages p new request node (codes "step") messages

abbrev pub AnswersStepBack : Debuggee → ClientRequest → Messages → Debuggee → Type 0
AnswersStepBack p request messages new = (asked : Option NodeId) × IsThreadArgument (view request.arguments) asked × AnswersStepBackOfThread p request asked messages new

-- why a node that was rolled back is stopped there: at load, or at a breakpoint
abbrev pub reverse_stop_reason : Debuggee → NodeId → Text
reverse_stop_reason p node = if count_steps node.number p.lab.kept == 0 then codes "entry" else codes "breakpoint"

-- `reverseContinue`
abbrev pub ReverseContinuesThread : Configuration → Debuggee → ClientRequest → Option NodeId → Messages → Debuggee → Type 0
ReverseContinuesThread set p request None messages new = (messages ≡ refused_response request (codes "reverseContinue: no such thread") ∷ []) × (new ≡ p)
ReverseContinuesThread set p request (Some node) messages new =
    (new ≡ debuggee_after_reverse_continue p node set.points.points.items)
    × AreRollbackMessages p new request node (reverse_stop_reason new node) messages

abbrev pub AnswersReverseContinue : Configuration → Debuggee → ClientRequest → Messages → Debuggee → Type 0
AnswersReverseContinue set p request messages new = (asked : Option NodeId) × IsThreadArgument (view request.arguments) asked × ReverseContinuesThread set p request asked messages new
