-- `evaluate` (Debug Adapter Protocol, "EvaluateRequest"): a register, a cell, or a command of exploring.
use Rattle.std.specs.Prelude.{◌≡◌, ◌≢◌, ℕ, Bool, true, false, [], ◌∷◌, codes, bytes_eq, Option, Some, None, unwrap_or}
use Rattle.std.specs.Str.{IsTrimAscii, IsTrimAsciiEnd}
use Rattle.std.specs.Str.Lossy.{utf8_lossy}
use Rattle.serde_json.specs.Data.{Data, string, object, no_members, member}
use Rattle.serde_json.specs.View.{view}
use Rattle.ga_text.specs.Lines.{Text}
use Rattle.ga_grid.specs.declared.node_id.NodeId.{NodeId}
use Rattle.ga_lab.specs.Machine.{chip_of_machine}
use Rattle.ga_console.specs.Session.{quit_line}
use Rattle.ga_explorer.specs.Answers.{AnswersExplorerLine}
use Rattle.ga_explorer.specs.Classes.{command_class_of_line}
use Rattle.ga_dap_views.specs.Json.{json_whole_number}
use Rattle.ga_dap_queries.specs.Evaluating.{DenotesVariable, DenotesNoVariable, evaluate_body}
use Rattle.ga_dap_views.specs.declared.variable.Variable.{Variable}
use Rattle.ga_dap_protocol.specs.Messages.{member_as_text}
use Rattle.ga_dap_protocol.specs.declared.request.ClientRequest.{ClientRequest}
use Rattle.ga_dap_queries.specs.declared.debuggee.Debuggee.{Debuggee}
use Rattle.ga_dap_queries.specs.Arguments.{IsFrameArgument}
use Rattle.ga_dap_queries.specs.Events.{IsFirstThreadNode}
use Rattle.ga_dap_queries.specs.Readings.{TellsIfNodeIsDeadlocked}
use Rattle.ga_dap_queries.specs.Sending.{Messages, success_response, refused_response}
use Rattle.ga_dap_control.specs.Configuring.{AreNodesWithThreads}
use Rattle.ga_explorer.specs.Opening.{explorer_state}
use Rattle.ga_dap.specs.Telling.{AreMachineChangeMessages, is_change_command_done}

-- the node of an expression: that of the frame, otherwise the first that has something to show
abbrev pub IsFrameOrFirstNode : Debuggee → Option NodeId → NodeId → Type 0
IsFrameOrFirstNode p (Some framed_message) node = node ≡ framed_message
IsFrameOrFirstNode p None node = IsFirstThreadNode p.lab p.nodes.items node.number

abbrev pub IsEvaluationNode : Debuggee → ClientRequest → NodeId → Type 0
IsEvaluationNode p request node = (framed_message : Option NodeId) × IsFrameArgument (view request.arguments) framed_message × IsFrameOrFirstNode p framed_message node

-- the expression names a register or a cell, or neither
abbrev pub IsDenotedVariable : Text → Option Variable → Type 0
IsDenotedVariable expression None = DenotesNoVariable expression
IsDenotedVariable expression (Some one) = DenotesVariable expression one

-- a command is answered as exploring answers it, and the machine is what it is then; or it would end the session, and the machine stays
abbrev pub ExecutesConsoleCommand : Debuggee → Text → Debuggee → Option Text → Type 0
ExecutesConsoleCommand p line new (Some answer) = (new ≡ record p { lab = new.lab }) × AnswersExplorerLine (explorer_state p.lab p.source) line answer (explorer_state new.lab p.source)
    × (line ≢ quit_line)
ExecutesConsoleCommand p line new None = (new ≡ p) × (line ≡ quit_line)

-- an answer as a text, without the blanks at its end
unfoldable pub answer_text_object : Text → Data
answer_text_object text = object (member (codes "result") (string text) (member (codes "variablesReference") (json_whole_number 0) no_members))

abbrev pub AreCommandAnswerAndChangeMessages : ClientRequest → Text → Bool → (ℕ → Bool) → Debuggee → NodeId → Messages → Type 0
AreCommandAnswerAndChangeMessages request answer moved before new node messages = (shown : Text) × (rest : Messages) × IsTrimAsciiEnd answer shown
    × AreMachineChangeMessages moved before new node rest × (messages ≡ success_response request (answer_text_object (utf8_lossy shown)) ∷ rest)

abbrev pub AreCommandAnswerMessages : ClientRequest → Text → Text → Debuggee → Debuggee → NodeId → Messages → Type 0
AreCommandAnswerMessages request line answer p new node messages = (before : ℕ → Bool) × AreNodesWithThreads p before × AreCommandAnswerAndChangeMessages request answer (is_change_command_done (command_class_of_line line) answer) before new node messages

abbrev pub AreCommandMessages : ClientRequest → Text → Option Text → Debuggee → Debuggee → NodeId → Messages → Type 0
AreCommandMessages request line (Some answer) p new node messages = AreCommandAnswerMessages request line answer p new node messages
AreCommandMessages request line None p new node messages = messages ≡ refused_response request (codes "evaluate: disconnect ends the session") ∷ []

abbrev pub EvaluatesCommand : Debuggee → ClientRequest → NodeId → Text → Messages → Debuggee → Type 0
EvaluatesCommand p request node line messages new = (told : Option Text) × ExecutesConsoleCommand p line new told × AreCommandMessages request line told p new node messages

-- a client that only shows a value gives no commands
abbrev pub is_repl_request : ClientRequest → Bool
is_repl_request request = bytes_eq (unwrap_or (member_as_text (codes "context") (view request.arguments)) (codes "repl")) (codes "repl")

abbrev pub EvaluatesCommandIfAllowed : Bool → Debuggee → ClientRequest → NodeId → Text → Messages → Debuggee → Type 0
EvaluatesCommandIfAllowed true p request node line messages new = EvaluatesCommand p request node line messages new
EvaluatesCommandIfAllowed false p request node line messages new = (messages ≡ refused_response request (codes "evaluate: no register and no cell") ∷ []) × (new ≡ p)

abbrev pub AreVariableValueMessages : Debuggee → ClientRequest → NodeId → Variable → Messages → Type 0
AreVariableValueMessages p request node one messages = (stuck : Bool) × TellsIfNodeIsDeadlocked (chip_of_machine p.lab) node.number stuck
    × (messages ≡ success_response request (evaluate_body p.lab stuck node.number one) ∷ [])

abbrev pub EvaluatesVariableOrCommand : Debuggee → ClientRequest → NodeId → Text → Option Variable → Messages → Debuggee → Type 0
EvaluatesVariableOrCommand p request node expression (Some one) messages new = AreVariableValueMessages p request node one messages × (new ≡ p)
EvaluatesVariableOrCommand p request node expression None messages new = EvaluatesCommandIfAllowed (is_repl_request request) p request node expression messages new

-- an expression, without the blanks around it, in this node
abbrev pub EvaluatesExpressionInNode : Debuggee → ClientRequest → NodeId → Text → Messages → Debuggee → Type 0
EvaluatesExpressionInNode p request node expression messages new =
    (asked : Option Variable) × IsDenotedVariable expression asked × EvaluatesVariableOrCommand p request node expression asked messages new

abbrev pub EvaluatesExpressionIfPresent : Debuggee → ClientRequest → Option Text → Messages → Debuggee → Type 0
EvaluatesExpressionIfPresent p request None messages new = (messages ≡ refused_response request (codes "evaluate: there is no expression") ∷ []) × (new ≡ p)
EvaluatesExpressionIfPresent p request (Some given) messages new =
    (node : NodeId) × (expression : Text) × IsEvaluationNode p request node × IsTrimAscii given expression × EvaluatesExpressionInNode p request node expression messages new

abbrev pub AnswersEvaluateRequest : Debuggee → ClientRequest → Messages → Debuggee → Type 0
AnswersEvaluateRequest p request messages new = EvaluatesExpressionIfPresent p request (member_as_text (codes "expression") (view request.arguments)) messages new
