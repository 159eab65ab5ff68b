-- `configurationDone` (Debug Adapter Protocol, "ConfigurationDoneRequest", "ThreadEvent", "StoppedEvent").
use Rattle.std.specs.Prelude.{◌≡◌, ◌<◌, ℕ, Bool, true, false, List, [], ◌∷◌, ◌++◌, codes, Some, None}
use Rattle.ga_grid.specs.declared.node_id.NodeId.{NodeId}
use Rattle.ga_dap_views.specs.Threads.{has_thread}
use Rattle.ga_dap_protocol.specs.declared.request.ClientRequest.{ClientRequest}
use Rattle.ga_dap_queries.specs.declared.debuggee.Debuggee.{Debuggee}
use Rattle.ga_dap_control.specs.declared.execution.Execution.{Execution}
use Rattle.ga_dap_control.specs.declared.execution.RunGoal.TheVariants.{Continue}
use Rattle.ga_dap_queries.specs.Events.{thread_change_messages_below, IsFirstThreadNode}
use Rattle.ga_dap_control.specs.Stopping.{stopped_message}
use Rattle.ga_dap_queries.specs.Sending.{Messages, bare_success_response, refused_response}

-- the nodes that have something to show
abbrev pub AreNodesWithThreads : Debuggee → (ℕ → Bool) → Type 0
AreNodesWithThreads p marks = (n : ℕ) → n < 144 → marks n ≡ has_thread p.lab p.nodes.items n

-- the response, and that each thread started
abbrev pub response_and_thread_messages : ClientRequest → (ℕ → Bool) → Messages
response_and_thread_messages request marks = (bare_success_response request ∷ []) ++ thread_change_messages_below (λ n. false) marks 144

-- the chip is stopped at load, or runs
abbrev pub StopsOnEntryOrRuns : Bool → Debuggee → Execution → Messages → Execution → Type 0
StopsOnEntryOrRuns true p r messages new = (first : NodeId) × IsFirstThreadNode p.lab p.nodes.items first.number
    × (messages ≡ stopped_message (codes "entry") (codes "at load") first.number ∷ []) × (new ≡ record r { is_configured = true })
StopsOnEntryOrRuns false p r messages new = (messages ≡ []) × (new ≡ record r { is_configured = true; goal = Some Continue; tally = None })

abbrev pub CompletesConfiguration : Debuggee → Execution → ClientRequest → Messages → Execution → Type 0
CompletesConfiguration p r request messages new = (marks : ℕ → Bool) × (more : Messages) × AreNodesWithThreads p marks × StopsOnEntryOrRuns r.stops_on_entry p r more new
    × (messages ≡ response_and_thread_messages request marks ++ more)

abbrev pub CompletesConfigurationUnlessDone : Bool → Debuggee → Execution → ClientRequest → Messages → Execution → Type 0
CompletesConfigurationUnlessDone true p r request messages new = (messages ≡ refused_response request (codes "configurationDone: it is done") ∷ []) × (new ≡ r)
CompletesConfigurationUnlessDone false p r request messages new = CompletesConfiguration p r request messages new

abbrev pub AnswersConfigurationDone : Debuggee → Execution → ClientRequest → Messages → Execution → Type 0
AnswersConfigurationDone p r request messages new = CompletesConfigurationUnlessDone r.is_configured p r request messages new
