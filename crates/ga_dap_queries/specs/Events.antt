-- The bodies of events (Debug Adapter Protocol, "OutputEvent", "ThreadEvent", "StoppedEvent").
use Rattle.std.specs.Prelude.{◌≡◌, ◌<◌, ◌⊎◌, ◌++◌, ℕ, zero, suc, Bool, true, false, List, [], ◌∷◌, codes}
use Rattle.serde_json.specs.Data.{Data, string, boolean, object, array, no_members, member, item, no_items}
use Rattle.ga_text.specs.Lines.{Text}
use Rattle.ga_dap_views.specs.Json.{json_whole_number, json_array_of_mapped_items}
use Rattle.ga_grid.specs.declared.node_id.NodeId.{NodeId}
use Rattle.ga_lab.specs.Machine.{MachineState}
use Rattle.ga_dap_views.specs.Numbers.{thread_id}
use Rattle.ga_dap_views.specs.Threads.{has_thread}
use Rattle.ga_dap_queries.specs.Sending.{Message, event_message}

unfoldable pub output_event_body : Text → Text → Data
output_event_body category text = object (member (codes "category") (string category) (member (codes "output") (string text) no_members))

-- a node has something to show, or has no longer
abbrev pub thread_event_reason : Bool → Text
thread_event_reason true = codes "started"
thread_event_reason false = codes "exited"

unfoldable pub thread_event_body : Text → ℕ → Data
thread_event_body reason n = object (member (codes "reason") (string reason) (member (codes "threadId") (json_whole_number (thread_id n)) no_members))

abbrev pub thread_event_message : Bool → ℕ → Message
thread_event_message started n = event_message (codes "thread") (thread_event_body (thread_event_reason started) n)

-- what is sent about a node that had something to show before or not, and has now or not
abbrev pub thread_change_messages : Bool → Bool → ℕ → List Message
thread_change_messages false false n = []
thread_change_messages false true n = thread_event_message true n ∷ []
thread_change_messages true false n = thread_event_message false n ∷ []
thread_change_messages true true n = []

-- what is sent about the first `n` nodes: each that has something to show and had not, or the other way round
unfoldable pub thread_change_messages_below : (ℕ → Bool) → (ℕ → Bool) → ℕ → List Message
thread_change_messages_below before now zero = []
thread_change_messages_below before now (suc n) = thread_change_messages_below before now n ++ thread_change_messages (before n) (now n) n

-- the first node that has something to show; 000 where none has
abbrev pub IsFirstThreadNode : MachineState → List NodeId → ℕ → Type 0
IsFirstThreadNode s programs n =
    ((has_thread s programs n ≡ true) × ((k : ℕ) → k < n → has_thread s programs k ≡ false)) ⊎ ((n ≡ 0) × ((k : ℕ) → k < 144 → has_thread s programs k ≡ false))

-- the chip is stopped: all nodes are
unfoldable pub stopped_event_body : Text → Text → ℕ → Data
stopped_event_body reason description n =
    object (member (codes "allThreadsStopped") (boolean true) (member (codes "description") (string description) (member (codes "reason") (string reason)
    (member (codes "text") (string description) (member (codes "threadId") (json_whole_number (thread_id n)) no_members)))))

-- the chip is stopped at breakpoints with these numbers: all nodes are
unfoldable pub breakpoint_stopped_object : Text → Text → ℕ → Data → Data
breakpoint_stopped_object reason description n ids =
    object (member (codes "allThreadsStopped") (boolean true) (member (codes "description") (string description)
    (member (codes "hitBreakpointIds") ids (member (codes "reason") (string reason)
    (member (codes "text") (string description) (member (codes "threadId") (json_whole_number (thread_id n)) no_members))))))

abbrev pub stopped_body_with_breakpoints : Text → Text → ℕ → List ℕ → Data
stopped_body_with_breakpoints reason description n ids = breakpoint_stopped_object reason description n (json_array_of_mapped_items json_whole_number ids)
