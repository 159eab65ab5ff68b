-- What `trace`, `why` and `dump` answer, as JSON values (docs/REFERENCE.md, "Sessions"; this project's own).
use Rattle.std.specs.Prelude.{◌≡◌, ℕ, ◌⊎◌, Bool, true, false, map, List, [], ◌∷◌, codes, Option, Some, None, Result, Ok, Err, IsOk}
use Rattle.ga_grid.specs.declared.node_id.NodeId.{NodeId}
use Rattle.ga_event.specs.Told.{made_event_at_place, count_steps}
use Rattle.ga_event.specs.declared.made.MadeEvent.{MadeEvent}
use Rattle.ga_causal.specs.declared.chain.ChainLink.{ChainLink}
use Rattle.ga_lab.specs.Machine.{MachineState, chip_of_machine, history_of_node, machine_events_with_outcomes, why_answer}
use Rattle.ga_lab.specs.declared.fault.LabFault.{LabFault}
use Rattle.ga_lab.specs.declared.fault.LabFault.TheVariants.{Memory}
use Rattle.ga_image.specs.Printing.{printed_image}
use Rattle.ga_text.specs.Digits.{name_of_node}
use Rattle.ga_json.specs.Values.{JsonValue, boolean, string}
use Rattle.ga_json.specs.Fields.{NamedValue, json_object, json_report}
use Rattle.ga_explorer_json.specs.Events.{made_event_fields}
use Rattle.ga_console.specs.Replies.{first_node_lacking_step}
use Rattle.ga_explorer_json.specs.Refusals.{lab_refusal_json, refusal_json_about_step}
use Rattle.ga_explorer_json.specs.Rows.{json_rows_of_items}
use Rattle.ga_explorer_json.specs.Texts.{text_answer_json}

abbrev pub event_json : MadeEvent → JsonValue
event_json made = json_object (made_event_fields made)

-- ---- `trace`

abbrev pub trace_head_fields : NodeId → List NamedValue
trace_head_fields node = (codes "command", string (codes "trace")) ∷ (codes "node", string (name_of_node node)) ∷ []

abbrev pub trace_json : NodeId → List MadeEvent → JsonValue
trace_json node steps = json_report (trace_head_fields node) (json_rows_of_items event_json steps)

-- the steps of the node; or an allocation failed
abbrev pub IsTraceJson : MachineState → NodeId → JsonValue → Type 0
IsTraceJson s node answer = (answer ≡ trace_json node (history_of_node s node.number)) ⊎ (answer ≡ lab_refusal_json (codes "trace") Memory)

-- ---- `why`

abbrev pub chain_head_fields : Bool → List NamedValue
chain_head_fields leads = (codes "command", string (codes "why")) ∷ (codes "leads", boolean leads) ∷ []

abbrev pub chain_json : Bool → List MadeEvent → JsonValue
chain_json leads events = json_report (chain_head_fields leads) (json_rows_of_items event_json events)

-- the events are those of the links of a chain
abbrev pub AreEventsOfChainLinks : MachineState → List MadeEvent → List ChainLink → Type 0
AreEventsOfChainLinks s events links = map Some events ≡ map (λ (link : ChainLink). made_event_at_place (machine_events_with_outcomes s) link.place) links

-- the answer by what the machine answers; the node is the one that lacks its step, if one does
abbrev pub IsChainJson : MachineState → NodeId → Result (Option (List ChainLink)) LabFault → JsonValue → Type 0
IsChainJson s node (Ok None) answer = answer ≡ chain_json false []
IsChainJson s node (Ok (Some links)) answer = (events : List MadeEvent) × AreEventsOfChainLinks s events links × (answer ≡ chain_json true events)
IsChainJson s node (Err why) answer = answer ≡ refusal_json_about_step (codes "why") node (count_steps node.number s.kept) why

-- The answer has the chain from one step to another, if there is one; or out of memory if both steps exist.
abbrev pub IsWhyJson : MachineState → NodeId → ℕ → NodeId → ℕ → JsonValue → Type 0
IsWhyJson s from k to j answer =
    IsChainJson s (first_node_lacking_step s from k to) (why_answer s from.number k to.number j) answer
    ⊎ (IsOk (why_answer s from.number k to.number j) × (answer ≡ lab_refusal_json (codes "why") Memory))

-- ---- `dump`

-- the chip as an image; or an allocation failed
abbrev pub IsDumpJson : MachineState → JsonValue → Type 0
IsDumpJson s answer = (answer ≡ text_answer_json (codes "dump") (printed_image (chip_of_machine s))) ⊎ (answer ≡ lab_refusal_json (codes "dump") Memory)
