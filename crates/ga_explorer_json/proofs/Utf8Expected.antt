-- The texts of what `expectations` answers are UTF-8.
use Rattle.std.proofs.Common.{◌≡◌, ℕ, ◌+◌, List, [], ◌∷◌, ◌++◌, Bool, true, false, codes, inl, inr, refl, sym, subst}
use Rattle.std.specs.Prelude.{Option}
use Rattle.std.specs.Str.{IsUtf8}
use Rattle.ga_ports.specs.Address.{single_side_set, has_side}
use Rattle.ga_ports.specs.declared.side.Side.TheVariants as side
use Rattle.ga_lab.specs.Machine.{MachineState}
use Rattle.ga_lab.specs.declared.fault.LabFault.TheVariants.{Memory}
use Rattle.ga_debug_info.specs.declared.notes.DebugInfo.{DebugInfo}
use Rattle.ga_state_links.specs.declared.expectation.LinkFault.{LinkFault}
use Rattle.ga_state_links.specs.declared.expectation.LinkFault.TheVariants.{OtherWord, ExtraWord, MissingWord}
use Rattle.ga_state_expectations.specs.declared.observation.NodeObservation.{NodeObservation}
use Rattle.ga_state_expectations.specs.declared.observation.NodeObservation.TheVariants.{Is, Runs, AwaitsCode, Reads, Writes, Stopped}
use Rattle.ga_state_expectations.specs.declared.source.LineExpectation.{LineExpectation}
use Rattle.ga_state_expectations.specs.declared.status.ExpectationStatus.{ExpectationStatus}
use Rattle.ga_state_expectations.specs.declared.status.ExpectationStatus.TheVariants.{Held, Broken, Pending}
use Rattle.ga_state_expectations.specs.declared.status.SessionBreach.{SessionBreach}
use Rattle.ga_state_expectations.specs.declared.status.SessionBreach.TheVariants.{Unmet, Reached, Stuck, OverLink}
use Rattle.ga_state_expectations.specs.Statuses.{expectation_status}
use Rattle.ga_check_report.specs.ExpectationJson.{listed_sides, side_list_text, observation_keyword, observation_detail_fields}
use Rattle.ga_check_report.specs.LinkFaults.{link_fault_keyword, link_fault_detail_fields}
use Rattle.ga_json.specs.Values.{JsonValue}
use Rattle.ga_json.specs.Compact.{IsWritableValue}
use Rattle.ga_explorer_json.specs.Expected.{status_keyword, session_breach_keyword, status_cause_json, session_breach_fields, status_detail_fields, status_front_fields, status_json, status_row, statuses_head_fields, statuses_json, IsExpectationsJson}
use Rattle.ga_explorer_json.specs.Rows.{json_rows_of_items}
use Rattle.ga_explorer_json.proofs.Utf8Values.{is_low, plain, node_name, checked_text, AreUtf8Fields, are_named, fields, fields_append, json_object_of_member, report_of, rows_of}
use Rattle.ga_explorer_json.proofs.Utf8Rows.{lab_refusal, made_event}

-- ---- what breaks an expectation

listed_utf8 : (right down left up : Bool) → IsUtf8 (listed_sides right down left up)
unfolding is_low
listed_utf8 true true true true = plain (listed_sides true true true true) refl
listed_utf8 true true true false = plain (listed_sides true true true false) refl
listed_utf8 true true false true = plain (listed_sides true true false true) refl
listed_utf8 true true false false = plain (listed_sides true true false false) refl
listed_utf8 true false true true = plain (listed_sides true false true true) refl
listed_utf8 true false true false = plain (listed_sides true false true false) refl
listed_utf8 true false false true = plain (listed_sides true false false true) refl
listed_utf8 true false false false = plain (listed_sides true false false false) refl
listed_utf8 false true true true = plain (listed_sides false true true true) refl
listed_utf8 false true true false = plain (listed_sides false true true false) refl
listed_utf8 false true false true = plain (listed_sides false true false true) refl
listed_utf8 false true false false = plain (listed_sides false true false false) refl
listed_utf8 false false true true = plain (listed_sides false false true true) refl
listed_utf8 false false true false = plain (listed_sides false false true false) refl
listed_utf8 false false false true = plain (listed_sides false false false true) refl
listed_utf8 false false false false = plain (listed_sides false false false false) refl

sides_utf8 : (sides : ℕ) → IsUtf8 (side_list_text sides)
sides_utf8 sides = listed_utf8 (has_side sides side.Right) (has_side sides side.Down) (has_side sides side.Left) (has_side sides side.Up)

observed : (observation : NodeObservation) → AreUtf8Fields (observation_detail_fields observation)
unfolding is_low are_named
observed (Is word) = fields (observation_detail_fields (Is word)) refl (tt, tt)
observed Runs = tt
observed AwaitsCode = tt
observed (Reads sides) = fields (observation_detail_fields (Reads sides)) refl (sides_utf8 sides, tt)
observed (Writes one) = fields (observation_detail_fields (Writes one)) refl (sides_utf8 (single_side_set one), tt)
observed (Stopped stop) = fields (observation_detail_fields (Stopped stop)) refl (tt, tt)

observation_word : (observation : NodeObservation) → IsUtf8 (observation_keyword observation)
unfolding is_low
observation_word (Is word) = plain (codes "value") refl
observation_word Runs = plain (codes "runs") refl
observation_word AwaitsCode = plain (codes "awaits code") refl
observation_word (Reads sides) = plain (codes "reads") refl
observation_word (Writes one) = plain (codes "writes") refl
observation_word (Stopped stop) = plain (codes "stop") refl

over_link : (place : ℕ) (fault : LinkFault) → AreUtf8Fields (link_fault_detail_fields place fault)
unfolding is_low are_named
over_link place (OtherWord word) = fields (link_fault_detail_fields place (OtherWord word)) refl (tt, (tt, tt))
over_link place (ExtraWord word) = fields (link_fault_detail_fields place (ExtraWord word)) refl (tt, (tt, tt))
over_link place MissingWord = fields (link_fault_detail_fields place MissingWord) refl (tt, tt)

link_word : (fault : LinkFault) → IsUtf8 (link_fault_keyword fault)
unfolding is_low
link_word (OtherWord word) = plain (codes "word") refl
link_word (ExtraWord word) = plain (codes "further word") refl
link_word MissingWord = plain (codes "no word") refl

breach_word : (breach : SessionBreach) → IsUtf8 (session_breach_keyword breach)
unfolding is_low
breach_word (Unmet observation) = observation_word observation
breach_word (Reached made) = plain (codes "event") refl
breach_word (Stuck node) = plain (codes "stuck") refl
breach_word (OverLink place fault) = link_word fault

breached : (breach : SessionBreach) → AreUtf8Fields (session_breach_fields breach)
unfolding is_low are_named
breached (Unmet observation) = observed observation
breached (Reached made) = made_event made
breached (Stuck node) = fields (session_breach_fields (Stuck node)) refl (node_name node, tt)
breached (OverLink place fault) = over_link place fault

-- ---- its status

status_word : (status : ExpectationStatus) → IsUtf8 (status_keyword status)
unfolding is_low
status_word Held = plain (codes "held") refl
status_word (Broken breach) = plain (codes "broken") refl
status_word Pending = plain (codes "pending") refl

cause : (status : ExpectationStatus) → IsWritableValue (status_cause_json status)
cause Held = tt
cause (Broken breach) = breach_word breach
cause Pending = tt

details : (status : ExpectationStatus) → AreUtf8Fields (status_detail_fields status)
details Held = tt
details (Broken breach) = breached breach
details Pending = tt

status_utf8 : (one : LineExpectation) (status : ExpectationStatus) → IsWritableValue (status_json one status)
unfolding is_low are_named
status_utf8 one status =
    json_object_of_member (status_front_fields one status ++ status_detail_fields status)
    (fields_append (status_front_fields one status) (status_detail_fields status) (fields (status_front_fields one status) refl (tt, (checked_text one.text.items, (status_word status, (cause status, tt))))) (details status))

-- ---- the answer

statuses_utf8 : (stuck : ℕ → Bool) (is_quiet : Bool) (s : MachineState) (expectations : List LineExpectation) → IsWritableValue (statuses_json stuck is_quiet s expectations)
unfolding is_low are_named
statuses_utf8 stuck is_quiet s expectations =
    report_of statuses_head_fields (json_rows_of_items (status_row stuck is_quiet s) expectations) (fields statuses_head_fields refl (plain (codes "expectations") refl, tt))
    (rows_of (status_row stuck is_quiet s) (λ one. status_utf8 one (expectation_status stuck is_quiet one.expectation s)) expectations)

as_value : (value other : JsonValue) → value ≡ other → IsWritableValue other → IsWritableValue value
as_value value other e h = subst IsWritableValue (sym e) h

pub expectations_utf8 : (notes : Option DebugInfo) (s : MachineState) (answer : JsonValue) → IsExpectationsJson notes s answer → IsWritableValue answer
unfolding is_low
expectations_utf8 notes s answer (inl h) =
    as_value answer _ h.written.json (statuses_utf8 h.written.marks h.written.is_quiet s h.expectations)
expectations_utf8 notes s answer (inr e) = as_value answer _ e (lab_refusal (codes "expectations") Memory (plain (codes "expectations") refl))
