-- What a verdict about conditions says of what was found.
use Rattle.std.proofs.Common.{◌≡◌, ◌∙◌, inl, inr, ℕ, Bool, true, false, cond, List, length, Option, Some, None, Result, Ok, Err, refl, sym, subst}
use Rattle.std.specs.Prelude.{slice_get, IsSome, IfOk, OnOk}
use Rattle.std.proofs.lemmas.Option.{same_Some}
use Rattle.ga_node.specs.Record.{NodeRecord}
use Rattle.ga_event.specs.declared.event.Event.{Event}
use Rattle.ga_event.specs.declared.made.MadeEvent.{MadeEvent}
use Rattle.ga_event.specs.Apply.{replay}
use Rattle.ga_races.specs.Orders.{IsEnabled}
use Rattle.ga_lab.specs.declared.fault.LabFault.{LabFault}
use Rattle.ga_lab.specs.Machine.{MachineState, chip_of_machine, made_next_event, machine_with_event}
use Rattle.ga_state_search.specs.declared.fault.SearchFault.{SearchFault}
use Rattle.ga_state_conditions.specs.declared.condition.StateCondition.{StateCondition}
use Rattle.ga_state_conditions.specs.Reached.{IsConditionMet, IsConditionReachedOnChip}
use Rattle.ga_state_conditions.proofs.Whole.{none_met}
use Rattle.ga_check_report.specs.Checking.{HasAppendedEvents}
use Rattle.ga_check_report.specs.EndTexts.{is_fully_explored}
use Rattle.ga_check_report.specs.Answers.{reached_event_answer}
use Rattle.ga_check_report.specs.Never.{HasReachedEvent, WritesNeverCheckReport}
use Rattle.ga_check_report.specs.Never.WritesNeverCheckReport.{none, one, no_memory, too_long}
use Rattle.ga_check_report.specs.declared.request.CheckRequest.{CheckRequest}
use Rattle.ga_check_report.specs.declared.report.Verdict.TheVariants.{Clean, Unclean, Unknown}

whole_by : (fault : Option SearchFault) → Clean ≡ cond (is_fully_explored fault) Clean Unknown → fault ≡ None
whole_by None is = refl
whole_by (Some fault) is = absurd (cc)

not_unclean : (whole : Bool) → Unclean ≡ cond whole Clean Unknown → ⊥
not_unclean true is = cc
not_unclean false is = cc

pub never_told : (request : CheckRequest) (conditions : List StateCondition) (session : Bool) (s : MachineState) (text : List ℕ) → WritesNeverCheckReport request conditions session s text Clean
    → (last : List NodeRecord) (events : List Event) (event : Event) (place : ℕ) (condition : StateCondition) → slice_get conditions place ≡ Some condition
    → replay (chip_of_machine s) events ≡ Some last → IsEnabled last event → IsConditionMet condition last event → ⊥
never_told request conditions session s text (none found ends nothing (inl out)) last events event place condition at led can met =
    none_met (chip_of_machine s) found ends (whole_by found.fault out.1) conditions nothing place condition at last events event led can met
never_told request conditions session s text (none found ends nothing (inr out)) last events event place condition at led can met = absurd (let q = out.1 in cc)
never_told request conditions session s text (one which there made is (inl out)) last events event place condition at led can met = absurd (let q = out.1 in cc)
never_told request conditions session s text (one which there made is (inr out)) last events event place condition at led can met = absurd (let q = out.1 in cc)
never_told request conditions session s text (no_memory (inl out)) last events event place condition at led can met = absurd (let q = out.1 in cc)
never_told request conditions session s text (no_memory (inr out)) last events event place condition at led can met = absurd (let q = out.1 in cc)
never_told request conditions session s text (too_long (inl out)) last events event place condition at led can met = absurd (let q = out.1 in cc)
never_told request conditions session s text (too_long (inr out)) last events event place condition at led can met = absurd (let q = out.1 in cc)

abbrev pub IsReachedTold : CheckRequest → List StateCondition → Bool → MachineState → List ℕ → Type 0
IsReachedTold request conditions session s text =
    (which : ℕ) × (last : MachineState) × (made : MadeEvent) × HasReachedEvent conditions which s last made × (text ≡ reached_event_answer request.format session (length conditions) which made last)

pub reached_told : (request : CheckRequest) (conditions : List StateCondition) (session : Bool) (s : MachineState) (text : List ℕ) → WritesNeverCheckReport request conditions session s text Unclean
    → IsReachedTold request conditions session s text
reached_told request conditions session s text (none found ends nothing (inl out)) = absurd (not_unclean (is_fully_explored found.fault) out.1)
reached_told request conditions session s text (none found ends nothing (inr out)) = absurd (let q = out.1 in cc)
reached_told request conditions session s text (one which last made is (inl out)) = (which, last, made, is, out.0)
reached_told request conditions session s text (one which last made is (inr out)) = absurd (let q = out.1 in cc)
reached_told request conditions session s text (no_memory (inl out)) = absurd (let q = out.1 in cc)
reached_told request conditions session s text (no_memory (inr out)) = absurd (let q = out.1 in cc)
reached_told request conditions session s text (too_long (inl out)) = absurd (let q = out.1 in cc)
reached_told request conditions session s text (too_long (inr out)) = absurd (let q = out.1 in cc)

-- the machine that made the events of a session, and then its last
pub reached_by : (s t u : MachineState) (conditions : List StateCondition) (which : ℕ) (events : List Event) (event : Event) (chip : List NodeRecord) (made : MadeEvent)
    → replay (chip_of_machine s) events ≡ Some chip → IsConditionReachedOnChip conditions which chip event → HasAppendedEvents s events t → replay (chip_of_machine s) events ≡ Some (chip_of_machine t)
    → made ≡ made_next_event t event → u ≡ machine_with_event t (Ok event) → HasReachedEvent conditions which s u made
reached_by s t u conditions which events event chip made led is appended there report leads = record {
  events = events;
  before = t;
  led = appended;
  event = event;
  reached = subst (λ (c : List NodeRecord). IsConditionReachedOnChip conditions which c event) (same_Some chip (chip_of_machine t) (sym led ∙ there)) is;
  report = report;
  leads = leads;
}

-- the events of a session can be made, and then its last
pub session_can : (load : List NodeRecord) (conditions : List StateCondition) (which : ℕ) (events : List Event) (event : Event)
    → ((chip : List NodeRecord) × (replay load events ≡ Some chip) × IsConditionReachedOnChip conditions which chip event) → IsSome (replay load events)
session_can load conditions which events event it = subst (λ (o : Option (List NodeRecord)). IsSome o) (sym it.1) refl

pub last_can : (load there : List NodeRecord) (conditions : List StateCondition) (which : ℕ) (events : List Event) (event : Event)
    → ((chip : List NodeRecord) × (replay load events ≡ Some chip) × IsConditionReachedOnChip conditions which chip event) → replay load events ≡ Some there → IsEnabled there event
last_can load there conditions which events event it led = subst (λ (c : List NodeRecord). IsEnabled c event) (same_Some it.0 there (sym it.1 ∙ led)) it.2.enabled

pub reached_result : (s t u : MachineState) (conditions : List StateCondition) (which : ℕ) (events : List Event) (event : Event) (result : Result MadeEvent LabFault)
    → ((chip : List NodeRecord) × (replay (chip_of_machine s) events ≡ Some chip) × IsConditionReachedOnChip conditions which chip event) → HasAppendedEvents s events t
    → replay (chip_of_machine s) events ≡ Some (chip_of_machine t) → IfOk result (λ made. made ≡ made_next_event t event) → OnOk result (u ≡ machine_with_event t (Ok event))
    → IfOk result (λ made. HasReachedEvent conditions which s u made)
reached_result s t u conditions which events event (Ok made) it appended there report leads =
    reached_by s t u conditions which events event it.0 made it.1 it.2 appended there report leads
reached_result s t u conditions which events event (Err why) it appended there report leads = tt
