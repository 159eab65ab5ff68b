-- What a call means for the answer to `races`.
use Rattle.std.proofs.Common.{◌≡◌, List, Bool, Option, codes, ap, ◌∙◌, inl, inr}
use Rattle.std.specs.Prelude.{is_none}
use Rattle.std.specs.List.{All}
use Rattle.ga_grid.specs.declared.node_id.NodeId.{NodeId}
use Rattle.ga_lab.specs.Machine.{MachineState, chip_of_machine, machine_events_with_looks}
use Rattle.ga_lab.specs.declared.fault.LabFault.{LabFault}
use Rattle.ga_lab.specs.declared.fault.LabFault.TheVariants.{Memory}
use Rattle.ga_race_detector.specs.declared.races.Race.{Race}
use Rattle.ga_race_detector.specs.declared.readings.LookRace.{LookRace}
use Rattle.ga_race_detector.specs.Readings.{IsReportedLookRace, HasAllNearLookRaces}
use Rattle.ga_race_detector.specs.Races.{requested_races, has_made_or_next_look, first_ready_node}
use Rattle.ga_explorer_json.specs.Refusals.{lab_refusal_json}
use Rattle.ga_explorer_json.specs.Races.{listed_races_json, IsRacesJson}

pub races_found : (s : MachineState) (only : Option NodeId) (races : List Race) (readings : List LookRace) (looks quiet : Bool) → races ≡ requested_races s only
    → All (IsReportedLookRace s only) readings → HasAllNearLookRaces s only readings → looks ≡ has_made_or_next_look (machine_events_with_looks s) (chip_of_machine s) → quiet ≡ is_none (first_ready_node (chip_of_machine s))
    → IsRacesJson s only (listed_races_json only races readings looks quiet)
races_found s only races readings looks quiet r told found l q =
    inl (
      readings,
      told,
      found,
      ap (λ (z : List Race). listed_races_json only z readings looks quiet) r
          ∙ ap (λ (z : Bool). listed_races_json only (requested_races s only) readings z quiet) l
          ∙ ap (listed_races_json only (requested_races s only) readings (has_made_or_next_look (machine_events_with_looks s) (chip_of_machine s))) q,
    )

pub races_refused : (s : MachineState) (only : Option NodeId) (why : LabFault) → why ≡ Memory → IsRacesJson s only (lab_refusal_json (codes "races") why)
races_refused s only why e = inr (ap (lab_refusal_json (codes "races")) e)
