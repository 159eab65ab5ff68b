-- What the calls of `expectations` mean for its answer.
use Rattle.std.proofs.Common.{◌≡◌, ℕ, Bool, List, refl, sym, subst}
use Rattle.std.specs.Prelude.{◌↔◌, IsTrue}
use Rattle.ga_node.specs.Record.{NodeRecord}
use Rattle.ga_lab.specs.Machine.{MachineState, chip_of_machine}
use Rattle.ga_races.specs.Acts.{AreDeadlocked, IsMarkedSubset}
use Rattle.ga_scheduler.specs.Running.{IsQuiescent}
use Rattle.ga_state_expectations.specs.declared.source.LineExpectation.{LineExpectation}
use Rattle.ga_explorer_json.specs.Expected.{statuses_json, AreStatusesJson}

pub statuses_found : (s : MachineState) (chip : List NodeRecord) (marks : ℕ → Bool) (is_quiet : Bool) (expectations : List LineExpectation) → chip ≡ chip_of_machine s → AreDeadlocked chip marks
    → ((others : ℕ → Bool) → AreDeadlocked chip others → IsMarkedSubset others marks) → (IsTrue is_quiet ↔ IsQuiescent chip) → AreStatusesJson s expectations (statuses_json marks is_quiet s expectations)
statuses_found s chip marks is_quiet expectations e stuck greatest quiet = record {
  marks = marks;
  stuck = subst (λ (z : List NodeRecord). AreDeadlocked z marks) e stuck;
  greatest = λ others h. greatest others (subst (λ (z : List NodeRecord). AreDeadlocked z others) (sym e) h);
  is_quiet = is_quiet;
  quiet = subst (λ (z : List NodeRecord). IsTrue is_quiet ↔ IsQuiescent z) e quiet;
  json = refl;
}
