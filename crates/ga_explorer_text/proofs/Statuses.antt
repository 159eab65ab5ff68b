-- How expectations stand, as it is written.
use Rattle.std.proofs.Common.{◌≡◌, ℕ, Bool, true, false, List, [], ◌∷◌, codes, length, refl, sym, subst, arith}
use Rattle.std.specs.Prelude.{◌↔◌, ◌==◌, IsTrue}
use Rattle.std.proofs.lemmas.Bool.{eqb-true, false≢true}
use Rattle.ga_text.specs.Lines.{Text}
use Rattle.ga_node.specs.Record.{NodeRecord}
use Rattle.ga_lab.specs.Machine.{MachineState, chip_of_machine}
use Rattle.ga_races.specs.Acts.{AreDeadlocked, IsMarkedSubset}
use Rattle.ga_scheduler.specs.Running.{IsQuiescent}
use Rattle.ga_state_expectations.specs.declared.source.LineExpectation.{LineExpectation}
use Rattle.ga_explorer_text.specs.Expected.{status_lines_text, expectations_status_text, AreStatusesWritten}

pub statuses_written : (s : MachineState) (chip : List NodeRecord) (marks : ℕ → Bool) (is_quiet : Bool) (all : List LineExpectation) (text : Text) → chip ≡ chip_of_machine s
    → AreDeadlocked chip marks → ((others : ℕ → Bool) → AreDeadlocked chip others → IsMarkedSubset others marks) → (IsTrue is_quiet ↔ IsQuiescent chip)
    → text ≡ expectations_status_text marks is_quiet s all → AreStatusesWritten s all text
statuses_written s chip marks is_quiet all text e stuck greatest quiet is = record {
  marks = marks;
  stuck = subst (λ (z : List NodeRecord). AreDeadlocked z marks) e stuck;
  greatest = λ others h. greatest others (subst (λ (z : List NodeRecord). AreDeadlocked z others) (sym e) h);
  is_quiet = is_quiet;
  quiet = subst (λ (z : List NodeRecord). IsTrue is_quiet ↔ IsQuiescent z) e quiet;
  text = is;
}

pub none_written : (marks : ℕ → Bool) (is_quiet : Bool) (s : MachineState) (all : List LineExpectation) → true ≡ (length all == 0) → codes "none\n" ≡ expectations_status_text marks is_quiet s all
none_written marks is_quiet s [] e = refl
none_written marks is_quiet s (one ∷ others) e = absurd (let size : length (one ∷ others) ≡ 0 = eqb-true (length (one ∷ others)) 0 (sym e) in omega (arith, size))

pub some_written : (marks : ℕ → Bool) (is_quiet : Bool) (s : MachineState) (all : List LineExpectation) → false ≡ (length all == 0) → status_lines_text marks is_quiet s all ≡ expectations_status_text marks is_quiet s all
some_written marks is_quiet s [] e = absurd (false≢true e)
some_written marks is_quiet s (one ∷ others) e = refl
