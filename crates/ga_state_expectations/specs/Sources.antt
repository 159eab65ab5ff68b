-- What a source expects of its programs (docs/REFERENCE.md, "Expectations"; this project's own).
use Rattle.std.specs.Prelude.{◌≡◌, ◌⊎◌, List, [], Some, Ok, Err}
use Rattle.ga_text.specs.Lines.{Text}
use Rattle.ga_parser.specs.Expectations.{expectation_lines}
use Rattle.ga_source.specs.declared.program.Program.{Program}
use Rattle.ga_source.specs.Programs.{AreProgramsOfSource}
use Rattle.ga_source.specs.Made.{IsPlainSource}
use Rattle.ga_debug_info.specs.declared.notes.DebugInfo.{DebugInfo}
use Rattle.ga_debug_info.specs.Notes.{IsDebugInfoOfSource}
use Rattle.ga_state_expectations.specs.declared.cause.ExpectationFault.{ExpectationFault}
use Rattle.ga_state_expectations.specs.Lines.{LineExpectationContent, source_expectations}

-- The source has programs, and some of its lines that say what is expected are at fault.
pub record HasFaultyExpectations (source : Text) (faults : List ExpectationFault) : Type 0 where
  pub programs : List Program
  pub notes : DebugInfo
  pub asked : AreProgramsOfSource source programs
  pub says : IsDebugInfoOfSource source programs notes
  pub faulty : source_expectations (Some notes) ≡ Err faults

-- The source has programs, and this is expected of them.
pub record HasExpectations (source : Text) : Type 0 where
  pub programs : List Program
  pub notes : DebugInfo
  pub all : List LineExpectationContent
  pub asked : AreProgramsOfSource source programs
  pub says : IsDebugInfoOfSource source programs notes
  pub expected : source_expectations (Some notes) ≡ Ok all

-- the source expects nothing, or has another fault, or expects what it says without a fault
abbrev pub HasNoFaultyExpectation : Text → Type 0
HasNoFaultyExpectation source = (expectation_lines source ≡ []) ⊎ ((IsPlainSource source → ⊥) ⊎ HasExpectations source)
