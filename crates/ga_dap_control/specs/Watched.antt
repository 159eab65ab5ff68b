-- The expectations of the source that a run watches (Debug Adapter Protocol, "SetExceptionBreakpointsRequest"; what is expected is this project's own).
use Rattle.std.specs.Prelude.{◌≡◌, Bool, true, false, ◌&&◌, not, List, [], map, Option, Some, None}
use Rattle.ga_debug_info.specs.declared.notes.DebugInfo.{DebugInfo}
use Rattle.ga_state_expectations.specs.declared.source.LineExpectation.{LineExpectation}
use Rattle.ga_state_expectations.specs.Knowledge.{IsExpectationKnowledge}
use Rattle.ga_state_expectations.specs.Lines.{line_expectation_content, known_expectations, expects_nothing}
use Rattle.ga_dap_queries.specs.declared.debuggee.Debuggee.{Debuggee}
use Rattle.ga_dap_control.specs.declared.configuration.Configuration.{Configuration}
use Rattle.ga_dap_control.specs.declared.watched.WatchedExpectations.{WatchedExpectations}

-- those of the source, if the filter is on
abbrev pub AreExpectationsIfFilterSet : Bool → Option DebugInfo → List LineExpectation → Type 0
AreExpectationsIfFilterSet true source expectations = map line_expectation_content expectations ≡ known_expectations source
AreExpectationsIfFilterSet false source expectations = expectations ≡ []

abbrev pub AreWatchedExpectations : Debuggee → Configuration → List LineExpectation → Type 0
AreWatchedExpectations p set expectations = AreExpectationsIfFilterSet set.broken p.source expectations

-- there are expectations to watch: the filter is on, and a line of the source says what is expected
abbrev pub has_expectations_to_watch : Debuggee → Configuration → Bool
has_expectations_to_watch p set = set.broken && not (expects_nothing p.source)

-- this is known of them
pub record AreExpectationsKnown (p : Debuggee) (set : Configuration) (w : WatchedExpectations) : Type 0 where
  pub expectations : AreWatchedExpectations p set w.expectations.items
  pub known : IsExpectationKnowledge w.expectations.items p.lab w.known

abbrev pub AreOptionalExpectationsKnown : Debuggee → Configuration → Option WatchedExpectations → Type 0
AreOptionalExpectationsKnown p set None = Unit {0}
AreOptionalExpectationsKnown p set (Some w) = AreExpectationsKnown p set w
