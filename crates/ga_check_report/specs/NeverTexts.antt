-- What `ga144 check --never` prints (docs/REFERENCE.md, "Every order"; this project's own): that no event comes after which a condition holds,
-- that none was found, or which one was.
use Rattle.std.specs.Prelude.{ℕ, Bool, true, false, ◌++◌, codes, length, Option, Some, None}
use Rattle.ga_text.specs.Lines.{Text}
use Rattle.ga_event.specs.declared.made.MadeEvent.{MadeEvent}
use Rattle.ga_lab.specs.Machine.{MachineState}
use Rattle.ga_scheduler.specs.declared.running.RunEnd.TheVariants as the_end
use Rattle.ga_explorer_text.specs.Texts.{run_end_text}
use Rattle.ga_explorer_text.specs.Saved.{saved_session_text}
use Rattle.ga_state_search.specs.declared.fault.SearchFault.{SearchFault}
use Rattle.ga_state_ends.specs.Ends.{EndSearchResult}
use Rattle.ga_check_report.specs.declared.request.CheckRequest.{CheckRequest}
use Rattle.ga_check_report.specs.EndTexts.{counted_noun_text, search_stop_text}

-- no such event was found among this number of states: none comes if each was explored; else the bound that was met
abbrev pub event_not_reached_text : CheckRequest → ℕ → Option SearchFault → Text
event_not_reached_text request states None = codes "never, in " ++ counted_noun_text states (codes " state") ++ codes "\n"
event_not_reached_text request states (Some fault) =
    codes "not reached in " ++ counted_noun_text states (codes " state") ++ codes ", " ++ search_stop_text request fault

abbrev pub unreached_event_text : CheckRequest → EndSearchResult → Text
unreached_event_text request found = event_not_reached_text request (length found.searched.chips) found.fault

-- the event that the machine made, as `run until` prints it, with the number of the condition if there are several; or its session
abbrev pub reached_event_text : Bool → ℕ → ℕ → MadeEvent → MachineState → Text
reached_event_text true conditions which made s = saved_session_text s
reached_event_text false conditions which made s = run_end_text conditions (length s.kept) (the_end.ConditionHeld made which)
