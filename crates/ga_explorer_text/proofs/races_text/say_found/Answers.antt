use Rattle.std.proofs.Common.{rules, ℕ, ◌+◌, List, length, ◌++◌, refl, ap, ◌∙◌}
use Rattle.std.specs.Prelude.{flat_map}
use Rattle.ga_text.proofs.WriteLemmas.{truncated_here, truncated_within}
use Rattle.ga_race_detector.specs.declared.races.Race.{Race}
use Rattle.ga_race_detector.specs.declared.readings.LookRace.{LookRace}
use Rattle.ga_explorer_text.specs.Races.{race_lines_text, look_race_text, races_last_line}
use Rattle.ga_explorer_text.proofs.Saying.{joined_written}
use Rattle.ga_explorer_text.proofs.races_text.say_found.Goals as goal

pub returns-in_err-say_list : goal.returns-in_err-say_list
returns-in_err-say_list g c = (
  search rules,
  λ before said h.
      let done = c.in_err-say_list.ensures.1 before said h in
      let races = c.args.races.now in
      let lines : List ℕ = race_lines_text races.list.items (length races.list.items + length races.readings.items) in
      let last : List ℕ = flat_map look_race_text races.readings.items ++ races_last_line c.args.only races.list.items races.looks races.quiet in (
        lines ++ last,
        refl,
        truncated_here c.from_residual.result _ before (said ++ (lines ++ last)) _ c.from_residual.ensures.0
            (truncated_within _ before said done.0 last (lines ++ last)
            (ap (λ (z : List ℕ). z ++ last) (done.1 ∙ ap (λ (z : List Race). race_lines_text z (length z + length c.as_slice-readings.result.now)) c.as_slice-list.ensures.value
            ∙ ap (λ (z : List LookRace). race_lines_text races.list.items (length races.list.items + length z)) c.as_slice-readings.ensures.value)) done.2),
      ),
)

pub returns : goal.returns
returns g c = (
  search rules,
  λ before said h.
      let done = c.in_ok-say_list.ensures.1 before said h in
      let rest = c.say_rest.ensures.1 before (said ++ done.0) done.2 in
      let races = c.args.races.now in (
        done.0 ++ rest.0,
        ap (λ (z : List ℕ). z ++ rest.0) (done.1 ∙ ap (λ (z : List Race). race_lines_text z (length z + length c.as_slice-readings.result.now)) c.as_slice-list.ensures.value
            ∙ ap (λ (z : List LookRace). race_lines_text races.list.items (length races.list.items + length z)) c.as_slice-readings.ensures.value)
            ∙ ap (λ (z : List ℕ). race_lines_text races.list.items (length races.list.items + length races.readings.items) ++ z)
            (rest.1 ∙ ap (λ (z : List LookRace). flat_map look_race_text z ++ c.races_last_line-last.result.now) c.as_slice-readings.ensures.value
            ∙ ap (λ (z : List ℕ). flat_map look_race_text races.readings.items ++ z)
            (c.races_last_line-last.ensures ∙ ap (λ (z : List Race). races_last_line c.args.only z races.looks races.quiet) c.as_slice-list.ensures.value)),
        joined_written c.say_rest.result _ before said done.0 rest.0 _ rest.2,
      ),
)
