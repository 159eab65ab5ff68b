use Rattle.std.proofs.Common.{rules, ℕ, List, ◌++◌, refl, ◌∙◌}
use Rattle.ga_text.proofs.WriteLemmas.{truncated_here, truncated_within, cut_assoc, said_assoc}
use Rattle.ga_check_report.specs.ExpectationTexts.{expectations_lines_text, optional_search_stop_text, expectations_text}
use Rattle.ga_explorer_text.proofs.Saying.{text_as, joined_written}
use Rattle.ga_check_report.proofs.ExpectationsOut.{answer_as}
use Rattle.ga_check_report.proofs.expected.write_expectations_text.Goals as goal

pub returns-in_err-write_blocks : goal.returns-in_err-write_blocks
returns-in_err-write_blocks g c = (
  search rules,
  λ before said h.
      let head : List ℕ = c.as_slice.result.now in
      let lines : List ℕ = expectations_lines_text c.is_fully_explored-whole.result c.args.outcomes.now c.args.decisions.now 0 c.args.expectations.now in
      let last : List ℕ = optional_search_stop_text c.args.request c.args.found.now.fault in
      let answer : List ℕ = expectations_text c.args.request c.args.found.now c.args.expectations.now c.args.outcomes.now c.args.decisions.now in
      truncated_here c.from_residual.result _ before (said ++ answer) _ c.from_residual.ensures.0
      (truncated_within _ before said (head ++ lines) last answer
      (answer_as c.args.request c.args.found.now c.args.expectations.now c.args.outcomes.now c.args.decisions.now c.is_fully_explored-whole.result head c.count_states.result c.is_fully_explored-whole.ensures
      c.count_states.ensures (c.as_slice.ensures.value ∙ c.expectations_header-header.ensures))
      (truncated_within _ before said head lines (head ++ lines) refl (c.in_err-write_blocks.ensures.1 before said h))),
)

pub returns-in_err-write_lines : goal.returns-in_err-write_lines
returns-in_err-write_lines g c = (
  search rules,
  λ before said h.
      let head : List ℕ = c.as_slice.result.now in
      let lines : List ℕ = expectations_lines_text c.is_fully_explored-whole.result c.args.outcomes.now c.args.decisions.now 0 c.args.expectations.now in
      let last : List ℕ = optional_search_stop_text c.args.request c.args.found.now.fault in
      let answer : List ℕ = expectations_text c.args.request c.args.found.now c.args.expectations.now c.args.outcomes.now c.args.decisions.now in
      truncated_here c.from_residual-in_err-write_lines.result _ before (said ++ answer) _ c.from_residual-in_err-write_lines.ensures.0
      (truncated_within _ before said (head ++ lines) last answer
      (answer_as c.args.request c.args.found.now c.args.expectations.now c.args.outcomes.now c.args.decisions.now c.is_fully_explored-whole.result head c.count_states.result c.is_fully_explored-whole.ensures
      c.count_states.ensures (c.as_slice.ensures.value ∙ c.expectations_header-header.ensures))
      (cut_assoc _ before said head lines (c.in_err-write_lines.ensures.1 before (said ++ head) (c.in_ok-write_blocks.ensures.1 before said h)))),
)

pub returns : goal.returns
returns g c = (
  search rules,
  λ before said h.
      let head : List ℕ = c.as_slice.result.now in
      let lines : List ℕ = expectations_lines_text c.is_fully_explored-whole.result c.args.outcomes.now c.args.decisions.now 0 c.args.expectations.now in
      let last : List ℕ = optional_search_stop_text c.args.request c.args.found.now.fault in
      let done = said_assoc _ before said head lines _ (c.in_ok-write_lines.ensures.1 before (said ++ head) (c.in_ok-write_blocks.ensures.1 before said h)) in
      text_as c.write_stop.result _ before said (head ++ lines ++ last) (expectations_text c.args.request c.args.found.now c.args.expectations.now c.args.outcomes.now c.args.decisions.now) _
      (answer_as c.args.request c.args.found.now c.args.expectations.now c.args.outcomes.now c.args.decisions.now c.is_fully_explored-whole.result head c.count_states.result c.is_fully_explored-whole.ensures
      c.count_states.ensures (c.as_slice.ensures.value ∙ c.expectations_header-header.ensures))
      (joined_written c.write_stop.result _ before said (head ++ lines) last _ (c.write_stop.ensures.1 before (said ++ (head ++ lines)) done)),
)
