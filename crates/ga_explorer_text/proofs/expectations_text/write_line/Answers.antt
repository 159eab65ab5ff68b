use Rattle.std.proofs.Common.{rules, ℕ, List, ◌≡◌, ◌++◌, refl, ap, ◌∙◌}
use Rattle.ga_text.proofs.WriteLemmas.{truncated_here, truncated_within, cut_assoc, said_assoc}
use Rattle.ga_state_expectations.specs.Statuses.{expectation_status}
use Rattle.ga_state_expectations.specs.declared.status.ExpectationStatus.{ExpectationStatus}
use Rattle.ga_causal.specs.Dependence.{is_node_flagged}
use Rattle.ga_explorer_text.specs.Expected.{expectation_line_start, status_text, status_line}
use Rattle.ga_explorer_text.proofs.Saying.{text_as, joined_written}
use Rattle.ga_explorer_text.proofs.expectations_text.write_line.Goals as goal

pub returns-in_err-write_blocks : goal.returns-in_err-write_blocks
returns-in_err-write_blocks g c = (
  search rules,
  λ before said h.
      let first : List ℕ = c.as_slice.result.now in
      let words : List ℕ = c.args.one.now.text.items in
      let last : List ℕ = status_text (expectation_status (is_node_flagged c.args.stuck.now) c.args.is_quiet c.args.one.now.expectation c.args.lab.now) in
      let line : List ℕ = status_line (is_node_flagged c.args.stuck.now) c.args.is_quiet c.args.lab.now c.args.one.now in
      let is : first ≡ expectation_line_start c.args.one.now.line = c.as_slice.ensures.value ∙ c.expectation_line_start.ensures in
      truncated_here c.from_residual.result _ before (said ++ line) _ c.from_residual.ensures.0
      (truncated_within _ before said (first ++ words) last line (ap (λ (z : List ℕ). z ++ words ++ last) is)
      (truncated_within _ before said first words (first ++ words) refl (c.in_err-write_blocks.ensures.1 before said h))),
)

pub returns-in_err-write_blocks-2 : goal.returns-in_err-write_blocks-2
returns-in_err-write_blocks-2 g c = (
  search rules,
  λ before said h.
      let first : List ℕ = c.as_slice.result.now in
      let words : List ℕ = c.as_slice-2.result.now in
      let last : List ℕ = status_text (expectation_status (is_node_flagged c.args.stuck.now) c.args.is_quiet c.args.one.now.expectation c.args.lab.now) in
      let line : List ℕ = status_line (is_node_flagged c.args.stuck.now) c.args.is_quiet c.args.lab.now c.args.one.now in
      let is : first ≡ expectation_line_start c.args.one.now.line = c.as_slice.ensures.value ∙ c.expectation_line_start.ensures in
      truncated_here c.from_residual-in_err-write_blocks-2.result _ before (said ++ line) _ c.from_residual-in_err-write_blocks-2.ensures.0
      (truncated_within _ before said (first ++ words) last line
      (ap (λ (z : List ℕ). z ++ words ++ last) is ∙ ap (λ (z : List ℕ). expectation_line_start c.args.one.now.line ++ z ++ last) c.as_slice-2.ensures.value)
      (cut_assoc _ before said first words (c.in_err-write_blocks-2.ensures.1 before (said ++ first) (c.in_ok-write_blocks.ensures.1 before said h)))),
)

pub returns : goal.returns
returns g c = (
  search rules,
  λ before said h.
      let first : List ℕ = c.as_slice.result.now in
      let words : List ℕ = c.as_slice-2.result.now in
      let last : List ℕ = c.as_slice-3.result.now in
      let is : first ≡ expectation_line_start c.args.one.now.line = c.as_slice.ensures.value ∙ c.expectation_line_start.ensures in
      let ends : last ≡ status_text (expectation_status (is_node_flagged c.args.stuck.now) c.args.is_quiet c.args.one.now.expectation c.args.lab.now) = c.as_slice-3.ensures.value ∙ c.status_text.ensures ∙ ap (λ (z : ExpectationStatus). status_text z) c.expectation_status-status.ensures in
      let done = said_assoc _ before said first words _ (c.in_ok-write_blocks-2.ensures.1 before (said ++ first) (c.in_ok-write_blocks.ensures.1 before said h)) in
      text_as c.write_blocks-3.result _ before said (first ++ words ++ last) (status_line (is_node_flagged c.args.stuck.now) c.args.is_quiet c.args.lab.now c.args.one.now) _
      (ap (λ (z : List ℕ). z ++ words ++ last) is ∙ ap (λ (z : List ℕ). expectation_line_start c.args.one.now.line ++ z ++ last) c.as_slice-2.ensures.value
      ∙ ap (λ (z : List ℕ). expectation_line_start c.args.one.now.line ++ c.args.one.now.text.items ++ z) ends)
      (joined_written c.write_blocks-3.result _ before said (first ++ words) last _ (c.write_blocks-3.ensures.1 before (said ++ (first ++ words)) done)),
)
