use Rattle.std.proofs.Common.{rules, ℕ, List, ◌++◌, ap, ◌∙◌, append_assoc}
use Rattle.ga_text.proofs.WriteLemmas.{truncated_here, truncated_within, said_assoc, cut_assoc}
use Rattle.ga_explorer_text.specs.SourceSuffix.{step_suffix_text}
use Rattle.ga_explorer_text.specs.Whence.{indented_value_text}
use Rattle.ga_explorer_text.specs.Because.{branch_decision_text}
use Rattle.ga_explorer_text.proofs.Saying.{text_as, joined_written}
use Rattle.ga_explorer_text.proofs.source_suffix.StepContext.say_decision.Goals as goal

pub returns-in_err-write_blocks : goal.returns-in_err-write_blocks
returns-in_err-write_blocks g c = (
  search rules,
  λ before said h.
      let notes = c.args.self.now.notes.now in
      let s = c.args.self.now.lab.now in
      let line : List ℕ = c.as_slice.result.now in
      let more = step_suffix_text notes s c.args.self.now.node c.args.decision.step ++ indented_value_text notes s c.args.decision.source in
      let whole = branch_decision_text notes s c.args.self.now.node c.args.decision in
      truncated_here c.from_residual.result _ before (said ++ whole) _ c.from_residual.ensures.0
      (truncated_within _ before said line more whole (ap (λ (z : List ℕ). z ++ more) (c.as_slice.ensures.value ∙ c.decided_line.ensures)) (c.in_err-write_blocks.ensures.1 before said h)),
)

pub returns-in_err-write_step_suffix : goal.returns-in_err-write_step_suffix
returns-in_err-write_step_suffix g c = (
  search rules,
  λ before said h.
      let notes = c.args.self.now.notes.now in
      let s = c.args.self.now.lab.now in
      let line : List ℕ = c.as_slice.result.now in
      let tail = step_suffix_text notes s c.args.self.now.node c.args.decision.step in
      let row = indented_value_text notes s c.args.decision.source in
      let whole = branch_decision_text notes s c.args.self.now.node c.args.decision in
      truncated_here c.from_residual-in_err-write_step_suffix.result _ before (said ++ whole) _ c.from_residual-in_err-write_step_suffix.ensures.0
      (truncated_within _ before said (line ++ tail) row whole
      (append_assoc line tail row ∙ ap (λ (z : List ℕ). z ++ (tail ++ row)) (c.as_slice.ensures.value ∙ c.decided_line.ensures))
      (cut_assoc _ before said line tail (c.in_err-write_step_suffix.ensures.1 before (said ++ line) (c.in_ok-write_blocks.ensures.1 before said h)))),
)

pub returns : goal.returns
returns g c = (
  search rules,
  λ before said h.
      let notes = c.args.self.now.notes.now in
      let s = c.args.self.now.lab.now in
      let line : List ℕ = c.as_slice.result.now in
      let tail = step_suffix_text notes s c.args.self.now.node c.args.decision.step in
      let row = indented_value_text notes s c.args.decision.source in
      text_as c.write_indented_value_line.result _ before said ((line ++ tail) ++ row) (branch_decision_text notes s c.args.self.now.node c.args.decision) _
      (append_assoc line tail row ∙ ap (λ (z : List ℕ). z ++ (tail ++ row)) (c.as_slice.ensures.value ∙ c.decided_line.ensures))
      (joined_written c.write_indented_value_line.result _ before said (line ++ tail) row _ (c.write_indented_value_line.ensures.1 before (said ++ (line ++ tail))
      (said_assoc _ before said line tail _ (c.in_ok-write_step_suffix.ensures.1 before (said ++ line) (c.in_ok-write_blocks.ensures.1 before said h))))),
)
