use Rattle.std.proofs.Common.{rules, ◌≡◌, ◌-◌, List, ℕ, Bool, None, ◌++◌, refl, sym, ap, ◌∙◌}
use Rattle.std.specs.List.{slice_get}
use Rattle.ga_lab.specs.Machine.{history_of_node}
use Rattle.ga_text.proofs.WriteLemmas.{truncated_here, truncated_within}
use Rattle.ga_explorer_text.specs.SourceSuffix.{step_suffix_text}
use Rattle.ga_explorer_text.specs.Whence.{value_line_numbers_text, step_action_text, queried_value_text, step_with_queried_value_text, optional_queried_step_line}
use Rattle.ga_explorer_text.proofs.Saying.{joined_written}
use Rattle.ga_explorer_text.proofs.source_suffix.StepContext.say_queried.Goals as goal

pub returns-in_err-write_blocks : goal.returns-in_err-write_blocks
returns-in_err-write_blocks g c = (
  search rules,
  λ before said h.
      let s = c.args.self.now.lab.now in
      let node = c.args.self.now.node in
      let at = c.args.self.now.near.step in
      let value = c.args.value in
      let told : ℕ → ℕ → List ℕ = λ k word. value_line_numbers_text 0 None ++ step_action_text s node k ++ queried_value_text (slice_get (history_of_node s node.number) (k - 1)) k value word in
      let line_is : told c.step.result c.words_of_value-word.result.word ≡ step_with_queried_value_text s node at value =
      ap (λ (k : ℕ). told k c.words_of_value-word.result.word) c.step.ensures.value ∙ ap (told at) c.words_of_value-word.ensures.word in
      let tail = step_suffix_text c.args.self.now.notes.now c.args.self.now.lab.now c.args.self.now.node c.args.self.now.near.step in
      let line : List ℕ = c.as_slice.result.now in (
        line ++ tail,
        ap (λ (t : List ℕ). t ++ tail) (c.as_slice.ensures.value ∙ c.queried_line-line.ensures ∙ line_is)
            ∙ ap (λ (b : Bool). optional_queried_step_line c.args.self.now.notes.now s node at value b) (sym c.if-not-is_written.false),
        truncated_here c.from_residual.result _ before (said ++ (line ++ tail)) _ c.from_residual.ensures.0
            (truncated_within _ before said line tail (line ++ tail) refl (c.in_err-write_blocks.ensures.1 before said h)),
      ),
)

pub returns : goal.returns
returns g c = (
  search rules,
  λ before said h.
      let s = c.args.self.now.lab.now in
      let node = c.args.self.now.node in
      let at = c.args.self.now.near.step in
      let value = c.args.value in
      let told : ℕ → ℕ → List ℕ = λ k word. value_line_numbers_text 0 None ++ step_action_text s node k ++ queried_value_text (slice_get (history_of_node s node.number) (k - 1)) k value word in
      let line_is : told c.step.result c.words_of_value-word.result.word ≡ step_with_queried_value_text s node at value =
      ap (λ (k : ℕ). told k c.words_of_value-word.result.word) c.step.ensures.value ∙ ap (told at) c.words_of_value-word.ensures.word in
      let tail = step_suffix_text c.args.self.now.notes.now c.args.self.now.lab.now c.args.self.now.node c.args.self.now.near.step in
      let line : List ℕ = c.as_slice.result.now in (
        line ++ tail,
        ap (λ (t : List ℕ). t ++ tail) (c.as_slice.ensures.value ∙ c.queried_line-line.ensures ∙ line_is)
            ∙ ap (λ (b : Bool). optional_queried_step_line c.args.self.now.notes.now s node at value b) (sym c.if-not-is_written.false),
        joined_written c.write_current_step_suffix.result _ before said line tail _ (c.write_current_step_suffix.ensures.1 before (said ++ line) (c.in_ok-write_blocks.ensures.1 before said h)),
      ),
)
