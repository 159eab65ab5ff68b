use Rattle.std.proofs.Common.{rules, ◌≡◌, ℕ, List, ◌++◌, codes, ap, ◌∙◌}
use Rattle.ga_text.proofs.WriteLemmas.{truncated_here, truncated_within}
use Rattle.ga_explorer_text.specs.SourceSuffix.{value_suffix_text}
use Rattle.ga_explorer_text.specs.Whence.{value_origin_text, indented_value_text}
use Rattle.ga_explorer_text.proofs.Saying.{text_as, joined_written}
use Rattle.ga_explorer_text.proofs.source_suffix.StepContext.write_indented_value_line.Goals as goal

pub returns-in_err-write_blocks : goal.returns-in_err-write_blocks
returns-in_err-write_blocks g c = (
  search rules,
  λ before said h.
      let notes = c.args.self.now.notes.now in
      let s = c.args.self.now.lab.now in
      let line : List ℕ = c.as_slice.result.now in
      let tail : List ℕ = value_suffix_text notes s c.args.value in
      let is : line ≡ codes "  " ++ value_origin_text s c.args.value = c.as_slice.ensures.value ∙ c.indented_line.ensures ∙ ap (λ (z : List ℕ). codes "  " ++ z) c.words_of_value_at_its_use-words.ensures in
      let whole = indented_value_text notes s c.args.value in
      truncated_here c.from_residual.result _ before (said ++ whole) _ c.from_residual.ensures.0
      (truncated_within _ before said line tail whole (ap (λ (z : List ℕ). z ++ tail) is) (c.in_err-write_blocks.ensures.1 before said h)),
)

pub returns : goal.returns
returns g c = (
  search rules,
  λ before said h.
      let notes = c.args.self.now.notes.now in
      let s = c.args.self.now.lab.now in
      let line : List ℕ = c.as_slice.result.now in
      let tail : List ℕ = value_suffix_text notes s c.args.value in
      let is : line ≡ codes "  " ++ value_origin_text s c.args.value = c.as_slice.ensures.value ∙ c.indented_line.ensures ∙ ap (λ (z : List ℕ). codes "  " ++ z) c.words_of_value_at_its_use-words.ensures in
      text_as c.write_value_suffix.result _ before said (line ++ tail) (indented_value_text notes s c.args.value) _
      (ap (λ (z : List ℕ). z ++ tail) is)
      (joined_written c.write_value_suffix.result _ before said line tail _ (c.write_value_suffix.ensures.1 before (said ++ line) (c.in_ok-write_blocks.ensures.1 before said h))),
)
