use Rattle.std.proofs.Common.{rules, ◌≡◌, ℕ, List, ◌++◌, Option, ap, ◌∙◌}
use Rattle.ga_text.proofs.WriteLemmas.{truncated_here, truncated_within}
use Rattle.ga_explorer_text.specs.SourceSuffix.{value_suffix_text}
use Rattle.ga_explorer_text.specs.Whence.{using_line_number, value_line_numbers_text, value_run_count_text, value_with_word_text, value_origin_text, value_line_text}
use Rattle.ga_explorer_text.proofs.Saying.{text_as, joined_written}
use Rattle.ga_explorer_text.proofs.source_suffix.StepContext.write_line.Goals as goal

pub returns-in_err-write_blocks : goal.returns-in_err-write_blocks
returns-in_err-write_blocks g c = (
  search rules,
  λ before said h.
      let notes = c.args.self.now.notes.now in
      let s = c.args.self.now.lab.now in
      let value = c.args.line.value in
      let count : List ℕ = value_run_count_text c.args.line.count in
      let words = c.words_of_value_at_its_use-words.result in
      let line : List ℕ = c.as_slice.result.now in
      let tail : List ℕ = value_suffix_text notes s value in
      let is : line ≡ (value_line_numbers_text c.args.number (using_line_number c.args.is_moved c.args.number c.args.line.user) ++ value_origin_text s value) ++ count =
      c.as_slice.ensures.value ∙ c.numbered_line.ensures
      ∙ ap (λ (u : Option ℕ). (value_line_numbers_text c.args.number u ++ value_with_word_text s value words.word words.a) ++ count) c.using_line_number-user.ensures
      ∙ ap (λ (z : List ℕ). (value_line_numbers_text c.args.number (using_line_number c.args.is_moved c.args.number c.args.line.user) ++ z) ++ count) c.words_of_value_at_its_use-words.ensures in
      let whole = value_line_text notes s c.args.is_moved c.args.number c.args.line in
      truncated_here c.from_residual.result _ before (said ++ whole) _ c.from_residual.ensures.0
      (truncated_within _ before said line tail whole (ap (λ (z : List ℕ). z ++ tail) is) (c.in_err-write_blocks.ensures.1 before said h)),
)

pub returns : goal.returns
returns g c = (
  search rules,
  λ before said h.
      let notes = c.args.self.now.notes.now in
      let s = c.args.self.now.lab.now in
      let value = c.args.line.value in
      let count : List ℕ = value_run_count_text c.args.line.count in
      let words = c.words_of_value_at_its_use-words.result in
      let line : List ℕ = c.as_slice.result.now in
      let tail : List ℕ = value_suffix_text notes s value in
      let is : line ≡ (value_line_numbers_text c.args.number (using_line_number c.args.is_moved c.args.number c.args.line.user) ++ value_origin_text s value) ++ count =
      c.as_slice.ensures.value ∙ c.numbered_line.ensures
      ∙ ap (λ (u : Option ℕ). (value_line_numbers_text c.args.number u ++ value_with_word_text s value words.word words.a) ++ count) c.using_line_number-user.ensures
      ∙ ap (λ (z : List ℕ). (value_line_numbers_text c.args.number (using_line_number c.args.is_moved c.args.number c.args.line.user) ++ z) ++ count) c.words_of_value_at_its_use-words.ensures in
      text_as c.write_value_suffix.result _ before said (line ++ tail) (value_line_text notes s c.args.is_moved c.args.number c.args.line) _
      (ap (λ (z : List ℕ). z ++ tail) is)
      (joined_written c.write_value_suffix.result _ before said line tail _ (c.write_value_suffix.ensures.1 before (said ++ line) (c.in_ok-write_blocks.ensures.1 before said h))),
)
