use Rattle.std.proofs.Common.{rules, List, ℕ, ◌++◌, ap, ◌∙◌}
use Rattle.ga_text.proofs.WriteLemmas.{truncated_here, truncated_within}
use Rattle.ga_explorer_text.specs.SourceSuffix.{cell_of_node_part, source_suffix_line, never_set_text, loaded_value_suffix_text}
use Rattle.ga_explorer_text.proofs.Saying.{text_as, joined_written}
use Rattle.ga_explorer_text.proofs.source_suffix.say_loaded.Goals as goal

pub returns-in_err-write_blocks : goal.returns-in_err-write_blocks
returns-in_err-write_blocks g c = (
  search rules,
  λ before said h.
      let tail = source_suffix_line c.args.notes.now c.args.node (cell_of_node_part c.args.part) 4 in
      let whole = loaded_value_suffix_text c.args.notes.now c.args.node c.args.part in
      truncated_here c.from_residual.result _ before (said ++ whole) _ c.from_residual.ensures.0
      (truncated_within _ before said c.never_set_text.result.now tail whole (ap (λ (t : List ℕ). t ++ tail) c.never_set_text.ensures) (c.in_err-write_blocks.ensures.1 before said h)),
)

pub returns : goal.returns
returns g c = (
  search rules,
  λ before said h.
      let text : List ℕ = c.never_set_text.result.now in
      let tail = source_suffix_line c.args.notes.now c.args.node c.cell_of_node_part.result 4 in
      text_as c.say_tail.result _ before said (text ++ tail) (loaded_value_suffix_text c.args.notes.now c.args.node c.args.part) _
      (ap (λ (t : List ℕ). t ++ tail) c.never_set_text.ensures ∙ ap (λ cell. never_set_text c.args.notes.now c.args.node c.args.part ++ source_suffix_line c.args.notes.now c.args.node cell 4) c.cell_of_node_part.ensures)
      (joined_written c.say_tail.result _ before said text tail _ (c.say_tail.ensures.1 before (said ++ text) (c.in_ok-write_blocks.ensures.1 before said h))),
)
