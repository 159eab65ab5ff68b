use Rattle.std.proofs.Common.{rules, ℕ, List, ◌++◌, ap, ap₂, ◌∙◌}
use Rattle.ga_text.proofs.WriteLemmas.{truncated_here, truncated_within}
use Rattle.ga_check_report.specs.EndTexts.{end_kind_text, unclean_nodes_line, unclean_node_names_text}
use Rattle.ga_explorer_text.proofs.Saying.{text_as, joined_written}
use Rattle.ga_check_report.proofs.ends_text.write_kind.Goals as goal

pub returns-in_err-write_blocks : goal.returns-in_err-write_blocks
returns-in_err-write_blocks g c = (
  search rules,
  λ before said h.
      let whole : List ℕ = end_kind_text c.args.number c.args.kind.now in
      let second : List ℕ = unclean_nodes_line (unclean_node_names_text c.args.kind.now.unclean) in
      truncated_here c.from_residual.result _ before (said ++ whole) _ c.from_residual.ensures.0
      (truncated_within _ before said c.as_slice.result.now second whole
      (ap (λ (z : List ℕ). z ++ second) (c.as_slice.ensures.value ∙ c.end_kind_line.ensures)) (c.in_err-write_blocks.ensures.1 before said h)),
)

pub returns : goal.returns
returns g c = (
  search rules,
  λ before said h.
      let first : List ℕ = c.as_slice.result.now in
      let second : List ℕ = c.as_slice-2.result.now in
      text_as c.write_blocks-2.result _ before said (first ++ second) (end_kind_text c.args.number c.args.kind.now) _
      (ap₂ (λ (x y : List ℕ). x ++ y) (c.as_slice.ensures.value ∙ c.end_kind_line.ensures) (c.as_slice-2.ensures.value ∙ c.unclean_nodes_line.ensures))
      (joined_written c.write_blocks-2.result _ before said first second _ (c.write_blocks-2.ensures.1 before (said ++ first) (c.in_ok-write_blocks.ensures.1 before said h))),
)
