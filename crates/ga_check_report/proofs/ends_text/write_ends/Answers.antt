use Rattle.std.proofs.Common.{rules, ℕ, List, ◌++◌, length, refl, ap}
use Rattle.ga_text.proofs.WriteLemmas.{truncated_here, truncated_within, cut_assoc, said_assoc}
use Rattle.ga_state_ends.specs.declared.end_kind.EndKind.{EndKind}
use Rattle.ga_check_report.specs.EndTexts.{is_fully_explored, ends_header, end_kinds_text, final_line_text, ends_text}
use Rattle.ga_explorer_text.proofs.Saying.{text_as, joined_written}
use Rattle.ga_check_report.proofs.ends_text.write_ends.Goals as goal

pub returns-in_err-write_head : goal.returns-in_err-write_head
returns-in_err-write_head g c = (
  search rules,
  λ before said h.
      let found = c.args.found.now in
      let head : List ℕ = ends_header (is_fully_explored found.fault) (length found.searched.chips) (length found.kinds) in
      let kinds : List ℕ = end_kinds_text found.decisions 0 found.kinds in
      let last : List ℕ = final_line_text c.args.request found.fault found.has_cycle_before found.has_cycle in
      let whole : List ℕ = ends_text c.args.request found in
      truncated_here c.from_residual.result _ before (said ++ whole) _ c.from_residual.ensures.0
      (truncated_within _ before said (head ++ kinds) last whole refl
      (truncated_within _ before said head kinds (head ++ kinds) refl (c.in_err-write_head.ensures.1 before said h))),
)

pub returns-in_err-write_kinds : goal.returns-in_err-write_kinds
returns-in_err-write_kinds g c = (
  search rules,
  λ before said h.
      let found = c.args.found.now in
      let head : List ℕ = ends_header (is_fully_explored found.fault) (length found.searched.chips) (length found.kinds) in
      let kinds : List ℕ = end_kinds_text found.decisions 0 c.kinds.result.now in
      let last : List ℕ = final_line_text c.args.request found.fault found.has_cycle_before found.has_cycle in
      let whole : List ℕ = ends_text c.args.request found in
      truncated_here c.from_residual-in_err-write_kinds.result _ before (said ++ whole) _ c.from_residual-in_err-write_kinds.ensures.0
      (truncated_within _ before said (head ++ kinds) last whole (ap (λ (z : List EndKind). head ++ end_kinds_text found.decisions 0 z ++ last) c.kinds.ensures)
      (cut_assoc _ before said head kinds (c.in_err-write_kinds.ensures.1 before (said ++ head) (c.in_ok-write_head.ensures.1 before said h)))),
)

pub returns : goal.returns
returns g c = (
  search rules,
  λ before said h.
      let found = c.args.found.now in
      let head : List ℕ = ends_header (is_fully_explored found.fault) (length found.searched.chips) (length found.kinds) in
      let kinds : List ℕ = end_kinds_text found.decisions 0 c.kinds.result.now in
      let last : List ℕ = final_line_text c.args.request found.fault found.has_cycle_before found.has_cycle in
      let done = said_assoc _ before said head kinds _ (c.in_ok-write_kinds.ensures.1 before (said ++ head) (c.in_ok-write_head.ensures.1 before said h)) in
      text_as c.write_last.result _ before said (head ++ kinds ++ last) (ends_text c.args.request found) _
      (ap (λ (z : List EndKind). head ++ end_kinds_text found.decisions 0 z ++ last) c.kinds.ensures)
      (joined_written c.write_last.result _ before said (head ++ kinds) last _ (c.write_last.ensures.1 before (said ++ (head ++ kinds)) done)),
)
