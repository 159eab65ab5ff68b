use Rattle.std.proofs.Common.{rules, ℕ, List, ◌++◌, [], refl, arith}
use Rattle.std.specs.Prelude.{map}
use Rattle.ga_text.proofs.WriteLemmas.{truncated_here, written_pending}
use Rattle.ga_explorer.specs.Forms.{command_rows_text}
use Rattle.ga_explorer.specs.inner.{command_entry_of_row}
use Rattle.ga_explorer.proofs.Finding.{next_row, no_row}
use Rattle.ga_explorer_text.proofs.Saying.{line_written, line_truncated, all_said}
use Rattle.ga_explorer.proofs.forms.say_rows.Goals as goal

pub rows-init : goal.rows-init
rows-init g c = (search rules, λ before said h. record { front = []; splits = refl; is_said = written_pending _ before said _ h })

pub returns-in_err-write_help_row : goal.returns-in_err-write_help_row
returns-in_err-write_help_row g c = (
  search rules,
  λ before said h.
      let rows = c.args.rows.now in
      let whole : List ℕ = command_rows_text (map command_entry_of_row rows) in
      let done = c.rows.invariant.1 before said h in (
        whole,
        refl,
        truncated_here c.from_residual.result _ before (said ++ whole) _ c.from_residual.ensures.0
            (line_truncated _ before said whole _ _ _ done.front
            (next_row rows c.rows.row-index _ (omega arith)) done.splits
            (c.in_err-write_help_row.ensures.1 before (said ++ done.front) done.is_said)),
      ),
)

pub rows-preserved : goal.rows-preserved
rows-preserved g c = (
  search rules,
  λ before said h.
      let rows = c.args.rows.now in
      let done = c.rows.invariant.1 before said h in
      line_written _ before said (command_rows_text (map command_entry_of_row rows)) _ _ _ done.front _
      (next_row rows c.rows.row-index _ (omega arith)) done.splits
      (c.in_ok-write_help_row.ensures.1 before (said ++ done.front) done.is_said),
)

pub returns : goal.returns
returns g c = (
  search rules,
  λ before said h.
      let rows = c.args.rows.now in
      let whole : List ℕ = command_rows_text (map command_entry_of_row rows) in (
        whole,
        refl,
        all_said _ before said whole _ _ (no_row rows c.rows.row-index (omega arith)) (c.rows.invariant.1 before said h),
      ),
)
