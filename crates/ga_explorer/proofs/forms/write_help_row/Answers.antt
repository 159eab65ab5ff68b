use Rattle.std.proofs.Common.{rules, ◌++◌, refl}
use Rattle.ga_text.proofs.WriteLemmas.{truncated_here, truncated_within}
use Rattle.ga_explorer.specs.Forms.{command_row_text}
use Rattle.ga_explorer.specs.inner.{command_entry_of_row}
use Rattle.ga_explorer_text.proofs.Saying.{joined_written}
use Rattle.ga_explorer.proofs.forms.write_help_row.Goals as goal

pub returns-in_err-write_blocks : goal.returns-in_err-write_blocks
returns-in_err-write_blocks g c = (
  search rules,
  λ before said h.
      let row = c.args.row.now in
      let whole = command_row_text (command_entry_of_row row) in
      truncated_here c.from_residual.result _ before (said ++ whole) _ c.from_residual.ensures.0
      (truncated_within _ before said row.form.now row.does.now whole refl (c.in_err-write_blocks.ensures.1 before said h)),
)

pub returns : goal.returns
returns g c = (
  search rules,
  λ before said h.
      let row = c.args.row.now in
      joined_written c.write_blocks-2.result _ before said row.form.now row.does.now _
      (c.write_blocks-2.ensures.1 before (said ++ row.form.now) (c.in_ok-write_blocks.ensures.1 before said h)),
)
