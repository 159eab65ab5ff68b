use Rattle.std.proofs.Common.{rules, ◌++◌}
use Rattle.ga_text.proofs.WriteLemmas.{truncated_here}
use Rattle.ga_explorer.proofs.LineAnswers.{other_turn, unread_line, unread_err}
use Rattle.ga_explorer.proofs.explorer.answer_other.Goals as goal

pub returns-in_err-write_syntax_error : goal.returns-in_err-write_syntax_error
returns-in_err-write_syntax_error g c = (
  search rules,
  λ before said h.
      let line = c.args.line.now in
      let done = c.in_err-write_syntax_error.ensures.1 before said h in
      let is = c.is_no_command.ensures.none c.if-is_no_command.true in (
        done.0,
        unread_err c.args.lab.now line c.from_residual.result done.0 c.from_residual.ensures.0 (unread_line c.args.lab.now line done.0 is.0 is.1 done.1),
        truncated_here c.from_residual.result _ before (said ++ done.0) _ c.from_residual.ensures.0 done.2,
      ),
)

pub returns-then-is_no_command : goal.returns-then-is_no_command
returns-then-is_no_command g c = (
  search rules,
  λ before said h.
      let line = c.args.line.now in
      let done = c.in_ok-write_syntax_error.ensures.1 before said h in
      let is = c.is_no_command.ensures.none c.if-is_no_command.true in (
        done.0,
        unread_line c.args.lab.now line done.0 is.0 is.1 done.1,
        done.2,
      ),
)

pub returns : goal.returns
returns g c = (
  search rules,
  λ before said h.
      let done = c.answer_line_in_wording.ensures.1 before said h in (
        done.0,
        other_turn c.args.lab.now c.args.line.now c.answer_line_in_wording.new.lab c.answer_line_in_wording.result done.0 (c.is_no_command.ensures.some c.if-is_no_command.false) done.1,
        done.2,
      ),
)
