use Rattle.std.proofs.Common.{rules, ◌++◌, refl}
use Rattle.std.specs.Prelude.{codes}
use Rattle.ga_text.proofs.WriteLemmas.{truncated_here, truncated_within}
use Rattle.ga_explorer.specs.NoCommand.{command_suggestion, unknown_command_text}
use Rattle.ga_explorer_text.proofs.Saying.{joined_written}
use Rattle.ga_explorer.proofs.forms.write_syntax_error.Goals as goal

pub returns-in_err-write_text : goal.returns-in_err-write_text
returns-in_err-write_text g c = (
  search rules,
  λ before said h.
      let whole = unknown_command_text c.args.line.now in (
        whole,
        refl,
        truncated_here c.from_residual.result _ before (said ++ whole) _ c.from_residual.ensures.0
            (truncated_within _ before said (codes "no 31 syntax: ") (command_suggestion c.args.line.now ++ codes "\n") whole refl (c.in_err-write_text.ensures.1 before said h)),
      ),
)

pub returns : goal.returns
returns g c = (
  search rules,
  λ before said h.
      let whole = unknown_command_text c.args.line.now in (
        whole,
        refl,
        joined_written c.say_cure.result _ before said (codes "no 31 syntax: ") (command_suggestion c.args.line.now ++ codes "\n") _
            (c.say_cure.ensures.1 before (said ++ codes "no 31 syntax: ") (c.in_ok-write_text.ensures.1 before said h)),
      ),
)
