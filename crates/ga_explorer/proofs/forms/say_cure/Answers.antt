use Rattle.std.proofs.Common.{rules, ℕ, List, ◌++◌, ap}
use Rattle.std.specs.Prelude.{codes}
use Rattle.ga_text.proofs.WriteLemmas.{truncated_here, truncated_within}
use Rattle.ga_explorer.specs.NoCommand.{command_suggestion}
use Rattle.ga_explorer_text.proofs.Saying.{text_as, joined_written}
use Rattle.ga_explorer.proofs.forms.say_cure.Goals as goal

pub returns-in_err-write_blocks : goal.returns-in_err-write_blocks
returns-in_err-write_blocks g c = (
  search rules,
  λ before said h.
      let whole = command_suggestion c.args.line.now ++ codes "\n" in
      truncated_here c.from_residual.result _ before (said ++ whole) _ c.from_residual.ensures.0
      (truncated_within _ before said c.command_suggestion.result.now (codes "\n") whole (ap (λ (t : List ℕ). t ++ codes "\n") c.command_suggestion.ensures) (c.in_err-write_blocks.ensures.1 before said h)),
)

pub returns : goal.returns
returns g c = (
  search rules,
  λ before said h.
      text_as c.write_text.result _ before said (c.command_suggestion.result.now ++ codes "\n") (command_suggestion c.args.line.now ++ codes "\n") _
      (ap (λ (t : List ℕ). t ++ codes "\n") c.command_suggestion.ensures)
      (joined_written c.write_text.result _ before said c.command_suggestion.result.now (codes "\n") _
      (c.write_text.ensures.1 before (said ++ c.command_suggestion.result.now) (c.in_ok-write_blocks.ensures.1 before said h))),
)
