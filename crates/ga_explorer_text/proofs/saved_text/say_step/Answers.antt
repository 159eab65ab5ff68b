use Rattle.std.proofs.Common.{rules, ap, ◌∙◌, [], refl}
use Rattle.std.specs.Prelude.{is_some}
use Rattle.ga_text.proofs.WriteLemmas.{written_pending}
use Rattle.ga_explorer_text.proofs.Saving.{saved_at, none_at}
use Rattle.ga_explorer_text.proofs.saved_text.say_step.Goals as goal

pub returns-in-Some : goal.returns-in-Some
returns-in-Some g c = (
  search rules,
  λ before said h. (
    c.as_slice.result.now,
    c.as_slice.ensures.value ∙ c.step_command_line.ensures ∙ saved_at c.args.lab.now c.args.place c.in-Some.made c.actor.result (ap is_some c.chip-chip.ensures.replays)
        c.in-Some.ensures.value c.actor.ensures,
    c.write_blocks.ensures.1 before said h,
  ),
)

pub returns-in-None : goal.returns-in-None
returns-in-None g c = (search rules, λ before said h. ([], none_at c.args.lab.now c.args.place (c.in-None.ensures.past.0 refl), written_pending _ before said _ h))
