use Rattle.std.proofs.Common.{rules, ap, ◌∙◌}
use Rattle.ga_explorer_text.specs.Effects.{rollback_effects_text}
use Rattle.ga_explorer_text.proofs.rollback_effects_text.say_found.Goals as goal

pub returns : goal.returns
returns g c = (
  search rules,
  λ before said h.
      let done = c.say_nodes.ensures.1 before said h in
      (done.0, done.1 ∙ ap (rollback_effects_text c.args.notes.now c.args.lab.now c.args.effects.now.events) c.as_slice.ensures.value, done.2),
)
