use Rattle.std.proofs.Common.{rules, ℕ, ap, ◌∙◌}
use Rattle.ga_event.specs.Told.{count_steps}
use Rattle.ga_lab.specs.Machine.{MachineState}
use Rattle.ga_display.specs.Texts.{advised_step_refusal_text}
use Rattle.ga_explorer_text.specs.Effects.{rollback_effects_text}
use Rattle.ga_explorer_text.proofs.Saying.{effects_found, effects_refused}
use Rattle.ga_explorer_text.proofs.rollback_effects_text.write_rollback_effects.Goals as goal

pub returns-in-Ok-clause-said : goal.returns-in-Ok-clause-said
returns-in-Ok-clause-said g c = (
  search rules,
  λ before said h.
      let done = c.say_found.ensures.1 before said h in (
        done.0,
        effects_found c.args.notes.now c.args.lab.now c.args.node c.args.step c.in-Ok.effects.events c.in-Ok.effects.nodes.items done.0
            c.in-Ok.ensures.events c.in-Ok.ensures.nodes
            (done.1 ∙ ap (λ (s : MachineState). rollback_effects_text c.args.notes.now s c.in-Ok.effects.events c.in-Ok.effects.nodes.items) c.find_rollback_effects.ensures.same),
        done.2,
      ),
)

pub returns-in-Err-clause-said : goal.returns-in-Err-clause-said
returns-in-Err-clause-said g c = (
  search rules,
  λ before said h. (
    c.as_slice.result.now,
    effects_refused c.args.notes.now c.args.lab.now c.args.node c.args.step c.in-Err.fault c.as_slice.result.now c.in-Err.ensures.err
        (c.as_slice.ensures.value ∙ c.advised_step_refusal-refusal.ensures
        ∙ ap (λ (n : ℕ). advised_step_refusal_text c.args.node n c.in-Err.fault) (c.steps.ensures.steps ∙ ap (λ (s : MachineState). count_steps c.args.node.number s.kept) c.find_rollback_effects.ensures.same)),
    c.write_blocks.ensures.1 before said h,
  ),
)
