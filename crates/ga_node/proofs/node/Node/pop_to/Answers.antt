use Rattle.std.proofs.Common.{refl, ap, [], ◌∷◌}
use Rattle.ga_stacks.specs.Ring.{StackRing}
use Rattle.ga_stacks.specs.declared.place.StackPlace.TheVariants.{Pointer, Top, Second}
use Rattle.ga_node.specs.Record.{NodeState}
use Rattle.ga_node.proofs.Saving.{saves_data, restored_under}
use Rattle.ga_node.proofs.node.Node.pop_to.Goals as goal

pub returns-clause-saves : goal.returns-clause-saves
returns-clause-saves c =
    saves_data _ _ _ _ _ (λ (ring : StackRing). Pointer ∷ Second ∷ Top ∷ []) _ _ c.save_data.ensures (ap (λ (n : NodeState). n.data_stack) c.self.view_is) c.pop-popped.ensures.overwritten refl
    (rw (
      restored_under c.replace_top-top.new.self c.pop-popped.new.self c.self.inside.data c.replace_top-top.result.items c.pop-popped.result.items c.replace_top-top.ensures.overwritten c.replace_top-top.ensures.state_after_undo c.pop-popped.ensures.overwritten,
      c.pop-popped.ensures.state_after_undo,
    )
    c.self.view_is)
    c.pop-popped.ensures.fit
