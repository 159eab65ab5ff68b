use Rattle.std.proofs.Common.{refl, ap, [], ◌∷◌}
use Rattle.ga_stacks.specs.Ring.{StackRing}
use Rattle.ga_stacks.specs.declared.place.StackPlace.TheVariants.{Pointer, Top, Second}
use Rattle.ga_node.specs.Record.{NodeState}
use Rattle.ga_node.proofs.Saving.{saves_data}
use Rattle.ga_node.proofs.node.Node.pop_data.Goals as goal

pub returns-clause-saves : goal.returns-clause-saves
returns-clause-saves c =
    saves_data _ _ _ _ _ (λ (ring : StackRing). Pointer ∷ Second ∷ Top ∷ []) _ _ c.save_data.ensures (ap (λ (n : NodeState). n.data_stack) c.self.view_is) c.pop.ensures.overwritten refl (rw c.pop.ensures.state_after_undo c.self.view_is) c.pop.ensures.fit
