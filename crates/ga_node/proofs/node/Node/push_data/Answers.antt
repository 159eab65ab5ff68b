use Rattle.std.proofs.Common.{refl, ap, [], ◌∷◌, ◌+◌, ◌%◌}
use Rattle.ga_stacks.specs.Ring.{StackRing}
use Rattle.ga_stacks.specs.declared.place.StackPlace.TheVariants.{Pointer, Top, Second, Cell}
use Rattle.ga_node.specs.Record.{NodeState}
use Rattle.ga_node.proofs.Saving.{saves_data}
use Rattle.ga_node.proofs.node.Node.push_data.Goals as goal

pub returns-clause-saves : goal.returns-clause-saves
returns-clause-saves c =
    saves_data _ _ _ _ _ (λ (ring : StackRing). Pointer ∷ Cell ((ring.pointer + 7) % 8) ∷ Second ∷ Top ∷ []) _ _ c.save_data.ensures (ap (λ (n : NodeState). n.data_stack) c.self.view_is) c.push.ensures.overwritten refl (rw c.push.ensures.state_after_undo c.self.view_is) c.push.ensures.fit
