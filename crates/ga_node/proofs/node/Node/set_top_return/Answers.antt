use Rattle.std.proofs.Common.{refl, ap, [], ◌∷◌}
use Rattle.ga_stacks.specs.Ring.{StackRing}
use Rattle.ga_stacks.specs.declared.place.StackPlace.TheVariants.{Top}
use Rattle.ga_node.specs.Record.{NodeState}
use Rattle.ga_node.proofs.Saving.{saves_return}
use Rattle.ga_node.proofs.node.Node.set_top_return.Goals as goal

pub returns-clause-saves : goal.returns-clause-saves
returns-clause-saves c =
    saves_return _ _ _ _ _ (λ (ring : StackRing). Top ∷ []) _ _ c.save_return.ensures (ap (λ (n : NodeState). n.return_stack) c.self.view_is) c.replace_top.ensures.overwritten refl (rw c.replace_top.ensures.state_after_undo c.self.view_is) c.replace_top.ensures.fit
