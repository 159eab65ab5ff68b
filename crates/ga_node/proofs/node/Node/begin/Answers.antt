use Rattle.std.proofs.Common.{◌++◌, ◌∷◌, [], ◌∙◌, ap, subst}
use Rattle.ga_node.specs.declared.place.NodePlace.TheVariants.{I}
use Rattle.ga_node.specs.State.{IsPlaceValueInRange}
use Rattle.ga_node.proofs.Saving.{saves_from, saves_begin}
use Rattle.ga_node.proofs.node.Node.begin.Goals as goal

pub returns-clause-saves : goal.returns-clause-saves
returns-clause-saves c = saves_from c.self.view_is
    (saves_begin _ c.args.i c.args.p _ _ _ _ (c.add.ensures ∙ ap (λ v. c.args.saved.now ++ (I, v) ∷ []) c.get.ensures.value) c.add-2.ensures c.add-3.ensures
    (subst (λ v. IsPlaceValueInRange I v) c.get.ensures.value c.get.ensures.in_range) c.self.invariant.1 c.self.invariant.2)
