use Rattle.std.proofs.Common.{refl, ap}
use Rattle.ga_node.specs.Record.{NodeState}
use Rattle.ga_node.proofs.Saving.{saves_one}
use Rattle.ga_node.proofs.node.Node.go_on_seventh.Goals as goal

pub returns-clause-saves : goal.returns-clause-saves
returns-clause-saves c = saves_one _ _ _ _ _ _ _ c.push.ensures refl (ap (λ (n : NodeState). n.slot) c.self.view_is) c.self.view_is c.self.invariant.2
