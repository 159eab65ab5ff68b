use Rattle.ga_node.proofs.Saving.{saves_from, saves_leave}
use Rattle.ga_node.proofs.node.Node.leave.Goals as goal

pub returns-clause-saves : goal.returns-clause-saves
returns-clause-saves c = saves_from c.self.view_is (saves_leave _ c.args.p _ _ _ c.add.ensures c.add-2.ensures c.self.invariant.1 c.self.invariant.2)
