use Rattle.std.proofs.Common.{refl, [], ◌∷◌, inl, rules}
use Rattle.ga_node.specs.Changes.{SetWait}
use Rattle.ga_node.proofs.Saving.{saves_one, made}
use Rattle.ga_node.proofs.Restoring.{wait_back, no_wait, record_waits}
use Rattle.ga_node.proofs.node.Node.wait_for.Goals as goal

pub returns-clause-made : goal.returns-clause-made
returns-clause-made c =
    made {changes = SetWait c.args.wait ∷ []} {old = c.args.self.now} c.requires.empty (saves_one (SetWait c.args.wait) c.args.self.now _ _ _ _ _ c.add.ensures refl (no_wait _ c.requires.running.0) (wait_back _ _ c.self.view_is c.requires.running.0) (inl refl)) refl (search rules) (record_waits _ _ _ c.self.view_is)
