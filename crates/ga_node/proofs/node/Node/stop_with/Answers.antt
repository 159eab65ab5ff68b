use Rattle.std.proofs.Common.{refl, [], ◌∷◌, arith, rules}
use Rattle.ga_node.specs.Changes.{SetStop}
use Rattle.ga_node.proofs.Saving.{saves_one, made}
use Rattle.ga_node.proofs.Restoring.{stop_back, no_stop, record_stops}
use Rattle.ga_node.proofs.node.Node.stop_with.Goals as goal

pub returns-clause-made : goal.returns-clause-made
returns-clause-made c =
    made {changes = SetStop c.args.code ∷ []} {old = c.args.self.now} c.requires.empty (saves_one (SetStop c.args.code) c.args.self.now _ _ _ _ _ c.add.ensures refl (no_stop _ c.requires.running.1) (stop_back _ _ c.self.view_is c.requires.running.1) (let fits = c.requires.in_range in omega arith)) refl (search rules) (record_stops _ _ _ c.self.view_is)
