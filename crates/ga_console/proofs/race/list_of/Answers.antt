use Rattle.std.proofs.Common.{◌∷◌, ◌++◌, [], ap, ◌∙◌, sym}
use Rattle.ga_grid.specs.Grid.{node_id}
use Rattle.ga_grid.proofs.NodeIds.{node_id-number}
use Rattle.ga_shared.specs.declared.call.Call.TheVariants.{Step}
use Rattle.ga_console.specs.Race.{worker_calls}
use Rattle.ga_console.proofs.Races.{worker_calls-push}
use Rattle.ga_console.proofs.race.list_of.Goals as goal

pub loop-call-preserved : goal.loop-call-preserved
loop-call-preserved c =
    let node = sym (node_id-number c.new-node.result) ∙ ap node_id c.new-node.ensures in
    c.in_ok-push.ensures.items ∙ ap (λ l. l ++ Step c.new-node.result ∷ []) c.loop-call.invariant ∙ ap (λ n. worker_calls c.args.worker c.loop-call._call ++ Step n ∷ []) node ∙ worker_calls-push c.args.worker c.loop-call._call
