use Rattle.serde_json.specs.View.{view}
use Rattle.ga_dap_queries.proofs.Asking.{asks_frame}
use Rattle.ga_dap_queries.proofs.arguments.frame_argument.Goals as goal

pub returns-in-Some : goal.returns-in-Some
returns-in-Some c = asks_frame (view c.args.arguments.now) c.in-Some.frame c.node_framed.result c.in-Some.ensures c.node_framed.ensures.found c.node_framed.ensures.none
