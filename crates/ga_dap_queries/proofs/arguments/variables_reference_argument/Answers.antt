use Rattle.serde_json.specs.View.{view}
use Rattle.ga_dap_queries.proofs.Asking.{asks_variables}
use Rattle.ga_dap_queries.proofs.arguments.variables_reference_argument.Goals as goal

pub returns-in-Some : goal.returns-in-Some
returns-in-Some c = asks_variables (view c.args.arguments.now) c.in-Some.reference c.resolve_variables_reference.result c.in-Some.ensures c.resolve_variables_reference.ensures.found c.resolve_variables_reference.ensures.none
