use Rattle.std.proofs.Common.{◌∙◌, ap}
use Rattle.ga_event.specs.inner.{flow_of_trace}
use Rattle.ga_event.proofs.Following.{where_found}
use Rattle.ga_event.proofs.flow.flows.flow_by_test_or_target.Goals as goal

pub returns-clause-value : goal.returns-clause-value
returns-clause-value c = c.settle.ensures.value ∙ ap flow_of_trace c.before_due.ensures.value ∙ where_found c.args.due c.args.choice c.args.part
