use Rattle.std.proofs.Common.{◌∙◌, ap}
use Rattle.ga_event.specs.inner.{flow_of_trace}
use Rattle.ga_event.proofs.Following.{take_found}
use Rattle.ga_event.proofs.flow.flows.flow_after_take.Goals as goal

pub returns-clause-value : goal.returns-clause-value
returns-clause-value c = c.settle.ensures.value ∙ ap flow_of_trace c.before_take.ensures.value ∙ take_found c.args.wait c.args.part
