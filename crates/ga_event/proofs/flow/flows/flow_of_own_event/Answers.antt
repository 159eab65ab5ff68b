use Rattle.std.proofs.Common.{◌∙◌}
use Rattle.ga_node.specs.Record.{record_of_node}
use Rattle.ga_event.proofs.Following.{own_found}
use Rattle.ga_event.proofs.flow.flows.flow_of_own_event.Goals as goal

pub returns-clause-value : goal.returns-clause-value
returns-clause-value c =
    c.flow_by_test_or_target.ensures.value
    ∙ own_found c.next_action_of_running_node-due.result c.choice_of.result (record_of_node c.args.node.now) c.args.part c.next_action_of_running_node-due.ensures c.choice_of.ensures.value
