use Rattle.ga_causal.specs.Dependence.{is_node_flagged}
use Rattle.ga_dap_queries.specs.Sending.{SendsMessages}
use Rattle.ga_dap_queries.specs.Events.{thread_change_messages_below}
use Rattle.ga_dap_queries.proofs.telling.emit_thread_changes.Given as goal

abbrev pub invariant-nodes : goal.invariant-nodes
invariant-nodes l = SendsMessages l.initial.out (thread_change_messages_below (is_node_flagged l.before) (is_node_flagged l.now) l.number) l.out
