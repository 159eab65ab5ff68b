use Rattle.std.proofs.Common.{false, replicate, subst}
use Rattle.ga_causal.specs.Dependence.{is_node_flagged}
use Rattle.ga_causal.proofs.OldestEventPlaces.{none_marked}
use Rattle.ga_dap_queries.specs.Sending.{Messages, SendsMessages}
use Rattle.ga_dap_queries.proofs.Sent.{ok_then}
use Rattle.ga_dap_control.proofs.Answered.{changed_alike}
use Rattle.ga_dap_control.proofs.configuring.tell_threads_started.Goals as goal

pub returns : goal.returns
returns c = ok_then c.emit_thread_changes.result c.emit_thread_changes.ensures
    (λ sent. (
      c.acknowledge.new.self,
      c.in_ok-acknowledge.ensures.sent,
      subst (λ (z : Messages). SendsMessages c.acknowledge.new.self z c.emit_thread_changes.new.out)
          (changed_alike (is_node_flagged (replicate 144 false)) (λ n. false) (is_node_flagged c.args.now.now) (none_marked 144) 144) sent,
    ))
