use Rattle.std.proofs.Common.{◌++◌, refl}
use Rattle.ga_causal.specs.Dependence.{is_node_flagged}
use Rattle.ga_dap_queries.proofs.Sent.{ok_then, sent_both}
use Rattle.ga_dap_control.specs.Configuring.{response_and_thread_messages}
use Rattle.ga_dap_control.proofs.configuring.configure_once.Goals as goal

pub returns-clause-sent : goal.returns-clause-sent
returns-clause-sent c = ok_then c.begin_so.result c.begin_so.ensures.sent
    (λ sent. (
      response_and_thread_messages c.args.request.now (is_node_flagged c.shown_of-now.result) ++ sent.0,
      (is_node_flagged c.shown_of-now.result, sent.0, c.shown_of-now.ensures, sent.1, refl),
      sent_both c.args.out.now (response_and_thread_messages c.args.request.now (is_node_flagged c.shown_of-now.result)) c.tell_threads_started.new.out sent.0 c.begin_so.new.out
          c.in_ok-tell_threads_started.ensures sent.2,
    ))
