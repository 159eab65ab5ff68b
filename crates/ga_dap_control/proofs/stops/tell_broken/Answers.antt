use Rattle.std.proofs.Common.{◌≡◌, ◌∙◌, codes, subst}
use Rattle.ga_text.specs.Lines.{Text}
use Rattle.ga_dap_queries.specs.Sending.{SendsMessage}
use Rattle.ga_dap_queries.proofs.Sent.{ok_then}
use Rattle.ga_dap_control.specs.Stopping.{broken_expectation_text, stopped_message}
use Rattle.ga_dap_control.proofs.stops.tell_broken.Goals as goal

pub returns-clause-sent : goal.returns-clause-sent
returns-clause-sent c =
    let text : c.as_str.result.now ≡ broken_expectation_text c.args.line = c.as_str.ensures.value ∙ c.in_ok-text.ensures in
    ok_then c.emit_stopped_event.result c.emit_stopped_event.ensures.sent
    (λ sent. subst (λ (z : Text). SendsMessage c.args.out.now (stopped_message (codes "exception") z c.args.node.number) c.emit_stopped_event.new.out) text sent)
