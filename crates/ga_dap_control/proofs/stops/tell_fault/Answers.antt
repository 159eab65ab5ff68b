use Rattle.std.proofs.Common.{◌≡◌, ◌∙◌, ◌++◌, Some, codes, ap, subst}
use Rattle.serde_json.specs.View.{view}
use Rattle.ga_text.specs.Lines.{Text}
use Rattle.ga_lab.specs.Machine.{chip_of_machine}
use Rattle.ga_dap_views.specs.Activity.{node_name_and_activity_text}
use Rattle.ga_dap_protocol.specs.Messages.{member_as_text}
use Rattle.ga_dap_queries.specs.Sending.{SendsMessage}
use Rattle.ga_dap_queries.proofs.Sent.{ok_then}
use Rattle.ga_dap_control.specs.Stopping.{stopped_message}
use Rattle.ga_dap_control.proofs.Described.{described}
use Rattle.ga_dap_control.proofs.stops.tell_fault.Goals as goal

pub returns-clause-sent : goal.returns-clause-sent
returns-clause-sent c =
    let does : Text = codes "node " ++ node_name_and_activity_text (chip_of_machine c.args.program.now.lab) c.args.node.number in
    let told : member_as_text (codes "description") (view c.in_ok-info.info) ≡ Some does = ap (member_as_text (codes "description")) c.in_ok-info.ensures ∙ described _ does in
    let text : c.as_str.result.now ≡ does ++ c.args.behind.now = c.as_str.ensures.value ∙ c.in_ok-text.ensures does told in
    ok_then c.emit_stopped_event.result c.emit_stopped_event.ensures.sent
    (λ sent. subst (λ (z : Text). SendsMessage c.args.out.now (stopped_message (codes "exception") z c.args.node.number) c.emit_stopped_event.new.out) text sent)
