use Rattle.std.proofs.Common.{◌≡◌, ◌∙◌, ℕ, Option, ap}
use Rattle.std.specs.List.{slice_get}
use Rattle.ga_node.specs.Record.{NodeRecord, record_of_node}
use Rattle.ga_event.specs.declared.made.MadeEvent.{MadeEvent}
use Rattle.ga_lab.specs.Machine.{NodeAtStep, node_at_step, history_of_node}
use Rattle.ga_provenance.specs.Origins.{node_after_steps}
use Rattle.ga_dap_breakpoints.specs.Reversing.{is_event_storing_in_cell}
use Rattle.ga_dap_breakpoints.proofs.Reversals.{stands_so}
use Rattle.ga_dap_breakpoints.proofs.reversing.has_stored.Goals as goal

pub returns-clause-stored : goal.returns-clause-stored
returns-clause-stored c =
    let s = c.args.lab.now in
    let node = c.args.node in
    let place : ℕ = c.args.place in
    let at : c.walk_back_to.new.self ≡ node_at_step s node place = c.walk_back_to.ensures ∙ ap (λ (z : NodeAtStep). record z { step = place }) c.requires.walk in
    let there : record_of_node c.node.result.now ≡ node_after_steps s node.number place =
    stands_so s node c.walk_back_to.new.self place c.step-reached.result (record_of_node c.node.result.now) at c.step-reached.ensures.value c.step-reached.ensures.within c.node.ensures in
    c.is_event_storing_in_cell.ensures
    ∙ ap (λ (z : NodeRecord). is_event_storing_in_cell c.args.cell z c.made_event_of_step.result) there
    ∙ ap (λ (z : Option MadeEvent). is_event_storing_in_cell c.args.cell (node_after_steps s node.number place) z)
    (c.made_event_of_step.ensures ∙ ap (slice_get (history_of_node s node.number)) (c.step-reached.ensures.value ∙ ap (λ (z : NodeAtStep). z.step) at))
