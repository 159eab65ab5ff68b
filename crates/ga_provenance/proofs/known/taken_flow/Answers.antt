use Rattle.std.proofs.Common.{ap, sym, ◌∙◌}
use Rattle.ga_node.specs.declared.place.NodePlace.TheVariants as place
use Rattle.ga_node.specs.declared.wait.Wait.{Wait}
use Rattle.ga_event.specs.Flow.{flow_after_take}
use Rattle.ga_provenance.proofs.Resting.{held_old}
use Rattle.ga_provenance.proofs.known.taken_flow.Goals as goal

pub returns-clause-value : goal.returns-clause-value
returns-clause-value c =
    let code = c.in_ok-overwritten_value.field-0 in
    let held = held_old c.args.lab.now c.args.node.number c.args.place code place.Wait c.in_ok-overwritten_value.ensures.within c.in_ok-overwritten_value.ensures.value in
    c.flow_after_take.ensures.value ∙ ap (λ (w : Wait). flow_after_take w c.args.part) (c.in_ok-wait.ensures ∙ sym held)
