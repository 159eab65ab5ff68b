use Rattle.std.proofs.Common.{Some, ap, sym, ◌∙◌}
use Rattle.ga_provenance.proofs.Ran.{due_told}
use Rattle.ga_provenance.proofs.known.known_flow.Goals as goal

pub own_flow_at-requires-clause-due : goal.own_flow_at-requires-clause-due
own_flow_at-requires-clause-due c =
    let own = c.in-Own in
    due_told c.args.lab.now c.args.node.number c.args.place own.step own.node own.kind c.in_ok-due_by-in-Own.field-0
    (sym c.in_ok-kind.ensures ∙ ap Some own.is) c.in_ok-due_by-in-Own.ensures
