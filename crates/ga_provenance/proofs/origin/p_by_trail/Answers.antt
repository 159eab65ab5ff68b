use Rattle.std.proofs.Common.{◌≡◌, ap, sym, ◌∙◌}
use Rattle.ga_node.specs.Record.{NodeRecord, record_of_node}
use Rattle.ga_lab.specs.Machine.{NodeAtStep, node_at_step}
use Rattle.ga_provenance.proofs.Made.{stood_of}
use Rattle.ga_provenance.proofs.origin.p_by_trail.Goals as goal

pub returns : goal.returns
returns c =
    let s = c.args.lab.now in
    let node = c.args.node in
    let back : c.walk.result.now ≡ node_at_step s node c.args.place = c.walk.ensures ∙ c.walk_back_to.ensures ∙ ap (λ (z : NodeAtStep). record z { step = c.args.place }) c.requires.trail.stands in
    sym (c.p_of.ensures ∙ ap (λ (z : NodeRecord). z.p) (stood_of s node c.walk.result.now c.args.place (record_of_node c.node.result.now) back c.requires.within c.node.ensures))
