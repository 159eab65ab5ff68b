use Rattle.std.proofs.Common.{ap, ◌∙◌}
use Rattle.ga_node.specs.Record.{NodeRecord, record_of_node}
use Rattle.ga_provenance.proofs.Made.{stood_of}
use Rattle.ga_explorer_text.proofs.source_suffix.slot_after_walk_back.Goals as goal

pub returns : goal.returns
returns c =
    c.slot_of.ensures
    ∙ ap (λ (n : NodeRecord). n.slot) (stood_of c.args.lab.now c.args.node c.args.walk.now c.args.place (record_of_node c.node.result.now) c.requires.walk c.requires.within c.node.ensures)
