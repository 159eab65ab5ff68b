use Rattle.std.proofs.Common.{◌≡◌, ◌+◌, sym, ap, ◌∙◌, arith}
use Rattle.ga_node.specs.Record.{NodeRecord, record_of_node}
use Rattle.ga_lab.specs.Machine.{NodeAtStep, node_at_step}
use Rattle.ga_event.specs.Flow.{node_part_value}
use Rattle.ga_provenance.proofs.Made.{stood_of}
use Rattle.ga_provenance.proofs.Decided.{own_so}
use Rattle.ga_provenance.proofs.deciding.own_decision.Goals as goal

pub returns-clause-value : goal.returns-clause-value
returns-clause-value c =
    let s = c.args.lab.now in
    let node = c.args.node in
    let k = c.args.place in
    let at = c.args.part in
    let back : c.walk.result.now ≡ node_at_step s node k = c.walk.ensures ∙ c.walk_back_to.ensures ∙ ap (λ (z : NodeAtStep). record z { step = k }) c.requires.trail.stands in
    let stood = stood_of s node c.walk.result.now k (record_of_node c.node.result.now) back (omega (arith, c.requires.within)) c.node.ensures in
    let word : c.from_low_bits-word.result ≡ c.word_in.result = omega (arith, c.from_low_bits-word.ensures, c.word_in.ensures.fits) in
    own_so s node k (k + 1) c.from_low_bits-word.result c.args.made c.args.kind at c.source_of.result c.requires.told (sym c.requires.tested) (omega arith)
    (word ∙ c.word_in.ensures.value ∙ ap (λ (n : NodeRecord). node_part_value 0 n at) stood) c.source_of.ensures
