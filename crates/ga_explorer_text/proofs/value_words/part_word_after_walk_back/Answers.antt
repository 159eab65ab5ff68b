use Rattle.std.proofs.Common.{◌≡◌, ◌<◌, ◌^◌, ap, ◌∙◌, arith}
use Rattle.ga_node.specs.Record.{NodeRecord, record_of_node}
use Rattle.ga_event.specs.Flow.{node_part_value}
use Rattle.ga_provenance.proofs.Made.{stood_of}
use Rattle.ga_explorer_text.proofs.value_words.part_word_after_walk_back.Goals as goal

pub returns : goal.returns
returns c =
    let fits : c.part_word.result < 2 ^ 18 = c.part_word.ensures.fits in
    let same : c.from_low_bits.result ≡ c.part_word.result = omega (arith, c.from_low_bits.ensures, fits) in
    same
    ∙ c.part_word.ensures.value
    ∙ ap (λ (n : NodeRecord). node_part_value 0 n c.args.part) (stood_of c.args.lab.now c.args.node c.args.walk.now c.args.place (record_of_node c.node.result.now) c.requires.walk c.requires.within c.node.ensures)
