use Rattle.std.proofs.Common.{◌<◌, length, length-set, set, false, refl, ap, ◌∙◌, arith}
use Rattle.ga_grid.specs.Chip.{records_of_chip}
use Rattle.ga_causal.specs.Dependence.{is_node_flagged}
use Rattle.ga_races.proofs.Freeing.{how_many, one_less}
use Rattle.ga_explorer_text.proofs.Ending.{none_ended, one_more_ended, closed_last}
use Rattle.ga_explorer_text.proofs.ended.find_live_nodes.Goals as goal

pub ending-init : goal.ending-init
ending-init c = record { size = refl; least = λ others closed n l h. absurd (none_ended n l h) }

pub ending-preserved : goal.ending-preserved
ending-preserved c = record {
  size = length-set c.ending.live c.index.result _ ∙ c.ending.invariant.size;
  least = λ others closed. one_more_ended (records_of_chip c.args.chip.now) c.ending.live c.index.result c.in-Some.node.number others c.ending.invariant.size c.index.ensures.value
      (omega (arith, c.index.ensures.value, c.index.ensures.in_range)) c.in-Some.ensures.ended closed (c.ending.invariant.least others closed);
}

pub ending-smaller : goal.ending-smaller
ending-smaller c =
    let l : c.index.result < length c.ending.live = omega (arith, c.index.ensures.in_range, c.ending.invariant.size) in
    let k = one_less c.ending.live c.index.result l (ap (is_node_flagged c.ending.live) c.index.ensures.value ∙ c.in-Some.ensures.live) in
    let q : how_many (set c.ending.live c.index.result false) < how_many c.ending.live = omega (arith, k) in q

pub returns-clause-ended : goal.returns-clause-ended
returns-clause-ended c = record {
  closed = closed_last (records_of_chip c.args.chip.now) c.ending.live c.in_default.ensures.none;
  least = c.ending.invariant.least;
}
