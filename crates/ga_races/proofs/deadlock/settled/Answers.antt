use Rattle.std.proofs.Common.{◌<◌, length, length-set, set, false, ap, ◌∙◌, arith}
use Rattle.ga_grid.specs.Chip.{records_of_chip}
use Rattle.ga_causal.specs.Dependence.{is_node_flagged}
use Rattle.ga_races.proofs.Freeing.{how_many, one_less, struck, struck_within, marked_within}
use Rattle.ga_races.proofs.deadlock.settled.Goals as goal

pub freeing-preserved : goal.freeing-preserved
freeing-preserved c = record {
  size = length-set c.freeing.marks c.index.result _ ∙ c.freeing.invariant.size;
  fewer = λ n l h. c.freeing.invariant.fewer n l (struck_within c.freeing.marks c.index.result n h (omega (arith, c.index.ensures.in_range, c.freeing.invariant.size)));
  greatest = λ others s w. struck (records_of_chip c.args.chip.now) c.freeing.marks c.index.result c.in-Some.node.number others c.index.ensures.value c.in-Some.ensures.freed s (c.freeing.invariant.greatest others s w);
}

pub freeing-smaller : goal.freeing-smaller
freeing-smaller c =
    let l : c.index.result < length c.freeing.marks = omega (arith, c.index.ensures.in_range, c.freeing.invariant.size) in
    let k = one_less c.freeing.marks c.index.result l (ap (is_node_flagged c.freeing.marks) c.index.ensures.value ∙ c.in-Some.ensures.marked_nodes) in
    let q : how_many (set c.freeing.marks c.index.result false) < how_many c.freeing.marks = omega (arith, k) in q

pub returns-clause-settled : goal.returns-clause-settled
returns-clause-settled c = λ n h. c.in_default.ensures.none n (marked_within c.freeing.marks n c.freeing.invariant.size h) h
