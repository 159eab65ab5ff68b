use Rattle.ga_causal.specs.Dependence.{is_node_flagged}
use Rattle.ga_picture.specs.inner.{picture_facts_of_events}
use Rattle.ga_picture.proofs.Listed.{items_held}
use Rattle.ga_picture.proofs.view.listed_between.Goals as goal

pub returns : goal.returns
returns c = λ ready h.
    let held = items_held (picture_facts_of_events c.args.facts ready) c.args.view c.args.from c.args.to in
    let a = c.tally_of-tally.ensures ready h in
    record {
      alone = is_node_flagged c.independent_nodes-alone.result;
      are_alone = c.independent_nodes-alone.ensures _ a held;
      tells = c.in_ok-independent_nodes.ensures _ a;
      are = c.in_ok-items.ensures ready h;
    }
