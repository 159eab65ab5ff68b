use Rattle.std.proofs.Common.{false, get_or, length, ap, ◌∙◌}
use Rattle.std.specs.Prelude.{min}
use Rattle.std.proofs.lemmas.Result.{IfOk-weaker}
use Rattle.ga_causal.specs.Dependence.{is_node_flagged}
use Rattle.ga_picture.proofs.Listed.{items_drawn}
use Rattle.ga_picture.proofs.view.picture_items.Goals as goal

pub listed_between-requires : goal.listed_between-requires
listed_between-requires c = record {
  order = c.span-from.ensures.order;
  within = c.span-from.ensures.within;
  few = c.requires;
  shades = ap length c.as_slice.ensures.value ∙ c.in_ok-shades.ensures.size;
  plain = ap length c.as_slice-2.ensures.value ∙ c.in_ok-plain.ensures.size;
}

pub returns : goal.returns
returns c =
    let events = c.args.events.now in
    let view = c.args.view in
    IfOk-weaker c.listed_between.result _ _
    (λ listed e. items_drawn events (is_node_flagged c.args.ready) (is_node_flagged c.args.idle.now) view c.in_ok-shades.shades.items c.as_slice.result.now c.place-cause.result c.place-rewind.result
    c.span-from.result.0 c.span-from.result.1 listed.items.items listed.independent_nodes.items c.in_ok-shades.ensures c.as_slice.ensures.value c.place-cause.ensures.value
    c.place-rewind.ensures.value (c.span-from.ensures.start ∙ ap (λ z. min z view.from) c.span-from.ensures.end) c.span-from.ensures.end e)
    (c.listed_between.ensures (is_node_flagged c.args.ready)
    (λ place l. ap (λ z. get_or z place false) c.as_slice-2.ensures.value ∙ c.in_ok-plain.ensures.exact place l))
