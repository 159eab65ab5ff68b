use Rattle.std.proofs.Common.{◌≡◌, ◌+◌, ◌-◌, ◌<◌, length, ap, sym, ◌∙◌, subst, set, arith}
use Rattle.std.proofs.lemmas.List.{get_or_default, length-replicate}
use Rattle.ga_picture.specs.Items.{picture_item_at_index, default_picture_item, IsOwnEventIfPlain}
use Rattle.ga_picture.specs.inner.{run_length_in_shade}
use Rattle.ga_picture.proofs.Running.{AreBehind, behind_first, behind_more}
use Rattle.ga_picture.proofs.runs.runs_behind.Goals as goal

pub items-init : goal.items-init
items-init c =
    let none : length c.args.items.now ≡ length c.args.items.now - 0 = omega arith in
    subst (λ z. AreBehind c.args.items.now z c.in_ok-counts.counts.items c.new-runs.result) none
    (behind_first c.args.items.now c.in_ok-counts.counts.items c.new-runs.result
    (ap length (c.in_ok-counts.ensures.items_if_clones_equal (λ y h. h)) ∙ length-replicate (length c.args.items.now) 0) c.new-runs.ensures.sizes c.new-runs.ensures.none)

pub pass-requires-clause-few : goal.pass-requires-clause-few
pass-requires-clause-few c = λ n. omega (arith, c.items.invariant.within n)

pub pass-requires-clause-simple : goal.pass-requires-clause-simple
pass-requires-clause-simple c =
    let at = length c.args.items.now - 1 - c.items.back in
    let within : at < length c.args.items.now = omega arith in
    subst IsOwnEventIfPlain (sym c.index-items-at.is) (c.requires.simple at c.index-items-at.result within)

pub items-preserved : goal.items-preserved
items-preserved c =
    let items = c.args.items.now in
    let at = length items - 1 - c.items.back in
    let item = c.index-items-at.result in
    let next : length items - c.items.back ≡ at + 1 = omega arith in
    let down : at ≡ length items - (c.items.back + 1) = omega arith in
    let within : at < length items = omega arith in
    let before = subst (λ z. AreBehind items z c.items.counts.items c.items.runs) next c.items.invariant in
    let here : picture_item_at_index items at ≡ item = get_or_default items at default_picture_item item within ∙ sym c.index-items-at.is in
    subst (λ z. AreBehind items z (set c.items.counts.items at c.count.result) c.pass.new.self) down
    (behind_more items at c.items.counts.items c.items.runs c.pass.new.self item c.count.result within before here
    (c.count.ensures ∙ ap (λ z. run_length_in_shade c.items.runs z item.shade) c.acting_node_of_event.ensures) (subst (λ z. z < 144) c.acting_node_of_event.ensures c.acting_node_of_event.result.in_range) c.pass.ensures.sizes
    (λ n. omega (arith, c.pass.ensures.within (length items - (at + 1)) before.within n)) c.pass.ensures.counts)

pub returns-clause-exact : goal.returns-clause-exact
returns-clause-exact c = λ place k. c.items.invariant.done place (omega arith) k
