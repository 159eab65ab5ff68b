use Rattle.std.proofs.Common.{◌≡◌, ◌+◌, ◌-◌, ◌<◌, length, ap, sym, ◌∙◌, subst, set, false, arith}
use Rattle.std.proofs.lemmas.List.{get_or_default, length-replicate}
use Rattle.ga_causal.specs.Dependence.{is_node_flagged, event_at, default_event_with_look}
use Rattle.ga_picture.proofs.Listed.{ArePlain, plain_none, plain_more}
use Rattle.ga_picture.proofs.item.plain_events.Goals as goal

pub events-init : goal.events-init
events-init c =
    let events = c.args.events.now in
    let none : length events ≡ length events - 0 = omega arith in
    subst (λ z. ArePlain (is_node_flagged c.args.ready) events z c.in_ok-flags.flags.items (is_node_flagged c.args.ready)) none
    (plain_none (is_node_flagged c.args.ready) events c.in_ok-flags.flags.items
    (ap length (c.in_ok-flags.ensures.items_if_clones_equal (λ y h. h)) ∙ length-replicate (length events) false))

pub events-preserved : goal.events-preserved
events-preserved c =
    let events = c.args.events.now in
    let at = length events - 1 - c.events.back in
    let e = c.index-events-at.result in
    let next : length events - c.events.back ≡ at + 1 = omega arith in
    let down : at ≡ length events - (c.events.back + 1) = omega arith in
    let within : at < length events = omega arith in
    let before = subst (λ z. ArePlain (is_node_flagged c.args.ready) events z c.events.flags.items (is_node_flagged c.events.runs)) next c.events.invariant in
    let here : event_at events at ≡ e = get_or_default events at default_event_with_look e within ∙ sym c.index-events-at.is in
    subst (λ z. ArePlain (is_node_flagged c.args.ready) events z (set c.events.flags.items at c.is_plain_event.result) (is_node_flagged c.go_back.new.runs)) down
    (plain_more (is_node_flagged c.args.ready) events at c.events.flags.items (is_node_flagged c.events.runs) (is_node_flagged c.go_back.new.runs) e c.is_plain_event.result within before here
    c.is_plain_event.ensures c.go_back.ensures)

pub returns-clause-exact : goal.returns-clause-exact
returns-clause-exact c = λ place k. c.events.invariant.done place (omega arith) k
