use Rattle.std.proofs.Common.{◌≡◌, ◌+◌, ◌<◌, ◌↔◌, IsTrue, false, slice_index_or, length, sym, ◌∙◌, subst, arith}
use Rattle.std.proofs.lemmas.List.{get_or_default}
use Rattle.ga_picture.specs.Drawing.{IsRemovedByRollback, IsCauseOfStep}
use Rattle.ga_picture.proofs.Shaded.{AreSome, is_shade, shades_none, shades_more}
use Rattle.ga_picture.proofs.shade.find_event_shades.Goals as goal

pub events-init : goal.events-init
events-init c =
    subst (λ z. AreSome c.args.events.now c.args.cause c.args.rewind 0 z) (sym c.in_ok-shades.ensures.items) (shades_none c.args.events.now c.args.cause c.args.rewind)

pub events-preserved : goal.events-preserved
events-preserved c =
    let here : c.events.place < length c.args.events.now = c.events-test.true in
    let many : length c.in_ok-goes.goes.items ≡ length c.args.events.now = c.in_ok-goes.ensures.size in
    let others : length c.in_ok-leads.leads.items ≡ length c.args.events.now = c.in_ok-leads.ensures.size in
    let goes : slice_index_or c.in_ok-goes.goes.items c.events.place false ≡ c.index.result.now = get_or_default c.in_ok-goes.goes.items c.events.place false c.index.result.now (omega arith) ∙ sym c.index.ensures in
    let leads : slice_index_or c.in_ok-leads.leads.items c.events.place false ≡ c.index-in-events.result.now = get_or_default c.in_ok-leads.leads.items c.events.place false c.index-in-events.result.now (omega arith) ∙ sym c.index-in-events.ensures in
    subst (λ z. AreSome c.args.events.now c.args.cause c.args.rewind (c.events.place + 1) z) (sym c.in_ok-push.ensures.items)
    (shades_more c.args.events.now c.args.cause c.args.rewind c.events.place c.events.shades.items c.shade_for.result c.events.invariant
    (is_shade c.args.events.now c.args.cause c.args.rewind c.events.place c.index.result.now c.index-in-events.result.now c.shade_for.result
    (subst (λ z. IsTrue z ↔ IsRemovedByRollback c.args.events.now c.args.rewind c.events.place) goes (c.in_ok-goes.ensures.exact c.events.place here))
    (subst (λ z. IsTrue z ↔ IsCauseOfStep c.args.events.now c.args.cause c.events.place) leads (c.in_ok-leads.ensures.exact c.events.place here))
    c.shade_for.ensures.red c.shade_for.ensures.black c.shade_for.ensures.grey))

pub returns : goal.returns
returns c =
    let all : c.events.place ≡ length c.args.events.now = omega arith in
    record { size = c.events.invariant.count ∙ all; exact = c.events.invariant.exact }
