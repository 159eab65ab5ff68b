use Rattle.std.proofs.Common.{◌≡◌, ◌<◌, false, length, get_or, ap, sym, ◌∙◌, arith}
use Rattle.std.proofs.lemmas.List.{get_or_default}
use Rattle.ga_causal.specs.Dependence.{is_node_flagged, event_at, default_event_with_look}
use Rattle.ga_event.specs.declared.event.EventWithLook.{EventWithLook}
use Rattle.ga_picture.specs.declared.shade.Shade.TheVariants.{Black}
use Rattle.ga_picture.specs.Items.{acting_node_of_event}
use Rattle.ga_picture.proofs.Listed.{item_same}
use Rattle.ga_picture.proofs.item.picture_item_at.Goals as goal

pub returns : goal.returns
returns c = λ ready h.
    let events = c.args.facts.events.now in
    let place = c.args.place in
    let idle = is_node_flagged c.args.facts.idle.now in
    let e = c.index-facts-place.result in
    let within : place < length events = c.requires.within in
    let coloured : place < length c.args.facts.shades.now = let size : length c.args.facts.shades.now ≡ length events = c.requires.shades in omega arith in
    let flagged : place < length c.args.facts.plain.now = let size : length c.args.facts.plain.now ≡ length events = c.requires.plain in omega arith in
    let there : event_at events place ≡ get_or events place e = get_or_default events place default_event_with_look e within in
    c.picture_item.ensures ∙ item_same c.args.view _ _ _ _ _ _ _ _ _ _ (sym there) (get_or_default c.args.facts.shades.now place _ Black coloured)
    (get_or_default c.args.facts.plain.now place _ false flagged ∙ h) c.is_named-named.ensures
    (c.has-silent.ensures ∙ ap idle c.acting_node_of_event.ensures ∙ ap (λ (z : EventWithLook). idle (acting_node_of_event z.event)) (sym there))
