use Rattle.std.proofs.Common.{refl, ◌∙◌, ap, arith}
use Rattle.ga_word.proofs.HexText.{on_ok}
use Rattle.ga_source.specs.declared.packing.Packer.{Packer}
use Rattle.ga_source.proofs.CellGroups.{added_cell}
use Rattle.ga_source.proofs.Laying.{behind-same}
use Rattle.ga_source.proofs.Walking.{added_open, added_closed}
use Rattle.ga_source.proofs.Grouped.{put_open, put_closed}
use Rattle.ga_source.proofs.packing.Packer.add.Goals as goal

pub returns-then-next-eq0-clause-walked : goal.returns-then-next-eq0-clause-walked
returns-then-next-eq0-clause-walked c = λ asked w.
    let before = c.args.self.now in
    let full : Packer = record { groups = before.groups; labels = before.labels; filling = c.push.new.self; lines = c.try_push-fits.new.self; broken = before.broken; spot = before.spot } in
    added_closed before asked c.args.item c.push.new.self.items c.push.ensures.items c.requires w c.spot_after_item-next.result c.spot_after_item-next.ensures.value c.if-next-eq0.true
    full c.close.new.self refl refl refl refl refl c.in_ok-close.ensures.closed

pub returns-clause-walked : goal.returns-clause-walked
returns-clause-walked c = λ asked w.
    let before = c.args.self.now in
    let after : Packer = record { groups = before.groups; labels = before.labels; filling = c.push.new.self; lines = c.try_push-fits.new.self; broken = before.broken; spot = c.spot_after_item-next.result } in
    added_open before asked c.args.item c.push.new.self.items c.push.ensures.items c.requires w c.spot_after_item-next.result c.spot_after_item-next.ensures.value c.if-next-eq0.false
    after refl refl refl refl refl

pub returns-then-next-eq0-clause-packed : goal.returns-then-next-eq0-clause-packed
returns-then-next-eq0-clause-packed c = λ n requests is w.
    let before = c.args.self.now in
    let full : Packer = record { groups = before.groups; labels = before.labels; filling = c.push.new.self; lines = c.try_push-fits.new.self; broken = before.broken; spot = before.spot } in
    added_cell before full c.close.new.self c.spot_after_item-next.result c.args.item n requests is w c.push.ensures.items refl refl refl c.in_ok-close.ensures.closed c.in_ok-close.ensures.cell c.spot_after_item-next.ensures.value

pub returns-then-next-eq0-clause-grouped : goal.returns-then-next-eq0-clause-grouped
returns-then-next-eq0-clause-grouped c = λ asked w.
    let before = c.args.self.now in
    let full : Packer = record { groups = before.groups; labels = before.labels; filling = c.push.new.self; lines = c.try_push-fits.new.self; broken = before.broken; spot = before.spot } in
    put_closed before asked c.args.item c.args.line c.push.new.self.items c.try_push-fits.new.self.items c.push.ensures.items
    (on_ok c.try_push-fits.result (c.try_push-fits.ensures.variant.1 (omega (arith, c.requires.slot, c.requires.size, w.lines))) c.try_push-fits.ensures.ok) c.requires w
    c.spot_after_item-next.result full c.close.new.self refl refl refl refl refl c.in_ok-close.ensures.closed c.in_ok-close.ensures.gathered

pub returns-clause-grouped : goal.returns-clause-grouped
returns-clause-grouped c = λ asked w.
    let before = c.args.self.now in
    let after : Packer = record { groups = before.groups; labels = before.labels; filling = c.push.new.self; lines = c.try_push-fits.new.self; broken = before.broken; spot = c.spot_after_item-next.result } in
    put_open before asked c.args.item c.args.line c.push.new.self.items c.try_push-fits.new.self.items c.push.ensures.items
    (on_ok c.try_push-fits.result (c.try_push-fits.ensures.variant.1 (omega (arith, c.requires.slot, c.requires.size, w.lines))) c.try_push-fits.ensures.ok) c.requires w
    after refl refl (ap (λ spot. spot.at) c.spot_after_item-next.ensures.value ∙ behind-same before.spot c.args.item (λ e. c.if-next-eq0.false (ap (λ spot. spot.slot) c.spot_after_item-next.ensures.value ∙ e))) refl refl
