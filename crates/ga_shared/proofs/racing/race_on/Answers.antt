use Rattle.std.proofs.Common.{◌≡◌, ◌<◌, ℕ, map, sym, ◌∙◌, ap, subst, vec_len}
use Rattle.std.proofs.lemmas.List.{length-map}
use Rattle.ga_grid.specs.Chip.{records_of_chip}
use Rattle.ga_shared.proofs.Logs.{raced}
use Rattle.ga_shared.proofs.racing.race_on.Goals as goal

pub returns-in-Ok-close : goal.returns-in-Ok-close
returns-in-Ok-close g c =
    let lists = map (λ l. l.items) c.args.lists.now.items in
    let is = c.in-Ok.ensures.shared in
    let count : c.in-Ok.shared.workers ≡ vec_len c.args.lists.now = ap (λ o. o.workers) is ∙ c.len.ensures in
    let closes = c.in-Ok-close.ensures in
    raced (records_of_chip c.args.chip) c.args.limit (vec_len c.args.lists.now) lists c.in_ok-back.back.items c.in-Ok-close.closed
    (length-map c.args.lists.now.items (λ l. l.items) ∙ sym c.args.lists.now.ok.0)
    (sym c.in_ok-back.back.ok.0 ∙ c.in_ok-back.ensures.size)
    c.in_ok-back.ensures.done
    closes.1
    (closes.2.0 ∙ ap (λ o. o.load) is, closes.2.1 ∙ ap (λ o. o.limit) is)
    (λ w below. closes.3 w (subst (λ (n : ℕ). w < n) (sym count) below))
