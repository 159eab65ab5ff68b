use Rattle.std.proofs.Common.{◌≡◌, ℕ, ◌%◌, ◌<◌, List, length, get_or, sym, ◌∙◌, ap, subst, arith}
use Rattle.std.proofs.Math.Nat.{mod-lt}
use Rattle.ga_scheduler.specs.inner.{is_number_in_set}
use Rattle.ga_scheduler.specs.Schedules.{passing_numbers_below}
use Rattle.ga_scheduler.proofs.Drawn.{numbers_small, drawn_is}
use Rattle.ga_scheduler.proofs.drawing.draw_node.Goals as goal

pub new-requires : goal.new-requires
new-requires c =
    let listed = c.list_once.ensures.listed in
    let size : c.len-count.result ≡ length (passing_numbers_below (is_number_in_set c.args.ready.now) 144) = c.len-count.ensures.value ∙ ap length listed in
    let some : 0 < c.len-count.result = omega (arith, c.if-count-eq0.false) in
    let within : c.args.word % c.len-count.result < length (passing_numbers_below (is_number_in_set c.args.ready.now) 144) = subst (λ (n : ℕ). c.args.word % c.len-count.result < n) size (mod-lt c.args.word some) in
    subst (λ (z : List ℕ). get_or z (c.args.word % c.len-count.result) 0 < 144) (sym (c.deref.ensures.0 ∙ listed)) (numbers_small (is_number_in_set c.args.ready.now) 144 (c.args.word % c.len-count.result) within)

pub returns-clause-drawn : goal.returns-clause-drawn
returns-clause-drawn c =
    let size : c.len-count.result ≡ length c.deref.result.now = c.len-count.ensures.value ∙ sym (ap length c.deref.ensures.0) in
    drawn_is (is_number_in_set c.args.ready.now) c.args.word (c.args.word % c.len-count.result) c.deref.result.now c.new.result (c.deref.ensures.0 ∙ c.list_once.ensures.listed)
    (ap (λ (n : ℕ). c.args.word % n) size) (omega (arith, size, c.if-count-eq0.false)) c.new.ensures
