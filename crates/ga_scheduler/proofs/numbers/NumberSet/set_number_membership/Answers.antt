use Rattle.std.proofs.Common.{◌≡◌, ◌≢◌, ℕ, ◌<◌, true, false, refl, subst, get_or, ◌/◌}
use Rattle.std.specs.Int.{bit_at}
use Rattle.ga_scheduler.proofs.Sets.{put_same, put_other}
use Rattle.ga_scheduler.proofs.numbers.NumberSet.set_number_membership.Goals as goal

pub returns-clause-same : goal.returns-clause-same
returns-clause-same c =
    put_same c.args.self.now _ c.args.number c.with_bit.result c.args.is_in c.args.self.now.size c.requires refl
    (subst (λ p. c.args.is_in ≡ true → bit_at c.with_bit.result p ≡ 1) c.from-place.ensures c.with_bit.ensures.one)
    (subst (λ p. c.args.is_in ≡ false → bit_at c.with_bit.result p ≡ 0) c.from-place.ensures c.with_bit.ensures.zero)

pub returns-clause-others : goal.returns-clause-others
returns-clause-others c = λ n l ne.
    put_other c.args.self.now _ c.args.number n c.with_bit.result c.args.self.now.size c.requires ne refl
    (subst (λ p. (i : ℕ) → i < 64 → i ≢ p → bit_at c.with_bit.result i ≡ bit_at (get_or c.args.self.now.words (c.args.number / 64) 0) i) c.from-place.ensures c.with_bit.ensures.others)
