use Rattle.std.proofs.Common.{◌≡◌, ℕ, true≢false, refl, arith, below_more, sym, ◌∙◌, ◌==◌, count_by}
use Rattle.ga_shared.specs.Log.{Worker}
use Rattle.ga_shared.proofs.closing.are_seated.Goals as goal

pub returns-then-count_of-ne1 : goal.returns-then-count_of-ne1
returns-then-count_of-ne1 g c = ((λ f. absurd (true≢false (sym f))), λ seated. absurd (c.if-count_of-ne1.true (c.count_of.ensures ∙ seated.1 c.loop-number.number (omega arith))))

pub loop-number-preserved : goal.loop-number-preserved
loop-number-preserved g c = below_more (λ (w : ℕ). count_by (λ (s : Worker). s.number == w) c.args.seats.now ≡ 1) c.loop-number.number c.loop-number.invariant (sym c.count_of.ensures ∙ c.if-count_of-ne1.false)

pub returns : goal.returns
returns g c = ((λ _. (omega arith, λ w below. c.loop-number.invariant w (omega arith))), λ _. refl)
