use Rattle.std.proofs.Common.{◌≡◌, ◌∙◌, cond, drop, take, Some, None, sym, ap, arith}
use Rattle.ga_conditions.specs.Conditions.{text_after_or_keyword}
use Rattle.ga_conditions.proofs.OrLemmas.{at_or, no_or, none_more}
use Rattle.ga_conditions.proofs.alternatives.split_at_or_keyword.Goals as goal

pub returns-then-begins_or : goal.returns-then-begins_or
returns-then-begins_or c =
    let text = c.args.text.now in
    let place = c.loop-place.place in
    let is : text_after_or_keyword (drop place text) ≡ Some (drop 4 (drop place text)) =
    ap text_after_or_keyword (sym c.split_at.ensures.back) ∙ c.begins_or.ensures.rest ∙ ap (λ b. cond b (Some (drop 4 c.split_at.result.1.now)) None) c.if-begins_or.true
    ∙ ap (λ z. Some (drop 4 z)) c.split_at.ensures.back in
    ap (λ z. Some (z, c.split_at-then-begins_or.result.1.now)) c.split_at.ensures.front
    ∙ ap (λ z. Some (take place text, z)) (c.split_at-then-begins_or.ensures.back ∙ ap (drop 4) c.split_at.ensures.back)
    ∙ sym (at_or text place (drop 4 (drop place text)) c.loop-place-test.true c.loop-place.invariant is)

pub loop-place-preserved : goal.loop-place-preserved
loop-place-preserved c =
    none_more c.args.text.now c.loop-place.place c.loop-place.invariant
    (ap text_after_or_keyword (sym c.split_at.ensures.back) ∙ c.begins_or.ensures.rest ∙ ap (λ b. cond b (Some (drop 4 c.split_at.result.1.now)) None) c.if-begins_or.false)

pub returns : goal.returns
returns c = sym (no_or c.args.text.now (λ k l. c.loop-place.invariant k (omega (arith, l, c.loop-place-test.false))))
