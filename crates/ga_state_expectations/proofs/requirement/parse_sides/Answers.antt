use Rattle.std.proofs.Common.{◌≡◌, ◌∙◌, ℕ, suc, ◌+◌, ◌-◌, Ok, Err, false, sym, ap, arith}
use Rattle.std.proofs.lemmas.Bool.{cond-false}
use Rattle.ga_state_expectations.specs.declared.cause.ExpectationFaultCause.TheVariants.{NoSide}
use Rattle.ga_state_expectations.specs.Spelling.{is_text_without_words, parsed_sides_within}
use Rattle.ga_state_expectations.proofs.Sides.{no_side, last_side, next_side, many_sides}
use Rattle.ga_state_expectations.proofs.requirement.parse_sides.Goals as goal

pub returns-in-None : goal.returns-in-None
returns-in-None c =
    let k : ℕ = 3 - c.words._place in
    let size : 4 - c.words._place ≡ suc k = omega (arith, c.words-test.true) in
    let some : is_text_without_words c.args.text.now ≡ false = sym c.is_text_without_words.ensures ∙ c.if-is_text_without_words.false in
    sym (cond-false (is_text_without_words c.args.text.now) (Err NoSide) (parsed_sides_within 4 0 c.args.text.now) some
    ∙ no_side k c.words.sides c.words.left.now c.split_first_word.result.0.now c.split_first_word.result.1.now (parsed_sides_within 4 0 c.args.text.now)
    (sym c.split_first_word.ensures) (sym c.parse_side.ensures ∙ c.in-None.is)
    (ap (λ (n : ℕ). parsed_sides_within n c.words.sides c.words.left.now) (sym size) ∙ c.words.invariant.rest))

pub returns-then-is_text_without_words-2 : goal.returns-then-is_text_without_words-2
returns-then-is_text_without_words-2 c =
    let k : ℕ = 3 - c.words._place in
    let size : 4 - c.words._place ≡ suc k = omega (arith, c.words-test.true) in
    let some : is_text_without_words c.args.text.now ≡ false = sym c.is_text_without_words.ensures ∙ c.if-is_text_without_words.false in
    ap (λ (sides : ℕ). Ok sides) (c.from_bits.ensures ∙ c.side_set_with_side-sides.ensures.value)
    ∙ sym (cond-false (is_text_without_words c.args.text.now) (Err NoSide) (parsed_sides_within 4 0 c.args.text.now) some
    ∙ last_side k c.words.sides c.words.left.now c.split_first_word.result.0.now c.split_first_word.result.1.now c.in-Some.side (parsed_sides_within 4 0 c.args.text.now)
    (sym c.split_first_word.ensures) (sym c.parse_side.ensures ∙ c.in-Some.is) (sym c.is_text_without_words-in-words.ensures ∙ c.if-is_text_without_words-2.true)
    (ap (λ (n : ℕ). parsed_sides_within n c.words.sides c.words.left.now) (sym size) ∙ c.words.invariant.rest))

pub words-preserved : goal.words-preserved
words-preserved c =
    let k : ℕ = 3 - c.words._place in
    let size : 4 - c.words._place ≡ suc k = omega (arith, c.words-test.true) in
    let left : 4 - (c.words._place + 1) ≡ k = omega arith in
    record {
      small = c.side_set_with_side-sides.ensures.in_range.1;
      rest = ap (λ (n : ℕ). parsed_sides_within n c.side_set_with_side-sides.result c.split_first_word.result.1.now) left
          ∙ (ap (λ (sides : ℕ). parsed_sides_within k sides c.split_first_word.result.1.now) c.side_set_with_side-sides.ensures.value
          ∙ next_side k c.words.sides c.words.left.now c.split_first_word.result.0.now c.split_first_word.result.1.now c.in-Some.side (parsed_sides_within 4 0 c.args.text.now)
          (sym c.split_first_word.ensures) (sym c.parse_side.ensures ∙ c.in-Some.is) (sym c.is_text_without_words-in-words.ensures ∙ c.if-is_text_without_words-2.false)
          (ap (λ (n : ℕ). parsed_sides_within n c.words.sides c.words.left.now) (sym size) ∙ c.words.invariant.rest));
    }

pub returns : goal.returns
returns c =
    let none : 4 - c.words._place ≡ 0 = omega (arith, c.words-test.false) in
    let some : is_text_without_words c.args.text.now ≡ false = sym c.is_text_without_words.ensures ∙ c.if-is_text_without_words.false in
    sym (cond-false (is_text_without_words c.args.text.now) (Err NoSide) (parsed_sides_within 4 0 c.args.text.now) some
    ∙ many_sides c.words.sides c.words.left.now (parsed_sides_within 4 0 c.args.text.now)
    (ap (λ (n : ℕ). parsed_sides_within n c.words.sides c.words.left.now) (sym none) ∙ c.words.invariant.rest))
