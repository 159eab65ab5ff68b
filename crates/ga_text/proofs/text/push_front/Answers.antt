use Rattle.std.proofs.Common.{rules, ◌+◌, ◌++◌, ◌∷◌, [], length, ℕ, List, ◌/◌, ◌%◌, ap, sym, ◌∙◌, arith}
use Rattle.ga_text.proofs.DigitLemmas.{one_digit, two_digits, three_digits, four_alone}
use Rattle.ga_text.proofs.text.push_front.Goals as goal

pub push_text-requires : goal.push_text-requires
push_text-requires g c = (search rules, omega (arith, c.requires.room, ap length (one_digit c.args.number (omega (arith, c.if-number-lt10.true)))))

pub push_text-requires-then-number-lt100 : goal.push_text-requires-then-number-lt100
push_text-requires-then-number-lt100 g c =
    (search rules, omega (arith, c.requires.room, ap length (two_digits c.args.number (omega (arith, c.if-number-lt10.false)) (omega (arith, c.if-number-lt100.true)))))

pub push_text-requires-then-number-lt1000 : goal.push_text-requires-then-number-lt1000
push_text-requires-then-number-lt1000 g c =
    (search rules, omega (arith, c.requires.room, ap length (three_digits c.args.number (omega (arith, c.if-number-lt100.false)) (omega (arith, c.if-number-lt1000.true)))))

pub push_text-requires-else-number-lt1000 : goal.push_text-requires-else-number-lt1000
push_text-requires-else-number-lt1000 g c =
    (search rules, omega (arith, c.requires.room, ap length c.four_of.ensures, ap length (four_alone c.args.number (omega (arith, c.if-number-lt1000.false)) (omega (arith, c.requires.small)))))

pub returns-then-number-lt10 : goal.returns-then-number-lt10
returns-then-number-lt10 g c = record {
  text = c.push_text.ensures.text ∙ ap (λ (a : ℕ). c.args.out.now.items ++ a ∷ []) c.digit.ensures
      ∙ ap (λ (t : List ℕ). c.args.out.now.items ++ t) (sym (one_digit c.args.number (omega (arith, c.if-number-lt10.true))));
}

pub returns-then-number-lt100 : goal.returns-then-number-lt100
returns-then-number-lt100 g c = record {
  text = c.push_text-then-number-lt100.ensures.text
      ∙ ap (λ (a : ℕ). c.args.out.now.items ++ a ∷ c.digit-then-number-lt100-2.result ∷ []) c.digit-then-number-lt100.ensures
      ∙ ap (λ (a : ℕ). c.args.out.now.items ++ (48 + c.args.number / 10 % 10) ∷ a ∷ []) c.digit-then-number-lt100-2.ensures
      ∙ ap (λ (t : List ℕ). c.args.out.now.items ++ t) (sym (two_digits c.args.number (omega (arith, c.if-number-lt10.false)) (omega (arith, c.if-number-lt100.true))));
}

pub returns-then-number-lt1000 : goal.returns-then-number-lt1000
returns-then-number-lt1000 g c = record {
  text = c.push_text-then-number-lt1000.ensures.text
      ∙ ap (λ (a : ℕ). c.args.out.now.items ++ a ∷ c.digit-then-number-lt1000-2.result ∷ c.digit-then-number-lt1000-3.result ∷ []) c.digit-then-number-lt1000.ensures
      ∙ ap (λ (a : ℕ). c.args.out.now.items ++ (48 + c.args.number / 100 % 10) ∷ a ∷ c.digit-then-number-lt1000-3.result ∷ []) c.digit-then-number-lt1000-2.ensures
      ∙ ap (λ (a : ℕ). c.args.out.now.items ++ (48 + c.args.number / 100 % 10) ∷ (48 + c.args.number / 10 % 10) ∷ a ∷ []) c.digit-then-number-lt1000-3.ensures
      ∙ ap (λ (t : List ℕ). c.args.out.now.items ++ t) (sym (three_digits c.args.number (omega (arith, c.if-number-lt100.false)) (omega (arith, c.if-number-lt1000.true))));
}

pub returns-else-number-lt1000 : goal.returns-else-number-lt1000
returns-else-number-lt1000 g c = record {
  text = c.push_text-else-number-lt1000.ensures.text ∙ ap (λ (t : List ℕ). c.args.out.now.items ++ t)
      (c.four_of.ensures ∙ sym (four_alone c.args.number (omega (arith, c.if-number-lt1000.false)) (omega (arith, c.requires.small))));
}
