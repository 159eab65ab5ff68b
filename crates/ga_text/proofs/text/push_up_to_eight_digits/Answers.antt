use Rattle.std.proofs.Common.{rules, ◌++◌, length, decimal, ℕ, List, ◌/◌, ap, sym, ◌∙◌, arith, append_assoc}
use Rattle.ga_text.proofs.DigitLemmas.{four_more, longer, shorter}
use Rattle.ga_text.proofs.text.push_up_to_eight_digits.Goals as goal

pub push_front-requires-else-number-lt10000 : goal.push_front-requires-else-number-lt10000
push_front-requires-else-number-lt10000 g c = (search rules, (omega (arith, c.requires.small), omega (arith, c.requires.room, longer c.args.number (omega (arith, c.if-number-lt10000.false)) (omega (arith, c.requires.small)))))

pub push_text-requires : goal.push_text-requires
push_text-requires g c =
    (search rules, omega (arith, c.requires.room, shorter c.args.out.now.items c.push_front-else-number-lt10000.new.out.items c.args.number (omega (arith, c.if-number-lt10000.false)) (omega (arith, c.requires.small)) c.push_front-else-number-lt10000.ensures.text, ap length c.four_of.ensures))

pub returns-else-number-lt10000 : goal.returns-else-number-lt10000
returns-else-number-lt10000 g c = record {
  text = c.push_text.ensures.text
      ∙ ap (λ (t : List ℕ). t ++ c.four_of.result) c.push_front-else-number-lt10000.ensures.text
      ∙ append_assoc c.args.out.now.items (decimal (c.args.number / 10000)) c.four_of.result
      ∙ ap (λ (t : List ℕ). c.args.out.now.items ++ (decimal (c.args.number / 10000) ++ t)) c.four_of.ensures
      ∙ ap (λ (t : List ℕ). c.args.out.now.items ++ t) (sym (four_more c.args.number (omega (arith, c.if-number-lt10000.false)) (omega (arith, c.requires.small))));
}
