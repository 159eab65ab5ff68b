use Rattle.std.specs.Prelude.{nat_eq}
use Rattle.std.specs.Cmp.Lexicographic.{pointwise}
use Rattle.std.proofs.Common.{List, ℕ, ◌∷◌, take, drop, [], arith, sym, ◌∙◌, ap}
use Rattle.std.proofs.lemmas.Bool.{eqb-false, eqb-true}
use Rattle.std.proofs.lemmas.List.{nil_from_length}
use Rattle.ga_word.specs.Word.{six_hex_digits_value}
use Rattle.ga_image.proofs.Short.{words_after, from_start, too_short, too_many, no_space, no_digits, next_word, no_words, all_words}
use Rattle.ga_image.proofs.line.read_words.Goals as goal
use Rattle.ga_image.proofs.line.read_words.Goals.{then-rest-lt7-via-then-rest-lt7, then-rest-lt7-via-else-rest-lt7+then-is_full}

pub loop-rest-init : goal.loop-rest-init
loop-rest-init c = record {
  same = rw c.new-words.ensures (from_start c.args.text.now);
  fits = rw c.new-words.ensures (omega arith);
}

pub returns-then-rest-lt7 : goal.returns-then-rest-lt7
returns-then-rest-lt7 c =
    let some = eqb-false _ _ (sym c.is_empty.ensures ∙ c.loop-rest-test.true) in
    elim c.then-rest-lt7.branch [
      | then-rest-lt7-via-then-rest-lt7 w ↦ sym (too_short c.loop-rest.words.items c.loop-rest.rest.now (omega arith) w.if-rest-lt7.true) ∙ c.loop-rest.invariant.same
      | then-rest-lt7-via-else-rest-lt7+then-is_full w ↦ sym (too_many c.loop-rest.words.items c.loop-rest.rest.now w.if-rest-lt7.false (eqb-true _ _ (sym w.is_full.ensures.value ∙ w.if-is_full.true))) ∙ c.loop-rest.invariant.same
    ]

pub returns-in_err-digits : goal.returns-in_err-digits
returns-in_err-digits c =
    let space = ap (λ (t : List ℕ). pointwise nat_eq (take 1 t) (32 ∷ [])) (sym c.split_at.ensures.front) ∙ c.in_err-digits.ensures.cases in
    rw c.from_residual.ensures (sym (no_space c.loop-rest.words.items c.loop-rest.rest.now c.if-rest-lt7.false space) ∙ c.loop-rest.invariant.same)

pub returns-in_err-parse_six_hex_digits : goal.returns-in_err-parse_six_hex_digits
returns-in_err-parse_six_hex_digits c =
    let space = ap (λ (t : List ℕ). pointwise nat_eq (take 1 t) (32 ∷ [])) (sym c.split_at.ensures.front) ∙ c.in_ok-digits.ensures.cases.0 in
    let digits = c.in_ok-digits.ensures.cases.1 ∙ ap (λ (t : List ℕ). drop 1 t) c.split_at.ensures.front in
    let none = ap six_hex_digits_value (sym digits) ∙ sym c.in_err-parse_six_hex_digits.ensures.value in
    rw c.from_residual-in_err-parse_six_hex_digits.ensures (sym (no_digits c.loop-rest.words.items c.loop-rest.rest.now c.if-rest-lt7.false space none) ∙ c.loop-rest.invariant.same)

pub loop-rest-preserved : goal.loop-rest-preserved
loop-rest-preserved c =
    let space = ap (λ (t : List ℕ). pointwise nat_eq (take 1 t) (32 ∷ [])) (sym c.split_at.ensures.front) ∙ c.in_ok-digits.ensures.cases.0 in
    let digits = c.in_ok-digits.ensures.cases.1 ∙ ap (λ (t : List ℕ). drop 1 t) c.split_at.ensures.front in
    let found = ap six_hex_digits_value (sym digits) ∙ sym c.in_ok-parse_six_hex_digits.ensures.value in
    let full = eqb-false _ _ (sym c.is_full.ensures.value ∙ c.if-is_full.false) in
    record {
      same = rw (c.push.ensures.items, c.split_at.ensures.back)
          (next_word c.loop-rest.words.items c.loop-rest.rest.now c.in_ok-parse_six_hex_digits.field-0 c.if-rest-lt7.false space found ∙ c.loop-rest.invariant.same);
      fits = rw c.push.ensures.len (omega arith);
    }

pub returns-then-is_empty : goal.returns-then-is_empty
returns-then-is_empty c =
    let rest = nil_from_length c.loop-rest.rest.now (eqb-true _ _ (sym c.is_empty.ensures ∙ c.loop-rest-test.false)) in
    let seen = nil_from_length c.loop-rest.words.items (eqb-true _ _ (sym c.is_empty-2.ensures ∙ c.if-is_empty.true)) in
    sym no_words ∙ ap (λ t. words_after t []) (sym seen) ∙ ap (λ t. words_after c.loop-rest.words.items t) (sym rest) ∙ c.loop-rest.invariant.same

pub returns-else-is_empty : goal.returns-else-is_empty
returns-else-is_empty c =
    let rest = nil_from_length c.loop-rest.rest.now (eqb-true _ _ (sym c.is_empty.ensures ∙ c.loop-rest-test.false)) in
    let some = eqb-false _ _ (sym c.is_empty-2.ensures ∙ c.if-is_empty.false) in
    sym (all_words c.loop-rest.words.items (omega arith) c.loop-rest.invariant.fits) ∙ ap (λ t. words_after c.loop-rest.words.items t) (sym rest) ∙ c.loop-rest.invariant.same
