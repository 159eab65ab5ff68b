-- The digits of numbers of any size: what holds of them, by their divisions.
use Rattle.std.proofs.Common.{◌≡◌, ℕ, zero, suc, ◌+◌, ◌*◌, ◌/◌, ◌%◌, ◌^◌, ◌<◌, ◌≤◌, [], ◌∷◌, ◌++◌, true, length, ap, sym, ◌∙◌, refl, subst, decimal, arith}
use Rattle.std.specs.Prelude.{◌==◌, nat_lt, slice_index}
use Rattle.std.specs.Str.Parse.{AllDigits, digits_value}
use Rattle.std.specs.Char.{digit_value}
use Rattle.std.proofs.lemmas.Bool.{cond_both, ltb-true, ltb-false, eqb-true, agree_below_at}
use Rattle.std.proofs.lemmas.Int.Digits.{digits_value_push}
use Rattle.std.proofs.lemmas.Fmt.{decimal_digit, decimal_step}
use Rattle.ga_text.specs.Lines.{Text}
use Rattle.ga_json.specs.Grammar.{IsJsonInt}
use Rattle.ga_json.specs.Compact.{digits_by_division, natural_text}

-- what holds of a digit, and of more digits where it holds of those before the last one, holds of all
pub by_digits : (P : ℕ → Text → Type 0) → ((n : ℕ) → n < 10 → P n ((48 + n) ∷ [])) → ((n : ℕ) (ds : Text) → 10 ≤ n → P (n / 10) ds → P n (ds ++ (48 + n % 10) ∷ []))
    → (most n : ℕ) → n < most → P n (digits_by_division most n)
unfolding digits_by_division
by_digits P one more zero n h = absurd (omega (arith, h))
by_digits P one more (suc most) n h =
    cond_both (nat_lt n 10) _ _ (P n) (λ e. one n (ltb-true n 10 e))
    (λ e. let large = ltb-false n 10 e in more n (digits_by_division most (n / 10)) large (by_digits P one more most (n / 10) (omega (arith, h, large))))

-- ---- they are the digits of an integer (RFC 8259, section 6)

digit_of : (n : ℕ) → n < 10 → digit_value (48 + n) ≡ n
digit_of n small = eqb-true (digit_value (48 + n)) n (agree_below_at (λ k. digit_value (48 + k) == k) (λ k. true) 10 n refl small)

all_push : (ds : Text) (c : ℕ) → AllDigits 10 ds → digit_value c < 10 → AllDigits 10 (ds ++ c ∷ [])
all_push [] c h is = (is, tt)
all_push (d ∷ ds) c h is = (h.0, all_push ds c h.1 is)

first_push : (ds : Text) (c : ℕ) → 0 < length ds → slice_index (ds ++ c ∷ []) 0 ≡ slice_index ds 0
first_push [] c h = absurd (omega (arith, h))
first_push (d ∷ ds) c h = refl

int_of_digit : (n : ℕ) → n < 10 → IsJsonInt ((48 + n) ∷ []) n
int_of_digit n small =
    ((omega arith, (subst (λ v. v < 10) (sym (digit_of n small)) small, tt)), omega (arith, digit_of n small), λ zero. ap (λ c. c ∷ []) zero)

pushed_length : (ds : Text) (c : ℕ) → 0 < length (ds ++ c ∷ [])
pushed_length [] c = omega arith
pushed_length (d ∷ ds) c = omega arith

no_leading_zero : (n : ℕ) (ds : Text) → 10 ≤ n → IsJsonInt ds (n / 10) → slice_index ds 0 ≡ 48 → ⊥
no_leading_zero n ds large h leads =
    let none : n / 10 ≡ 0 = sym h.1 ∙ ap (digits_value 10) (h.2 leads) in omega (arith, large, none)

int_push : (n : ℕ) (ds : Text) → 10 ≤ n → IsJsonInt ds (n / 10) → IsJsonInt (ds ++ (48 + n % 10) ∷ []) n
int_push n ds large h =
    let last : n % 10 < 10 = omega arith in
    let is = digit_of (n % 10) last in
    let value : digits_value 10 (ds ++ (48 + n % 10) ∷ []) ≡ n =
    digits_value_push 10 ds (48 + n % 10) ∙ ap (λ v. v * 10 + digit_value (48 + n % 10)) h.1 ∙ ap (λ v. n / 10 * 10 + v) is ∙ omega arith in (
      (pushed_length ds (48 + n % 10), all_push ds (48 + n % 10) h.0.1 (subst (λ v. v < 10) (sym is) last)),
      value,
      λ leads. absurd (no_leading_zero n ds large h (sym (first_push ds (48 + n % 10) h.0.0) ∙ leads)),
    )

pub int_is : (n : ℕ) → IsJsonInt (natural_text n) n
int_is n = by_digits (λ m ds. IsJsonInt ds m) int_of_digit int_push (n + 1) n (omega arith)

-- ---- of 64 bits they are what is written of an integer

pub decimal_is_natural_text : (n : ℕ) → n < 2 ^ 64 → decimal n ≡ natural_text n
decimal_is_natural_text n fits =
    by_digits (λ m ds. m < 2 ^ 64 → decimal m ≡ ds) (λ m small fit. decimal_digit m small)
    (λ m ds large h fit. decimal_step m large fit ∙ ap (λ (t : Text). t ++ (48 + m % 10) ∷ []) (h (omega (arith, fit)))) (n + 1) n (omega arith) fits
