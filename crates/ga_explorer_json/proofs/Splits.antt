-- The text after a byte, and the text before it.
use Rattle.std.proofs.Common.{◌≡◌, ◌≢◌, ℕ, zero, suc, ◌+◌, ◌<◌, ◌==◌, true, List, [], ◌∷◌, length, take, drop, get_or, refl, ap, ◌∙◌, arith, add-one}
use Rattle.std.proofs.lemmas.Bool.{eq-eqb, ne_eqb}
use Rattle.ga_explorer_json.specs.Refusals.{text_after_first_such_byte, text_before_first_such_byte}

module _ (byte : ℕ) where
  past : (b : ℕ) (text : List ℕ) → b ≢ byte → text_after_first_such_byte byte (b ∷ text) ≡ text_after_first_such_byte byte text
  past b text other = rw (ne_eqb b byte other) refl

  ahead : (b : ℕ) (text : List ℕ) → b ≢ byte → text_before_first_such_byte byte (b ∷ text) ≡ b ∷ text_before_first_such_byte byte text
  ahead b text other = rw (ne_eqb b byte other) refl

  pub after_found : (text : List ℕ) (i : ℕ) → i < length text → ((k : ℕ) → k < i → get_or text k 0 ≢ byte) → get_or text i 0 ≡ byte → text_after_first_such_byte byte text ≡ drop (i + 1) text
  after_found [] i within none found = absurd (omega arith)
  after_found (b ∷ text) zero within none found = rw (eq-eqb b byte found) refl
  after_found (b ∷ text) (suc i) within none found =
      let again : text_after_first_such_byte byte text ≡ drop (i + 1) text = after_found text i (omega arith) (λ k below. none (suc k) (omega arith)) found in
      past b text (none 0 (omega arith)) ∙ again ∙ rw (add-one, add-one) refl

  pub after_none : (text : List ℕ) → ((k : ℕ) → k < length text → get_or text k 0 ≢ byte) → text_after_first_such_byte byte text ≡ []
  after_none [] none = refl
  after_none (b ∷ text) none = past b text (none 0 (omega arith)) ∙ after_none text (λ k below. none (suc k) (omega arith))

  pub before_found : (text : List ℕ) (i : ℕ) → i < length text → ((k : ℕ) → k < i → get_or text k 0 ≢ byte) → get_or text i 0 ≡ byte → text_before_first_such_byte byte text ≡ take i text
  before_found [] i within none found = absurd (omega arith)
  before_found (b ∷ text) zero within none found = rw (eq-eqb b byte found) refl
  before_found (b ∷ text) (suc i) within none found =
      ahead b text (none 0 (omega arith)) ∙ ap (λ (rest : List ℕ). b ∷ rest) (before_found text i (omega arith) (λ k below. none (suc k) (omega arith)) found)

  pub before_none : (text : List ℕ) → ((k : ℕ) → k < length text → get_or text k 0 ≢ byte) → text_before_first_such_byte byte text ≡ text
  before_none [] none = refl
  before_none (b ∷ text) none = ahead b text (none 0 (omega arith)) ∙ ap (λ (rest : List ℕ). b ∷ rest) (before_none text (λ k below. none (suc k) (omega arith)))
