-- Conditions with ` or ` between them.
use Rattle.std.proofs.Common.{◌≡◌, ℕ, zero, suc, ◌+◌, ◌-◌, ◌<◌, ◌≤◌, List, [], ◌∷◌, ◌++◌, length, take, drop, set, get_or, Some, None, inl, inr, refl, sym, ◌∙◌, ap, arith, append_assoc, take-append-drop}
use Rattle.std.specs.Prelude.{Option, replicate}
use Rattle.std.proofs.lemmas.Bool.{cases_lt}
use Rattle.std.proofs.lemmas.List.{drop_more, drop-set-lt}
use Rattle.std.proofs.lemmas.Grind.{take-set_at}
use Rattle.ga_debug_info.specs.declared.notes.DebugInfo.{DebugInfo}
use Rattle.ga_scheduler.specs.declared.condition.Condition.{Condition}
use Rattle.ga_scheduler.specs.declared.condition.Condition.TheVariants.{Never}
use Rattle.ga_conditions.specs.Conditions.{text_after_or_keyword, first_or_keyword_split, split_at_or_keyword, split_first_condition, parsed_condition, prepend_conditions, prepend_condition, remaining_conditions, conditions_from_split, parsed_conditions_within}
use Rattle.ga_text.specs.Parsing.{parts_with_prepended_byte}

pub at_or : (text : List ℕ) (i : ℕ) (rest : List ℕ) → i < length text → ((k : ℕ) → k < i → text_after_or_keyword (drop k text) ≡ None) → text_after_or_keyword (drop i text) ≡ Some rest
    → split_at_or_keyword text ≡ Some (take i text, rest)
at_or [] i rest within none is = absurd (omega arith)
at_or (b ∷ text) zero rest within none is = ap (λ o. first_or_keyword_split o (parts_with_prepended_byte b (split_at_or_keyword text))) is
at_or (b ∷ text) (suc i) rest within none is =
    ap (λ o. first_or_keyword_split o (parts_with_prepended_byte b (split_at_or_keyword text))) (none 0 (omega arith))
    ∙ ap (parts_with_prepended_byte b) (at_or text i rest (omega arith) (λ k l. none (suc k) (omega arith)) is)

pub none_more : (text : List ℕ) (place : ℕ) → ((k : ℕ) → k < place → text_after_or_keyword (drop k text) ≡ None) → text_after_or_keyword (drop place text) ≡ None
    → (k : ℕ) → k < place + 1 → text_after_or_keyword (drop k text) ≡ None
none_more text place before is k l = elim (cases_lt k place) [
  | inl less ↦ before k less
  | inr more ↦ (let e : k ≡ place = omega arith in ap (λ z. text_after_or_keyword (drop z text)) e ∙ is)
]

pub no_or : (text : List ℕ) → ((k : ℕ) → k < length text → text_after_or_keyword (drop k text) ≡ None) → split_at_or_keyword text ≡ None
no_or [] none = refl
no_or (b ∷ text) none =
    ap (λ o. first_or_keyword_split o (parts_with_prepended_byte b (split_at_or_keyword text))) (none 0 (omega arith)) ∙ ap (parts_with_prepended_byte b) (no_or text (λ k l. none (suc k) (omega arith)))

-- One condition more is read.

abbrev pub IsGiven : Option DebugInfo → List ℕ → List Condition → ℕ → List ℕ → Type 0
IsGiven notes text xs place left = parsed_conditions_within notes 8 text ≡ prepend_conditions (take place xs) (parsed_conditions_within notes (8 - place) left)

abbrev pub IsLeft : List Condition → ℕ → Type 0
IsLeft xs place = drop place xs ≡ replicate (8 - place) Never

front_twice : (xs : List Condition) (one : Condition) (others : Option (List Condition)) → prepend_conditions xs (prepend_conditions (one ∷ []) others) ≡ prepend_conditions (xs ++ one ∷ []) others
front_twice xs one None = refl
front_twice xs one (Some more) = ap Some (sym (append_assoc xs (one ∷ []) more))

-- the number in the next place
within_more : (notes : Option DebugInfo) (place : ℕ) (left : List ℕ) → place < 8
    → parsed_conditions_within notes (8 - place) left ≡ conditions_from_split notes (8 - (place + 1)) (parsed_conditions_within notes (8 - (place + 1))) (split_first_condition left)
unfolding parsed_conditions_within
within_more notes place left l =
    let e : 8 - place ≡ suc (8 - (place + 1)) = omega arith in
    ap (λ (z : ℕ). parsed_conditions_within notes z left) e

read_one : (notes : Option DebugInfo) (text : List ℕ) (xs : List Condition) (place : ℕ) (left : List ℕ) (one : Condition) (others : Option (List ℕ)) → place < 8 → length xs ≡ 8
    → IsGiven notes text xs place left → parsed_condition notes (split_first_condition left).0 ≡ Some one → (split_first_condition left).1 ≡ others
    → parsed_conditions_within notes 8 text ≡ prepend_conditions (take (place + 1) (set xs place one)) (remaining_conditions (8 - (place + 1)) (parsed_conditions_within notes (8 - (place + 1))) others)
read_one notes text xs place left one others l size given is rest =
    given ∙ ap (prepend_conditions (take place xs)) (within_more notes place left l
    ∙ ap (λ o. prepend_condition o (remaining_conditions (8 - (place + 1)) (parsed_conditions_within notes (8 - (place + 1))) (split_first_condition left).1)) is
    ∙ ap (λ o. prepend_conditions (one ∷ []) (remaining_conditions (8 - (place + 1)) (parsed_conditions_within notes (8 - (place + 1))) o)) rest)
    ∙ front_twice (take place xs) one _
    ∙ ap (λ z. prepend_conditions z (remaining_conditions (8 - (place + 1)) (parsed_conditions_within notes (8 - (place + 1))) others)) (sym (take-set_at xs place (place + 1) one refl (omega arith)))

pub given_more : (notes : Option DebugInfo) (text : List ℕ) (xs : List Condition) (place : ℕ) (left : List ℕ) (one : Condition) (more : List ℕ) → place < 8 → length xs ≡ 8
    → IsGiven notes text xs place left → parsed_condition notes (split_first_condition left).0 ≡ Some one → (split_first_condition left).1 ≡ Some more
    → IsGiven notes text (set xs place one) (place + 1) more
given_more notes text xs place left one more l size given is rest = read_one notes text xs place left one (Some more) l size given is rest

left_behind : (xs : List Condition) (place : ℕ) → place < 8 → length xs ≡ 8 → IsLeft xs place → drop (place + 1) xs ≡ replicate (8 - (place + 1)) Never
left_behind xs place l size left =
    let e : 8 - place ≡ suc (8 - (place + 1)) = omega arith in
    let both : get_or xs place Never ∷ drop (place + 1) xs ≡ Never ∷ replicate (8 - (place + 1)) Never =
    sym (drop_more xs place Never (omega arith)) ∙ left ∙ ap (λ (z : ℕ). replicate z Never) e in
    ap (λ (z : List Condition). drop 1 z) both

pub left_more : (xs : List Condition) (place : ℕ) (one : Condition) → place < 8 → length xs ≡ 8 → IsLeft xs place → IsLeft (set xs place one) (place + 1)
left_more xs place one l size left = drop-set-lt (place + 1) xs place one (omega arith) ∙ left_behind xs place l size left

pub all_given : (notes : Option DebugInfo) (text : List ℕ) (xs : List Condition) (place : ℕ) (left : List ℕ) (one : Condition) → place < 8 → length xs ≡ 8
    → IsGiven notes text xs place left → IsLeft xs place → parsed_condition notes (split_first_condition left).0 ≡ Some one → (split_first_condition left).1 ≡ None
    → parsed_conditions_within notes 8 text ≡ Some (set xs place one)
all_given notes text xs place left one l size given rest is none =
    read_one notes text xs place left one None l size given is none
    ∙ ap Some (ap (λ z. take (place + 1) (set xs place one) ++ z) (sym (left_more xs place one l size rest)) ∙ take-append-drop (place + 1) (set xs place one))

pub none_given : (notes : Option DebugInfo) (text : List ℕ) (xs : List Condition) (place : ℕ) (left : List ℕ) → place < 8
    → IsGiven notes text xs place left → parsed_condition notes (split_first_condition left).0 ≡ None → parsed_conditions_within notes 8 text ≡ None
none_given notes text xs place left l given is =
    given ∙ ap (prepend_conditions (take place xs)) (within_more notes place left l
    ∙ ap (λ o. prepend_condition o (remaining_conditions (8 - (place + 1)) (parsed_conditions_within notes (8 - (place + 1))) (split_first_condition left).1)) is)

pub too_many : (notes : Option DebugInfo) (text : List ℕ) (xs : List Condition) (place : ℕ) (left : List ℕ) → 8 ≤ place → IsGiven notes text xs place left → parsed_conditions_within notes 8 text ≡ None
unfolding parsed_conditions_within
too_many notes text xs place left l given =
    let e : 8 - place ≡ 0 = omega arith in
    given ∙ ap (λ (z : ℕ). prepend_conditions (take place xs) (parsed_conditions_within notes z left)) e
