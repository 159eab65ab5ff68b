-- Facts on a ring of eight cells, by case distinction over its cells.
use Rattle.std.proofs.Common.{◌≡◌, ℕ, ◌+◌, ◌%◌, ◌<◌, List, [], ◌∷◌, length, slice_index, slice_set, refl, arith}
use Rattle.ga_word.proofs.Below.{each_below}
use Rattle.ga_stacks.specs.Ring.{StackRing, words_of_stack, words_after_push}
use Rattle.ga_stacks.specs.Stack.{stack_with_restored_words}
use Rattle.ga_stacks.specs.declared.place.StackPlace.TheVariants.{Pointer, Top, Second, Cell}

-- what holds of each list of eight written out holds of each list of that length
pub each_eight : (P : List ℕ → Type 0) → ((a b c d e f g h : ℕ) → P (a ∷ b ∷ c ∷ d ∷ e ∷ f ∷ g ∷ h ∷ []))
    → (xs : List ℕ) → length xs ≡ 8 → P xs
each_eight P holds (a ∷ b ∷ c ∷ d ∷ e ∷ f ∷ g ∷ h ∷ []) eight = holds a b c d e f g h
each_eight P holds xs eight = absurd (omega arith)

-- both at once
pub each_ring : (P : List ℕ → ℕ → Type 0)
    → ((a b c d e f g h : ℕ) → let xs : List ℕ = a ∷ b ∷ c ∷ d ∷ e ∷ f ∷ g ∷ h ∷ [] in (P xs 0) × (P xs 1) × (P xs 2) × (P xs 3) × (P xs 4) × (P xs 5) × (P xs 6) × (P xs 7))
    → (xs : List ℕ) (n : ℕ) → length xs ≡ 8 → n < 8 → P xs n
each_ring P holds xs n eight below =
    each_eight (λ ys. P ys n)
    (λ a b c d e f g h.
    let all = holds a b c d e f g h in
    each_below (P (a ∷ b ∷ c ∷ d ∷ e ∷ f ∷ g ∷ h ∷ [])) all.0 all.1 all.2 all.3 all.4 all.5 all.6 all.7 n below)
    xs eight

-- a stack of two registers after a push
abbrev pub after_push : ℕ → ℕ → ℕ → List ℕ → ℕ → StackRing
after_push word top second cells pointer = record { registers = word ∷ top ∷ []; cells = slice_set cells pointer second; pointer = pointer }

pub words_of_stack-after_push : (word top second : ℕ) (cells : List ℕ) (pointer : ℕ) → length cells ≡ 8 → pointer < 8
    → words_of_stack (after_push word top second cells ((pointer + 7) % 8))
    ≡ words_after_push word (words_of_stack (record { registers = top ∷ second ∷ []; cells = cells; pointer = pointer }))
words_of_stack-after_push word top second cells pointer eight below =
    each_ring
    (λ xs n. words_of_stack (after_push word top second xs ((n + 7) % 8)) ≡ words_after_push word (words_of_stack (record { registers = top ∷ second ∷ []; cells = xs; pointer = n })))
    (λ a b c d e f g h. (refl, refl, refl, refl, refl, refl, refl, refl))
    cells pointer eight below

pub restored-after_push : (word top second : ℕ) (cells : List ℕ) (pointer : ℕ) → length cells ≡ 8 → pointer < 8
    → let q = (pointer + 7) % 8 in
    stack_with_restored_words (after_push word top second cells q)
    ((Pointer, pointer) ∷ (Cell q, slice_index cells q) ∷ (Second, second) ∷ (Top, top) ∷ [])
    ≡ record { registers = top ∷ second ∷ []; cells = cells; pointer = pointer }
restored-after_push word top second cells pointer eight below =
    each_ring
    (λ xs n.
    let q = (n + 7) % 8 in
    stack_with_restored_words (after_push word top second xs q) ((Pointer, n) ∷ (Cell q, slice_index xs q) ∷ (Second, second) ∷ (Top, top) ∷ [])
    ≡ record { registers = top ∷ second ∷ []; cells = xs; pointer = n })
    (λ a b c d e f g h. (refl, refl, refl, refl, refl, refl, refl, refl))
    cells pointer eight below

-- a stack of one register after a push
abbrev pub after_push_one : ℕ → ℕ → List ℕ → ℕ → StackRing
after_push_one word top cells pointer = record { registers = word ∷ []; cells = slice_set cells pointer top; pointer = pointer }

pub words_of_stack-after_push_one : (word top : ℕ) (cells : List ℕ) (pointer : ℕ) → length cells ≡ 8 → pointer < 8
    → words_of_stack (after_push_one word top cells ((pointer + 7) % 8))
    ≡ words_after_push word (words_of_stack (record { registers = top ∷ []; cells = cells; pointer = pointer }))
words_of_stack-after_push_one word top cells pointer eight below =
    each_ring
    (λ xs n. words_of_stack (after_push_one word top xs ((n + 7) % 8)) ≡ words_after_push word (words_of_stack (record { registers = top ∷ []; cells = xs; pointer = n })))
    (λ a b c d e f g h. (refl, refl, refl, refl, refl, refl, refl, refl))
    cells pointer eight below

pub restored-after_push_one : (word top : ℕ) (cells : List ℕ) (pointer : ℕ) → length cells ≡ 8 → pointer < 8
    → let q = (pointer + 7) % 8 in
    stack_with_restored_words (after_push_one word top cells q) ((Pointer, pointer) ∷ (Cell q, slice_index cells q) ∷ (Top, top) ∷ [])
    ≡ record { registers = top ∷ []; cells = cells; pointer = pointer }
restored-after_push_one word top cells pointer eight below =
    each_ring
    (λ xs n.
    let q = (n + 7) % 8 in
    stack_with_restored_words (after_push_one word top xs q) ((Pointer, n) ∷ (Cell q, slice_index xs q) ∷ (Top, top) ∷ [])
    ≡ record { registers = top ∷ []; cells = xs; pointer = n })
    (λ a b c d e f g h. (refl, refl, refl, refl, refl, refl, refl, refl))
    cells pointer eight below
