-- A word of four opcodes, and its opcodes again.
use Rattle.std.specs.Prelude.{bit_xor}
use Rattle.std.specs.Int.Bits.{xor_assoc, xor_self, xor_zero_r}
use Rattle.std.proofs.Common.{◌≡◌, ◌∙◌, ℕ, zero, suc, ◌+◌, ◌*◌, ◌/◌, ◌%◌, ◌^◌, ◌<◌, List, slice_index_or, ap, refl, sym, arith, lit<, Some, None, Bool, cond, eq-eqb}
use Rattle.std.proofs.Math.Nat.{mod-eq_of_lt}
use Rattle.std.proofs.lemmas.Nat.{xor_lt}
use Rattle.ga_slots.specs.declared.op.Op.{Op}
use Rattle.ga_slots.specs.declared.op.Op.TheVariants.{Return, Execute, Jump, Call, Unext, Next, If, MinusIf, FetchP, FetchPlus, FetchB, Fetch, StoreP, StorePlus, StoreB, Store, MultiplyStep, TwoStar, TwoSlash, Invert, Plus, And, Or, Drop, Dup, Pop, Over, A, Nop, Push, BStore, AStore}
use Rattle.ga_slots.specs.Codes.{code_of_opcode, opcode_of_code}
use Rattle.ga_slots.specs.Slots.{opcode, opcode_mask, word_of_slot_codes, word_of_opcodes}

-- an opcode is the one of its code
pub opcode_of_code-code_of : (op : Op) → opcode_of_code (code_of_opcode op) ≡ op
opcode_of_code-code_of Return = refl
opcode_of_code-code_of Execute = refl
opcode_of_code-code_of Jump = refl
opcode_of_code-code_of Call = refl
opcode_of_code-code_of Unext = refl
opcode_of_code-code_of Next = refl
opcode_of_code-code_of If = refl
opcode_of_code-code_of MinusIf = refl
opcode_of_code-code_of FetchP = refl
opcode_of_code-code_of FetchPlus = refl
opcode_of_code-code_of FetchB = refl
opcode_of_code-code_of Fetch = refl
opcode_of_code-code_of StoreP = refl
opcode_of_code-code_of StorePlus = refl
opcode_of_code-code_of StoreB = refl
opcode_of_code-code_of Store = refl
opcode_of_code-code_of MultiplyStep = refl
opcode_of_code-code_of TwoStar = refl
opcode_of_code-code_of TwoSlash = refl
opcode_of_code-code_of Invert = refl
opcode_of_code-code_of Plus = refl
opcode_of_code-code_of And = refl
opcode_of_code-code_of Or = refl
opcode_of_code-code_of Drop = refl
opcode_of_code-code_of Dup = refl
opcode_of_code-code_of Pop = refl
opcode_of_code-code_of Over = refl
opcode_of_code-code_of A = refl
opcode_of_code-code_of Nop = refl
opcode_of_code-code_of Push = refl
opcode_of_code-code_of BStore = refl
opcode_of_code-code_of AStore = refl

pub code_of_opcode-lt : (op : Op) → code_of_opcode op < 32
code_of_opcode-lt Return = lit< tt
code_of_opcode-lt Execute = lit< tt
code_of_opcode-lt Jump = lit< tt
code_of_opcode-lt Call = lit< tt
code_of_opcode-lt Unext = lit< tt
code_of_opcode-lt Next = lit< tt
code_of_opcode-lt If = lit< tt
code_of_opcode-lt MinusIf = lit< tt
code_of_opcode-lt FetchP = lit< tt
code_of_opcode-lt FetchPlus = lit< tt
code_of_opcode-lt FetchB = lit< tt
code_of_opcode-lt Fetch = lit< tt
code_of_opcode-lt StoreP = lit< tt
code_of_opcode-lt StorePlus = lit< tt
code_of_opcode-lt StoreB = lit< tt
code_of_opcode-lt Store = lit< tt
code_of_opcode-lt MultiplyStep = lit< tt
code_of_opcode-lt TwoStar = lit< tt
code_of_opcode-lt TwoSlash = lit< tt
code_of_opcode-lt Invert = lit< tt
code_of_opcode-lt Plus = lit< tt
code_of_opcode-lt And = lit< tt
code_of_opcode-lt Or = lit< tt
code_of_opcode-lt Drop = lit< tt
code_of_opcode-lt Dup = lit< tt
code_of_opcode-lt Pop = lit< tt
code_of_opcode-lt Over = lit< tt
code_of_opcode-lt A = lit< tt
code_of_opcode-lt Nop = lit< tt
code_of_opcode-lt Push = lit< tt
code_of_opcode-lt BStore = lit< tt
code_of_opcode-lt AStore = lit< tt

-- the mask taken off again
pub xor_back : (x m : ℕ) → bit_xor (bit_xor x m) m ≡ x
xor_back x m = xor_assoc x m m ∙ ap (bit_xor x) (xor_self m) ∙ xor_zero_r x

-- four codes in their slots, without the mask
abbrev pub plain_of : ℕ → ℕ → ℕ → ℕ → ℕ
plain_of a b c d = a * 2 ^ 13 + b * 2 ^ 8 + c * 2 ^ 3 + d / 4

pub plain-lt : (a b c d : ℕ) → a < 32 → b < 32 → c < 32 → d < 32 → plain_of a b c d < 2 ^ 18
plain-lt a b c d p q r s = omega arith

-- four codes fill a word
pub word_of-mod : (a b c d : ℕ) → a < 32 → b < 32 → c < 32 → d < 32 → word_of_slot_codes a b c d % 2 ^ 18 ≡ word_of_slot_codes a b c d
word_of-mod a b c d p q r s = mod-eq_of_lt (xor_lt 18 (plain_of a b c d) opcode_mask (plain-lt a b c d p q r s) (lit< tt))

-- what holds of each slot
each_slot : (P : ℕ → Type 0) → P 0 → P 1 → P 2 → P 3 → (slot : ℕ) → slot < 4 → P slot
each_slot P a b c d zero below = a
each_slot P a b c d (suc zero) below = b
each_slot P a b c d (suc (suc zero)) below = c
each_slot P a b c d (suc (suc (suc zero))) below = d
each_slot P a b c d (suc (suc (suc (suc slot)))) below = absurd (omega arith)

-- the opcode in each slot of a word of four codes, the last of them a multiple of 4
first : (a b c d : ℕ) → a < 32 → b < 32 → c < 32 → d < 32 → opcode (word_of_slot_codes a b c d) 0 ≡ opcode_of_code a
first a b c d p q r s =
    rw (xor_back (plain_of a b c d) opcode_mask) (ap opcode_of_code (let e : plain_of a b c d / 2 ^ 13 % 32 ≡ a = omega arith in e))

second : (a b c d : ℕ) → a < 32 → b < 32 → c < 32 → d < 32 → opcode (word_of_slot_codes a b c d) 1 ≡ opcode_of_code b
second a b c d p q r s =
    rw (xor_back (plain_of a b c d) opcode_mask) (ap opcode_of_code (let e : plain_of a b c d / 2 ^ 8 % 32 ≡ b = omega arith in e))

third : (a b c d : ℕ) → a < 32 → b < 32 → c < 32 → d < 32 → opcode (word_of_slot_codes a b c d) 2 ≡ opcode_of_code c
third a b c d p q r s =
    rw (xor_back (plain_of a b c d) opcode_mask) (ap opcode_of_code (let e : plain_of a b c d / 2 ^ 3 % 32 ≡ c = omega arith in e))

fourth : (a b c d : ℕ) → a < 32 → b < 32 → c < 32 → d < 32 → d % 4 ≡ 0 → opcode (word_of_slot_codes a b c d) 3 ≡ opcode_of_code d
fourth a b c d p q r s fits =
    rw (xor_back (plain_of a b c d) opcode_mask) (ap opcode_of_code (let e : plain_of a b c d % 8 * 4 ≡ d = omega arith in e))

-- the same for the codes of opcodes in a list
pub opcode-word_of : (ops : List Op) → let code = λ (i : ℕ). code_of_opcode (slice_index_or ops i Return) in
    code 3 % 4 ≡ 0 → (slot : ℕ) → slot < 4 → opcode (word_of_slot_codes (code 0) (code 1) (code 2) (code 3)) slot ≡ slice_index_or ops slot Return
opcode-word_of ops fits slot below =
    let op : ℕ → Op = λ i. slice_index_or ops i Return in
    each_slot (λ k. opcode (word_of_slot_codes (code_of_opcode (op 0)) (code_of_opcode (op 1)) (code_of_opcode (op 2)) (code_of_opcode (op 3))) k ≡ op k)
    (first (code_of_opcode (op 0)) (code_of_opcode (op 1)) (code_of_opcode (op 2)) (code_of_opcode (op 3)) (code_of_opcode-lt (op 0)) (code_of_opcode-lt (op 1)) (code_of_opcode-lt (op 2)) (code_of_opcode-lt (op 3)) ∙ opcode_of_code-code_of (op 0))
    (second (code_of_opcode (op 0)) (code_of_opcode (op 1)) (code_of_opcode (op 2)) (code_of_opcode (op 3)) (code_of_opcode-lt (op 0)) (code_of_opcode-lt (op 1)) (code_of_opcode-lt (op 2)) (code_of_opcode-lt (op 3)) ∙ opcode_of_code-code_of (op 1))
    (third (code_of_opcode (op 0)) (code_of_opcode (op 1)) (code_of_opcode (op 2)) (code_of_opcode (op 3)) (code_of_opcode-lt (op 0)) (code_of_opcode-lt (op 1)) (code_of_opcode-lt (op 2)) (code_of_opcode-lt (op 3)) ∙ opcode_of_code-code_of (op 2))
    (fourth (code_of_opcode (op 0)) (code_of_opcode (op 1)) (code_of_opcode (op 2)) (code_of_opcode (op 3)) (code_of_opcode-lt (op 0)) (code_of_opcode-lt (op 1)) (code_of_opcode-lt (op 2)) (code_of_opcode-lt (op 3)) fits ∙ opcode_of_code-code_of (op 3))
    slot below

-- the word of opcodes whose fourth fits its slot
pub word_of_opcodes-fits : (ops : List Op) → let code = λ (i : ℕ). code_of_opcode (slice_index_or ops i Return) in
    code 3 % 4 ≡ 0 → word_of_opcodes ops ≡ Some (word_of_slot_codes (code 0) (code 1) (code 2) (code 3) % 2 ^ 18)
word_of_opcodes-fits ops fits =
    let op : ℕ → Op = λ i. slice_index_or ops i Return in
    ap (λ (b : Bool). cond b (Some (word_of_slot_codes (code_of_opcode (op 0)) (code_of_opcode (op 1)) (code_of_opcode (op 2)) (code_of_opcode (op 3)))) None) (eq-eqb (code_of_opcode (op 3) % 4) 0 fits)
    ∙ ap (λ (w : ℕ). Some w)
    (sym (word_of-mod (code_of_opcode (op 0)) (code_of_opcode (op 1)) (code_of_opcode (op 2)) (code_of_opcode (op 3)) (code_of_opcode-lt (op 0)) (code_of_opcode-lt (op 1)) (code_of_opcode-lt (op 2)) (code_of_opcode-lt (op 3))))

-- its opcodes
pub opcode-word_of_opcodes : (ops : List Op) → let code = λ (i : ℕ). code_of_opcode (slice_index_or ops i Return) in
    code 3 % 4 ≡ 0 → (slot : ℕ) → slot < 4 → opcode (word_of_slot_codes (code 0) (code 1) (code 2) (code 3) % 2 ^ 18) slot ≡ slice_index_or ops slot Return
opcode-word_of_opcodes ops fits slot below =
    let op : ℕ → Op = λ i. slice_index_or ops i Return in
    ap (λ (w : ℕ). opcode w slot)
    (word_of-mod (code_of_opcode (op 0)) (code_of_opcode (op 1)) (code_of_opcode (op 2)) (code_of_opcode (op 3)) (code_of_opcode-lt (op 0)) (code_of_opcode-lt (op 1)) (code_of_opcode-lt (op 2)) (code_of_opcode-lt (op 3)))
    ∙ opcode-word_of ops fits slot below
