-- The number that digits write, as it is read digit by digit, and opcodes by their own names.
use Rattle.std.specs.Prelude.{min, option_map, bytes_eq, map}
use Rattle.std.proofs.Common.{◌≡◌, ◌∙◌, ℕ, ◌+◌, ◌*◌, ◌<◌, ◌≤◌, inl, inr, true, false, ltb, leb, List, [], ◌∷◌, length, take, get_or, Option, Some, None, arith, ap, sym, refl, zero, suc, drop}
use Rattle.std.specs.List.{list_all}
use Rattle.std.specs.Char.{digit_value, is_digit}
use Rattle.std.specs.Str.Parse.{digits_value}
use Rattle.std.specs.Option.{option_map_or}
use Rattle.std.proofs.Math.Nat.{mul-le-mul_left}
use Rattle.std.proofs.lemmas.Bool.{cases_lt, cond-false, and_from, lt-ltb, le-ltb, lt-leb, cond-true}
use Rattle.std.proofs.lemmas.List.{take_all}
use Rattle.std.proofs.lemmas.List.Folds.{list_all_more, list_all_at}
use Rattle.std.proofs.lemmas.Int.Digits.{digits_value_more}
use Rattle.ga_parser.specs.declared.number.Number.TheVariants.{Of, OutOfRange, Nothing}
use Rattle.ga_parser.specs.Vocabulary.{value_of_digits, number_in_word_range, negative_number_in_range, find_in_table}
use Rattle.ga_slots.specs.declared.op.Op.{Op}
use Rattle.ga_slots.specs.declared.op.Op.TheVariants.{Return}
use Rattle.ga_slots.specs.Codes.{name_of_opcode}

-- a number, or the greatest that is distinguished
abbrev told : ℕ → ℕ
told n = min n 16777216

-- a digit after a number at the greatest value doesn't lead back from it
next_told : (base n d : ℕ) → 1 ≤ base → told (told n * base + d) ≡ told (n * base + d)
next_told base n d one = elim (cases_lt n 16777216) [
  | inl small ↦ let e : min n 16777216 ≡ n = omega arith in ap (λ (m : ℕ). min (m * base + d) 16777216) e
  | inr large ↦
      let e : min n 16777216 ≡ 16777216 = omega arith in
      let more : n * 1 ≤ n * base = mul-le-mul_left n one in
      ap (λ (m : ℕ). min (m * base + d) 16777216) e ∙ omega arith
]

-- ---- one digit more

pub digit_more : (base : ℕ) (text : List ℕ) (i : ℕ) → i < length text → digit_value (get_or text i 0) < base → list_all (λ byte. is_digit byte base) (take i text) ≡ true → list_all (λ byte. is_digit byte base) (take (i + 1) text) ≡ true
digit_more base text i below digit all =
    list_all_more (λ byte. is_digit byte base) text i 0 below
    ∙ and_from (list_all (λ byte. is_digit byte base) (take i text)) (is_digit (get_or text i 0) base) all (lt-ltb (digit_value (get_or text i 0)) base digit)

pub digits_more : (base : ℕ) (text : List ℕ) (i n d : ℕ) → i < length text → 2 ≤ base → n ≡ min (digits_value base (take i text)) 16777216 → d ≡ digit_value (get_or text i 0) → min (n * base + d) 16777216 ≡ min (digits_value base (take (i + 1) text)) 16777216
digits_more base text i n d below two is_n is_d =
    ap (λ (m : ℕ). told (m * base + d)) is_n
    ∙ (next_told base (digits_value base (take i text)) d (omega arith)
    ∙ (ap (λ (z : ℕ). told (digits_value base (take i text) * base + z)) is_d
    ∙ ap told (sym (digits_value_more base text i below))))

-- ---- where the text ends, and where it is no numeral

pub no_digits : (base : ℕ) (text : List ℕ) → length text ≡ 0 → None ≡ option_map (λ n. min n 16777216) (value_of_digits base text)
no_digits base [] none = refl
no_digits base (b ∷ text) none = absurd (omega arith)

no_numeral : (base : ℕ) (text : List ℕ) → list_all (λ byte. is_digit byte base) text ≡ false → None ≡ option_map (λ n. min n 16777216) (value_of_digits base text)
no_numeral base [] some = refl
no_numeral base (b ∷ text) some = rw some refl

pub no_digit : (base : ℕ) (text : List ℕ) (i : ℕ) → i < length text → (digit_value (get_or text i 0) < base → ⊥) → None ≡ option_map (λ n. min n 16777216) (value_of_digits base text)
no_digit base text i below none =
    no_numeral base text (list_all_at (λ byte. is_digit byte base) text i 0 below
    (let least : base ≤ digit_value (get_or text i 0) = omega arith in le-ltb (digit_value (get_or text i 0)) base least))

numeral : (base : ℕ) (text : List ℕ) → 0 < length text → list_all (λ byte. is_digit byte base) text ≡ true → value_of_digits base text ≡ Some (digits_value base text)
numeral base [] some all = absurd (omega arith)
numeral base (b ∷ text) some all = rw all refl

pub all_digits : (base : ℕ) (text : List ℕ) (i n : ℕ) → 0 < length text → length text ≤ i → list_all (λ byte. is_digit byte base) (take i text) ≡ true → n ≡ min (digits_value base (take i text)) 16777216 → Some n ≡ option_map (λ n. min n 16777216) (value_of_digits base text)
all_digits base text i n some end all is_n =
    let whole = take_all i text end in
    ap Some (is_n ∙ ap (λ (front : List ℕ). told (digits_value base front)) whole)
    ∙ ap (option_map told) (sym (numeral base text some (ap (list_all (λ byte. is_digit byte base)) (sym whole) ∙ all)))

-- ---- the truncated number suffices

size_told : (n : ℕ) → number_in_word_range (told n) ≡ number_in_word_range n
size_told n = elim (cases_lt n 16777216) [
  | inl small ↦ let e : min n 16777216 ≡ n = omega arith in ap number_in_word_range e
  | inr large ↦
      let e : min n 16777216 ≡ 16777216 = omega arith in
      let past : 262144 ≤ n = omega arith in
      ap number_in_word_range e ∙ sym (cond-false (ltb n 262144) (Of n) OutOfRange (le-ltb n 262144 past))
]

below_told : (n : ℕ) → negative_number_in_range (told n) ≡ negative_number_in_range n
below_told n = elim (cases_lt n 16777216) [
  | inl small ↦ let e : min n 16777216 ≡ n = omega arith in ap negative_number_in_range e
  | inr large ↦
      let e : min n 16777216 ≡ 16777216 = omega arith in
      let past : 131072 < n = omega arith in
      ap negative_number_in_range e ∙ sym (cond-false (leb n 131072) _ OutOfRange (lt-leb n 131072 past))
]

pub read_size : (number read : Option ℕ) → read ≡ option_map (λ n. min n 16777216) number → option_map_or number_in_word_range read Nothing ≡ option_map_or number_in_word_range number Nothing
read_size None read e = ap (λ (o : Option ℕ). option_map_or number_in_word_range o Nothing) e
read_size (Some n) read e = ap (λ (o : Option ℕ). option_map_or number_in_word_range o Nothing) e ∙ size_told n

pub read_below : (number read : Option ℕ) → read ≡ option_map (λ n. min n 16777216) number → option_map_or negative_number_in_range read Nothing ≡ option_map_or negative_number_in_range number Nothing
read_below None read e = ap (λ (o : Option ℕ). option_map_or negative_number_in_range o Nothing) e
read_below (Some n) read e = ap (λ (o : Option ℕ). option_map_or negative_number_in_range o Nothing) e ∙ below_told n

-- ---- opcodes by their own names

abbrev row_of : Op → List ℕ × Op
row_of op = (name_of_opcode op, op)

rows_left : (ops : List Op) (code : ℕ) → code < length ops → drop code (map row_of ops) ≡ row_of (get_or ops code Return) ∷ drop (code + 1) (map row_of ops)
rows_left [] code within = absurd (omega arith)
rows_left (op ∷ ops) zero within = refl
rows_left (op ∷ ops) (suc code) within =
    let one : suc code + 1 ≡ suc (code + 1) = omega arith in
    rows_left ops code (omega arith) ∙ ap (λ (k : ℕ). row_of (get_or ops code Return) ∷ drop k (map row_of (op ∷ ops))) (sym one)

module _ (ops : List Op) (code : ℕ) (text name : List ℕ) (within : code < length ops) (is : name ≡ name_of_opcode (get_or ops code Return)) (before : find_in_table (drop code (map row_of ops)) text ≡ find_in_table (map row_of ops) text) where
  first : find_in_table (row_of (get_or ops code Return) ∷ drop (code + 1) (map row_of ops)) text ≡ find_in_table (map row_of ops) text
  first = ap (λ (rows : List (List ℕ × Op)). find_in_table rows text) (sym (rows_left ops code within)) ∙ before

  pub other_row : bytes_eq text name ≡ false → find_in_table (drop (code + 1) (map row_of ops)) text ≡ find_in_table (map row_of ops) text
  other_row test = sym (cond-false (bytes_eq text (name_of_opcode (get_or ops code Return))) _ _ (ap (bytes_eq text) (sym is) ∙ test)) ∙ first

  pub this_row : bytes_eq text name ≡ true → Some (get_or ops code Return) ≡ find_in_table (map row_of ops) text
  this_row test = sym (cond-true (bytes_eq text (name_of_opcode (get_or ops code Return))) _ _ (ap (bytes_eq text) (sym is) ∙ test)) ∙ first
