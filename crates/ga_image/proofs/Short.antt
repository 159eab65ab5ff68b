-- A line that has a form is short, and a field line has a word.
-- Steps of the reading of words.
use Rattle.std.specs.Prelude.{nat_lt, codes, ◌-◌, ◌++◌, nat_eq, ◌&&◌}
use Rattle.std.specs.Str.{str_to_ascii_lowercase}
use Rattle.std.proofs.Common.{◌≡◌, ℕ, ◌+◌, ◌*◌, ◌<◌, ◌≤◌, Bool, true, false, cond, List, [], ◌∷◌, length, refl, sym, ◌∙◌, ap, arith, length-append, take, drop, Option, Some, None, append_assoc}
use Rattle.ga_image.specs.declared.field.Field.{Field}
use Rattle.ga_image.specs.declared.field.Field.TheVariants.{A, B, P, I, Io, Carry, Slot, Wait, Stop, Data, Return, Ram, Rom}
use Rattle.ga_image.specs.Spelling.{LineForm, Node, Words, End, IsLineFormText, IsTextOfField, IsFieldWordsText, IsFieldCodeText, HasFieldWordCount, side_set_text, wait_text, field_code_text, field_name, field_numbers_text, parse_spaced_words, parse_row_words, words_within_row_size}
use Rattle.ga_text.specs.Digits.{spaced_words_text}
use Rattle.std.specs.Cmp.Lexicographic.{pointwise}
use Rattle.std.proofs.lemmas.Bool.Decides.{nat_tests}
use Rattle.ga_word.specs.Word.{six_hex_digits_value}
use Rattle.ga_ports.specs.Steps.{◌>>=◌}

lower_length : (xs : List ℕ) → length (str_to_ascii_lowercase xs) ≡ length xs
lower_length [] = refl
lower_length (x ∷ xs) = omega (arith, lower_length xs)

words_length : (ws : List ℕ) → length (spaced_words_text ws) ≡ 7 * length ws
words_length [] = refl
words_length (w ∷ ws) = omega (arith, words_length ws)

-- a field line has from 1 to 16 words
counted : (field : Field) (count : ℕ) → HasFieldWordCount field count → (0 < count) × (count ≤ 16)
counted A count has = (omega arith, omega arith)
counted B count has = (omega arith, omega arith)
counted P count has = (omega arith, omega arith)
counted I count has = (omega arith, omega arith)
counted Io count has = (omega arith, omega arith)
counted Carry count has = (omega arith, omega arith)
counted Slot count has = (omega arith, omega arith)
counted Wait count has = (omega arith, omega arith)
counted Stop count has = (omega arith, omega arith)
counted (Data k) count has = (omega (arith, has.1), omega (arith, has.1))
counted (Return k) count has = (omega (arith, has.1), omega (arith, has.1))
counted (Ram cell) count has = (omega (arith, has.1), omega (arith, has.2))
counted (Rom cell) count has = (omega (arith, has.1), omega (arith, has.2))

numbers_length : (field : Field) (ws : List ℕ) → length (field_name field) + length (field_numbers_text field ws) ≤ 6 + 7 * length ws
numbers_length A ws = omega (arith, words_length ws)
numbers_length B ws = omega (arith, words_length ws)
numbers_length P ws = omega (arith, words_length ws)
numbers_length I ws = omega (arith, words_length ws)
numbers_length Io ws = omega (arith, words_length ws)
numbers_length Carry ws = omega (arith, words_length ws)
numbers_length Slot ws = omega (arith, words_length ws)
numbers_length Wait ws = omega (arith, words_length ws)
numbers_length Stop ws = omega (arith, words_length ws)
numbers_length (Data k) ws = omega (arith, words_length ws)
numbers_length (Return k) ws = omega (arith, words_length ws)
numbers_length (Ram cell) ws = omega (arith, words_length ws)
numbers_length (Rom cell) ws = omega (arith, words_length ws)

short_words : (text : List ℕ) (field : Field) (ws : List ℕ) → IsFieldWordsText text field ws → length text ≤ 200
short_words text field ws is =
    let most = (counted field (length ws) is.count).1 in
    let whole : length text ≡ length (field_name field) + length is.numbers = ap length is.parts ∙ length-append (field_name field) is.numbers in
    let same : length is.numbers ≡ length (field_numbers_text field ws) = sym (lower_length is.numbers) ∙ ap length is.digits in
    omega (arith, numbers_length field ws)

-- the longest is a wait to write
wait_length : (code : ℕ) → length (wait_text code) ≤ 10
wait_length code = either (nat_lt code 32) (nat_lt code 48) where
  either : (b c : Bool) → length (cond b (codes "fetch " ++ side_set_text (code - 16)) (cond c (codes "read " ++ side_set_text (code - 32)) (codes "write " ++ side_set_text (code - 48)))) ≤ 10
  either true c = omega arith
  either false true = omega arith
  either false false = omega arith

code_length : (field : Field) (code : ℕ) → length (field_name field ++ field_code_text field code) ≤ 200
code_length A code = omega arith
code_length B code = omega arith
code_length P code = omega arith
code_length I code = omega arith
code_length Io code = omega arith
code_length Carry code = omega arith
code_length Slot code = omega arith
code_length Wait code = omega (arith, wait_length code)
code_length Stop code = omega arith
code_length (Data k) code = omega arith
code_length (Return k) code = omega arith
code_length (Ram k) code = omega arith
code_length (Rom k) code = omega arith

short_code : (text : List ℕ) (field : Field) (ws : List ℕ) → IsFieldCodeText text field ws → length text ≤ 200
short_code text field ws is = let same = ap length is.parts in omega (arith, code_length field is.code)

short_field : (text : List ℕ) (field : Field) (ws : List ℕ) → IsTextOfField text field ws → length text ≤ 200
short_field text A ws is = short_words text A ws is
short_field text B ws is = short_words text B ws is
short_field text P ws is = short_words text P ws is
short_field text I ws is = short_words text I ws is
short_field text Io ws is = short_words text Io ws is
short_field text Carry ws is = short_code text Carry ws is
short_field text Slot ws is = short_code text Slot ws is
short_field text Wait ws is = short_code text Wait ws is
short_field text Stop ws is = short_code text Stop ws is
short_field text (Data k) ws is = short_words text (Data k) ws is
short_field text (Return k) ws is = short_words text (Return k) ws is
short_field text (Ram cell) ws is = short_words text (Ram cell) ws is
short_field text (Rom cell) ws is = short_words text (Rom cell) ws is

-- a line with a form has at most 200 bytes
pub short_spelled : (text : List ℕ) (f : LineForm) → IsLineFormText text f → length text ≤ 200
short_spelled text (Node decimal_name) is = let same = ap length is.1 in omega arith
short_spelled text (Words field ws) is = short_field text field ws is
short_spelled text End is = let same = ap length is in omega arith

-- a field line has the number of words of its field
pub count_spelled : (text : List ℕ) (field : Field) (ws : List ℕ) → IsTextOfField text field ws → HasFieldWordCount field (length ws)
count_spelled text A ws is = is.count
count_spelled text B ws is = is.count
count_spelled text P ws is = is.count
count_spelled text I ws is = is.count
count_spelled text Io ws is = is.count
count_spelled text Carry ws is = ap length is.one
count_spelled text Slot ws is = ap length is.one
count_spelled text Wait ws is = ap length is.one
count_spelled text Stop ws is = ap length is.one
count_spelled text (Data k) ws is = is.count
count_spelled text (Return k) ws is = is.count
count_spelled text (Ram cell) ws is = is.count
count_spelled text (Rom cell) ws is = is.count

-- and has one
pub some_spelled : (text : List ℕ) (field : Field) (ws : List ℕ) → IsTextOfField text field ws → 0 < length ws
some_spelled text field ws is = (counted field (length ws) (count_spelled text field ws is)).0

-- ---- steps of the reading of words

-- the words seen so far and those of a text, if there are at most 16
unfoldable pub words_after : List ℕ → List ℕ → Option (List ℕ)
words_after seen text = parse_spaced_words text >>= λ found. words_within_row_size (seen ++ found)

-- one word, then the others
pub one_word : List ℕ → List ℕ → Option (List ℕ)
one_word digits text = six_hex_digits_value digits >>= λ word. parse_spaced_words text >>= λ found. Some (word ∷ found)

short : (text : List ℕ) → 0 < length text → length text < 7 → parse_spaced_words text ≡ None
unfolding parse_spaced_words
short [] some words_within_row_size = absurd (omega arith)
short (a ∷ []) some words_within_row_size = refl
short (a ∷ b ∷ []) some words_within_row_size = refl
short (a ∷ b ∷ c ∷ []) some words_within_row_size = refl
short (a ∷ b ∷ c ∷ d ∷ []) some words_within_row_size = refl
short (a ∷ b ∷ c ∷ d ∷ e ∷ []) some words_within_row_size = refl
short (a ∷ b ∷ c ∷ d ∷ e ∷ f ∷ []) some words_within_row_size = refl
short (a ∷ b ∷ c ∷ d ∷ e ∷ f ∷ g ∷ text) some words_within_row_size = absurd (omega arith)

and_true : (b : Bool) → (b && true) ≡ b
and_true true = refl
and_true false = refl

-- the first seven bytes begin with a space
abbrev pub has_space : List ℕ → Bool
has_space text = pointwise nat_eq (take 1 (take 7 text)) (32 ∷ [])

long : (text : List ℕ) → 7 ≤ length text → parse_spaced_words text ≡ cond (has_space text) (one_word (drop 1 (take 7 text)) (drop 7 text)) None
unfolding parse_spaced_words one_word
long (s ∷ a ∷ b ∷ c ∷ d ∷ e ∷ f ∷ text) many = rw (and_true (nat_eq s 32)) refl
long [] many = absurd (omega arith)
long (a ∷ []) many = absurd (omega arith)
long (a ∷ b ∷ []) many = absurd (omega arith)
long (a ∷ b ∷ c ∷ []) many = absurd (omega arith)
long (a ∷ b ∷ c ∷ d ∷ []) many = absurd (omega arith)
long (a ∷ b ∷ c ∷ d ∷ e ∷ []) many = absurd (omega arith)
long (a ∷ b ∷ c ∷ d ∷ e ∷ f ∷ []) many = absurd (omega arith)

-- nothing is read from fewer than seven bytes
pub too_short : (seen text : List ℕ) → 0 < length text → length text < 7 → words_after seen text ≡ None
unfolding words_after
too_short seen text some words_within_row_size = rw (short text some words_within_row_size) refl

-- nor if there is no space in front
pub no_space : (seen text : List ℕ) → 7 ≤ length text → has_space text ≡ false → words_after seen text ≡ None
unfolding words_after
no_space seen text many other = rw (long text many, other) refl

-- nor where six digits don't follow
pub no_digits : (seen text : List ℕ) → 7 ≤ length text → has_space text ≡ true → six_hex_digits_value (drop 1 (take 7 text)) ≡ None → words_after seen text ≡ None
unfolding words_after one_word
no_digits seen text many space none = rw (long text many, space, none) refl

regroup : (seen : List ℕ) (word : ℕ) (found : Option (List ℕ)) → (found >>= λ ws. words_within_row_size ((seen ++ word ∷ []) ++ ws)) ≡ ((found >>= λ ws. Some (word ∷ ws)) >>= λ ws. words_within_row_size (seen ++ ws))
regroup seen word None = refl
regroup seen word (Some ws) = rw (append_assoc seen (word ∷ []) ws) refl

-- one word more
pub next_word : (seen text : List ℕ) (word : ℕ) → 7 ≤ length text → has_space text ≡ true → six_hex_digits_value (drop 1 (take 7 text)) ≡ Some word → words_after (seen ++ word ∷ []) (drop 7 text) ≡ words_after seen text
unfolding words_after one_word
next_word seen text word many space is = rw (long text many, space, is) (regroup seen word (parse_spaced_words (drop 7 text)))

overfull : (seen ws : List ℕ) (word : ℕ) → length seen ≡ 16 → words_within_row_size (seen ++ word ∷ ws) ≡ None
overfull seen ws word full = grind (arith, nat_tests, length-append seen (word ∷ ws))

no_more : (seen : List ℕ) (word : Option ℕ) (found : Option (List ℕ)) → length seen ≡ 16 → ((word >>= λ w. found >>= λ ws. Some (w ∷ ws)) >>= λ ws. words_within_row_size (seen ++ ws)) ≡ None
no_more seen None found full = refl
no_more seen (Some w) None full = refl
no_more seen (Some w) (Some ws) full = overfull seen ws w full

past_sixteen : (seen : List ℕ) (space : Bool) (word : Option ℕ) (found : Option (List ℕ)) → length seen ≡ 16 → (cond space (word >>= λ w. found >>= λ ws. Some (w ∷ ws)) None >>= λ ws. words_within_row_size (seen ++ ws)) ≡ None
past_sixteen seen true word found full = no_more seen word found full
past_sixteen seen false word found full = refl

-- after sixteen words nothing more may come
pub too_many : (seen text : List ℕ) → 7 ≤ length text → length seen ≡ 16 → words_after seen text ≡ None
unfolding words_after one_word
too_many seen text many full = rw (long text many) (past_sixteen seen _ _ _ full)

append_nothing : (xs : List ℕ) → xs ++ [] ≡ xs
append_nothing [] = refl
append_nothing (x ∷ xs) = ap (λ ys. x ∷ ys) (append_nothing xs)

-- no words are too few
pub no_words : words_after [] [] ≡ None
unfolding words_after parse_spaced_words
no_words = refl

-- words that were seen up to the end
pub all_words : (seen : List ℕ) → 0 < length seen → length seen ≤ 16 → words_after seen [] ≡ Some seen
unfolding words_after parse_spaced_words
all_words seen some words_within_row_size = rw (append_nothing seen) (grind (arith, nat_tests))

-- before the first word
pub from_start : (text : List ℕ) → words_after [] text ≡ parse_row_words text
unfolding words_after parse_row_words
from_start text = refl
