-- The letters of a set of sides, and the set that they give. A line that parses as a form is a text of it.
use Rattle.std.specs.Prelude.{◌==◌, nat_eq, nat_le, nat_lt, codes, ◌-◌}
use Rattle.std.proofs.lemmas.Bool.{eqb-true}
use Rattle.std.proofs.Common.{◌≡◌, ℕ, zero, suc, ◌+◌, ◌*◌, ◌/◌, ◌%◌, ◌<◌, ◌≤◌, inl, inr, true, false, List, [], ◌∷◌, Option, Some, None, refl, ◌∙◌, ap, arith, ◌^◌, Bool, cond, ◌&&◌, ◌++◌, length, take, drop, sym, subst, append_assoc}
use Rattle.ga_ports.specs.Address.{side_letter_value, parse_side_set, is_single_side_set}
use Rattle.ga_ports.specs.Steps.{◌>>=◌}
use Rattle.ga_image.specs.Spelling.{side_letter_or_hyphen, side_set_text, LineForm, Node, Words, End, wait_text, field_name, field_numbers_text, field_code_text, HasFieldWordCount, IsFieldWordsText, IsFieldCodeNumber, IsFieldCodeText, IsTextOfField, IsLineFormText, line_form, parse_spaced_words, words_within_row_size, parse_row_words, word_line_form, cells_line_form, stack_line_form, digit_line_form, side_set_wait_form, side_write_wait_form, node_wait_line_form, node_line_form, stack_memory_or_node_form, state_line_form, begins_with_text}
use Rattle.ga_text.proofs.Numbers.{chosen, word_spelled, word_read, cell_spelled, node_spelled, between}
use Rattle.std.specs.List.{AllByRecursion}
use Rattle.std.specs.Char.{to_ascii_lowercase}
use Rattle.std.specs.Str.{str_to_ascii_lowercase}
use Rattle.std.specs.Cmp.Lexicographic.{pointwise}
use Rattle.std.proofs.lemmas.Bool.Decides.{nat_tests}
use Rattle.std.proofs.lemmas.List.{take-append-drop}
use Rattle.std.proofs.lemmas.Slice.Eq.{bytes_eq-Decides}
use Rattle.ga_word.specs.Word.{hex_digits_of_word, six_hex_digits_value}
use Rattle.ga_image.specs.declared.field.Field.{Field}
use Rattle.ga_image.specs.declared.field.Field.TheVariants.{A, B, P, I, Io, Carry, Slot, Wait, Stop, Data, Return, Ram, Rom}
use Rattle.ga_node.specs.State.{IsWaitCode}
use Rattle.ga_grid.specs.Grid.{parse_decimal_name}
use Rattle.ga_text.specs.Digits.{hex_byte_value, two_hex_digits_text, spaced_words_text}

-- a side that is read is in the set, or isn't
side_spelled : (name value c v : ℕ) → side_letter_value name value c ≡ Some v → (bit : ℕ) × (bit ≤ 1) × (v ≡ value * bit) × (c ≡ side_letter_or_hyphen name bit)
side_spelled name value c v e =
    elim (chosen (c == name) value v _ e) [
      | inl named ↦ let is : c ≡ name = eqb-true c name named.0 in let same = named.1 in (1, omega arith, omega arith, is)
      | inr others ↦ elim (chosen (c == 45) 0 v None others) [
        | inl absent ↦ let is : c ≡ 45 = eqb-true c 45 absent.0 in let same = absent.1 in (0, omega arith, omega arith, is)
        | inr none ↦ absurd (let never : None ≡ Some v = none in let clash : true ≡ false = cc in cc)
      ]
    ]

right_read : (bit : ℕ) → bit ≤ 1 → side_letter_value 114 8 (side_letter_or_hyphen 114 bit) ≡ Some (8 * bit)
right_read zero small = refl
right_read (suc zero) small = refl
right_read (suc (suc bit)) small = absurd (omega arith)

down_read : (bit : ℕ) → bit ≤ 1 → side_letter_value 100 4 (side_letter_or_hyphen 100 bit) ≡ Some (4 * bit)
down_read zero small = refl
down_read (suc zero) small = refl
down_read (suc (suc bit)) small = absurd (omega arith)

left_read : (bit : ℕ) → bit ≤ 1 → side_letter_value 108 2 (side_letter_or_hyphen 108 bit) ≡ Some (2 * bit)
left_read zero small = refl
left_read (suc zero) small = refl
left_read (suc (suc bit)) small = absurd (omega arith)

up_read : (bit : ℕ) → bit ≤ 1 → side_letter_value 117 1 (side_letter_or_hyphen 117 bit) ≡ Some (1 * bit)
up_read zero small = refl
up_read (suc zero) small = refl
up_read (suc (suc bit)) small = absurd (omega arith)

quad_stepped : (u v w x : Option ℕ) (n : ℕ) → (u >>= λ a. v >>= λ b. w >>= λ c. x >>= λ d. Some (a + b + c + d)) ≡ Some n
    → (a : ℕ) × (b : ℕ) × (c : ℕ) × (d : ℕ) × (u ≡ Some a) × (v ≡ Some b) × (w ≡ Some c) × (x ≡ Some d) × (a + b + c + d ≡ n)
quad_stepped None v w x n is = cc
quad_stepped (Some a) None w x n is = cc
quad_stepped (Some a) (Some b) None x n is = cc
quad_stepped (Some a) (Some b) (Some c) None n is = cc
quad_stepped (Some a) (Some b) (Some c) (Some d) n is = let same : a + b + c + d ≡ n = cc in (a, b, c, d, refl, refl, refl, refl, same)

four_equal : (a b c d w x y z : ℕ) → a ≡ w → b ≡ x → c ≡ y → d ≡ z → (a ∷ b ∷ c ∷ d ∷ []) ≡ (w ∷ x ∷ y ∷ z ∷ [])
four_equal a b c d w x y z p q r s = cc

-- four letters that give a set are that set's
pub set_spelled : (text : List ℕ) (n : ℕ) → parse_side_set text ≡ Some n → (n < 16) × (text ≡ side_set_text n)
unfolding parse_side_set
set_spelled [] n is = cc
set_spelled (x ∷ []) n is = cc
set_spelled (x ∷ y ∷ []) n is = cc
set_spelled (x ∷ y ∷ z ∷ []) n is = cc
set_spelled (x ∷ y ∷ z ∷ w ∷ []) n is =
    let (a, b, c, d, xa, yb, zc, wd, whole) = quad_stepped (side_letter_value 114 8 x) (side_letter_value 100 4 y) (side_letter_value 108 2 z) (side_letter_value 117 1 w) n is in
    let (r, r_small, a_is, x_is) = side_spelled 114 8 x a xa in
    let (t, t_small, b_is, y_is) = side_spelled 100 4 y b yb in
    let (l, l_small, c_is, z_is) = side_spelled 108 2 z c zc in
    let (u, u_small, d_is, w_is) = side_spelled 117 1 w d wd in
    let first : r ≡ n / 8 % 2 = omega arith in
    let second : t ≡ n / 4 % 2 = omega arith in
    let third : l ≡ n / 2 % 2 = omega arith in
    let fourth : u ≡ n % 2 = omega arith in
    (omega arith, four_equal _ _ _ _ _ _ _ _ (x_is ∙ ap (side_letter_or_hyphen 114) first) (y_is ∙ ap (side_letter_or_hyphen 100) second) (z_is ∙ ap (side_letter_or_hyphen 108) third) (w_is ∙ ap (side_letter_or_hyphen 117) fourth))
set_spelled (x ∷ y ∷ z ∷ w ∷ v ∷ text) n is = cc

-- the letters of a set give it back
pub set_read : (n : ℕ) → n < 16 → parse_side_set (side_set_text n) ≡ Some n
unfolding parse_side_set
set_read n small =
    let whole : 8 * (n / 8 % 2) + 4 * (n / 4 % 2) + 2 * (n / 2 % 2) + 1 * (n % 2) ≡ n = omega arith in
    rw (right_read (n / 8 % 2) (omega arith), down_read (n / 4 % 2) (omega arith), left_read (n / 2 % 2) (omega arith), up_read (n % 2) (omega arith)) (ap (λ (k : ℕ). Some k) whole)

-- ---- a line is a text of the form that it parses as

-- the first step gave something
first_step : {A B : Type 0} (o : Option A) (f : A → Option B) (y : B) → (o >>= f) ≡ Some y → (x : A) × (o ≡ Some x) × (f x ≡ Some y)
first_step None f y e = cc
first_step (Some x) f y e = (x, refl, e)

-- numbers of at most six digits
abbrev pub AreSix : List ℕ → Type 0
AreSix ws = AllByRecursion (λ word. word < 2 ^ 24) ws

guard_true : {A : Type 0} (b : Bool) (o : Option A) (x : A) → cond b o None ≡ Some x → b ≡ true
guard_true true o x e = refl
guard_true false o x e = cc

through_word : (b : Bool) (word : Option ℕ) (found : Option (List ℕ)) (ws : List ℕ) → cond b (word >>= λ w. found >>= λ vs. Some (w ∷ vs)) None ≡ Some ws
    → (w : ℕ) × (vs : List ℕ) × (word ≡ Some w) × (found ≡ Some vs) × (ws ≡ w ∷ vs)
through_word false word found ws e = cc
through_word true None found ws e = cc
through_word true (Some w) None ws e = cc
through_word true (Some w) (Some vs) ws e = let same : ws ≡ w ∷ vs = cc in (w, vs, refl, refl, same)

spelled_on : (a b c d f g h : ℕ) (text : List ℕ) (w : ℕ) (vs ws : List ℕ) → a ≡ 32 → ws ≡ w ∷ vs → w < 2 ^ 24 → str_to_ascii_lowercase (b ∷ c ∷ d ∷ f ∷ g ∷ h ∷ []) ≡ hex_digits_of_word w
    → AreSix vs → str_to_ascii_lowercase text ≡ spaced_words_text vs → AreSix ws × (str_to_ascii_lowercase (a ∷ b ∷ c ∷ d ∷ f ∷ g ∷ h ∷ text) ≡ spaced_words_text ws)
spelled_on a b c d f g h text w vs ws space both small digits others more =
    rw (both, space) ((small, others), ap (λ zs. 32 ∷ (zs ++ str_to_ascii_lowercase text)) digits ∙ ap (λ zs. 32 ∷ (hex_digits_of_word w ++ zs)) more)

apart : (a b c d e f g a' b' c' d' e' f' g' : ℕ) (xs ys : List ℕ) → (a ∷ b ∷ c ∷ d ∷ e ∷ f ∷ g ∷ xs) ≡ (a' ∷ b' ∷ c' ∷ d' ∷ e' ∷ f' ∷ g' ∷ ys)
    → (a ≡ a') × ((b ∷ c ∷ d ∷ e ∷ f ∷ g ∷ []) ≡ (b' ∷ c' ∷ d' ∷ e' ∷ f' ∷ g' ∷ [])) × (xs ≡ ys)
apart a b c d e f g a' b' c' d' e' f' g' xs ys is =
    let first : a ≡ a' = cc in
    let middle : (b ∷ c ∷ d ∷ e ∷ f ∷ g ∷ []) ≡ (b' ∷ c' ∷ d' ∷ e' ∷ f' ∷ g' ∷ []) = cc in
    let last : xs ≡ ys = cc in
    (first, middle, last)

pub guarded : {A : Type 0} (b : Bool) (x y : A) → cond b (Some x) None ≡ Some y → (b ≡ true) × (x ≡ y)
guarded true x y e = let same : x ≡ y = cc in (refl, same)
guarded false x y e = cc

both_true : (x y : Bool) → (x && y) ≡ true → (x ≡ true) × (y ≡ true)
both_true true y e = (refl, e)
both_true false y e = cc

-- a text that parses as words is their text
words_spelled : (text ws : List ℕ) → parse_spaced_words text ≡ Some ws → AreSix ws × (str_to_ascii_lowercase text ≡ spaced_words_text ws)
unfolding parse_spaced_words
words_spelled [] ws e = let none : ws ≡ [] = cc in rw none (tt, refl)
words_spelled (a ∷ []) ws e = cc
words_spelled (a ∷ b ∷ []) ws e = cc
words_spelled (a ∷ b ∷ c ∷ []) ws e = cc
words_spelled (a ∷ b ∷ c ∷ d ∷ []) ws e = cc
words_spelled (a ∷ b ∷ c ∷ d ∷ f ∷ []) ws e = cc
words_spelled (a ∷ b ∷ c ∷ d ∷ f ∷ g ∷ []) ws e = cc
words_spelled (a ∷ b ∷ c ∷ d ∷ f ∷ g ∷ h ∷ text) ws e =
    let space : a ≡ 32 = eqb-true a 32 (guard_true (a == 32) _ ws e) in
    let (w, vs, word, rest, both) = through_word (a == 32) (six_hex_digits_value (b ∷ c ∷ d ∷ f ∷ g ∷ h ∷ [])) (parse_spaced_words text) ws e in
    let (small, digits) = word_spelled b c d f g h w word in
    let (others, more) = words_spelled text vs rest in
    spelled_on a b c d f g h text w vs ws space both small digits others more

pub lower_space : (c : ℕ) → to_ascii_lowercase c ≡ 32 → c ≡ 32
lower_space c e = grind (arith, nat_tests)

words_read : (text ws : List ℕ) → AreSix ws → str_to_ascii_lowercase text ≡ spaced_words_text ws → parse_spaced_words text ≡ Some ws
unfolding parse_spaced_words
words_read [] [] six e = refl
words_read (a ∷ text) [] six e = cc
words_read [] (w ∷ ws) six e = cc
words_read (a ∷ []) (w ∷ ws) six e = cc
words_read (a ∷ b ∷ []) (w ∷ ws) six e = cc
words_read (a ∷ b ∷ c ∷ []) (w ∷ ws) six e = cc
words_read (a ∷ b ∷ c ∷ d ∷ []) (w ∷ ws) six e = cc
words_read (a ∷ b ∷ c ∷ d ∷ f ∷ []) (w ∷ ws) six e = cc
words_read (a ∷ b ∷ c ∷ d ∷ f ∷ g ∷ []) (w ∷ ws) six e = cc
words_read (a ∷ b ∷ c ∷ d ∷ f ∷ g ∷ h ∷ text) (w ∷ ws) six e =
    let parts = apart _ _ _ _ _ _ _ _ _ _ _ _ _ _ _ _ e in
    let space : a ≡ 32 = lower_space a parts.0 in
    let word = word_read (b ∷ c ∷ d ∷ f ∷ g ∷ h ∷ []) w six.0 parts.1 in
    let more = words_read text ws six.1 parts.2 in
    rw (space, word, more) refl

few_is : (found ws : List ℕ) → words_within_row_size found ≡ Some ws → (found ≡ ws) × (1 ≤ length ws) × (length ws ≤ 16)
few_is found ws e =
    let (test, same) = guarded (nat_le 1 (length found) && nat_le (length found) 16) found ws e in
    let (some, words_within_row_size) = both_true (nat_le 1 (length found)) (nat_le (length found) 16) test in
    rw (← same) (refl, grind (arith, nat_tests), grind (arith, nat_tests))

-- a text that parses as 1 to 16 words is their text
row_spelled : (text ws : List ℕ) → parse_row_words text ≡ Some ws → AreSix ws × (str_to_ascii_lowercase text ≡ spaced_words_text ws) × (1 ≤ length ws) × (length ws ≤ 16)
unfolding parse_row_words
row_spelled text ws e =
    let (found, spaced, words_within_row_size) = first_step (parse_spaced_words text) words_within_row_size ws e in
    let (same, some, most) = few_is found ws words_within_row_size in
    let (six, digits) = words_spelled text ws (spaced ∙ ap (λ (xs : List ℕ). Some xs) same) in
    (six, digits, some, most)

pub row_read : (text ws : List ℕ) → AreSix ws → str_to_ascii_lowercase text ≡ spaced_words_text ws → 1 ≤ length ws → length ws ≤ 16 → parse_row_words text ≡ Some ws
unfolding parse_row_words
row_read text ws six digits some most = rw (words_read text ws six digits) (grind (arith, nat_tests))

six_spelled : (text : List ℕ) (n : ℕ) → six_hex_digits_value text ≡ Some n → (n < 2 ^ 24) × (str_to_ascii_lowercase text ≡ hex_digits_of_word n)
six_spelled [] n e = cc
six_spelled (a ∷ []) n e = cc
six_spelled (a ∷ b ∷ []) n e = cc
six_spelled (a ∷ b ∷ c ∷ []) n e = cc
six_spelled (a ∷ b ∷ c ∷ d ∷ []) n e = cc
six_spelled (a ∷ b ∷ c ∷ d ∷ f ∷ []) n e = cc
six_spelled (a ∷ b ∷ c ∷ d ∷ f ∷ g ∷ []) n e = word_spelled a b c d f g n e
six_spelled (a ∷ b ∷ c ∷ d ∷ f ∷ g ∷ h ∷ text) n e = absurd (let long = eqb-true (length (a ∷ b ∷ c ∷ d ∷ f ∷ g ∷ h ∷ text)) 6 (guard_true _ _ n e) in omega arith)

begun : (text front : List ℕ) → begins_with_text text front ≡ true → text ≡ front ++ drop (length front) text
begun text front e = sym (take-append-drop (length front) text) ∙ ap (λ xs. xs ++ drop (length front) text) ((bytes_eq-Decides (take (length front) text) front).0 e)

-- one branch of a test or the other
branch : {A Q : Type 0} (b : Bool) (x y z : A) → (b ≡ true → x ≡ z → Q) → (y ≡ z → Q) → cond b x y ≡ z → Q
branch true x y z p q e = p refl e
branch false x y z p q e = q e

-- a register's line
register_spelled : (text : List ℕ) (field : Field) (f : LineForm) → ((words : List ℕ) → field_numbers_text field words ≡ spaced_words_text words) → ((count : ℕ) → count ≡ 1 → HasFieldWordCount field count)
    → (digits : List ℕ) → text ≡ (field_name field ++ 32 ∷ []) ++ digits → word_line_form field digits ≡ Some f → ((words : List ℕ) → IsFieldWordsText text field words → IsTextOfField text field words) → IsLineFormText text f
unfolding word_line_form
register_spelled text field f plain counted tail is e wide =
    let (word, digits, made) = first_step (six_hex_digits_value tail) _ f e in
    let same : Words field (word ∷ []) ≡ f = cc in
    let (small, lower) = six_spelled tail word digits in
    subst (IsLineFormText text) same (wide (word ∷ []) (record {
      count = counted 1 refl;
      six_digits = (small, tt);
      numbers = 32 ∷ tail;
      parts = is ∙ append_assoc (field_name field) (32 ∷ []) tail;
      digits = ap (λ xs. 32 ∷ xs) lower ∙ sym (plain (word ∷ []));
    }))

cells_parts : (text : List ℕ) (field : ℕ → Field) (f : LineForm) → cells_line_form field text ≡ Some f
    → (cell : ℕ) × (ws : List ℕ) × (Words (field cell) ws ≡ f) × (cell < 256) × AreSix ws × (str_to_ascii_lowercase text ≡ two_hex_digits_text cell ++ spaced_words_text ws) × (1 ≤ length ws) × (length ws ≤ 16)
unfolding cells_line_form
cells_parts [] field f e = cc
cells_parts (x ∷ []) field f e = cc
cells_parts (x ∷ y ∷ text) field f e =
    let (cell, digits, more) = first_step (hex_byte_value (x ∷ y ∷ [])) _ f e in
    let (ws, row, made) = first_step (parse_row_words text) _ f more in
    let same : Words (field cell) ws ≡ f = cc in
    let (small, front) = cell_spelled x y cell digits in
    let (six, back, some, most) = row_spelled text ws row in
    (cell, ws, same, small, six, ap (λ xs. xs ++ str_to_ascii_lowercase text) front ∙ ap (λ xs. two_hex_digits_text cell ++ xs) back, some, most)

-- a line of cells
cells_spelled : (text : List ℕ) (field : ℕ → Field) (f : LineForm) → ((cell : ℕ) (words : List ℕ) → field_numbers_text (field cell) words ≡ two_hex_digits_text cell ++ spaced_words_text words)
    → ((cell count : ℕ) → cell < 256 → 1 ≤ count → count ≤ 16 → HasFieldWordCount (field cell) count) → ((cell : ℕ) → text ≡ field_name (field cell) ++ drop 4 text) → cells_line_form field (drop 4 text) ≡ Some f
    → ((cell : ℕ) (words : List ℕ) → IsFieldWordsText text (field cell) words → IsTextOfField text (field cell) words) → IsLineFormText text f
cells_spelled text field f plain counted is e wide =
    let (cell, ws, same, small, six, lower, some, most) = cells_parts (drop 4 text) field f e in
    subst (IsLineFormText text) same (wide cell ws (record {
      count = counted cell (length ws) small some most;
      six_digits = six;
      numbers = drop 4 text;
      parts = is cell;
      digits = lower ∙ sym (plain cell ws);
    }))

-- a line of a stack
stack_spelled : (text : List ℕ) (field : Field) (count : ℕ) (f : LineForm) → ((words : List ℕ) → field_numbers_text field words ≡ spaced_words_text words) → HasFieldWordCount field count → text ≡ field_name field ++ drop 1 text
    → stack_line_form field count (drop 1 text) ≡ Some f → ((words : List ℕ) → IsFieldWordsText text field words → IsTextOfField text field words) → IsLineFormText text f
unfolding stack_line_form
stack_spelled text field count f plain counted is e wide =
    let (ws, row, made) = first_step (parse_row_words (drop 1 text)) _ f e in
    let (test, same) = guarded (length ws == count) (Words field ws) f made in
    let (six, lower, some, most) = row_spelled (drop 1 text) ws row in
    subst (IsLineFormText text) same (wide ws (record {
      count = subst (HasFieldWordCount field) (sym (eqb-true (length ws) count test)) counted;
      six_digits = six;
      numbers = drop 1 text;
      parts = is;
      digits = lower ∙ sym (plain ws);
    }))

-- a line of one digit
digit_spelled : (field : Field) (least most : ℕ) (text : List ℕ) (f : LineForm) → digit_line_form field least most text ≡ Some f
    → (code : ℕ) × (Words field (code ∷ []) ≡ f) × (least ≤ code) × (code ≤ most) × (text ≡ (48 + code) ∷ [])
unfolding digit_line_form
digit_spelled field least most [] f e = cc
digit_spelled field least most (c ∷ []) f e =
    let (test, same) = guarded (nat_le (48 + least) c && nat_le c (48 + most)) (Words field ((c - 48) ∷ [])) f e in
    let range = between (48 + least) c (48 + most) test in
    let digit : c ≡ 48 + (c - 48) = omega arith in
    (c - 48, same, omega arith, omega arith, ap (λ (d : ℕ). d ∷ []) digit)
digit_spelled field least most (c ∷ d ∷ text) f e = cc

-- a line of a code
code_spelled : (text : List ℕ) (field : Field) (code : ℕ) (f : LineForm) → Words field (code ∷ []) ≡ f → IsFieldCodeNumber field code → text ≡ field_name field ++ field_code_text field code
    → ((words : List ℕ) → IsFieldCodeText text field words → IsTextOfField text field words) → IsLineFormText text f
code_spelled text field code f same valid is wide = subst (IsLineFormText text) same (wide (code ∷ []) (record { code = code; one = refl; valid = valid; parts = is }))

set_parts : (kind : ℕ) (text : List ℕ) (f : LineForm) → side_set_wait_form kind text ≡ Some f → (sides : ℕ) × (Words Wait ((kind + sides) ∷ []) ≡ f) × (0 < sides) × (sides < 16) × (text ≡ side_set_text sides)
unfolding side_set_wait_form
set_parts kind text f e =
    let (sides, letters, made) = first_step (parse_side_set text) _ f e in
    let (small, is) = set_spelled text sides letters in
    branch (sides == 0) None (Some (Words Wait ((kind + sides) ∷ []))) (Some f)
    (λ none never. absurd (let clash : true ≡ false = cc in cc))
    (λ found. let same : Words Wait ((kind + sides) ∷ []) ≡ f = cc in (sides, same, some_sides sides kind f made, small, is))
    made where
      some_sides : (sides kind : ℕ) (f : LineForm) → cond (sides == 0) None (Some (Words Wait ((kind + sides) ∷ []))) ≡ Some f → 0 < sides
      some_sides zero kind f made = cc
      some_sides (suc sides) kind f made = omega arith

single_side : (sides : ℕ) → is_single_side_set sides ≡ true → IsWaitCode (48 + sides)
single_side sides e = grind (arith, nat_tests)

side_parts : (text : List ℕ) (f : LineForm) → side_write_wait_form text ≡ Some f → (sides : ℕ) × (Words Wait ((48 + sides) ∷ []) ≡ f) × IsWaitCode (48 + sides) × (sides < 16) × (text ≡ side_set_text sides)
unfolding side_write_wait_form
side_parts text f e =
    let (sides, letters, made) = first_step (parse_side_set text) _ f e in
    let (small, is) = set_spelled text sides letters in
    let (test, same) = guarded (is_single_side_set sides) (Words Wait ((48 + sides) ∷ [])) f made in
    (sides, same, single_side sides test, small, is)

pub fetch_text : (sides : ℕ) → sides < 16 → wait_text (16 + sides) ≡ codes "fetch " ++ side_set_text sides
fetch_text sides small =
    let below : nat_lt (16 + sides) 32 ≡ true = grind (arith, nat_tests) in
    let same : 16 + sides - 16 ≡ sides = omega arith in rw (below, same) refl

pub read_text : (sides : ℕ) → sides < 16 → wait_text (32 + sides) ≡ codes "read " ++ side_set_text sides
read_text sides small =
    let past : nat_lt (32 + sides) 32 ≡ false = grind (arith, nat_tests) in
    let below : nat_lt (32 + sides) 48 ≡ true = grind (arith, nat_tests) in
    let same : 32 + sides - 32 ≡ sides = omega arith in rw (past, below, same) refl

pub write_text : (sides : ℕ) → wait_text (48 + sides) ≡ codes "write " ++ side_set_text sides
write_text sides =
    let past : nat_lt (48 + sides) 32 ≡ false = grind (arith, nat_tests) in
    let over : nat_lt (48 + sides) 48 ≡ false = grind (arith, nat_tests) in
    let same : 48 + sides - 48 ≡ sides = omega arith in rw (past, over, same) refl

-- a wait, and what is read of it
abbrev WaitParts : List ℕ → LineForm → Type 0
WaitParts text f = (code : ℕ) × (Words Wait (code ∷ []) ≡ f) × IsFieldCodeNumber Wait code × (text ≡ wait_text code)

wait_parts : (text : List ℕ) (f : LineForm) → node_wait_line_form text ≡ Some f → WaitParts text f
unfolding node_wait_line_form
wait_parts text f =
    branch _ _ _ _ (λ b e.
    let (sides, same, some, small, is) = set_parts 16 (drop 6 text) f e in
    (16 + sides, same, (inr (inl (omega arith, omega arith)), λ none. absurd (omega arith)), begun text (codes "fetch ") b ∙ ap (λ xs. codes "fetch " ++ xs) is ∙ sym (fetch_text sides small)))
    (branch _ _ _ _ (λ b e.
    let (sides, same, some, small, is) = set_parts 32 (drop 5 text) f e in
    (32 + sides, same, (inr (inr (inl (omega arith, omega arith))), λ none. absurd (omega arith)), begun text (codes "read ") b ∙ ap (λ xs. codes "read " ++ xs) is ∙ sym (read_text sides small)))
    (branch _ _ _ _ (λ b e.
    let (sides, same, valid, small, is) = side_parts (drop 6 text) f e in
    (48 + sides, same, (valid, λ none. absurd (omega arith)), begun text (codes "write ") b ∙ ap (λ xs. codes "write " ++ xs) is ∙ sym (write_text sides)))
    (λ never. absurd (let clash : true ≡ false = cc in cc))))

node_line_spelled : (text : List ℕ) (f : LineForm) → text ≡ codes "node " ++ drop 5 text → node_line_form (drop 5 text) ≡ Some f → IsLineFormText text f
unfolding node_line_form
node_line_spelled text f is e =
    let (decimal_name, digits, made) = first_step (parse_decimal_name (drop 5 text)) _ f e in
    let same : Node decimal_name ≡ f = cc in
    let (small, spelled) = node_spelled (drop 5 text) decimal_name digits in
    subst (IsLineFormText text) same (small, is ∙ ap (λ xs. codes "node " ++ xs) spelled)

end_spelled : (text : List ℕ) (f : LineForm) → cond (pointwise nat_eq text (codes "end")) (Some End) None ≡ Some f → IsLineFormText text f
end_spelled text f e =
    let (test, same) = guarded (pointwise nat_eq text (codes "end")) End f e in
    subst (IsLineFormText text) same ((bytes_eq-Decides text (codes "end")).0 test)

wide_spelled : (text : List ℕ) (f : LineForm) → stack_memory_or_node_form text ≡ Some f → IsLineFormText text f
unfolding stack_memory_or_node_form
wide_spelled text f =
    branch _ _ _ _ (λ b e. stack_spelled text (Data 0) 10 f (λ words. refl) (refl, refl) (begun text (codes "d") b) e (λ words is. is))
    (branch _ _ _ _ (λ b e. cells_spelled text Ram f (λ cell words. refl) (λ cell count small some most. (small, some, most)) (λ cell. begun text (codes "ram ") b) e (λ cell words is. is))
    (branch _ _ _ _ (λ b e. cells_spelled text Rom f (λ cell words. refl) (λ cell count small some most. (small, some, most)) (λ cell. begun text (codes "rom ") b) e (λ cell words is. is))
    (branch _ _ _ _ (λ b e. stack_spelled text (Return 0) 9 f (λ words. refl) (refl, refl) (begun text (codes "r") b) e (λ words is. is))
    (branch _ _ _ _ (λ b e. node_line_spelled text f (begun text (codes "node ") b) e)
    (end_spelled text f)))))

state_spelled : (text : List ℕ) (f : LineForm) → state_line_form text ≡ Some f → IsLineFormText text f
unfolding state_line_form
state_spelled text f =
    branch _ _ _ _ (λ b e. let (code, same, least, most, is) = digit_spelled Carry 0 1 (drop 6 text) f e in
    code_spelled text Carry code f same most (begun text (codes "carry ") b ∙ ap (λ xs. codes "carry " ++ xs) is) (λ words is. is))
    (branch _ _ _ _ (λ b e. let (code, same, least, most, is) = digit_spelled Slot 0 4 (drop 5 text) f e in
    code_spelled text Slot code f same most (begun text (codes "slot ") b ∙ ap (λ xs. codes "slot " ++ xs) is) (λ words is. is))
    (branch _ _ _ _ (λ b e. let (code, same, valid, is) = wait_parts (drop 5 text) f e in
    code_spelled text Wait code f same valid (begun text (codes "wait ") b ∙ ap (λ xs. codes "wait " ++ xs) is) (λ words is. is))
    (branch _ _ _ _ (λ b e. let (code, same, least, most, is) = digit_spelled Stop 1 3 (drop 5 text) f e in
    code_spelled text Stop code f same (least, most) (begun text (codes "stop ") b ∙ ap (λ xs. codes "stop " ++ xs) is) (λ words is. is))
    (wide_spelled text f))))

-- a line is a text of the form that it parses as
pub form_spelled : (text : List ℕ) (f : LineForm) → line_form text ≡ Some f → IsLineFormText text f
unfolding line_form
form_spelled text f =
    branch _ _ _ _ (λ b e. register_spelled text A f (λ words. refl) (λ count one. one) (drop 2 text) (begun text (codes "a ") b) e (λ words is. is))
    (branch _ _ _ _ (λ b e. register_spelled text B f (λ words. refl) (λ count one. one) (drop 2 text) (begun text (codes "b ") b) e (λ words is. is))
    (branch _ _ _ _ (λ b e. register_spelled text P f (λ words. refl) (λ count one. one) (drop 2 text) (begun text (codes "p ") b) e (λ words is. is))
    (branch _ _ _ _ (λ b e. register_spelled text I f (λ words. refl) (λ count one. one) (drop 2 text) (begun text (codes "i ") b) e (λ words is. is))
    (branch _ _ _ _ (λ b e. register_spelled text Io f (λ words. refl) (λ count one. one) (drop 3 text) (begun text (codes "io ") b) e (λ words is. is))
    (state_spelled text f)))))
