-- Arguments parse as what they mean, and print as what was parsed.
use Rattle.std.specs.Prelude.{◌==◌, nat_le, nat_lt, option_map, slice_range}
use Rattle.std.proofs.Common.{◌≡◌, ◌≢◌, ℕ, zero, suc, Bool, true, false, cond, ◌+◌, ◌<◌, List, [], ◌∷◌, ◌++◌, length, take, drop, get_or, Option, Some, None, arith, ap, refl, ◌∙◌, add-one, ◌-◌, ◌*◌, ◌/◌, ◌%◌, ◌^◌, ◌≤◌, ◌&&◌, decimal, sym, append_assoc, min, length-take, take-append-drop, drop-cons, Result, Ok, Err, rules}
use Rattle.std.proofs.lemmas.Bool.{ne_eqb, eqb-true}
use Rattle.std.specs.List.{AllByRecursion}
use Rattle.ga_text.specs.Parsing.{split_at_space, parts_with_prepended_byte, IsStepNumberInRange, SpellsAddress, parse_node, u32_if_fits, number_with_decimal_digit, number_with_decimal_digits, parse_number}
use Rattle.std.specs.Str.{str_to_ascii_lowercase}
use Rattle.std.specs.Char.{to_ascii_lowercase}
use Rattle.std.proofs.lemmas.Bool.Decides.{nat_tests}
use Rattle.std.proofs.lemmas.List.{append-nil, take_all, drop-take, drop-drop}
use Rattle.std.proofs.lemmas.Fmt.{decimal_step, decimal_digit, decimal_by_steps}
use Rattle.ga_word.specs.Word.{hex_digit_at_place}
use Rattle.ga_grid.specs.Grid.{decimal_name_of_node, node_number_of_name, node_id, decimal_digit as digit_in, parse_decimal_name}
use Rattle.ga_grid.specs.declared.node_id.NodeId.{NodeId}
use Rattle.ga_grid.proofs.NodeIds.{node_id-number}
use Rattle.ga_text.specs.Digits.{hex_byte_value, three_decimal_digits, two_hex_digits_text, name_of_node}
use Rattle.ga_ports.specs.Steps.{◌>>=◌}
use Rattle.ga_text.proofs.Numbers.{cell_spelled, cell_read, node_spelled, node_read}
use Rattle.std.proofs.Math.Seq.{take-append-add, take-suc}
use Rattle.std.proofs.lemmas.List.Elements.{All-from_get_or}
use Rattle.std.specs.Result.{IsOk, OnOk, OnErr}
use Rattle.ga_text.specs.Lines.{is_line_end_byte, HasNoLineFeed, line_with_line_feed}

-- ---- A text is cut at its first space

-- another byte belongs to the first part
past_byte : (b : ℕ) (text : List ℕ) → b ≢ 32 → split_at_space (b ∷ text) ≡ parts_with_prepended_byte b (split_at_space text)
past_byte b text other = rw (ne_eqb b 32 other) refl

pub at_space : (text : List ℕ) (i : ℕ) → i < length text → ((k : ℕ) → k < i → get_or text k 0 ≢ 32) → get_or text i 0 ≡ 32 → split_at_space text ≡ Some (take i text, drop (i + 1) text)
at_space [] i within none space = absurd (omega arith)
at_space (b ∷ text) zero within none space = rw space refl
at_space (b ∷ text) (suc i) within none space =
    let again : split_at_space text ≡ Some (take i text, drop (i + 1) text) = at_space text i (omega arith) (λ k below. none (suc k) (omega arith)) space in
    past_byte b text (none 0 (omega arith)) ∙ ap (parts_with_prepended_byte b) again ∙ rw (add-one, add-one) refl

pub no_space : (text : List ℕ) → ((k : ℕ) → k < length text → get_or text k 0 ≢ 32) → split_at_space text ≡ None
no_space [] none = refl
no_space (b ∷ text) none = past_byte b text (none 0 (omega arith)) ∙ ap (parts_with_prepended_byte b) (no_space text (λ k below. none (suc k) (omega arith)))

-- a word has no space
abbrev pub IsWord : List ℕ → Type 0
IsWord word = AllByRecursion (λ b. b ≢ 32) word

-- a word and a space are cut there
pub word_cut : (word rest : List ℕ) → IsWord word → split_at_space (word ++ 32 ∷ rest) ≡ Some (word, rest)
word_cut [] rest is = refl
word_cut (b ∷ word) rest is = past_byte b (word ++ 32 ∷ rest) is.0 ∙ ap (parts_with_prepended_byte b) (word_cut word rest is.1)

joined : (b : ℕ) (text : List ℕ) (found : Option (List ℕ × List ℕ)) (parts : List ℕ × List ℕ)
    → ((some : List ℕ × List ℕ) → found ≡ Some some → text ≡ some.0 ++ 32 ∷ some.1) → parts_with_prepended_byte b found ≡ Some parts → b ∷ text ≡ parts.0 ++ 32 ∷ parts.1
joined b text None parts is e = cc
joined b text (Some some) parts is e =
    let same : (b ∷ some.0, some.1) ≡ parts = cc in
    ap (λ (t : List ℕ). b ∷ t) (is some refl) ∙ ap (λ (p : List ℕ × List ℕ). p.0 ++ 32 ∷ p.1) same

at_test : (t : Bool) (b : ℕ) (text : List ℕ) (parts : List ℕ × List ℕ) → (t ≡ true → b ≡ 32)
    → ((some : List ℕ × List ℕ) → split_at_space text ≡ Some some → text ≡ some.0 ++ 32 ∷ some.1) → cond t (Some ([], text)) (parts_with_prepended_byte b (split_at_space text)) ≡ Some parts → b ∷ text ≡ parts.0 ++ 32 ∷ parts.1
at_test true b text parts space again e =
    let same : ([], text) ≡ parts = cc in
    ap (λ (c : ℕ). c ∷ text) (space refl) ∙ ap (λ (p : List ℕ × List ℕ). p.0 ++ 32 ∷ p.1) same
at_test false b text parts space again e = joined b text (split_at_space text) parts again e

-- what was cut is the whole with the space
pub cut_joined : (text : List ℕ) (parts : List ℕ × List ℕ) → split_at_space text ≡ Some parts → text ≡ parts.0 ++ 32 ∷ parts.1
cut_joined [] parts e = cc
cut_joined (b ∷ text) parts e = at_test (b == 32) b text parts (eqb-true b 32) (λ some f. cut_joined text some f) e

-- the first step gave something
pub first_step : {A B : Type 0} (o : Option A) (f : A → Option B) (y : B) → (o >>= f) ≡ Some y → (x : A) × (o ≡ Some x) × (f x ≡ Some y)
first_step None f y e = cc
first_step (Some x) f y e = (x, refl, e)

pub mapped : {A B : Type 0} (o : Option A) (f : A → B) (y : B) → option_map f o ≡ Some y → (x : A) × (o ≡ Some x) × (f x ≡ y)
mapped None f y e = cc
mapped (Some x) f y e = let same : f x ≡ y = cc in (x, refl, same)

-- ---- nodes

-- a node is found again by its row and column
pub node_of_yxx : (n : ℕ) → n < 144 → node_number_of_name (decimal_name_of_node n) ≡ Some n
node_of_yxx n small =
    let row : (100 * (n / 18) + n % 18) / 100 ≡ n / 18 = omega arith in
    let column : (100 * (n / 18) + n % 18) % 100 ≡ n % 18 = omega arith in
    let rows : n / 18 < 8 = omega arith in
    let columns : n % 18 < 18 = omega arith in
    let whole : 18 * (n / 18) + n % 18 ≡ n = omega arith in
    rw (row, column) (grind (arith, nat_tests))

-- a node of the grid, where the test of its row and column holds
tested : (b : Bool) (m : ℕ) (node : NodeId) → option_map node_id (cond b (Some m) None) ≡ Some node → (b ≡ true) × (node_id m ≡ node)
tested true m node e = let same : node_id m ≡ node = cc in (refl, same)
tested false m node e = cc

named : (decimal_name : ℕ) (node : NodeId) → option_map node_id (node_number_of_name decimal_name) ≡ Some node → decimal_name_of_node node.number ≡ decimal_name
named decimal_name node e =
    let (test, same) = tested (nat_lt (decimal_name / 100) 8 && nat_lt (decimal_name % 100) 18) (18 * (decimal_name / 100) + decimal_name % 100) node e in
    let row : decimal_name / 100 < 8 = grind (arith, nat_tests) in
    let column : decimal_name % 100 < 18 = grind (arith, nat_tests) in
    let number : node.number ≡ 18 * (decimal_name / 100) + decimal_name % 100 = rw (← same) (omega arith) in
    rw number (omega arith)

pub node_name : (word : List ℕ) (node : NodeId) → parse_node word ≡ Some node → word ≡ name_of_node node
unfolding parse_node
node_name word node e =
    let (decimal_name, digits, at) = first_step (parse_decimal_name word) _ node e in
    (node_spelled word decimal_name digits).1 ∙ ap three_decimal_digits (sym (named decimal_name node at))

-- the node of a row and a column
pub numbered : (row column : ℕ) → row < 8 → column < 18 → node_number_of_name (100 * row + column) ≡ Some (18 * row + column)
numbered row column r c =
    let above : (100 * row + column) / 100 ≡ row = omega arith in
    let below : (100 * row + column) % 100 ≡ column = omega arith in
    grind (arith, nat_tests)

pub name_node : (node : NodeId) → parse_node (name_of_node node) ≡ Some node
unfolding parse_node
name_node node =
    let small : node.number < 144 = node.in_range in
    rw (node_read (decimal_name_of_node node.number) (omega arith), node_of_yxx node.number small) (ap Some (node_id-number node))

pub name_word : (node : NodeId) → IsWord (name_of_node node)
name_word node = (omega arith, (omega arith, (omega arith, tt)))

-- ---- numbers

some_digit : (b : Bool) (d v : ℕ) → cond b (Some d) None ≡ Some v → (b ≡ true) × (d ≡ v)
some_digit true d v e = let same : d ≡ v = cc in (refl, same)
some_digit false d v e = cc

digit_is : (byte v : ℕ) → digit_in byte ≡ Some v → (v < 10) × (byte ≡ 48 + v)
digit_is byte v e =
    let (test, same) = some_digit (nat_le 48 byte && nat_le byte 57) (byte - 48) v e in
    let least : 48 ≤ byte = grind (arith, nat_tests) in
    let most : byte ≤ 57 = grind (arith, nat_tests) in
    (omega arith, omega arith)

digit_read : (v : ℕ) → v < 10 → digit_in (48 + v) ≡ Some v
digit_read v small = grind (arith, nat_tests)

not_zero : {A : Type 0} (b : Bool) (o : Option A) (x : A) → cond b None o ≡ Some x → (b ≡ false) × (o ≡ Some x)
not_zero true o x e = cc
not_zero false o x e = (refl, e)

fits : (n k : ℕ) → u32_if_fits n ≡ Some k → (k < 2 ^ 32) × (n ≡ k)
fits n k e =
    let (test, same) = some_digit (nat_lt n (2 ^ 32)) n k e in
    let small : n < 2 ^ 32 = grind (arith, nat_tests) in
    (rw (← same) small, same)

digit_last : (n digit m : ℕ) → 0 < n → digit < 10 → m < 2 ^ 32 → 10 * n + digit ≡ m → decimal m ≡ decimal n ++ (48 + digit) ∷ []
digit_last n digit m some small bound whole =
    let front : m / 10 ≡ n = omega arith in
    let last : m % 10 ≡ digit = omega arith in
    decimal_step m (omega arith) (omega arith) ∙ rw (front, last) refl

-- one digit more
one_more : (n byte m : ℕ) → number_with_decimal_digit n byte ≡ Some m → (m < 2 ^ 32) × (decimal n ++ byte ∷ [] ≡ decimal m)
one_more n byte m e =
    let (test, found) = not_zero (n == 0) _ m e in
    let some : 0 < n = grind (arith, nat_tests) in
    let (digit, is, sum) = first_step (digit_in byte) _ m found in
    let (small, glyph) = digit_is byte digit is in
    let (bound, whole) = fits (10 * n + digit) m sum in
    (bound, ap (λ (c : ℕ). decimal n ++ c ∷ []) glyph ∙ sym (digit_last n digit m some small bound whole))

digits_more : (n : ℕ) (text : List ℕ) (k : ℕ) → n < 2 ^ 32 → number_with_decimal_digits n text ≡ Some k → IsStepNumberInRange k × (decimal n ++ text ≡ decimal k)
digits_more n [] k small e = let same : n ≡ k = cc in (rw (← same) small, append-nil (decimal n) ∙ ap decimal same)
digits_more n (byte ∷ text) k small e =
    let (m, first, rest) = first_step (number_with_decimal_digit n byte) _ k e in
    let (bound, front) = one_more n byte m first in
    let (is, whole) = digits_more m text k bound rest in
    (is, sym (append_assoc (decimal n) (byte ∷ []) text) ∙ ap (λ (t : List ℕ). t ++ text) front ∙ whole)

-- a word that parses as a number is that number in decimal
pub number_decimal : (word : List ℕ) (k : ℕ) → parse_number word ≡ Some k → IsStepNumberInRange k × (word ≡ decimal k)
number_decimal [] k e = cc
number_decimal (byte ∷ text) k e =
    let (digit, first, rest) = first_step (digit_in byte) _ k e in
    let (small, glyph) = digit_is byte digit first in
    let (is, whole) = digits_more digit text k (omega arith) rest in
    (is, ap (λ (c : ℕ). c ∷ text) glyph ∙ ap (λ (t : List ℕ). t ++ text) (sym (decimal_digit digit small)) ∙ whole)

kept : {A : Type 0} (o : Option A) → (o >>= λ x. Some x) ≡ o
kept None = refl
kept (Some x) = refl

digits_behind : (n : ℕ) (text : List ℕ) (m byte : ℕ) → number_with_decimal_digits n text ≡ Some m → number_with_decimal_digits n (text ++ byte ∷ []) ≡ number_with_decimal_digit m byte
digits_behind n [] m byte e = let same : n ≡ m = cc in rw (← same) (kept (number_with_decimal_digit n byte))
digits_behind n (b ∷ text) m byte e =
    let (next, first, rest) = first_step (number_with_decimal_digit n b) _ m e in
    rw first (digits_behind next text m byte rest)

digit_behind : (word : List ℕ) (m byte : ℕ) → parse_number word ≡ Some m → parse_number (word ++ byte ∷ []) ≡ number_with_decimal_digit m byte
digit_behind [] m byte e = cc
digit_behind (b ∷ text) m byte e =
    let (digit, first, rest) = first_step (digit_in b) _ m e in
    rw first (digits_behind digit text m byte rest)

last_digit : (n : ℕ) → 10 ≤ n → n < 2 ^ 32 → number_with_decimal_digit (n / 10) (48 + n % 10) ≡ Some n
last_digit n big small =
    let some : n / 10 ≢ 0 = omega arith in
    let whole : 10 * (n / 10) + n % 10 ≡ n = omega arith in
    rw (ne_eqb (n / 10) 0 some, digit_read (n % 10) (omega arith), whole) (grind (arith, nat_tests))

-- the digits of a number give it back
Reads : ℕ → List ℕ → Type 0
Reads n word = n < 2 ^ 32 → parse_number word ≡ Some n

pub decimal_number : (k : ℕ) → IsStepNumberInRange k → parse_number (decimal k) ≡ Some k
unfolding Reads
decimal_number k small = decimal_by_steps Reads one more k (omega arith) small where
  one : (n : ℕ) → n < 10 → Reads n ((48 + n) ∷ [])
  one n digit = λ fit. rw (digit_read n digit) refl

  more : (n : ℕ) (ds : List ℕ) → 10 ≤ n → Reads (n / 10) ds → Reads n (ds ++ ((48 + n % 10) ∷ []))
  more n ds big front = λ fit. digit_behind ds (n / 10) (48 + n % 10) (front (omega arith)) ∙ last_digit n big fit

word_more : (word : List ℕ) (b : ℕ) → IsWord word → b ≢ 32 → IsWord (word ++ b ∷ [])
word_more [] b is other = (other, tt)
word_more (a ∷ word) b is other = (is.0, word_more word b is.1 other)

Whole : ℕ → List ℕ → Type 0
Whole n word = IsWord word

pub decimal_word : (k : ℕ) → IsStepNumberInRange k → IsWord (decimal k)
unfolding Whole
decimal_word k small = decimal_by_steps Whole (λ n digit. (omega arith, tt)) (λ n ds big front. word_more ds (48 + n % 10) front (omega arith)) k (omega arith)

-- ---- addresses

pub byte_address : (word : List ℕ) (address : ℕ) → hex_byte_value word ≡ Some address → SpellsAddress address word
unfolding hex_byte_value
byte_address [] address e = cc
byte_address (a ∷ []) address e = cc
byte_address (a ∷ b ∷ []) address e = let is = cell_spelled a b address e in record { in_range = is.0; digits = is.1 }
byte_address (a ∷ b ∷ c ∷ word) address e = cc

pub address_byte : (word : List ℕ) (address : ℕ) → SpellsAddress address word → hex_byte_value word ≡ Some address
address_byte [] address is = let e : [] ≡ two_hex_digits_text address = is.digits in cc
address_byte (a ∷ []) address is = let e : (to_ascii_lowercase a ∷ []) ≡ two_hex_digits_text address = is.digits in cc
address_byte (a ∷ b ∷ []) address is =
    let e : (to_ascii_lowercase a ∷ to_ascii_lowercase b ∷ []) ≡ two_hex_digits_text address = is.digits in
    let high : to_ascii_lowercase a ≡ hex_digit_at_place address 1 = cc in
    let low : to_ascii_lowercase b ≡ hex_digit_at_place address 0 = cc in
    cell_read a b address is.in_range high low
address_byte (a ∷ b ∷ c ∷ word) address is =
    let e : (to_ascii_lowercase a ∷ to_ascii_lowercase b ∷ to_ascii_lowercase c ∷ str_to_ascii_lowercase word) ≡ two_hex_digits_text address = is.digits in cc

-- ---- parts of the input

pub not_feed : (b : ℕ) → (b ≡ 10 → ⊥) → is_line_end_byte b ≡ false
not_feed b h = grind (arith, nat_tests)

-- bytes none of which is a line feed
pub no_feed : (bytes : List ℕ) → ((k : ℕ) → k < length bytes → get_or bytes k 0 ≢ 10) → HasNoLineFeed bytes
no_feed bytes h = All-from_get_or (λ b. is_line_end_byte b ≡ false) bytes 0 (λ k below. not_feed (get_or bytes k 0) (h k below))

-- as many of the bytes as there is room for after a line
pub kept_bytes : (line bytes : List ℕ) (room : ℕ) → room + length line ≡ 201 → line ++ take (min room (length bytes)) bytes ≡ take 201 (line ++ bytes)
kept_bytes line bytes room e =
    let whole : length line + room ≡ 201 = omega arith in
    ap (λ (t : List ℕ). line ++ t) (take_min room bytes)
    ∙ sym (take-append-add line bytes room) ∙ ap (λ (n : ℕ). take n (line ++ bytes)) whole
  where
    take_min : (n : ℕ) (xs : List ℕ) → take (min n (length xs)) xs ≡ take n xs
    take_min n xs = grind (arith, take_all {A = ℕ})

pub no_bytes : (bytes : List ℕ) → true ≡ length bytes == 0 → bytes ≡ []
no_bytes [] e = refl
no_bytes (b ∷ bytes) e = absurd (let some : length (b ∷ bytes) ≡ 0 = grind (arith, nat_tests) in omega arith)

-- what holds where a call succeeds, where it does
pub where_ok : {T E : Type 0} (r : Result T E) (P : Type 0) → IsOk r → OnOk r P → P
where_ok (Ok x) P ok h = h
where_ok (Err e) P ok h = absurd (search rules)

-- The range from start to stop, with a line feed after its first bytes, is these bytes, the line feed and the range after it.
pub range_at_feed : (block : List ℕ) (start stop count : ℕ) → stop ≤ length block → count < length (slice_range block start stop)
    → get_or (slice_range block start stop) count 0 ≡ 10
    → slice_range block start stop ≡ take count (slice_range block start stop) ++ 10 ∷ slice_range block (start + (count + 1)) stop
range_at_feed block start stop count within below feed =
    let whole : List ℕ = slice_range block start stop in
    let more : ℕ = stop - (start + (count + 1)) in
    let size : stop - start ≡ suc count + more = omega (arith, length-take (stop - start) (drop start block)) in
    let next : start + suc count ≡ start + (count + 1) = omega arith in
    let behind : drop (suc count) whole ≡ slice_range block (start + (count + 1)) stop =
    ap (λ (n : ℕ). drop (suc count) (take n (drop start block))) size ∙ drop-take (suc count) more (drop start block)
    ∙ ap (take more) (drop-drop (suc count) start block ∙ ap (λ (n : ℕ). drop n block) next) in
    sym (take-append-drop count whole)
    ∙ ap (λ (t : List ℕ). take count whole ++ t) (drop-cons whole count 0 below ∙ ap (λ (b : ℕ). b ∷ drop (suc count) whole) feed ∙ ap (λ (t : List ℕ). 10 ∷ t) behind)

-- the bytes up to a line feed and with it
pub take_feed : (bytes : List ℕ) (count : ℕ) → count < length bytes → get_or bytes count 0 ≡ 10 → take (count + 1) bytes ≡ line_with_line_feed (take count bytes)
take_feed bytes count below feed =
    let next : count + 1 ≡ suc count = omega arith in
    ap (λ (n : ℕ). take n bytes) next ∙ take-suc bytes count 0 below ∙ ap (λ (b : ℕ). take count bytes ++ b ∷ []) feed

-- what holds anyway holds where a call fails
pub where_err : {T E : Type 0} (r : Result T E) (P : Type 0) → P → OnErr r P
where_err (Ok x) P h = tt
where_err (Err e) P h = h

-- a range without its first bytes and one more
pub range_behind : (block : List ℕ) (start stop count : ℕ) → count + 1 ≤ stop - start
    → slice_range block (start + (count + 1)) stop ≡ drop (count + 1) (slice_range block start stop)
range_behind block start stop count within =
    let more : ℕ = stop - (start + (count + 1)) in
    let size : stop - start ≡ (count + 1) + more = omega arith in
    sym (ap (λ (n : ℕ). drop (count + 1) (take n (drop start block))) size ∙ drop-take (count + 1) more (drop start block)
    ∙ ap (take more) (drop-drop (count + 1) start block ∙ ap (λ (n : ℕ). drop n block) (omega arith)))
