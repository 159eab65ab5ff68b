-- Unpacking a packed word gives the pair back, also where the free bits of six hold it.
use Rattle.std.proofs.Common.{◌≡◌, ℕ, ◌+◌, ◌-◌, ◌*◌, ◌/◌, ◌%◌, ◌^◌, ◌<◌, ◌≤◌, ◌==◌, if◌then◌else◌, nat_lt, Bool, List, [], ◌∷◌, ◌++◌, length, map, true, false, refl, sym, ◌∙◌, ap, subst, arith, get_or, take, drop, drop-cons, zero, suc}
use Rattle.ga_node.specs.declared.place.NodePlace.{NodePlace}
use Rattle.ga_node.specs.declared.place.NodePlace.TheVariants.{T, S, DataCell, DataPointer, R, ReturnCell, ReturnPointer, Ram, Rom, A, B, P, I, Slot, Io, Carry, Wait, Stop}
use Rattle.std.specs.Prelude.{Some}
use Rattle.std.specs.List.{slice_get}
use Rattle.std.proofs.lemmas.Bool.{lt-ltb, le-ltb, ltb-true, ltb-false, ne_eqb}
use Rattle.std.proofs.Math.Seq.{get_or-append_seam}
use Rattle.std.proofs.Math.ListN.{get_or-append}
use Rattle.std.proofs.lemmas.List.{length-map, length-append, map-append, take-append-le, take_all}
use Rattle.ga_node.specs.State.{IsNodePlace}
use Rattle.ga_node.specs.inner.Packed.{code_of_node_place, node_place_of_kind_and_code, packed, unpacked_place_value, free_bits_of_packed_word, spare, words_with_free_bits, whole, IsPackedWord, ArePackedWords, AreAtMostSevenPackedWords}

-- the place of a code in RAM, in ROM
ram_back : (cell kind code : ℕ) → cell < 64 → code ≡ 64 + cell → kind ≡ code / 8 → node_place_of_kind_and_code kind code ≡ Ram cell
ram_back cell kind code l is at =
    let low : nat_lt 7 kind ≡ true = lt-ltb _ _ (omega (arith, is, at)) in
    let here : nat_lt kind 16 ≡ true = lt-ltb _ _ (omega (arith, is, at, l)) in
    rw (low, here) (ap Ram (omega (arith, is, l)))

rom_back : (cell kind code : ℕ) → cell < 64 → code ≡ 128 + cell → kind ≡ code / 8 → node_place_of_kind_and_code kind code ≡ Rom cell
rom_back cell kind code l is at =
    let low : nat_lt 7 kind ≡ true = lt-ltb _ _ (omega (arith, is, at)) in
    let behind : nat_lt kind 16 ≡ false = le-ltb _ _ (omega (arith, is, at)) in
    let here : nat_lt kind 24 ≡ true = lt-ltb _ _ (omega (arith, is, at, l)) in
    rw (low, behind, here) (ap Rom (omega (arith, is, l)))

-- the place of a kind
kind_back : (kind code n : ℕ) (place : NodePlace) → kind ≡ n → node_place_of_kind_and_code n code ≡ place → node_place_of_kind_and_code kind code ≡ place
kind_back kind code n place is same = ap (λ z. node_place_of_kind_and_code z code) is ∙ same

place_back : (place : NodePlace) (kind code : ℕ) → IsNodePlace place → code ≡ code_of_node_place place → kind ≡ code / 8 → node_place_of_kind_and_code kind code ≡ place
place_back T kind code l is at = kind_back kind code 0 T (omega (arith, is, at)) refl
place_back S kind code l is at = kind_back kind code 1 S (omega (arith, is, at)) refl
place_back DataPointer kind code l is at = kind_back kind code 2 DataPointer (omega (arith, is, at)) refl
place_back R kind code l is at = kind_back kind code 3 R (omega (arith, is, at)) refl
place_back ReturnPointer kind code l is at = kind_back kind code 4 ReturnPointer (omega (arith, is, at)) refl
place_back A kind code l is at = kind_back kind code 5 A (omega (arith, is, at)) refl
place_back B kind code l is at = kind_back kind code 6 B (omega (arith, is, at)) refl
place_back P kind code l is at = kind_back kind code 7 P (omega (arith, is, at)) refl
place_back (Ram cell) kind code l is at = ram_back cell kind code l is at
place_back (Rom cell) kind code l is at = rom_back cell kind code l is at
place_back (DataCell cell) kind code l is at = kind_back kind code 24 (DataCell cell) (omega (arith, is, at, l)) (ap DataCell (omega (arith, is, l)))
place_back (ReturnCell cell) kind code l is at = kind_back kind code 25 (ReturnCell cell) (omega (arith, is, at, l)) (ap ReturnCell (omega (arith, is, l)))
place_back I kind code l is at = kind_back kind code 26 I (omega (arith, is, at)) refl
place_back Slot kind code l is at = kind_back kind code 27 Slot (omega (arith, is, at)) refl
place_back Io kind code l is at = kind_back kind code 28 Io (omega (arith, is, at)) refl
place_back Carry kind code l is at = kind_back kind code 29 Carry (omega (arith, is, at)) refl
place_back Wait kind code l is at = kind_back kind code 30 Wait (omega (arith, is, at)) refl
place_back Stop kind code l is at = kind_back kind code 31 Stop (omega (arith, is, at)) refl

-- the parts of a word
code_in : (code value word : ℕ) → word ≡ code * 16777216 + value → value < 262144 → word / 16777216 ≡ code
code_in code value word is l = omega (arith, is, l)

pub kind_in : (word : ℕ) → word / 134217728 ≡ word / 16777216 / 8
kind_in word = omega arith

value_in : (code value word : ℕ) → word ≡ code * 16777216 + value → value < 262144 → word % 262144 ≡ value
value_in code value word is l = omega (arith, is, l)

free_in : (code value word : ℕ) → word ≡ code * 16777216 + value → value < 262144 → word / 262144 % 64 ≡ 0
free_in code value word is l = omega (arith, is, l)

unpacked_place_value-packed : (place : NodePlace) (value : ℕ) → IsNodePlace place → value < 2 ^ 18 → unpacked_place_value (packed place value) ≡ (place, value)
unpacked_place_value-packed place value p l =
    let word : ℕ = packed place value in
    ap (λ z. (z, word % 262144)) (place_back place (word / 134217728) (word / 16777216) p (code_in (code_of_node_place place) value word refl l) (kind_in word))
    ∙ ap (λ z. (place, z)) (value_in (code_of_node_place place) value word refl l)

free_packed : (place : NodePlace) (value : ℕ) → value < 2 ^ 18 → free_bits_of_packed_word (packed place value) ≡ 0
free_packed place value l = free_in (code_of_node_place place) value (packed place value) refl l

-- it is a word of a pair
pub packed_word : (place : NodePlace) (value : ℕ) → IsNodePlace place → value < 2 ^ 18 → packed place value < 249 * 2 ^ 24 → IsPackedWord (packed place value)
packed_word place value p l small =
    (small, ap (λ z. code_of_node_place z.0) (unpacked_place_value-packed place value p l) ∙ sym (code_in (code_of_node_place place) value (packed place value) refl l))

-- a word of a list of words
pub words_at : (ws : List ℕ) (i : ℕ) → ArePackedWords ws → i < length ws → IsPackedWord (get_or ws i 0)
words_at [] i a l = absurd (omega (arith, l))
words_at (w ∷ ws) zero a l = a.0
words_at (w ∷ ws) (suc i) a l = words_at ws i a.1 (omega (arith, l))

words_push : (ws : List ℕ) (w : ℕ) → ArePackedWords ws → IsPackedWord w → ArePackedWords (ws ++ w ∷ [])
words_push [] w a l = (l, tt)
words_push (x ∷ xs) w a l = (a.0, words_push xs w a.1 l)

-- a pair of the words
pair_at : (ws : List ℕ) (i : ℕ) → i < length ws → slice_get (map unpacked_place_value ws) i ≡ Some (unpacked_place_value (get_or ws i 0))
pair_at [] i l = absurd (omega (arith, l))
pair_at (w ∷ ws) zero l = refl
pair_at (w ∷ ws) (suc i) l = pair_at ws i (omega (arith, l))

-- ---- the values of free bits

-- a word with a number in its free bits
mixed_free : (w n : ℕ) → w / 262144 % 64 ≡ 0 → n < 64 → (w + n * 262144) / 262144 % 64 ≡ n
mixed_free w n free l = omega (arith, free, l)

mixed_code : (w n : ℕ) → w / 262144 % 64 ≡ 0 → n < 64 → (w + n * 262144) / 16777216 ≡ w / 16777216
mixed_code w n free l = omega (arith, free, l)

mixed_value : (w n : ℕ) → (w + n * 262144) % 262144 ≡ w % 262144
mixed_value w n = omega arith

mixed_pair : (w n : ℕ) → w / 262144 % 64 ≡ 0 → n < 64 → unpacked_place_value (w + n * 262144) ≡ unpacked_place_value w
mixed_pair w n free l =
    let same : (w + n * 262144) / 16777216 ≡ w / 16777216 = mixed_code w n free l in
    let kind : (w + n * 262144) / 134217728 ≡ w / 134217728 = kind_in (w + n * 262144) ∙ ap (λ z. z / 8) same ∙ sym (kind_in w) in
    ap (λ z. (node_place_of_kind_and_code z ((w + n * 262144) / 16777216), (w + n * 262144) % 262144)) kind
    ∙ ap (λ z. (node_place_of_kind_and_code (w / 134217728) z, (w + n * 262144) % 262144)) same
    ∙ ap (λ z. (node_place_of_kind_and_code (w / 134217728) (w / 16777216), z)) (mixed_value w n)

mixed_word : (w n : ℕ) → w / 262144 % 64 ≡ 0 → n < 64 → IsPackedWord w → IsPackedWord (w + n * 262144)
mixed_word w n free l is =
    let same : (w + n * 262144) / 16777216 ≡ w / 16777216 = mixed_code w n free l in
    let small = is.0 in
    (omega (arith, small, same), ap (λ z. code_of_node_place z.0) (mixed_pair w n free l) ∙ is.1 ∙ sym same)

-- no free bit of a list is set, then none of its first word and none of the others
first_free : (w : ℕ) (ws : List ℕ) → spare (w ∷ ws) ≡ 0 → w / 262144 % 64 ≡ 0
first_free w ws free = omega (arith, free)

rest_free : (w : ℕ) (ws : List ℕ) → spare (w ∷ ws) ≡ 0 → spare ws ≡ 0
rest_free w ws free = omega (arith, free)

spare_push : (ws : List ℕ) (w : ℕ) → spare ws ≡ 0 → free_bits_of_packed_word w ≡ 0 → spare (ws ++ w ∷ []) ≡ 0
spare_push [] w free none = omega (arith, none)
spare_push (x ∷ xs) w free none =
    let first = first_free x xs free in
    let rest = spare_push xs w (rest_free x xs free) none in
    omega (arith, first, rest)

-- so much fits into the free bits
room : List ℕ → ℕ
room [] = 1
room (w ∷ ws) = 64 * room ws

room_of_six : (ws : List ℕ) → length ws ≡ 6 → room ws ≡ 2 ^ 36
unfolding room
room_of_six (a ∷ b ∷ c ∷ d ∷ e ∷ f ∷ []) six = refl
room_of_six [] six = absurd (omega (arith, six))
room_of_six (a ∷ []) six = absurd (omega (arith, six))
room_of_six (a ∷ b ∷ []) six = absurd (omega (arith, six))
room_of_six (a ∷ b ∷ c ∷ []) six = absurd (omega (arith, six))
room_of_six (a ∷ b ∷ c ∷ d ∷ []) six = absurd (omega (arith, six))
room_of_six (a ∷ b ∷ c ∷ d ∷ e ∷ []) six = absurd (omega (arith, six))
room_of_six (a ∷ b ∷ c ∷ d ∷ e ∷ f ∷ g ∷ ws) six = absurd (omega (arith, six))

spare_back : (ws : List ℕ) (n : ℕ) → spare ws ≡ 0 → n < room ws → spare (words_with_free_bits ws n) ≡ n
unfolding room
spare_back [] n free l = omega (arith, l)
spare_back (w ∷ ws) n free l =
    let first : (w + n % 64 * 262144) / 262144 % 64 ≡ n % 64 = mixed_free w (n % 64) (first_free w ws free) (omega arith) in
    let rest : spare (words_with_free_bits ws (n / 64)) ≡ n / 64 = spare_back ws (n / 64) (rest_free w ws free) (omega (arith, l)) in
    omega (arith, first, rest)

pairs_back : (ws : List ℕ) (n : ℕ) → spare ws ≡ 0 → map unpacked_place_value (words_with_free_bits ws n) ≡ map unpacked_place_value ws
pairs_back [] n free = refl
pairs_back (w ∷ ws) n free =
    ap (λ z. z ∷ map unpacked_place_value (words_with_free_bits ws (n / 64))) (mixed_pair w (n % 64) (first_free w ws free) (omega arith))
    ∙ ap (λ z. unpacked_place_value w ∷ z) (pairs_back ws (n / 64) (rest_free w ws free))

words_back : (ws : List ℕ) (n : ℕ) → spare ws ≡ 0 → ArePackedWords ws → ArePackedWords (words_with_free_bits ws n)
words_back [] n free are = tt
words_back (w ∷ ws) n free are = (mixed_word w (n % 64) (first_free w ws free) (omega arith) are.0, words_back ws (n / 64) (rest_free w ws free) are.1)

-- ---- lists with and without a seventh

none_whole : (ws : List ℕ) → spare ws ≡ 0 → whole ws ≡ ws
none_whole ws free = ap (λ n. if n == 0 then ws else ws ++ (n - 2 ^ 32) ∷ []) free

one_whole : (ws : List ℕ) → 0 < spare ws → whole ws ≡ ws ++ (spare ws - 2 ^ 32) ∷ []
one_whole ws some = ap (λ b. if b then ws else ws ++ (spare ws - 2 ^ 32) ∷ []) (ne_eqb (spare ws) 0 (λ is. omega (arith, is, some)))

pub count_none : (ws : List ℕ) (pairs : List (NodePlace × ℕ)) → spare ws ≡ 0 → map unpacked_place_value (whole ws) ≡ pairs → length pairs ≡ length ws
count_none ws pairs free is = ap length (sym is) ∙ length-map (whole ws) unpacked_place_value ∙ ap length (none_whole ws free)

pub count_one : (ws : List ℕ) (pairs : List (NodePlace × ℕ)) → 0 < spare ws → map unpacked_place_value (whole ws) ≡ pairs → length pairs ≡ length ws + 1
count_one ws pairs some is = ap length (sym is) ∙ length-map (whole ws) unpacked_place_value ∙ ap length (one_whole ws some) ∙ length-append ws ((spare ws - 2 ^ 32) ∷ [])

-- there are as many words where there are fewer than seven pairs, and no more where there are seven
pub few_words : (ws : List ℕ) (pairs : List (NodePlace × ℕ)) → map unpacked_place_value (whole ws) ≡ pairs → length pairs < 6 → length ws < 6
few_words ws pairs is l = go (spare ws) refl
  where
    go : (n : ℕ) → spare ws ≡ n → length ws < 6
    go zero free = let count = count_none ws pairs free is in omega (arith, count, l)
    go (suc n) at = let count = count_one ws pairs (omega (arith, at)) is in omega (arith, count, l)

-- no free bit of six is set where a pair has room
pub full_free : (ws : List ℕ) (pairs : List (NodePlace × ℕ)) → length ws ≡ 6 → map unpacked_place_value (whole ws) ≡ pairs → length pairs < 7 → spare ws ≡ 0
full_free ws pairs six is l = go (spare ws) refl
  where
    go : (n : ℕ) → spare ws ≡ n → spare ws ≡ 0
    go zero free = free
    go (suc n) at = absurd (let count = count_one ws pairs (omega (arith, at)) is in omega (arith, count, six, l))

-- there are six where it is
is_full : (ws : List ℕ) → AreAtMostSevenPackedWords ws → length ws ≤ 6 → 0 < spare ws → length ws ≡ 6
is_full ws kept l some = go (nat_lt (length ws) 6) refl
  where
    go : (b : Bool) → nat_lt (length ws) 6 ≡ b → length ws ≡ 6
    go true is = absurd (let none = kept.few (ltb-true _ _ is) in omega (arith, none, some))
    go false is = let least = ltb-false _ _ is in omega (arith, l, least)

-- and else fewer than seven pairs
pub few_pairs : (ws : List ℕ) (pairs : List (NodePlace × ℕ)) → AreAtMostSevenPackedWords ws → map unpacked_place_value (whole ws) ≡ pairs → length ws ≤ 6 → (length ws ≡ 6 → ⊥) → length pairs < 7
few_pairs ws pairs kept is l other = go (spare ws) refl
  where
    go : (n : ℕ) → spare ws ≡ n → length pairs < 7
    go zero free = let count = count_none ws pairs free is in omega (arith, count, l)
    go (suc n) at = absurd (other (is_full ws kept l (omega (arith, at))))

-- of six numbers of six bits the last is the highest
highest : (a b c d e f : ℕ) → a < 64 → b < 64 → c < 64 → d < 64 → e < 64 → (a + 64 * (b + 64 * (c + 64 * (d + 64 * (e + 64 * (f + 64 * 0)))))) / 1073741824 ≡ f
highest a b c d e f la lb lc ld le = omega arith

top_bits : (ws : List ℕ) → length ws ≡ 6 → spare ws / 1073741824 ≡ free_bits_of_packed_word (get_or ws 5 0)
top_bits (a ∷ b ∷ c ∷ d ∷ e ∷ f ∷ []) six = highest (free_bits_of_packed_word a) (free_bits_of_packed_word b) (free_bits_of_packed_word c) (free_bits_of_packed_word d) (free_bits_of_packed_word e) (free_bits_of_packed_word f) (omega arith) (omega arith) (omega arith) (omega arith) (omega arith)
top_bits [] six = absurd (omega (arith, six))
top_bits (a ∷ []) six = absurd (omega (arith, six))
top_bits (a ∷ b ∷ []) six = absurd (omega (arith, six))
top_bits (a ∷ b ∷ c ∷ []) six = absurd (omega (arith, six))
top_bits (a ∷ b ∷ c ∷ d ∷ []) six = absurd (omega (arith, six))
top_bits (a ∷ b ∷ c ∷ d ∷ e ∷ []) six = absurd (omega (arith, six))
top_bits (a ∷ b ∷ c ∷ d ∷ e ∷ f ∷ g ∷ ws) six = absurd (omega (arith, six))

pub some_spare : (ws : List ℕ) → length ws ≡ 6 → 0 < free_bits_of_packed_word (get_or ws 5 0) → 0 < spare ws
some_spare ws six some = let top = top_bits ws six in omega (arith, top, some)

pub no_spare : (ws : List ℕ) → AreAtMostSevenPackedWords ws → length ws ≡ 6 → free_bits_of_packed_word (get_or ws 5 0) ≤ 0 → spare ws ≡ 0
no_spare ws kept six none = go (spare ws) refl
  where
    go : (n : ℕ) → spare ws ≡ n → spare ws ≡ 0
    go zero is = is
    go (suc n) is = absurd (let top = top_bits ws six in let least = kept.least (omega (arith, is)) in omega (arith, top, none, least))

-- the free bits of the words from one on
pub spare_past : (ws : List ℕ) (i : ℕ) → i < length ws → spare (drop i ws) ≡ free_bits_of_packed_word (get_or ws i 0) + 64 * spare (drop (i + 1) ws)
spare_past ws i l =
    let next : suc i ≡ i + 1 = omega arith in
    ap spare (drop-cons ws i 0 l) ∙ ap (λ k. free_bits_of_packed_word (get_or ws i 0) + 64 * spare (drop k ws)) next

pub spare_part : (ws : List ℕ) (i : ℕ) → spare (drop i ws) ≤ spare ws
spare_part ws zero = omega arith
spare_part [] (suc i) = omega arith
spare_part (w ∷ ws) (suc i) = let rest = spare_part ws i in omega (arith, rest)

-- one word of a list with a number in its free bits
pub with_spare_past : (ws : List ℕ) (i n : ℕ) → i < length ws → words_with_free_bits (drop i ws) n ≡ (get_or ws i 0 + n % 64 * 2 ^ 18) ∷ words_with_free_bits (drop (i + 1) ws) (n / 64)
with_spare_past ws i n l =
    let next : suc i ≡ i + 1 = omega arith in
    ap (λ xs. words_with_free_bits xs n) (drop-cons ws i 0 l) ∙ ap (λ k. (get_or ws i 0 + n % 64 * 2 ^ 18) ∷ words_with_free_bits (drop k ws) (n / 64)) next

-- ---- one pair more

kept_few : (ws : List ℕ) → ArePackedWords ws → spare ws ≡ 0 → AreAtMostSevenPackedWords ws
kept_few ws are free = record {
  words = are;
  least = λ some. absurd (omega (arith, free, some));
  last = λ some. absurd (omega (arith, free, some));
  few = λ l. free;
}

-- where there are fewer than six
pub kept_push : (ws : List ℕ) (place : NodePlace) (value : ℕ) → AreAtMostSevenPackedWords ws → length ws < 6 → IsPackedWord (packed place value) → value < 2 ^ 18 → AreAtMostSevenPackedWords (ws ++ packed place value ∷ [])
kept_push ws place value kept l word m = kept_few (ws ++ packed place value ∷ []) (words_push ws (packed place value) kept.words word) (spare_push ws (packed place value) (kept.few l) (free_packed place value m))

pub pairs_push : (ws : List ℕ) (place : NodePlace) (value : ℕ) → AreAtMostSevenPackedWords ws → length ws < 6 → IsNodePlace place → value < 2 ^ 18
    → map unpacked_place_value (whole (ws ++ packed place value ∷ [])) ≡ map unpacked_place_value (whole ws) ++ (place, value) ∷ []
pairs_push ws place value kept l p m =
    ap (map unpacked_place_value) (none_whole (ws ++ packed place value ∷ []) (spare_push ws (packed place value) (kept.few l) (free_packed place value m)))
    ∙ map-append unpacked_place_value ws (packed place value ∷ [])
    ∙ ap (λ z. map unpacked_place_value ws ++ z ∷ []) (unpacked_place_value-packed place value p m)
    ∙ ap (λ z. map unpacked_place_value z ++ (place, value) ∷ []) (sym (none_whole ws (kept.few l)))

-- where there are six
spread_back : (ws : List ℕ) (n : ℕ) → length ws ≡ 6 → spare ws ≡ 0 → n < 2 ^ 32 → spare (words_with_free_bits ws (2 ^ 32 + n)) ≡ 2 ^ 32 + n
spread_back ws n six free l = spare_back ws (2 ^ 32 + n) free (let is = room_of_six ws six in omega (arith, is, l))

length_back : (ws : List ℕ) (n : ℕ) → length (words_with_free_bits ws n) ≡ length ws
length_back [] n = refl
length_back (w ∷ ws) n = ap suc (length_back ws (n / 64))

pub kept_spread : (ws : List ℕ) (n : ℕ) → AreAtMostSevenPackedWords ws → length ws ≡ 6 → spare ws ≡ 0 → IsPackedWord n → AreAtMostSevenPackedWords (words_with_free_bits ws (2 ^ 32 + n))
kept_spread ws n kept six free word =
    let small = word.0 in
    let back : spare (words_with_free_bits ws (2 ^ 32 + n)) ≡ 2 ^ 32 + n = spread_back ws n six free (omega (arith, small)) in
    record {
      words = words_back ws (2 ^ 32 + n) free kept.words;
      least = λ some. omega (arith, back);
      last = λ some. subst IsPackedWord (let is = back in omega (arith, is)) word;
      few = λ l. absurd (let same = length_back ws (2 ^ 32 + n) in omega (arith, l, same, six));
    }

pub pairs_spread : (ws : List ℕ) (place : NodePlace) (value : ℕ) → length ws ≡ 6 → spare ws ≡ 0 → IsPackedWord (packed place value) → IsNodePlace place → value < 2 ^ 18
    → map unpacked_place_value (whole (words_with_free_bits ws (2 ^ 32 + packed place value))) ≡ map unpacked_place_value (whole ws) ++ (place, value) ∷ []
pairs_spread ws place value six free word p m =
    let n : ℕ = packed place value in
    let small = word.0 in
    let more : List ℕ = words_with_free_bits ws (2 ^ 32 + n) in
    let back : spare more ≡ 2 ^ 32 + n = spread_back ws n six free (omega (arith, small)) in
    let same : spare more - 2 ^ 32 ≡ n = omega (arith, back) in
    ap (map unpacked_place_value) (one_whole more (omega (arith, back)))
    ∙ map-append unpacked_place_value more ((spare more - 2 ^ 32) ∷ [])
    ∙ ap (λ z. map unpacked_place_value more ++ unpacked_place_value z ∷ []) same
    ∙ ap (λ z. map unpacked_place_value more ++ z ∷ []) (unpacked_place_value-packed place value p m)
    ∙ ap (λ z. z ++ (place, value) ∷ []) (pairs_back ws (2 ^ 32 + n) free ∙ ap (map unpacked_place_value) (sym (none_whole ws free)))

-- ---- one of the pairs

pub pair_of_six : (ws : List ℕ) (pairs : List (NodePlace × ℕ)) (i : ℕ) → map unpacked_place_value (whole ws) ≡ pairs → i < length ws → slice_get pairs i ≡ Some (unpacked_place_value (get_or ws i 0))
pair_of_six ws pairs i is l = ap (λ z. slice_get z i) (sym is) ∙ go (spare ws) refl
  where
    go : (n : ℕ) → spare ws ≡ n → slice_get (map unpacked_place_value (whole ws)) i ≡ Some (unpacked_place_value (get_or ws i 0))
    go zero free = ap (λ z. slice_get (map unpacked_place_value z) i) (none_whole ws free) ∙ pair_at ws i l
    go (suc n) at =
        ap (λ z. slice_get (map unpacked_place_value z) i) (one_whole ws (omega (arith, at)))
        ∙ pair_at (ws ++ (spare ws - 2 ^ 32) ∷ []) i (let count = length-append ws ((spare ws - 2 ^ 32) ∷ []) in omega (arith, count, l))
        ∙ ap (λ z. Some (unpacked_place_value z)) (get_or-append ws ((spare ws - 2 ^ 32) ∷ []) 0 i l)

pair_behind_six : (ws : List ℕ) (pairs : List (NodePlace × ℕ)) (i : ℕ) → map unpacked_place_value (whole ws) ≡ pairs → length ws ≤ i → i < length pairs
    → (0 < spare ws) × (slice_get pairs i ≡ Some (unpacked_place_value (spare ws - 2 ^ 32)))
pair_behind_six ws pairs i is least l = go (spare ws) refl
  where
    go : (n : ℕ) → spare ws ≡ n → (0 < spare ws) × (slice_get pairs i ≡ Some (unpacked_place_value (spare ws - 2 ^ 32)))
    go zero free = absurd (let count = count_none ws pairs free is in omega (arith, count, least, l))
    go (suc n) at =
        let some : 0 < spare ws = omega (arith, at) in
        let count = count_one ws pairs some is in
        let here : i ≡ length ws = omega (arith, count, least, l) in (
          some,
          ap (λ z. slice_get z i) (sym is)
              ∙ ap (λ z. slice_get (map unpacked_place_value z) i) (one_whole ws some)
              ∙ pair_at (ws ++ (spare ws - 2 ^ 32) ∷ []) i (let more = length-append ws ((spare ws - 2 ^ 32) ∷ []) in omega (arith, more, here))
              ∙ ap (λ z. Some (unpacked_place_value (get_or (ws ++ (spare ws - 2 ^ 32) ∷ []) z 0))) here
              ∙ ap (λ z. Some (unpacked_place_value z)) (get_or-append_seam ws (spare ws - 2 ^ 32) [] 0),
        )

-- what the free bits of six hold
pub seventh_is : (ws : List ℕ) (pairs : List (NodePlace × ℕ)) (i count : ℕ) → AreAtMostSevenPackedWords ws → map unpacked_place_value (whole ws) ≡ pairs → count ≡ length ws → count ≤ 6 → count ≤ i → i < length pairs
    → (length ws ≡ 6) × (2 ^ 32 ≤ spare ws) × IsPackedWord (spare ws - 2 ^ 32) × (slice_get pairs i ≡ Some (unpacked_place_value (spare ws - 2 ^ 32)))
seventh_is ws pairs i count kept is value most least l =
    let here : (0 < spare ws) × (slice_get pairs i ≡ Some (unpacked_place_value (spare ws - 2 ^ 32))) = pair_behind_six ws pairs i is (omega (arith, value, least)) l in
    (is_full ws kept (omega (arith, value, most)) here.0, kept.least here.0, kept.last here.0, here.1)

-- the first six
pub first_six : (ws : List ℕ) (pairs : List (NodePlace × ℕ)) → AreAtMostSevenPackedWords ws → length ws ≤ 6 → map unpacked_place_value (whole ws) ≡ pairs → take 6 pairs ≡ map unpacked_place_value ws
first_six ws pairs kept l is = ap (take 6) (sym is) ∙ go (spare ws) refl
  where
    count : length (map unpacked_place_value ws) ≡ length ws
    count = length-map ws unpacked_place_value

    go : (n : ℕ) → spare ws ≡ n → take 6 (map unpacked_place_value (whole ws)) ≡ map unpacked_place_value ws
    go zero free = ap (λ z. take 6 (map unpacked_place_value z)) (none_whole ws free) ∙ take_all 6 (map unpacked_place_value ws) (omega (arith, count, l))
    go (suc n) at =
        let some : 0 < spare ws = omega (arith, at) in
        let six : length ws ≡ 6 = is_full ws kept l some in
        ap (λ z. take 6 (map unpacked_place_value z)) (one_whole ws some)
        ∙ ap (take 6) (map-append unpacked_place_value ws ((spare ws - 2 ^ 32) ∷ []))
        ∙ take-append-le 6 (map unpacked_place_value ws) (unpacked_place_value (spare ws - 2 ^ 32) ∷ []) (omega (arith, count, six))
        ∙ take_all 6 (map unpacked_place_value ws) (omega (arith, count, six))

pub six_at : (ws : List ℕ) (pairs : List (NodePlace × ℕ)) (i : ℕ) → take 6 pairs ≡ map unpacked_place_value ws → i < length (take 6 pairs) → slice_get (take 6 pairs) i ≡ Some (unpacked_place_value (get_or ws i 0))
six_at ws pairs i is l =
    let count : length (take 6 pairs) ≡ length ws = ap length is ∙ length-map ws unpacked_place_value in
    ap (λ z. slice_get z i) is ∙ pair_at ws i (omega (arith, count, l))
