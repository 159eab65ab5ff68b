-- A place and its value in one number, and a list of six such numbers that may hold a seventh.
use Rattle.std.specs.Prelude.{◌≡◌, ℕ, ◌+◌, ◌-◌, ◌*◌, ◌/◌, ◌%◌, ◌^◌, ◌<◌, ◌≤◌, ◌==◌, if◌then◌else◌, nat_lt, List, [], ◌∷◌, ◌++◌, length, zero, suc}
use Rattle.ga_node.specs.declared.place.NodePlace.{NodePlace}
use Rattle.ga_node.specs.declared.place.NodePlace.TheVariants.{T, S, DataCell, DataPointer, R, ReturnCell, ReturnPointer, Ram, Rom, A, B, P, I, Slot, Io, Carry, Wait, Stop}

-- a number of 8 bits for each place: 8 for each kind before its own, and its cell, where RAM and ROM take eight kinds each
abbrev pub code_of_node_place : NodePlace → ℕ
code_of_node_place T = 0
code_of_node_place S = 8
code_of_node_place DataPointer = 16
code_of_node_place R = 24
code_of_node_place ReturnPointer = 32
code_of_node_place A = 40
code_of_node_place B = 48
code_of_node_place P = 56
code_of_node_place (Ram cell) = 64 + cell
code_of_node_place (Rom cell) = 128 + cell
code_of_node_place (DataCell cell) = 192 + cell
code_of_node_place (ReturnCell cell) = 200 + cell
code_of_node_place I = 208
code_of_node_place Slot = 216
code_of_node_place Io = 224
code_of_node_place Carry = 232
code_of_node_place Wait = 240
code_of_node_place Stop = 248

-- the place of a kind, with its cell in the low bits of this code
abbrev pub node_place_of_kind_and_code : ℕ → ℕ → NodePlace
node_place_of_kind_and_code kind code =
    if nat_lt 7 kind then (
    if nat_lt kind 16 then Ram (code % 64)
    else if nat_lt kind 24 then Rom (code % 64)
    else if kind == 24 then DataCell (code % 8)
    else if kind == 25 then ReturnCell (code % 8)
    else if kind == 26 then I
    else if kind == 27 then Slot
    else if kind == 28 then Io
    else if kind == 29 then Carry
    else if kind == 30 then Wait
    else Stop
    )
    else if kind == 0 then T
    else if kind == 1 then S
    else if kind == 2 then DataPointer
    else if kind == 3 then R
    else if kind == 4 then ReturnPointer
    else if kind == 5 then A
    else if kind == 6 then B
    else P

-- the word of a place and a value: 8 bits of code, 6 free bits, and 18 bits of value
abbrev pub packed : NodePlace → ℕ → ℕ
packed place value = code_of_node_place place * 2 ^ 24 + value

-- the place and the value of a word, whatever its free bits are
abbrev pub unpacked_place_value : ℕ → NodePlace × ℕ
unpacked_place_value word = (node_place_of_kind_and_code (word / 2 ^ 27) (word / 2 ^ 24), word % 2 ^ 18)

-- a word is that of a pair
abbrev pub IsPackedWord : ℕ → Type 0
IsPackedWord word = (word < 249 * 2 ^ 24) × (code_of_node_place (unpacked_place_value word).0 ≡ word / 2 ^ 24)

-- each word of the list is that of a pair
abbrev pub ArePackedWords : List ℕ → Type 0
ArePackedWords [] = Unit {0}
ArePackedWords (w ∷ ws) = IsPackedWord w × ArePackedWords ws

-- the value of a word's free bits
abbrev pub free_bits_of_packed_word : ℕ → ℕ
free_bits_of_packed_word word = word / 2 ^ 18 % 64

-- the value of the free bits of all words, six bits in each, the lowest in the first
abbrev pub spare : List ℕ → ℕ
spare [] = 0
spare (w ∷ ws) = free_bits_of_packed_word w + 64 * spare ws

-- the words with this number in their free bits
abbrev pub words_with_free_bits : List ℕ → ℕ → List ℕ
words_with_free_bits [] n = []
words_with_free_bits (w ∷ ws) n = (w + n % 64 * 2 ^ 18) ∷ words_with_free_bits ws (n / 64)

-- the words of all pairs: the words, then the one in their free bits if bit 32 of `spare` is set
abbrev pub whole : List ℕ → List ℕ
whole ws = if spare ws == 0 then ws else ws ++ (spare ws - 2 ^ 32) ∷ []

-- at most six words, and a seventh only where there are six
pub record AreAtMostSevenPackedWords (ws : List ℕ) : Type 0 where
  pub words : ArePackedWords ws
  pub least : 0 < spare ws → 2 ^ 32 ≤ spare ws
  pub last : 0 < spare ws → IsPackedWord (spare ws - 2 ^ 32)
  pub few : length ws < 6 → spare ws ≡ 0

-- ---- old values of many events, each at the code of its place

-- the pairs of a list that has one more than a word for each pair, and 0 where there is none
abbrev pub place_values_of_packed_words : List ℕ → List (NodePlace × ℕ)
place_values_of_packed_words [] = []
place_values_of_packed_words (zero ∷ ws) = place_values_of_packed_words ws
place_values_of_packed_words (suc w ∷ ws) = unpacked_place_value w ∷ place_values_of_packed_words ws

-- whether the index of each word is the code of its place, where the list begins at this code
abbrev pub ArePackedWordsAtPlaceCodes : ℕ → List ℕ → Type 0
ArePackedWordsAtPlaceCodes code [] = Unit {0}
ArePackedWordsAtPlaceCodes code (zero ∷ ws) = ArePackedWordsAtPlaceCodes (code + 1) ws
ArePackedWordsAtPlaceCodes code (suc w ∷ ws) = IsPackedWord w × (w / 2 ^ 24 ≡ code) × ArePackedWordsAtPlaceCodes (code + 1) ws
