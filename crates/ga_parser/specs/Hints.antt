-- The hint for a word without meaning: what to write instead (docs/REFERENCE.md, "Source"; this project's own).
use Rattle.std.specs.Prelude.{ℕ, ◌≤◌, ◌-◌, ◌==◌, nat_lt, Bool, ◌&&◌, ◌||◌, if◌then◌else◌, List, [], ◌∷◌, ◌++◌, length, take, drop, slice_index, codes, Option, Some, None, is_some}
use Rattle.std.specs.Cmp.Lexicographic.{pointwise}
use Rattle.std.specs.Char.{eq_ignore_ascii_case}
use Rattle.ga_ports.specs.Steps.{◌>>=◌}
use Rattle.ga_parser.specs.Nearness.{is_within_one_edit}
use Rattle.ga_parser.specs.Vocabulary.{find_in_table, has_prefix, value_of_digits, number_spelled_by_word, spells_number}
use Rattle.ga_parser.specs.declared.hint.SpellingHint.{SpellingHint}

-- ---- words of other Forths and of assemblers

-- each with what says it here
abbrev pub foreign_words : List (List ℕ × List ℕ)
foreign_words =
    (codes ">r", codes "push")
    ∷ (codes "r>", codes "pop")
    ∷ (codes "r@", codes "pop dup push")
    ∷ (codes "2dup", codes "over over")
    ∷ (codes "2drop", codes "drop drop")
    ∷ (codes "nip", codes "push drop pop")
    ∷ (codes "swap", codes "over push push drop pop pop")
    ∷ (codes "tuck", codes "over push push drop pop pop over")
    ∷ (codes "rot", codes "push push a! pop pop a, which changes A")
    ∷ (codes "1+", codes "1 . +")
    ∷ (codes "1-", codes "-1 . +")
    ∷ (codes "negate", codes "inv 1 . +")
    ∷ (codes "*", codes "+*, one step")
    ∷ (codes "lshift", codes "2*, one bit")
    ∷ (codes "<<", codes "2*, one bit")
    ∷ (codes "rshift", codes "2/, one bit")
    ∷ (codes ">>", codes "2/, one bit")
    ∷ (codes "not", codes "inv")
    ∷ (codes "~", codes "inv")
    ∷ (codes "&", codes "and")
    ∷ (codes "^", codes "xor")
    ∷ (codes "|", codes "dup push inv and pop xor")
    ∷ (codes "a@", codes "a")
    ∷ (codes "@a", codes "@")
    ∷ (codes "!a", codes "!")
    ∷ (codes "@a+", codes "@+")
    ∷ (codes "!a+", codes "!+")
    ∷ (codes "do", codes "for")
    ∷ (codes "loop", codes "next")
    ∷ (codes "if,", codes "if")
    ∷ (codes "endif", codes "then")
    ∷ (codes "exit", codes ";")
    ∷ (codes ";s", codes ";")
    ∷ (codes "call", codes "NAME")
    ∷ (codes "jump", codes "NAME ;")
    ∷ (codes "variable", codes ": NAME 0 ,")
    ∷ (codes "create", codes ": NAME")
    ∷ (codes "equ", codes "N constant NAME")
    ∷ (codes ",", codes "N ,")
    ∷ (codes "end", codes "end on a line of its own")
    ∷ (codes "expect", codes "expect begins a line of its own")
    ∷ (codes "//", codes "\\")
    ∷ (codes "#", codes "\\")
    ∷ (codes "--", codes "\\")
    ∷ []

unfoldable pub foreign_spelling : List ℕ → Option (List ℕ)
foreign_spelling word = find_in_table foreign_words word

-- ---- words that are spelled as elsewhere, or that lack a blank

-- the text, where the test holds
abbrev pub some_text_if : Bool → List ℕ → Option (List ℕ)
some_text_if test text = if test then Some text else None

-- the digits of `$1f`
abbrev pub digits_after_dollar : List ℕ → Option (List ℕ)
digits_after_dollar word = some_text_if (has_prefix word (codes "$") && is_some (value_of_digits 16 (drop 1 word))) (drop 1 word)

-- the word without its last byte, where it is this one and others stand before it
abbrev pub word_before_final_byte : ℕ → List ℕ → Option (List ℕ)
word_before_final_byte end word = some_text_if (slice_index word (length word - 1) == end && nat_lt 1 (length word)) (take (length word - 1) word)

-- the name of `:main`
abbrev pub name_after_colon : List ℕ → Option (List ℕ)
name_after_colon word = some_text_if (has_prefix word (codes ":") && nat_lt 1 (length word)) (drop 1 word)

-- the number of `5,`
abbrev pub number_before_comma : List ℕ → Option (List ℕ)
number_before_comma word = word_before_final_byte 44 word >>= (λ rest. some_text_if (spells_number (number_spelled_by_word rest)) rest)

-- the first text that is there, put into others; else another one
abbrev pub map_text_or : {X : Type 0} → Option (List ℕ) → (List ℕ → X) → X → X
map_text_or (Some text) put other = put text
map_text_or None put other = other

-- what such a word is here: `$1f` is `0x1f`, `x;` is `x ;`, `x:` and `:x` are `: x`, `5,` is `5 ,`
unfoldable pub local_spelling : List ℕ → Option (List ℕ)
local_spelling word =
    map_text_or (foreign_spelling word) (λ text. Some text)
    (map_text_or (digits_after_dollar word) (λ text. Some (codes "0x" ++ text))
    (map_text_or (word_before_final_byte 59 word) (λ text. Some (text ++ codes " ;"))
    (map_text_or (word_before_final_byte 58 word) (λ text. Some (codes ": " ++ text))
    (map_text_or (name_after_colon word) (λ text. Some (codes ": " ++ text))
    (map_text_or (number_before_comma word) (λ text. Some (text ++ codes " ,")) None)))))

-- ---- names that were meant

-- they differ in upper case alone, or, where the name has four letters or more, in one letter
abbrev pub is_probable_misspelling : List ℕ → List ℕ → Bool
is_probable_misspelling word name = pointwise eq_ignore_ascii_case word name || nat_lt 3 (length name) && is_within_one_edit word name

-- the first name that was meant
unfoldable pub first_probable_name : List ℕ → List (List ℕ) → Option (List ℕ)
first_probable_name word [] = None
first_probable_name word (name ∷ names) = if is_probable_misspelling word name then Some name else first_probable_name word names

-- words of source
abbrev pub known_source_words : List (List ℕ)
known_source_words =
    codes "drop" ∷ codes "dup" ∷ codes "pop" ∷ codes "over" ∷ codes "push" ∷ codes "and" ∷ codes "or" ∷ codes "xor"
    ∷ codes "inv" ∷ codes "invert" ∷ codes "nop" ∷ codes "ex" ∷ codes "a" ∷ codes "a!" ∷ codes "b!" ∷ codes "begin"
    ∷ codes "for" ∷ codes "next" ∷ codes "unext" ∷ codes "*next" ∷ codes "again" ∷ codes "until" ∷ codes "-until" ∷ codes "while"
    ∷ codes "-while" ∷ codes "repeat" ∷ codes "if" ∷ codes "-if" ∷ codes "ahead" ∷ codes "else" ∷ codes "then" ∷ codes "org"
    ∷ codes "node" ∷ codes "expect" ∷ codes "constant" ∷ codes "right" ∷ codes "down" ∷ codes "left" ∷ codes "up" ∷ codes "io"
    ∷ []

unfoldable pub find_probable_word : List ℕ → Option (List ℕ)
find_probable_word word = first_probable_name word known_source_words

-- ---- hints

-- the hint for the word, if there is one: its form here, otherwise the name that was probably meant, with a `?`
unfoldable pub hint_for_word : List ℕ → Option (List ℕ)
hint_for_word word = map_text_or (local_spelling word) (λ text. Some text) (map_text_or (find_probable_word word) (λ name. Some (name ++ codes "?")) None)

abbrev pub hint_text : SpellingHint → List ℕ
hint_text hint = hint.before.now ++ (hint.word.now ++ hint.behind.now)

-- a part of the word, and before and after it at most 64 bytes
pub record IsShortHint (word : List ℕ) (hint : SpellingHint) : Type 0 where
  pub before : length hint.before.now ≤ 64
  pub part : length hint.word.now ≤ length word
  pub behind : length hint.behind.now ≤ 64
