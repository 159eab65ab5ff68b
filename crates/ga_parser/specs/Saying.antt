-- The tokens of a source: its words with their lines, without comments (docs/REFERENCE.md, "Source"; the notation is this
-- project's own). Where the tokens are in their lines (docs/REFERENCE.md, "Source"; this project's own). A column is that of a
-- word's first byte, counted in bytes from 1 on, after a byte order mark. A fault of a line has column 1.
use Rattle.std.specs.Prelude.{ℕ, ◌+◌, ◌-◌, ◌^◌, ◌==◌, nat_lt, Bool, true, false, ◌||◌, ◌&&◌, not, if◌then◌else◌, List, [], ◌∷◌, ◌++◌, length, map, min, filter, take, drop, slice_index, codes, bytes_eq}
use Rattle.std.specs.List.{list_all}
use Rattle.ga_text.specs.Lines.{lines_with_added_front_byte}
use Rattle.ga_parser.specs.declared.scan.TokenKind.{TokenKind}
use Rattle.ga_parser.specs.declared.scan.TokenKind.TheVariants.{Word, LongLine, OpenComment, NoNumber, MissingNameOrValue, NameTaken}
use Rattle.ga_parser.specs.declared.scan.Token.{Token}

-- ---- lines, and the words of a line

-- The parts of a text that some bytes end. The last may lack its end. An empty text has no part.
unfoldable pub parts_ended_by_bytes : (ℕ → Bool) → List ℕ → List (List ℕ)
parts_ended_by_bytes ends [] = []
parts_ended_by_bytes ends (byte ∷ text) = if ends byte then [] ∷ parts_ended_by_bytes ends text else lines_with_added_front_byte byte (parts_ended_by_bytes ends text)

-- a line feed
abbrev pub is_line_feed : ℕ → Bool
is_line_feed byte = byte == 10

-- a blank or a tab
abbrev pub is_blank : ℕ → Bool
is_blank byte = byte == 32 || byte == 9

abbrev pub source_lines : List ℕ → List (List ℕ)
source_lines text = parts_ended_by_bytes is_line_feed text

abbrev pub has_bytes : List ℕ → Bool
has_bytes [] = false
has_bytes (byte ∷ text) = true

abbrev pub source_words : List ℕ → List (List ℕ)
source_words line = filter has_bytes (parts_ended_by_bytes is_blank line)

-- ---- what some editors write into a text

-- the byte order mark (Unicode, U+FEFF in UTF-8)
abbrev pub byte_order_mark : List ℕ
byte_order_mark = 0xef ∷ 0xbb ∷ 0xbf ∷ []

-- a line without the byte order mark, where it is the first and begins with one
abbrev pub strip_byte_order_mark : ℕ → List ℕ → List ℕ
strip_byte_order_mark line text = if line == 1 && bytes_eq (take 3 text) byte_order_mark then drop 3 text else text

-- a line without the carriage return at its end
abbrev pub line_without_carriage_return : List ℕ → List ℕ
line_without_carriage_return text = if slice_index text (length text - 1) == 13 then take (length text - 1) text else text

-- a line without the byte order mark, and without the carriage return at its end
abbrev pub stripped_source_line : ℕ → List ℕ → List ℕ
stripped_source_line line text = line_without_carriage_return (strip_byte_order_mark line text)

-- ---- what a line says

-- the most bytes of a line, without a byte order mark, a carriage return and a line feed
abbrev pub max_source_line_bytes : ℕ
max_source_line_bytes = 200

-- a word, or what is wrong with a line and then no text, with the line's number
pub record TokenContent : Type 0 where
  pub line : ℕ
  pub text : List ℕ
  pub kind : TokenKind

abbrev pub word_token : ℕ → List ℕ → TokenContent
word_token line text = record { line = line; text = text; kind = Word }

abbrev pub line_fault_token : ℕ → TokenKind → TokenContent
line_fault_token line kind = record { line = line; text = []; kind = kind }

abbrev pub is_word_kind : TokenKind → Bool
is_word_kind Word = true
is_word_kind LongLine = false
is_word_kind OpenComment = false
is_word_kind NoNumber = false
is_word_kind MissingNameOrValue = false
is_word_kind NameTaken = false

abbrev pub is_word_token : TokenContent → Bool
is_word_token said = is_word_kind said.kind

-- the word ends with `)`
abbrev pub is_comment_end : List ℕ → Bool
is_comment_end word = slice_index word (length word - 1) == 41

-- The tokens of words of a line, after a `(` that isn't closed yet or not: `\` omits everything after it, and `(` everything up
-- to a word that ends with `)`.
unfoldable pub tokens_of_words : ℕ → Bool → List (List ℕ) → List TokenContent
tokens_of_words line false [] = []
tokens_of_words line true [] = line_fault_token line OpenComment ∷ []
tokens_of_words line false (word ∷ words) =
    if bytes_eq word (codes "\\") then []
    else if bytes_eq word (codes "(") then tokens_of_words line true words
    else word_token line word ∷ tokens_of_words line false words
tokens_of_words line true (word ∷ words) = tokens_of_words line (not (is_comment_end word)) words

-- all tokens of a line, also of an expectation
abbrev pub tokens_of_line_with_expectation : ℕ → List ℕ → List TokenContent
tokens_of_line_with_expectation line text = if nat_lt max_source_line_bytes (length text) then line_fault_token line LongLine ∷ [] else tokens_of_words line false (source_words text)

-- a line with these tokens is an expectation: its first word is `expect`
abbrev pub begins_expectation : List TokenContent → Bool
begins_expectation [] = false
begins_expectation (said ∷ rest) = bytes_eq said.text (codes "expect")

-- an expectation makes no token, but for its fault if a comment is left open in it
abbrev pub expectation_tokens : ℕ → List TokenContent → List TokenContent
expectation_tokens line said = if list_all is_word_token said then [] else line_fault_token line OpenComment ∷ []

-- the tokens that a line makes
abbrev pub tokens_of_line : ℕ → List ℕ → List TokenContent
tokens_of_line line text = if begins_expectation (tokens_of_line_with_expectation line text) then expectation_tokens line (tokens_of_line_with_expectation line text) else tokens_of_line_with_expectation line text

-- ---- what a text says

-- the tokens, up to the first fault
unfoldable pub tokens_through_first_fault : List TokenContent → List TokenContent
tokens_through_first_fault [] = []
tokens_through_first_fault (said ∷ rest) = said ∷ (if is_word_token said then tokens_through_first_fault rest else [])

-- the number of the next line
abbrev pub next_line_number : ℕ → ℕ
next_line_number line = min (line + 1) (2 ^ 32 - 1)

-- what the lines say up to one that is `end`, numbered from here on
unfoldable pub tokens_of_lines : ℕ → List (List ℕ) → List TokenContent
tokens_of_lines line [] = []
tokens_of_lines line (text ∷ texts) =
    if bytes_eq (stripped_source_line line text) (codes "end") then [] else tokens_of_line line (stripped_source_line line text) ++ tokens_of_lines (next_line_number line) texts

-- ---- what was read

-- what a word that was read says, and what some say
abbrev pub token_content : Token → TokenContent
token_content token = record { line = token.line; text = token.text.now; kind = token.kind }

abbrev pub token_contents : List Token → List TokenContent
token_contents tokens = map token_content tokens

-- ---- where the tokens of a source are in their lines

-- the column of a part that is a word
abbrev pub column_of_word_part : ℕ → List ℕ → List ℕ
column_of_word_part column part = if has_bytes part then column ∷ [] else []

-- The columns of the tokens of parts of a line, the first of which is at this column, after a `(` that isn't closed yet or not.
unfoldable pub columns_of_parts : ℕ → Bool → List (List ℕ) → List ℕ
columns_of_parts column false [] = []
columns_of_parts column true [] = 1 ∷ []
columns_of_parts column false (part ∷ parts) =
    if bytes_eq part (codes "\\") then []
    else if bytes_eq part (codes "(") then columns_of_parts (column + length part + 1) true parts
    else column_of_word_part column part ++ columns_of_parts (column + length part + 1) false parts
columns_of_parts column true (part ∷ parts) = columns_of_parts (column + length part + 1) (not (is_comment_end part)) parts

-- the columns of all tokens of a line
abbrev pub columns_of_line_with_expectation : List ℕ → List ℕ
columns_of_line_with_expectation text = if nat_lt max_source_line_bytes (length text) then 1 ∷ [] else columns_of_parts 1 false (parts_ended_by_bytes is_blank text)

-- the columns of the tokens that an expectation makes
abbrev pub expectation_columns : List TokenContent → List ℕ
expectation_columns said = if list_all is_word_token said then [] else 1 ∷ []

-- the columns of the tokens that a line makes
abbrev pub columns_of_line : ℕ → List ℕ → List ℕ
columns_of_line line text = if begins_expectation (tokens_of_line_with_expectation line text) then expectation_columns (tokens_of_line_with_expectation line text) else columns_of_line_with_expectation text

-- the columns of what the lines say up to one that is `end`, numbered from here on
unfoldable pub columns_of_lines : ℕ → List (List ℕ) → List ℕ
columns_of_lines line [] = []
columns_of_lines line (text ∷ texts) =
    if bytes_eq (stripped_source_line line text) (codes "end") then [] else columns_of_line line (stripped_source_line line text) ++ columns_of_lines (next_line_number line) texts

-- the columns of words that were read
abbrev pub token_columns : List Token → List ℕ
token_columns tokens = map (λ (token : Token). token.column) tokens

-- ---- tokens with their columns

pub record PlacedToken : Type 0 where
  pub said : TokenContent
  pub column : ℕ

-- tokens at these columns
unfoldable pub tokens_with_columns : List TokenContent → List ℕ → List PlacedToken
tokens_with_columns [] columns = []
tokens_with_columns (said ∷ rest) [] = record { said = said; column = 0 } ∷ tokens_with_columns rest []
tokens_with_columns (said ∷ rest) (column ∷ columns) = record { said = said; column = column } ∷ tokens_with_columns rest columns

-- the tokens of a source as they are written, up to its end or to a line `end`
abbrev pub scanned_tokens : List ℕ → List PlacedToken
scanned_tokens source = tokens_with_columns (tokens_of_lines 1 (source_lines source)) (columns_of_lines 1 (source_lines source))
