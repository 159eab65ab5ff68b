-- Constants: from `N constant NAME` on, NAME is read as the number N (docs/REFERENCE.md, "Source"; this project's own).
use Rattle.std.specs.Prelude.{ℕ, Bool, false, ◌&&◌, not, is_none, if◌then◌else◌, List, [], ◌∷◌, ◌++◌, slice_index_or, codes, bytes_eq, Option, Some, None}
use Rattle.ga_parser.specs.declared.scan.TokenKind.{TokenKind}
use Rattle.ga_parser.specs.declared.scan.TokenKind.TheVariants.{NoNumber, MissingNameOrValue, NameTaken}
use Rattle.ga_parser.specs.declared.number.Number.{Number as NumberIn}
use Rattle.ga_parser.specs.declared.number.Number.TheVariants.{Of, OutOfRange, Nothing as NotANumber}
use Rattle.ga_parser.specs.Asking.{LabelContent, known_label_number, labels_with_added_label}
use Rattle.ga_parser.specs.Saying.{PlacedToken, line_fault_token, has_bytes, is_word_token}
use Rattle.ga_parser.specs.Vocabulary.{number_spelled_by_word, is_reserved_word}

-- ---- what names are read as

-- the names of constants and labels so far by their numbers, and for each the text of a constant's number, nothing for a label
pub record ConstantAndLabelNames : Type 0 where
  pub names : List LabelContent
  pub numbers : List (List ℕ)

abbrev pub constant_number_text : ConstantAndLabelNames → ℕ → List ℕ
constant_number_text known name = slice_index_or known.numbers name []

-- the number, or the word if there is none
abbrev pub number_text_or_word : List ℕ → List ℕ → List ℕ
number_text_or_word number word = if has_bytes number then number else word

abbrev pub text_resolved_by_index : ConstantAndLabelNames → List ℕ → Option ℕ → List ℕ
text_resolved_by_index known word (Some name) = number_text_or_word (constant_number_text known name) word
text_resolved_by_index known word None = word

-- what a word is read as: a constant as its number
abbrev pub resolved_word_text : ConstantAndLabelNames → List ℕ → List ℕ
resolved_word_text known word = text_resolved_by_index known word (known_label_number known.names word)

abbrev pub names_with_unknown_name : ConstantAndLabelNames → ℕ → List ℕ → List ℕ → Option ℕ → ConstantAndLabelNames
names_with_unknown_name known line name number (Some _) = known
names_with_unknown_name known line name number None = record { names = labels_with_added_label known.names line name false; numbers = known.numbers ++ number ∷ [] }

-- with this name, unless it is there
abbrev pub names_with_added_name : ConstantAndLabelNames → ℕ → List ℕ → List ℕ → ConstantAndLabelNames
names_with_added_name known line name number = names_with_unknown_name known line name number (known_label_number known.names name)

-- ---- a definition

-- the word is the number of a constant: the next one is `constant`
abbrev pub is_number_before_constant : PlacedToken → List ℕ → Bool
is_number_before_constant one next = is_word_token one.said && bytes_eq next (codes "constant")

-- a constant may have this name: the language has no such word, and no constant or label before has the name
abbrev pub is_free_name : ConstantAndLabelNames → List ℕ → Bool
is_free_name known name = not (is_reserved_word name) && is_none (known_label_number known.names name)

-- a fault in the place of a word
abbrev pub fault_replacing_word : TokenKind → PlacedToken → PlacedToken
fault_replacing_word kind one = record { said = line_fault_token one.said.line kind; column = one.column }

abbrev pub constant_fault_token : ConstantAndLabelNames → PlacedToken → PlacedToken → NumberIn → Option PlacedToken
constant_fault_token known number name (Of n) = if is_free_name known name.said.text then None else Some (fault_replacing_word NameTaken name)
constant_fault_token known number name OutOfRange = Some (fault_replacing_word NoNumber number)
constant_fault_token known number name NotANumber = Some (fault_replacing_word NoNumber number)

-- what is wrong with the definition of a name as a number
abbrev pub constant_definition_fault : ConstantAndLabelNames → PlacedToken → PlacedToken → Option PlacedToken
constant_definition_fault known number name = constant_fault_token known number name (number_spelled_by_word (resolved_word_text known number.said.text))

-- ---- word by word

-- what the next word is: any, `constant` after this number, or the name after this number and `constant`
pub data AwaitedWord : Type 0 where
  Any : AwaitedWord
  Constant : PlacedToken → AwaitedWord
  Name : PlacedToken → PlacedToken → AwaitedWord

pub record ConstantResolution : Type 0 where
  -- the words so far without definitions
  pub words : List PlacedToken
  pub known : ConstantAndLabelNames
  pub awaited : AwaitedWord

abbrev pub initial_resolution : ConstantResolution
initial_resolution = record { words = []; known = record { names = []; numbers = [] }; awaited = Any }

abbrev pub resolution_with_token : ConstantResolution → PlacedToken → ConstantResolution
resolution_with_token so_far one = record so_far { words = so_far.words ++ one ∷ [] }

abbrev pub resolution_with_defined_name : ConstantResolution → ℕ → List ℕ → List ℕ → ConstantResolution
resolution_with_defined_name so_far line name number = record so_far { known = names_with_added_name so_far.known line name number }

abbrev pub token_with_resolved_constant : ConstantAndLabelNames → PlacedToken → PlacedToken
token_with_resolved_constant known one = record { said = record { line = one.said.line; text = resolved_word_text known one.said.text; kind = one.said.kind }; column = one.column }

-- the next word is a label's name
abbrev pub begins_label : PlacedToken → Bool
begins_label one = bytes_eq one.said.text (codes ":")

-- a word that is no part of a definition
abbrev pub resolution_with_passed_word : ConstantResolution → PlacedToken → List ℕ → ConstantResolution
resolution_with_passed_word so_far one next =
    if begins_label one then resolution_with_defined_name (resolution_with_token so_far (token_with_resolved_constant so_far.known one)) one.said.line next []
    else resolution_with_token so_far (token_with_resolved_constant so_far.known one)

abbrev pub resolution_with_definition : ConstantResolution → PlacedToken → PlacedToken → Option PlacedToken → ConstantResolution
resolution_with_definition so_far number name (Some fault) = resolution_with_token so_far fault
resolution_with_definition so_far number name None = resolution_with_defined_name so_far name.said.line name.said.text (resolved_word_text so_far.known number.said.text)

-- a number, the word `constant`, and what should be a name
abbrev pub add_constant_definition : ConstantResolution → PlacedToken → PlacedToken → PlacedToken → ConstantResolution
add_constant_definition so_far number constant name =
    if is_word_token name.said then resolution_with_definition so_far number name (constant_definition_fault so_far.known number name)
    else resolution_with_token (resolution_with_token so_far (fault_replacing_word MissingNameOrValue constant)) name

abbrev pub resolution_that_awaits_word : ConstantResolution → AwaitedWord → ConstantResolution
resolution_that_awaits_word so_far awaited = record so_far { awaited = awaited }

abbrev pub resolve_awaited_word : ConstantResolution → PlacedToken → List ℕ → AwaitedWord → ConstantResolution
resolve_awaited_word so_far one next Any = if is_number_before_constant one next then resolution_that_awaits_word so_far (Constant one) else resolution_with_passed_word (resolution_that_awaits_word so_far Any) one next
resolve_awaited_word so_far one next (Constant number) = resolution_that_awaits_word so_far (Name number one)
resolve_awaited_word so_far one next (Name number constant) = add_constant_definition (resolution_that_awaits_word so_far Any) number constant one

-- one more word, and the text of the next
abbrev pub resolve_next_word : ConstantResolution → PlacedToken → List ℕ → ConstantResolution
resolve_next_word so_far one next = resolve_awaited_word so_far one next so_far.awaited

-- the text of the next word, empty if there is none
abbrev pub first_token_text : List PlacedToken → List ℕ
first_token_text [] = []
first_token_text (one ∷ rest) = one.said.text

unfoldable pub resolve_words_from : ConstantResolution → List PlacedToken → ConstantResolution
resolve_words_from so_far [] = so_far
resolve_words_from so_far (one ∷ rest) = resolve_words_from (resolve_next_word so_far one (first_token_text rest)) rest

abbrev pub resolution_with_name_fault : ConstantResolution → AwaitedWord → ConstantResolution
resolution_with_name_fault so_far Any = so_far
resolution_with_name_fault so_far (Constant number) = so_far
resolution_with_name_fault so_far (Name number constant) = resolution_with_token so_far (fault_replacing_word MissingNameOrValue constant)

-- after the last word
abbrev pub end_resolution : ConstantResolution → ConstantResolution
end_resolution so_far = resolution_with_name_fault so_far so_far.awaited

-- what came of all words
abbrev pub resolution_of_words : List PlacedToken → ConstantResolution
resolution_of_words words = end_resolution (resolve_words_from initial_resolution words)

-- the words without definitions
abbrev pub tokens_without_definitions : List PlacedToken → List PlacedToken
tokens_without_definitions words = (resolution_of_words words).words
