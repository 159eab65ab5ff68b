-- What plain words ask for: cells of data, addresses and registers, by numbers alone (docs/REFERENCE.md, "Source"; this project's
-- own). A source without labels, opcodes and control words, as a chip's image written out, is of such words alone.
use Rattle.std.specs.Prelude.{ℕ, nat_le, nat_lt, ◌&&◌, ◌||◌, is_none, if◌then◌else◌, List, [], ◌∷◌, ◌++◌, map, codes, bytes_eq, Bool, true, false, Option, Some, None, option_map}
use Rattle.ga_grid.specs.Grid.{node_number_of_name, parse_decimal_name}
use Rattle.ga_parser.specs.declared.number.Number.{Number as NumberIn}
use Rattle.ga_parser.specs.declared.number.Number.TheVariants.{Of, OutOfRange, Nothing}
use Rattle.ga_parser.specs.declared.item.Operand.{Operand}
use Rattle.ga_parser.specs.declared.item.Operand.TheVariants.{Number}
use Rattle.ga_parser.specs.declared.item.AssemblyItem.TheVariants.{Cell}
use Rattle.ga_parser.specs.declared.item.AssemblyRequest.{AssemblyRequest}
use Rattle.ga_parser.specs.declared.item.AssemblyRequest.TheVariants.{PlaceItem, GoToAddress}
use Rattle.ga_parser.specs.declared.item.LocatedRequest.{LocatedRequest}
use Rattle.ga_parser.specs.declared.item.RegisterValue.{RegisterValue}
use Rattle.ga_parser.specs.declared.item.InitialRegisters.{InitialRegisters}
use Rattle.ga_parser.specs.Saying.{TokenContent}
use Rattle.ga_ports.specs.Steps.{◌>>=◌}
use Rattle.ga_parser.specs.Vocabulary.{number_spelled_by_word}

-- ---- the words of each node

-- the words of the tokens; a line's fault has no text
abbrev pub token_texts : List TokenContent → List (List ℕ)
token_texts all = map (λ said. said.text) all

-- a program begins with this word
abbrev pub is_node_keyword : List ℕ → Bool
is_node_keyword word = bytes_eq word (codes "node")

-- the words up to the first `node`
unfoldable pub body_words : List (List ℕ) → List (List ℕ)
body_words [] = []
body_words (word ∷ words) = if is_node_keyword word then [] else word ∷ body_words words

-- for each `node` the words after it, up to the next
unfoldable pub body_word_lists : List (List ℕ) → List (List (List ℕ))
body_word_lists [] = []
body_word_lists (word ∷ words) = if is_node_keyword word then body_words words ∷ body_word_lists words else body_word_lists words

-- the number of the node with a name of three digits
abbrev pub named_node_number : List ℕ → Option ℕ
named_node_number text = parse_decimal_name text >>= node_number_of_name

-- ---- what plain words ask for

-- requests and values of registers
pub record PlainRequests : Type 0 where
  pub requests : List AssemblyRequest
  pub p : Option Operand
  pub a : Option Operand
  pub b : Option Operand

-- no request
abbrev pub no_plain_requests : PlainRequests
no_plain_requests = record { requests = []; p = None; a = None; b = None }

-- one request more
abbrev pub plain_requests_with_added : PlainRequests → AssemblyRequest → PlainRequests
plain_requests_with_added plain request = record plain { requests = plain.requests ++ request ∷ [] }

-- what a number asks for, where the word is one that is in range
abbrev pub apply_to_number_in_range : {X : Type 0} → NumberIn → (ℕ → Option X) → Option X
apply_to_number_in_range (Of n) asks = asks n
apply_to_number_in_range OutOfRange asks = None
apply_to_number_in_range Nothing asks = None

-- the value, where the test holds
abbrev pub some_value_if : {X : Type 0} → Bool → X → Option X
some_value_if true x = Some x
some_value_if false x = None

-- an address of RAM or of ROM
abbrev pub is_cell_address : ℕ → Bool
is_cell_address address = nat_lt address 0x40 || nat_le 0x80 address && nat_lt address 0xc0

-- a register that isn't given yet gets a number below its bound
abbrev pub may_set_register : Option Operand → ℕ → ℕ → Bool
may_set_register given n bound = is_none given && nat_lt n bound

-- two words more: `N ,`, `org N`, `/p N`, `/a N` or `/b N`, with N in range, and each register at most once
abbrev pub plain_requests_with_pair : PlainRequests → List ℕ → List ℕ → Option PlainRequests
plain_requests_with_pair plain first second =
    if bytes_eq second (codes ",") then apply_to_number_in_range (number_spelled_by_word first) (λ n. Some (plain_requests_with_added plain (PlaceItem (Cell (Number n)))))
    else if bytes_eq first (codes "org") then apply_to_number_in_range (number_spelled_by_word second) (λ n. some_value_if (is_cell_address n) (plain_requests_with_added plain (GoToAddress n)))
    else if bytes_eq first (codes "/p") then apply_to_number_in_range (number_spelled_by_word second) (λ n. some_value_if (may_set_register plain.p n 0x400) (record plain { p = Some (Number n) }))
    else if bytes_eq first (codes "/a") then apply_to_number_in_range (number_spelled_by_word second) (λ n. some_value_if (may_set_register plain.a n 0x40000) (record plain { a = Some (Number n) }))
    else if bytes_eq first (codes "/b") then apply_to_number_in_range (number_spelled_by_word second) (λ n. some_value_if (may_set_register plain.b n 0x200) (record plain { b = Some (Number n) }))
    else None

-- the requests of words after others, if each is plain
unfoldable pub plain_requests_from : PlainRequests → List (List ℕ) → Option PlainRequests
plain_requests_from plain [] = Some plain
plain_requests_from plain (word ∷ []) = None
plain_requests_from plain (first ∷ second ∷ words) = plain_requests_with_pair plain first second >>= (λ more. plain_requests_from more words)

-- the requests of the words after a node's name, if each is plain
abbrev pub plain_requests_of_words : List (List ℕ) → Option PlainRequests
plain_requests_of_words words = plain_requests_from no_plain_requests words

-- ---- requests as plain words

-- a register's value, where it is given
abbrev pub optional_register_operand : Option RegisterValue → Option Operand
optional_register_operand given = option_map (λ one. one.value) given

-- requests without their lines, and the registers' values
abbrev pub as_plain_requests : List LocatedRequest → InitialRegisters → PlainRequests
as_plain_requests asked registers = record {
  requests = map (λ one. one.request) asked;
  p = optional_register_operand registers.p;
  a = optional_register_operand registers.a;
  b = optional_register_operand registers.b;
}
