-- The nodes that plain words make, and sources that only want of memory keeps from being assembled (docs/REFERENCE.md, "Source"; this
-- project's own).
use Rattle.std.specs.Prelude.{ℕ, ◌≡◌, ◌≢◌, ◌<◌, if◌then◌else◌, List, [], ◌∷◌, drop, slice_index, slice_index_or, slice_set, Option, Some, ◌%◌, ◌≤◌, ◌⊎◌, true, ◌++◌, length}
use Rattle.std.specs.List.{All, list_any, list_all}
use Rattle.ga_ports.specs.declared.address.AddressTarget.{AddressTarget}
use Rattle.ga_ports.specs.declared.address.AddressTarget.TheVariants.{Ram, Rom}
use Rattle.ga_ports.specs.Address.{address_target, advanced_address}
use Rattle.ga_node.specs.Record.{NodeState}
use Rattle.ga_grid.specs.Chip.{node_at}
use Rattle.ga_grid.specs.Grid.{default_chip}
use Rattle.ga_parser.specs.declared.item.Operand.{Operand}
use Rattle.ga_parser.specs.declared.item.Operand.TheVariants.{Number}
use Rattle.ga_parser.specs.declared.item.AssemblyItem.TheVariants.{Cell}
use Rattle.ga_parser.specs.declared.item.AssemblyRequest.{AssemblyRequest}
use Rattle.ga_parser.specs.declared.item.AssemblyRequest.TheVariants.{PlaceItem, GoToAddress}
use Rattle.ga_source.specs.Programs.{is_item_request}
use Rattle.ga_parser.specs.Plain.{PlainRequests, token_texts, body_word_lists, named_node_number, plain_requests_of_words, body_words}
use Rattle.ga_parser.specs.Words.{source_word_texts, source_tokens_until_fault}
use Rattle.ga_parser.specs.Saying.{TokenContent, is_word_token}

-- ---- cells

-- the node with a number in the cell that is named
abbrev pub node_with_cell : NodeState → AddressTarget → ℕ → NodeState
node_with_cell node (Ram k) n = record node { ram = slice_set node.ram k n }
node_with_cell node (Rom k) n = record node { rom = slice_set node.rom k n }
node_with_cell node _ n = node

-- the node with the cell that a request asks for at this address
abbrev pub node_with_requested_cell : NodeState → ℕ → AssemblyRequest → NodeState
node_with_requested_cell node at (PlaceItem (Cell (Number n))) = node_with_cell node (address_target at) n
node_with_requested_cell node at _ = node

-- the address after a request
abbrev pub address_after_assembly_request : ℕ → AssemblyRequest → ℕ
address_after_assembly_request at (PlaceItem _) = advanced_address at
address_after_assembly_request at (GoToAddress address) = address
address_after_assembly_request at _ = at

-- the node with the cells that requests ask for, from an address on
unfoldable pub node_with_requests : NodeState → ℕ → List AssemblyRequest → NodeState
node_with_requests node at [] = node
node_with_requests node at (request ∷ requests) = node_with_requests (node_with_requested_cell node at request) (address_after_assembly_request at request) requests

-- ---- nodes

-- a number that is given, or what was there before
abbrev pub number_or_previous : Option Operand → ℕ → ℕ
number_or_previous (Some (Number n)) before = n
number_or_previous _ before = before

-- The node with what plain words ask for: their cells from address 0 on, and the registers. P is 0 where there are cells and no
-- `/p`.
abbrev pub node_with_plain_requests : NodeState → PlainRequests → NodeState
node_with_plain_requests node plain = record (node_with_requests node 0 plain.requests) {
  p = number_or_previous plain.p (if list_any is_item_request plain.requests then 0 else node.p);
  a = number_or_previous plain.a node.a;
  b = number_or_previous plain.b node.b;
}

-- the node is this one, cell by cell
pub record IsSameNodeCellByCell (made node : NodeState) : Type 0 where
  pub ram : (k : ℕ) → k < 64 → slice_index node.ram k ≡ slice_index made.ram k
  pub rom : (k : ℕ) → k < 64 → slice_index node.rom k ≡ slice_index made.rom k
  pub rest : node ≡ record made { ram = node.ram; rom = node.rom }

-- if the words after a `node` are plain, its node is the one at load with their requests
abbrev pub HasNodeOfPlainWords : List NodeState → List (List ℕ) → Type 0
HasNodeOfPlainWords chip words = (n : ℕ) (plain : PlainRequests) → named_node_number (slice_index_or words 0 []) ≡ Some n → plain_requests_of_words (drop 1 words) ≡ Some plain → IsSameNodeCellByCell (node_with_plain_requests (node_at default_chip n) plain) (node_at chip n)

-- the chip that a source makes, as far as its words are plain: a node that it doesn't name is as at load
pub record IsChipOfSource (source : List ℕ) (chip : List NodeState) : Type 0 where
  pub named : All (HasNodeOfPlainWords chip) (body_word_lists (source_word_texts source))
  pub others : (n : ℕ) → All (λ words. named_node_number (slice_index_or words 0 []) ≢ Some n) (body_word_lists (source_word_texts source)) → node_at chip n ≡ node_at default_chip n

-- ---- sources that only want of memory keeps from being assembled

-- the cell that a request asks for at this address, and its number
abbrev pub requested_cell : ℕ → AssemblyRequest → List (ℕ × ℕ)
requested_cell at (PlaceItem (Cell (Number n))) = (at, n) ∷ []
requested_cell at _ = []

-- the cells that requests ask for, from an address on
unfoldable pub requested_cells : ℕ → List AssemblyRequest → List (ℕ × ℕ)
requested_cells at [] = []
requested_cells at (request ∷ requests) = requested_cell at request ++ requested_cells (address_after_assembly_request at request) requests

-- an address of RAM or of ROM, bit 9 aside
abbrev pub IsMemoryAddress : ℕ → Type 0
IsMemoryAddress address = (address % 512 < 64) ⊎ ((128 ≤ address % 512) × (address % 512 < 192))

-- the k-th cell
abbrev pub cell_at_index : List (ℕ × ℕ) → ℕ → ℕ × ℕ
cell_at_index cells k = slice_index_or cells k (0, 0)

-- each cell is one of a memory, and none comes twice
pub record AreDistinctCells (cells : List (ℕ × ℕ)) : Type 0 where
  pub memory : (k : ℕ) → k < length cells → IsMemoryAddress (cell_at_index cells k).0
  pub apart : (j k : ℕ) → j < k → k < length cells → (cell_at_index cells k).0 % 512 ≢ (cell_at_index cells j).0 % 512

-- the words after a `node` name one, and the others are plain and give each cell once
pub record IsPlainNodeBody (words : List (List ℕ)) : Type 0 where
  pub number : ℕ
  pub plain : PlainRequests
  pub node : named_node_number (slice_index_or words 0 []) ≡ Some number
  pub words_plain : plain_requests_of_words (drop 1 words) ≡ Some plain
  pub free : AreDistinctCells (requested_cells 0 plain.requests)

-- the number of the node that the k-th of these words name
abbrev pub node_number_of_body_at_index : List (List (List ℕ)) → ℕ → Option ℕ
node_number_of_body_at_index bodies k = named_node_number (slice_index_or (slice_index_or bodies k []) 0 [])

-- No line has a fault, the words begin with `node`, each node is named once, and its requests are plain and have room.
pub record IsPlainSource (source : List ℕ) : Type 0 where
  pub whole : list_all is_word_token (source_tokens_until_fault source) ≡ true
  pub begins : body_words (source_word_texts source) ≡ []
  pub bodies : All IsPlainNodeBody (body_word_lists (source_word_texts source))
  pub apart : (j k : ℕ) → j < k → k < length (body_word_lists (source_word_texts source)) → node_number_of_body_at_index (body_word_lists (source_word_texts source)) j ≢ node_number_of_body_at_index (body_word_lists (source_word_texts source)) k

-- These are the words of the source, on any lines.
abbrev pub AreWordsOfSource : List ℕ → List TokenContent → Type 0
AreWordsOfSource source said = (token_texts said ≡ source_word_texts source) × (list_all is_word_token said ≡ list_all is_word_token (source_tokens_until_fault source))
