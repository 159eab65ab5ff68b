-- What the words of a node ask for.
use Rattle.std.specs.Prelude.{◌==◌, ◌||◌, ◌⊎◌, if◌then◌else◌, nat_lt, codes}
use Rattle.std.proofs.Common.{◌≡◌, ◌∙◌, ℕ, suc, ◌+◌, ◌<◌, ◌≤◌, Bool, true, false, List, [], ◌∷◌, ◌++◌, length, Option, Some, None, refl, arith, ap, sym, inl, inr, append_assoc}
use Rattle.std.proofs.lemmas.List.{append-nil}
use Rattle.std.specs.List.{All}
use Rattle.std.proofs.lemmas.List.Elements.{All-head, All-tail}
use Rattle.std.proofs.lemmas.Bool.{lt-ltb, le-leb, cases_Bool}
use Rattle.ga_node.specs.Record.{NodeState}
use Rattle.ga_parser.specs.declared.item.Operand.{Operand}
use Rattle.ga_parser.specs.declared.item.Operand.TheVariants.{Number}
use Rattle.ga_parser.specs.declared.item.AssemblyItem.TheVariants.{Cell}
use Rattle.ga_parser.specs.declared.item.AssemblyRequest.{AssemblyRequest}
use Rattle.ga_parser.specs.declared.item.AssemblyRequest.TheVariants.{PlaceItem, GoToAddress}
use Rattle.ga_parser.specs.Plain.{PlainRequests, no_plain_requests, plain_requests_with_added, some_value_if, is_cell_address, may_set_register, plain_requests_from, plain_requests_of_words}
use Rattle.ga_asm_text.specs.inner.{SourceWordText, hex_number_source_word, register_source_words, address_source_words, cell_source_words, address_after_cell, cells_words, address_after_cells, default_register_p, has_nonzero_memory, node_source_words, IsNumberOf18Bits, HasMemoriesAndRegistersInRange}
use Rattle.ga_asm_text.proofs.HexLemmas.{number_read}

-- ---- cells

-- what the words of a cell ask for
abbrev pub address_requests : ℕ → ℕ → List AssemblyRequest
address_requests address next = if address == next then [] else GoToAddress address ∷ []

abbrev pub cell_requests : ℕ → ℕ → ℕ → List AssemblyRequest
cell_requests word address next = if word == 0 then [] else address_requests address next ++ PlaceItem (Cell (Number word)) ∷ []

unfoldable pub cells_requests : ℕ → ℕ → List ℕ → List AssemblyRequest
cells_requests address next [] = []
cells_requests address next (word ∷ words) = cell_requests word address next ++ cells_requests (address + 1) (address_after_cell word address next) words

abbrev with_all : PlainRequests → List AssemblyRequest → PlainRequests
with_all plain requests = record plain { requests = plain.requests ++ requests }

none_more : (plain : PlainRequests) → with_all plain [] ≡ plain
none_more plain = ap (λ (l : List AssemblyRequest). record plain { requests = l }) (append-nil plain.requests)

all_more : (plain : PlainRequests) (some more : List AssemblyRequest) → with_all (with_all plain some) more ≡ with_all plain (some ++ more)
all_more plain some more = ap (λ (l : List AssemblyRequest). record plain { requests = l }) (append_assoc plain.requests some more)

one_number : (plain : PlainRequests) (word : ℕ) (rest : List SourceWordText) → word < 262144 → plain_requests_from plain (hex_number_source_word 6 word ∷ codes "," ∷ rest) ≡ plain_requests_from (with_all plain (PlaceItem (Cell (Number word)) ∷ [])) rest
unfolding plain_requests_from
one_number plain word rest small =
    rw (number_read 5 word (λ n. Some (plain_requests_with_added plain (PlaceItem (Cell (Number n))))) (omega arith) small) refl

abbrev pub IsCellAddress : ℕ → Type 0
IsCellAddress address = (address < 64) ⊎ ((128 ≤ address) × (address < 192))

cell_address : (address : ℕ) → IsCellAddress address → is_cell_address address ≡ true
cell_address address (inl ram) = rw (lt-ltb address 0x40 ram) refl
cell_address address (inr rom) =
    rw (le-leb 0x80 address rom.0, lt-ltb address 0xc0 rom.1) (or_true (nat_lt address 0x40))
  where
    or_true : (b : Bool) → (b || true) ≡ true
    or_true true = refl
    or_true false = refl

one_address : (plain : PlainRequests) (address : ℕ) (rest : List SourceWordText) → IsCellAddress address → plain_requests_from plain (codes "org" ∷ hex_number_source_word 2 address ∷ rest) ≡ plain_requests_from (with_all plain (GoToAddress address ∷ [])) rest
unfolding plain_requests_from
one_address plain address rest is =
    rw (number_read 1 address (λ n. some_value_if (is_cell_address n) (plain_requests_with_added plain (GoToAddress n))) (omega (arith, below address is)) (omega (arith, below address is)), cell_address address is) refl
  where
    below : (a : ℕ) → IsCellAddress a → a < 192
    below a (inl ram) = omega arith
    below a (inr rom) = rom.1

org_requests : (plain : PlainRequests) (address next : ℕ) (rest : List SourceWordText) → IsCellAddress address → plain_requests_from plain (address_source_words address next ++ rest) ≡ plain_requests_from (with_all plain (address_requests address next)) rest
org_requests plain address next rest is = elim (cases_Bool (address == next)) [
  | inl same ↦ rw same (ap (λ (p : PlainRequests). plain_requests_from p rest) (sym (none_more plain)))
  | inr differs ↦ rw differs (one_address plain address rest is)
]

cell_asks : (plain : PlainRequests) (word address next : ℕ) (rest : List SourceWordText) → word < 262144 → IsCellAddress address → plain_requests_from plain (cell_source_words word address next ++ rest) ≡ plain_requests_from (with_all plain (cell_requests word address next)) rest
cell_asks plain word address next rest small is = elim (cases_Bool (word == 0)) [
  | inl none ↦ rw none (ap (λ (p : PlainRequests). plain_requests_from p rest) (sym (none_more plain)))
  | inr some ↦ rw some
      (ap (plain_requests_from plain) (append_assoc (address_source_words address next) (hex_number_source_word 6 word ∷ codes "," ∷ []) rest)
      ∙ (org_requests plain address next (hex_number_source_word 6 word ∷ codes "," ∷ rest) is
      ∙ (one_number (with_all plain (address_requests address next)) word rest small
      ∙ ap (λ (p : PlainRequests). plain_requests_from p rest) (all_more plain (address_requests address next) (PlaceItem (Cell (Number word)) ∷ [])))))
]

-- `count` cells from an address on are within a memory
abbrev pub IsWithin : ℕ → ℕ → Type 0
IsWithin address count = (address + count ≤ 64) ⊎ ((128 ≤ address) × (address + count ≤ 192))

pub first_within : (address count : ℕ) → IsWithin address (suc count) → IsCellAddress address
first_within address count (inl ram) = inl (omega arith)
first_within address count (inr rom) = inr (rom.0, omega (arith, rom.1))

pub rest_within : (address count : ℕ) → IsWithin address (suc count) → IsWithin (address + 1) count
rest_within address count (inl ram) = inl (omega arith)
rest_within address count (inr rom) = inr (omega (arith, rom.0), omega (arith, rom.1))

cells_ask : (plain : PlainRequests) (address next : ℕ) (cells : List ℕ) (rest : List SourceWordText) → All IsNumberOf18Bits cells → IsWithin address (length cells) → plain_requests_from plain (cells_words address next cells ++ rest) ≡ plain_requests_from (with_all plain (cells_requests address next cells)) rest
unfolding cells_words cells_requests
cells_ask plain address next [] rest small within = ap (λ (p : PlainRequests). plain_requests_from p rest) (sym (none_more plain))
cells_ask plain address next (word ∷ words) rest small within =
    let behind = address_after_cell word address next in
    let asked = cell_requests word address next in
    let after = cells_words (address + 1) behind words in
    ap (plain_requests_from plain) (append_assoc (cell_source_words word address next) after rest)
    ∙ (cell_asks plain word address next (after ++ rest) (All-head IsNumberOf18Bits word words small) (first_within address (length words) within)
    ∙ (cells_ask (with_all plain asked) (address + 1) behind words rest (All-tail IsNumberOf18Bits word words small) (rest_within address (length words) within)
    ∙ ap (λ (p : PlainRequests). plain_requests_from p rest) (all_more plain asked (cells_requests (address + 1) behind words))))

-- ---- registers

-- the value of a register, unless it is the usual one
abbrev pub given : ℕ → ℕ → Option Operand
given value usual = if value == usual then None else Some (Number value)

abbrev registers_of : Option Operand → Option Operand → Option Operand → PlainRequests
registers_of p a b = record { requests = []; p = p; a = a; b = b }

p_asks : (value usual : ℕ) (rest : List SourceWordText) → value < 0x400 → plain_requests_from no_plain_requests (register_source_words (codes "/p") value usual ++ rest) ≡ plain_requests_from (registers_of (given value usual) None None) rest
unfolding plain_requests_from
p_asks value usual rest small = elim (cases_Bool (value == usual)) [
  | inl same ↦ rw same refl
  | inr differs ↦ rw (differs, number_read 4 value (λ n. some_value_if (may_set_register None n 0x400) (registers_of (Some (Number n)) None None)) (omega arith) (omega arith), lt-ltb value 0x400 small) refl
]

a_asks : (p : Option Operand) (value usual : ℕ) (rest : List SourceWordText) → value < 0x40000 → plain_requests_from (registers_of p None None) (register_source_words (codes "/a") value usual ++ rest) ≡ plain_requests_from (registers_of p (given value usual) None) rest
unfolding plain_requests_from
a_asks p value usual rest small = elim (cases_Bool (value == usual)) [
  | inl same ↦ rw same refl
  | inr differs ↦ rw (differs, number_read 4 value (λ n. some_value_if (may_set_register None n 0x40000) (registers_of p (Some (Number n)) None)) (omega arith) small, lt-ltb value 0x40000 small) refl
]

b_asks : (p a : Option Operand) (value usual : ℕ) (rest : List SourceWordText) → value < 0x200 → plain_requests_from (registers_of p a None) (register_source_words (codes "/b") value usual ++ rest) ≡ plain_requests_from (registers_of p a (given value usual)) rest
unfolding plain_requests_from
b_asks p a value usual rest small = elim (cases_Bool (value == usual)) [
  | inl same ↦ rw same refl
  | inr differs ↦ rw (differs, number_read 4 value (λ n. some_value_if (may_set_register None n 0x200) (registers_of p a (Some (Number n)))) (omega arith) (omega arith), lt-ltb value 0x200 small) refl
]

-- ---- a node

abbrev pub node_requests : NodeState → List AssemblyRequest
node_requests node = cells_requests 0 0 node.ram ++ cells_requests 0x80 (address_after_cells 0 0 node.ram) node.rom

-- what the words of a node ask for
abbrev pub plain_by : ℕ → NodeState → PlainRequests
plain_by n node = record {
  requests = node_requests node;
  p = given node.p (default_register_p n (has_nonzero_memory node));
  a = given node.a 0;
  b = given node.b 0x15d;
}

pub nothing_asks : (plain : PlainRequests) → plain_requests_from plain [] ≡ Some plain
unfolding plain_requests_from
nothing_asks plain = refl

memories_ask : (plain : PlainRequests) (node : NodeState) → HasMemoriesAndRegistersInRange node → plain_requests_from plain (cells_words 0 0 node.ram ++ cells_words 0x80 (address_after_cells 0 0 node.ram) node.rom) ≡ Some (with_all plain (node_requests node))
memories_ask plain node fit =
    let behind = address_after_cells 0 0 node.ram in
    let more = with_all plain (cells_requests 0 0 node.ram) in
    let ram = fit.memories.ram in
    let rom = fit.memories.rom in
    let rom_words = cells_words 0x80 behind node.rom in
    cells_ask plain 0 0 node.ram rom_words ram.words (inl (omega (arith, ram.size)))
    ∙ (ap (plain_requests_from more) (sym (append-nil rom_words))
    ∙ (cells_ask more 0x80 behind node.rom [] rom.words (inr (omega arith, omega (arith, rom.size)))
    ∙ (nothing_asks (with_all more (cells_requests 0x80 behind node.rom))
    ∙ ap Some (all_more plain (cells_requests 0 0 node.ram) (cells_requests 0x80 behind node.rom)))))

pub node_asks : (n : ℕ) (node : NodeState) → HasMemoriesAndRegistersInRange node → plain_requests_of_words (node_source_words n node) ≡ Some (plain_by n node)
node_asks n node fit =
    let usual = default_register_p n (has_nonzero_memory node) in
    let p = register_source_words (codes "/p") node.p usual in
    let a = register_source_words (codes "/a") node.a 0 in
    let b = register_source_words (codes "/b") node.b 0x15d in
    let cells = cells_words 0 0 node.ram ++ cells_words 0x80 (address_after_cells 0 0 node.ram) node.rom in
    let has = fit.registers in
    ap plain_requests_of_words (append_assoc (p ++ a) b cells ∙ append_assoc p a (b ++ cells))
    ∙ (p_asks node.p usual (a ++ (b ++ cells)) has.p
    ∙ (a_asks (given node.p usual) node.a 0 (b ++ cells) has.a
    ∙ (b_asks (given node.p usual) (given node.a 0) node.b 0x15d cells has.b
    ∙ memories_ask (registers_of (given node.p usual) (given node.a 0) (given node.b 0x15d)) node fit)))
