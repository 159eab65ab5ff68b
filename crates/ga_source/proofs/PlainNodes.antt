-- The nodes that plain words make, from the programs of a source.
use Rattle.std.proofs.Common.{ℕ, List, subst, sym, ◌≡◌, ◌≢◌, ◌∙◌, ◌<◌, inl, inr, refl, ap, Bool, true, false, ltb, [], ◌∷◌, Option, Some, None, length, drop, slice_index, slice_index_or, arith}
use Rattle.ga_node.specs.Record.{NodeState, node_at_load_defaults, record_of_node, HasValidListSizes, IsWaitFittingSlotAndStop, HasWaitFittingSlotAndStop}
use Rattle.ga_grid.specs.Chip.{node_at, records_of_chip, HaveWaitsFittingSlotsAndStops}
use Rattle.ga_grid.specs.Grid.{default_chip, initial_p_of_node}
use Rattle.ga_grid.proofs.Chips.{node_record_at-records_of_chip, node_at-default_chip}
use Rattle.ga_source.specs.declared.program.Program.{Program}
use Rattle.ga_source.specs.Programs.{KeepsFieldsThatSourceCannotGive, IsAssembledChip, given_register_value, value_or_previous, is_item_request, requests_have_cells, p_value_or_default, registers_at_load, HasProgram, IsProgramLoaded, IsUnprogrammedNode, IsPlainBodyProgram, ArePlainBodyPrograms, ArePlainProgramsOfSource, body_token_lists, AreProgramsOfBodies, AreProgramsOfSource}
use Rattle.std.specs.Prelude.{is_none, ◌||◌, codes, bytes_eq, if◌then◌else◌, Result, Ok, Err, IfOk, IfErr}
use Rattle.std.specs.List.{All, list_any, list_all}
use Rattle.std.proofs.lemmas.Bool.{cases_Bool, and_parts, ltb-true}
use Rattle.std.proofs.lemmas.List.{length-replicate, ext_get_or}
use Rattle.std.proofs.lemmas.List.Elements.{All-nil, All-cons, All-head, All-tail}
use Rattle.ga_ports.specs.declared.address.AddressTarget.{AddressTarget}
use Rattle.ga_ports.specs.declared.address.AddressTarget.TheVariants.{Ram, Rom, Io, Ports, Bad}
use Rattle.ga_ports.specs.Address.{address_target}
use Rattle.ga_parser.specs.declared.item.Operand.{Operand}
use Rattle.ga_parser.specs.declared.item.Operand.TheVariants.{Number, Label}
use Rattle.ga_parser.specs.declared.item.RegisterValue.{RegisterValue}
use Rattle.ga_parser.specs.declared.item.AssemblyItem.TheVariants.{Cell}
use Rattle.ga_parser.specs.declared.item.AssemblyRequest.{AssemblyRequest}
use Rattle.ga_parser.specs.declared.item.AssemblyRequest.TheVariants.{PlaceItem, GoToAddress}
use Rattle.ga_parser.specs.declared.item.InitialRegisters.{InitialRegisters}
use Rattle.ga_parser.specs.declared.item.LocatedRequest.{LocatedRequest}
use Rattle.ga_parser.specs.declared.labels.Label.{Label as Name}
use Rattle.ga_ports.specs.Steps.{◌>>=◌}
use Rattle.ga_parser.specs.Vocabulary.{number_spelled_by_word}
use Rattle.ga_source.specs.Cells.{requests_use_cell, AreUnusedCellsZero}
use Rattle.ga_source.specs.Reading.{first_spot_of_cell, operand_value}
use Rattle.ga_parser.specs.Plain.{PlainRequests, no_plain_requests, apply_to_number_in_range, some_value_if, is_cell_address, may_set_register, plain_requests_with_pair, plain_requests_from, plain_requests_of_words, optional_register_operand, as_plain_requests, body_word_lists, named_node_number, token_texts}
use Rattle.ga_parser.specs.Words.{source_word_texts, source_tokens_until_fault, source_tokens}
use Rattle.ga_source.specs.Made.{node_with_cell, node_with_requested_cell, address_after_assembly_request, node_with_requests, number_or_previous, node_with_plain_requests, IsSameNodeCellByCell, HasNodeOfPlainWords, IsChipOfSource, IsPlainSource, AreWordsOfSource}
use Rattle.ga_source.specs.inner.{requests_without_lines, ArePlain, IsOptionalNumberBelow, AreRegisterNumbersInRange, KeepsOtherThanMemories}
use Rattle.ga_source.proofs.Loaded.{of_each_at_load, assembled_empty}
use Rattle.ga_parser.proofs.Hearing.{some_same, no_some, allowed, number_asks}
use Rattle.ga_source.proofs.Making.{Stays, with_cell_ram, with_cell_rom, one_plain_more, requests_made}
use Rattle.ga_parser.specs.declared.fault.SourceFault.{SourceFault}
use Rattle.ga_parser.specs.declared.fault.SourceFaultCause.TheVariants.{Memory}
use Rattle.ga_source.specs.declared.program.AssembledChip.{AssembledChip}
use Rattle.ga_parser.specs.declared.scan.Token.{Token}
use Rattle.ga_parser.specs.Saying.{TokenContent, token_contents, is_word_token, tokens_through_first_fault}

-- ---- A chip with programs is steady: none of its nodes waits

fresh_steady : (p : ℕ) → IsWaitFittingSlotAndStop (node_at_load_defaults p).wait (node_at_load_defaults p).slot (node_at_load_defaults p).stop
unfolding node_at_load_defaults
fresh_steady p = tt

record_steady : (node : NodeState) → IsWaitFittingSlotAndStop node.wait node.slot node.stop → HasWaitFittingSlotAndStop (record_of_node node)
unfolding record_of_node
record_steady node fit = fit

kept_steady : (before after : NodeState) → KeepsFieldsThatSourceCannotGive before after → IsWaitFittingSlotAndStop before.wait before.slot before.stop → IsWaitFittingSlotAndStop after.wait after.slot after.stop
kept_steady before after kept fit = subst (λ (node : NodeState). IsWaitFittingSlotAndStop node.wait node.slot node.stop) (sym kept) fit

pub assembled_steady : (chip : List NodeState) (programs : List Program) → IsAssembledChip chip programs → HaveWaitsFittingSlotsAndStops (records_of_chip chip)
assembled_steady chip programs all = λ n small.
    let fresh = subst (λ (node : NodeState). IsWaitFittingSlotAndStop node.wait node.slot node.stop) (sym (node_at-default_chip n small)) (fresh_steady (initial_p_of_node n)) in
    subst HasWaitFittingSlotAndStop (sym (node_record_at-records_of_chip chip n))
    (record_steady (node_at chip n) (kept_steady (node_at default_chip n) (node_at chip n) (all.state n) fresh))

-- ---- plain words ask for plain requests and numbers

pub record IsPlain (plain : PlainRequests) : Type 0 where
  pub requests : ArePlain plain.requests
  pub p : IsOptionalNumberBelow 0x400 plain.p
  pub a : IsOptionalNumberBelow 0x40000 plain.a
  pub b : IsOptionalNumberBelow 0x200 plain.b

-- what a number asks for is plain where it is for each number
number_plain : (word : List ℕ) (asks : ℕ → Option PlainRequests) (more : PlainRequests) → ((n : ℕ) → n < 262144 → asks n ≡ Some more → IsPlain more) → apply_to_number_in_range (number_spelled_by_word word) asks ≡ Some more → IsPlain more
number_plain word asks more each is = number_asks word asks more (IsPlain more) each is

-- what a test allows
only_plain : (b : Bool) (plain more : PlainRequests) → (b ≡ true → IsPlain plain) → some_value_if b plain ≡ Some more → IsPlain more
only_plain b plain more each is = let found = allowed b plain more is in subst IsPlain found.1 (each found.0)

-- a register's test
below : (given : Option Operand) (n bound : ℕ) → may_set_register given n bound ≡ true → n < bound
below given n bound may = ltb-true n bound ((and_parts (is_none given) (ltb n bound) may).1)

words_plain : (plain more : PlainRequests) (first second : List ℕ) → IsPlain plain → plain_requests_with_pair plain first second ≡ Some more → IsPlain more
words_plain plain more first second is found = elim (cases_Bool (bytes_eq second (codes ","))) [
  | inl comma ↦ number_plain first _ more (λ n small e. subst IsPlain (some_same _ more e)
      (record { requests = one_plain_more plain.requests (PlaceItem (Cell (Number n))) is.requests small; p = is.p; a = is.a; b = is.b })) (rw comma at found)
  | inr other ↦ elim (cases_Bool (bytes_eq first (codes "org"))) [
    | inl org ↦ number_plain second _ more (λ n small. only_plain (is_cell_address n) _ more (λ may.
        record { requests = one_plain_more plain.requests (GoToAddress n) is.requests tt; p = is.p; a = is.a; b = is.b })) (rw (other, org) at found)
    | inr no_org ↦ elim (cases_Bool (bytes_eq first (codes "/p"))) [
      | inl p ↦ number_plain second _ more (λ n small. only_plain (may_set_register plain.p n 0x400) _ more (λ may.
          record { requests = is.requests; p = below plain.p n 0x400 may; a = is.a; b = is.b })) (rw (other, no_org, p) at found)
      | inr no_p ↦ elim (cases_Bool (bytes_eq first (codes "/a"))) [
        | inl a ↦ number_plain second _ more (λ n small. only_plain (may_set_register plain.a n 0x40000) _ more (λ may.
            record { requests = is.requests; p = is.p; a = below plain.a n 0x40000 may; b = is.b })) (rw (other, no_org, no_p, a) at found)
        | inr no_a ↦ elim (cases_Bool (bytes_eq first (codes "/b"))) [
          | inl b ↦ number_plain second _ more (λ n small. only_plain (may_set_register plain.b n 0x200) _ more (λ may.
              record { requests = is.requests; p = is.p; a = is.a; b = below plain.b n 0x200 may })) (rw (other, no_org, no_p, no_a, b) at found)
          | inr no_b ↦ absurd (no_some (rw (other, no_org, no_p, no_a, no_b) at found))
        ]
      ]
    ]
  ]
]

-- the words after two that are plain
behind_plain : (words : List (List ℕ)) (all : PlainRequests) (more : Option PlainRequests) → ((m : PlainRequests) → more ≡ Some m → IsPlain m) → ((m : PlainRequests) → IsPlain m → plain_requests_from m words ≡ Some all → IsPlain all) → (more >>= (λ m. plain_requests_from m words)) ≡ Some all → IsPlain all
behind_plain words all None first again is = absurd (no_some is)
behind_plain words all (Some m) first again is = again m (first m refl) is

from_plain : (words : List (List ℕ)) (plain all : PlainRequests) → IsPlain plain → plain_requests_from plain words ≡ Some all → IsPlain all
unfolding plain_requests_from
from_plain [] plain all is found = subst IsPlain (some_same plain all found) is
from_plain (word ∷ []) plain all is found = absurd (no_some found)
from_plain (first ∷ second ∷ words) plain all is found =
    behind_plain words all (plain_requests_with_pair plain first second) (λ m e. words_plain plain m first second is e) (λ m p e. from_plain words m all p e) found

pub all_plain : (words : List (List ℕ)) (plain : PlainRequests) → plain_requests_of_words words ≡ Some plain → IsPlain plain
unfolding ArePlain
all_plain words plain is = from_plain words no_plain_requests plain (record { requests = tt; p = tt; a = tt; b = tt }) is

-- ---- nothing but the memories is written

cell_keeps : (node : NodeState) (t : AddressTarget) (n : ℕ) → KeepsOtherThanMemories node (node_with_cell node t n)
cell_keeps node (Ram k) n = refl
cell_keeps node (Rom k) n = refl
cell_keeps node Io n = refl
cell_keeps node (Ports s) n = refl
cell_keeps node Bad n = refl

asked_keeps : (node : NodeState) (at : ℕ) (request : AssemblyRequest) → KeepsOtherThanMemories node (node_with_requested_cell node at request)
asked_keeps node at (PlaceItem (Cell (Number n))) = cell_keeps node (address_target at) n
asked_keeps node at _ = refl

keeps_twice : (before now after : NodeState) → KeepsOtherThanMemories before now → KeepsOtherThanMemories now after → KeepsOtherThanMemories before after
keeps_twice before now after first second = second ∙ ap (λ (node : NodeState). record node { ram = after.ram; rom = after.rom }) first

written_keeps : (node : NodeState) (at : ℕ) (requests : List AssemblyRequest) → KeepsOtherThanMemories node (node_with_requests node at requests)
unfolding node_with_requests
written_keeps node at [] = refl
written_keeps node at (request ∷ requests) =
    keeps_twice node (node_with_requested_cell node at request) (node_with_requests (node_with_requested_cell node at request) (address_after_assembly_request at request) requests)
    (asked_keeps node at request) (written_keeps (node_with_requested_cell node at request) (address_after_assembly_request at request) requests)

-- ---- registers

has_same : (asked : List LocatedRequest) → requests_have_cells asked ≡ list_any is_item_request (requests_without_lines asked)
has_same [] = refl
has_same (one ∷ rest) = ap (λ (b : Bool). is_item_request one.request || b) (has_same rest)

value_same : (labels : List (Option ℕ)) (value : Operand) (bound before : ℕ) → IsOptionalNumberBelow bound (Some value) → value_or_previous (operand_value labels value) before ≡ number_or_previous (Some value) before
value_same labels (Number n) bound before is = refl
value_same labels (Label k) bound before is = absurd is

register_same : (labels : List (Option ℕ)) (given : Option RegisterValue) (bound before : ℕ) → IsOptionalNumberBelow bound (optional_register_operand given) → value_or_previous (given_register_value labels given) before ≡ number_or_previous (optional_register_operand given) before
register_same labels None bound before is = refl
register_same labels (Some given) bound before is = value_same labels given.value bound before is

-- given values go on top of those that were there
above_all : (value : Operand) (bound before other : ℕ) → IsOptionalNumberBelow bound (Some value) → number_or_previous (Some value) before ≡ number_or_previous (Some value) other
above_all (Number n) bound before other is = refl
above_all (Label k) bound before other is = absurd is

-- P where no label has a name
p_same : (labels : List (Option ℕ)) (given : Option RegisterValue) (has : Bool) (before : ℕ) → IsOptionalNumberBelow 0x400 (optional_register_operand given) → value_or_previous (given_register_value labels (p_value_or_default given [] has)) before ≡ number_or_previous (optional_register_operand given) (if has then 0 else before)
p_same labels None true before is = refl
p_same labels None false before is = refl
p_same labels (Some given) true before is = value_same labels given.value 0x400 before is ∙ above_all given.value 0x400 before 0 is
p_same labels (Some given) false before is = value_same labels given.value 0x400 before is

-- ---- a node with its program

stays_by : (before after : NodeState) (program : Program) → length before.ram ≡ 64 → length before.rom ≡ 64 → HasProgram before after program → Stays (requests_use_cell program.labels.items (first_spot_of_cell 0) program.asked.items) before after
stays_by before after program ram_size rom_size has = record {
  ram_size = ram_size;
  rom_size = rom_size;
  ram = λ k small none. has.elsewhere.ram k none;
  rom = λ k small none. has.elsewhere.rom k none;
}

rest_made : (before after : NodeState) (program : Program) → program.names.items ≡ [] → IsPlain (as_plain_requests program.asked.items program.registers) → HasProgram before after program → after ≡ record (node_with_plain_requests before (as_plain_requests program.asked.items program.registers)) { ram = after.ram; rom = after.rom }
rest_made before after program none is has =
    let labels = program.labels.items in
    let asked = program.asked.items in
    let given = program.registers in
    let requests = requests_without_lines asked in
    let p = number_or_previous (optional_register_operand given.p) (if list_any is_item_request requests then 0 else before.p) in
    let a = number_or_previous (optional_register_operand given.a) before.a in
    let b = number_or_previous (optional_register_operand given.b) before.b in
    let p_is : value_or_previous (given_register_value labels (p_value_or_default given.p program.names.items (requests_have_cells asked))) before.p ≡ p =
    ap (λ (names : List Name). value_or_previous (given_register_value labels (p_value_or_default given.p names (requests_have_cells asked))) before.p) none
    ∙ (ap (λ (some : Bool). value_or_previous (given_register_value labels (p_value_or_default given.p [] some)) before.p) (has_same asked)
    ∙ p_same labels given.p (list_any is_item_request requests) before.p is.p) in
    has.rest
    ∙ (ap (λ (n : ℕ). record before { ram = after.ram; rom = after.rom; p = n; a = value_or_previous (given_register_value labels given.a) before.a; b = value_or_previous (given_register_value labels given.b) before.b }) p_is
    ∙ (ap (λ (n : ℕ). record before { ram = after.ram; rom = after.rom; p = p; a = n; b = value_or_previous (given_register_value labels given.b) before.b }) (register_same labels given.a 0x40000 before.a is.a)
    ∙ (ap (λ (n : ℕ). record before { ram = after.ram; rom = after.rom; p = p; a = a; b = n }) (register_same labels given.b 0x200 before.b is.b)
    ∙ sym (ap (λ (node : NodeState). record node { ram = after.ram; rom = after.rom; p = p; a = a; b = b }) (written_keeps before 0 requests)))))

node_made : (before after : NodeState) (program : Program) → length before.ram ≡ 64 → length before.rom ≡ 64 → program.names.items ≡ [] → IsPlain (as_plain_requests program.asked.items program.registers) → HasProgram before after program → IsSameNodeCellByCell (node_with_plain_requests before (as_plain_requests program.asked.items program.registers)) after
node_made before after program ram_size rom_size none is has =
    let cells = requests_made program.labels.items after program.asked.items is.requests before 0 has.reads (stays_by before after program ram_size rom_size has) in
    record { ram = cells.ram; rom = cells.rom; rest = rest_made before after program none is has }

-- ---- the chip of a source

fresh_ram_size : (p : ℕ) → length (node_at_load_defaults p).ram ≡ 64
unfolding node_at_load_defaults
fresh_ram_size p = length-replicate {A = ℕ} 64 0

fresh_rom_size : (p : ℕ) → length (node_at_load_defaults p).rom ≡ 64
unfolding node_at_load_defaults
fresh_rom_size p = length-replicate {A = ℕ} 64 0

-- the words after one `node`
body_made : (chip : List NodeState) (words : List (List ℕ)) (program : Program) → IsPlainBodyProgram words program → IsProgramLoaded chip program → HasNodeOfPlainWords chip words
body_made chip words program of loaded n plain name is =
    let same : program.node.number ≡ n = some_same program.node.number n (sym of.node ∙ name) in
    let asks = of.asks plain is in
    let before = node_at default_chip program.node.number in
    subst (λ (k : ℕ). IsSameNodeCellByCell (node_with_plain_requests (node_at default_chip k) plain) (node_at chip k)) same
    (subst (λ (p : PlainRequests). IsSameNodeCellByCell (node_with_plain_requests before p) (node_at chip program.node.number)) asks
    (node_made before (node_at chip program.node.number) program
    (of_each_at_load (λ node. length node.ram ≡ 64) fresh_ram_size program.node.number) (of_each_at_load (λ node. length node.rom ≡ 64) fresh_rom_size program.node.number)
    (of.names plain is) (subst IsPlain (sym asks) (all_plain (drop 1 words) plain is)) loaded))

bodies_made : (chip : List NodeState) (bodies : List (List (List ℕ))) (programs : List Program) → ArePlainBodyPrograms bodies programs → All (IsProgramLoaded chip) programs → All (HasNodeOfPlainWords chip) bodies
unfolding ArePlainBodyPrograms
bodies_made chip [] [] of each = All-nil (HasNodeOfPlainWords chip)
bodies_made chip (words ∷ bodies) (program ∷ programs) of each =
    All-cons (HasNodeOfPlainWords chip) words bodies (body_made chip words program of.0 (All-head (IsProgramLoaded chip) program programs each))
    (bodies_made chip bodies programs of.1 (All-tail (IsProgramLoaded chip) program programs each))
bodies_made chip [] (program ∷ programs) of each = absurd of
bodies_made chip (words ∷ bodies) [] of each = absurd of

-- a node that the source doesn't name
abbrev IsOther : ℕ → List (List ℕ) → Type 0
IsOther n words = named_node_number (slice_index_or words 0 []) ≢ Some n

unnamed : (n : ℕ) (bodies : List (List (List ℕ))) (programs : List Program) → ArePlainBodyPrograms bodies programs → All (IsOther n) bodies → IsUnprogrammedNode programs n
unfolding ArePlainBodyPrograms
unnamed n [] [] of none = All-nil (λ program. program.node.number ≢ n)
unnamed n (words ∷ bodies) (program ∷ programs) of none =
    All-cons (λ p. p.node.number ≢ n) program programs
    (λ is. All-head (IsOther n) words bodies none (of.0.node ∙ ap Some is))
    (unnamed n bodies programs of.1 (All-tail (IsOther n) words bodies none))
unnamed n [] (program ∷ programs) of none = absurd of
unnamed n (words ∷ bodies) [] of none = absurd of

-- what a source asks for and what is assembled is what its plain words make
pub source_made : (source : List ℕ) (chip : List NodeState) (programs : List Program) → ArePlainProgramsOfSource source programs → IsAssembledChip chip programs → IsChipOfSource source chip
source_made source chip programs read assembled = record {
  named = bodies_made chip (body_word_lists (source_word_texts source)) programs read assembled.each;
  others = λ n none. assembled.rest n (unnamed n (body_word_lists (source_word_texts source)) programs read none);
}

-- ---- what plain words ask for is in range

pub plain_requests : (words : List (List ℕ)) (plain : PlainRequests) (asked : List LocatedRequest) (registers : InitialRegisters) → plain_requests_of_words words ≡ Some plain → as_plain_requests asked registers ≡ plain → ArePlain (requests_without_lines asked)
plain_requests words plain asked registers is same = subst ArePlain (sym (ap (λ (p : PlainRequests). p.requests) same)) (all_plain words plain is).requests

start_number : (given : Option RegisterValue) (has : Bool) → IsOptionalNumberBelow 0x400 (optional_register_operand given) → IsOptionalNumberBelow 0x400 (optional_register_operand (p_value_or_default given [] has))
start_number None true is = omega arith
start_number None false is = tt
start_number (Some given) true is = is
start_number (Some given) false is = is

pub plain_registers : (words : List (List ℕ)) (plain : PlainRequests) (asked : List LocatedRequest) (registers : InitialRegisters) (names : List Name) (has : Bool) → plain_requests_of_words words ≡ Some plain → as_plain_requests asked registers ≡ plain → names ≡ [] → AreRegisterNumbersInRange (optional_register_operand (registers_at_load registers names has).p) (optional_register_operand (registers_at_load registers names has).a) (optional_register_operand (registers_at_load registers names has).b)
plain_registers words plain asked registers names has is same none =
    let found = subst IsPlain (sym same) (all_plain words plain is) in
    record {
      p_below = subst (λ (list : List Name). IsOptionalNumberBelow 0x400 (optional_register_operand (p_value_or_default registers.p list has))) (sym none) (start_number registers.p has found.p);
      a_below = found.a;
      b_below = found.b;
    }

-- ---- the whole node

written_ram : (node : NodeState) (at : ℕ) (request : AssemblyRequest) → length (node_with_requested_cell node at request).ram ≡ length node.ram
written_ram node at (PlaceItem (Cell (Number n))) = with_cell_ram node (address_target at) n
written_ram node at _ = refl

written_rom : (node : NodeState) (at : ℕ) (request : AssemblyRequest) → length (node_with_requested_cell node at request).rom ≡ length node.rom
written_rom node at (PlaceItem (Cell (Number n))) = with_cell_rom node (address_target at) n
written_rom node at _ = refl

ram_size : (node : NodeState) (at : ℕ) (requests : List AssemblyRequest) → length (node_with_requests node at requests).ram ≡ length node.ram
unfolding node_with_requests
ram_size node at [] = refl
ram_size node at (request ∷ requests) = ram_size (node_with_requested_cell node at request) (address_after_assembly_request at request) requests ∙ written_ram node at request

rom_size : (node : NodeState) (at : ℕ) (requests : List AssemblyRequest) → length (node_with_requests node at requests).rom ≡ length node.rom
unfolding node_with_requests
rom_size node at [] = refl
rom_size node at (request ∷ requests) = rom_size (node_with_requested_cell node at request) (address_after_assembly_request at request) requests ∙ written_rom node at request

-- memories of 64 words that agree cell by cell
same_memory : (memory other : List ℕ) → length memory ≡ 64 → length other ≡ 64 → ((k : ℕ) → k < 64 → slice_index memory k ≡ slice_index other k) → memory ≡ other
same_memory memory other size other_size each = ext_get_or 0 memory other (size ∙ sym other_size) (λ k within. each k (omega (arith, size)))

sizes_ram : (node : NodeState) → HasValidListSizes (record_of_node node) → length node.ram ≡ 64
unfolding record_of_node
sizes_ram node sizes = sizes.ram

sizes_rom : (node : NodeState) → HasValidListSizes (record_of_node node) → length node.rom ≡ 64
unfolding record_of_node
sizes_rom node sizes = sizes.rom

pub whole_node : (chip : List NodeState) (words : List (List ℕ)) (n : ℕ) (plain : PlainRequests) → HasNodeOfPlainWords chip words → named_node_number (slice_index_or words 0 []) ≡ Some n → plain_requests_of_words (drop 1 words) ≡ Some plain → HasValidListSizes (record_of_node (node_at chip n)) → node_at chip n ≡ node_with_plain_requests (node_at default_chip n) plain
whole_node chip words n plain has name is sizes =
    let node = node_at chip n in
    let load = node_at default_chip n in
    let made = node_with_plain_requests load plain in
    let found = has n plain name is in
    let ram : node.ram ≡ made.ram = same_memory node.ram made.ram (sizes_ram node sizes)
    (ram_size load 0 plain.requests ∙ of_each_at_load (λ (registers_at_load : NodeState). length registers_at_load.ram ≡ 64) fresh_ram_size n) found.ram in
    let rom : node.rom ≡ made.rom = same_memory node.rom made.rom (sizes_rom node sizes)
    (rom_size load 0 plain.requests ∙ of_each_at_load (λ (registers_at_load : NodeState). length registers_at_load.rom ≡ 64) fresh_rom_size n) found.rom in
    found.rest ∙ (ap (λ (list : List ℕ). record made { ram = list; rom = node.rom }) ram ∙ ap (λ (list : List ℕ). record made { ram = made.ram; rom = list }) rom)

-- ---- what is assembled of a source is what is assembled of its words

pub said_to_fault : (source : List ℕ) (words front : List TokenContent) → words ≡ source_tokens source → front ≡ tokens_through_first_fault words → source_tokens_until_fault source ≡ front
unfolding source_tokens_until_fault
said_to_fault source words front is to_fault = sym (to_fault ∙ ap tokens_through_first_fault is)

pub asked_of_words : (source : List ℕ) (words : List Token) (result : Result AssembledChip SourceFault) → source_tokens_until_fault source ≡ token_contents words
    → IfOk result (λ all. AreProgramsOfBodies (body_token_lists (token_contents words)) all.programs.items) → IfOk result (λ all. AreProgramsOfSource source all.programs.items)
asked_of_words source words result e asked = subst (λ (said : List TokenContent). IfOk result (λ all. AreProgramsOfBodies (body_token_lists said) all.programs.items)) (sym e) asked

pub read_of_words : (source : List ℕ) (words : List Token) (result : Result AssembledChip SourceFault) → source_tokens_until_fault source ≡ token_contents words
    → IfOk result (λ all. ArePlainBodyPrograms (body_word_lists (token_texts (token_contents words))) all.programs.items) → IfOk result (λ all. ArePlainProgramsOfSource source all.programs.items)
read_of_words source words result e read = subst (λ (said : List TokenContent). IfOk result (λ all. ArePlainBodyPrograms (body_word_lists (token_texts said)) all.programs.items)) (sym e) read

pub refused_of_words : (source : List ℕ) (words : List Token) (result : Result AssembledChip SourceFault) → source_tokens_until_fault source ≡ token_contents words
    → IfErr result (λ fault. (other : List ℕ) → AreWordsOfSource other (token_contents words) → IsPlainSource other → fault.cause ≡ Memory) → IfErr result (λ fault. IsPlainSource source → fault.cause ≡ Memory)
refused_of_words source words (Ok all) e refused = refused
refused_of_words source words (Err fault) e refused = refused source (ap token_texts (sym e), ap (list_all is_word_token) (sym e))

pub made_of_source : (source : List ℕ) (result : Result AssembledChip SourceFault) → IfOk result (λ all. ArePlainProgramsOfSource source all.programs.items)
    → IfOk result (λ all. IsAssembledChip all.chip all.programs.items) → IfOk result (λ all. IsChipOfSource source all.chip)
made_of_source source (Ok all) read assembled = source_made source all.chip all.programs.items read assembled
made_of_source source (Err fault) read assembled = read

pub empty_of_source : (result : Result AssembledChip SourceFault) → IfOk result (λ all. IsAssembledChip all.chip all.programs.items)
    → IfOk result (λ all. AreUnusedCellsZero all.chip all.programs.items)
empty_of_source (Ok all) assembled = assembled_empty all.chip all.programs.items assembled
empty_of_source (Err fault) assembled = assembled

pub steady_of_source : (result : Result AssembledChip SourceFault) → IfOk result (λ all. IsAssembledChip all.chip all.programs.items)
    → IfOk result (λ all. HaveWaitsFittingSlotsAndStops (records_of_chip all.chip))
steady_of_source (Ok all) assembled = assembled_steady all.chip all.programs.items assembled
steady_of_source (Err fault) assembled = assembled
