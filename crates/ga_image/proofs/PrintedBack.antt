-- What is printed is an image of a chip with the same records.
use Rattle.std.specs.Prelude.{nat_lt, nat_eq, ◌==◌}
use Rattle.std.specs.Int.{from_bool}
use Rattle.std.specs.List.{AllByRecursion, IsDistinct, list_all}
use Rattle.std.proofs.Common.{◌≡◌, ℕ, suc, ◌+◌, ◌/◌, ◌<◌, ◌≤◌, Bool, true, false, cond, List, [], ◌∷◌, ◌++◌, length, map, flat_map, take, set, refl, sym, ◌∙◌, ap, subst, arith, append_assoc}
use Rattle.std.proofs.lemmas.Bool.Decides.{nat_tests}
use Rattle.std.proofs.lemmas.Bool.{ne_eqb}
use Rattle.std.proofs.lemmas.List.{append-nil, take_all, take_more_set, length-map, set-set, set-get_or}
use Rattle.std.proofs.lemmas.List.Concat.{flat_map-append}
use Rattle.std.proofs.lemmas.Map.Keys.{IsDistinct-cons}
use Rattle.ga_ports.specs.declared.side.Side.TheVariants.{Right, Down, Left, Up}
use Rattle.ga_node.specs.declared.wait.Wait.TheVariants.{Nothing, Fetch, Read, Write}
use Rattle.ga_node.specs.declared.wait.Wait.{Wait as NodeWait}
use Rattle.ga_node.specs.State.{wait_code}
use Rattle.ga_node.specs.Record.{NodeState, node_at_load_defaults, NodeRecord, record_of_node, record_at_load_defaults, IsWaitFittingSlotAndStop, HasWaitFittingSlotAndStop}
use Rattle.ga_grid.specs.Grid.{decimal_name_of_node, initial_p_of_node, default_chip}
use Rattle.ga_grid.specs.Chip.{default_node, node_at, chip_with_node, records_of_chip, node_record_at, HaveWaitsFittingSlotsAndStops}
use Rattle.ga_grid.proofs.Chips.{node_at-with_node_same, node_at-with_node_other, length-chip_with_node, records_of_chip-chip_with_node, node_at-default_chip, length-default_chip}
use Rattle.ga_image.specs.declared.field.RunState.{RunState}
use Rattle.ga_image.specs.declared.field.Field.{Field}
use Rattle.ga_image.specs.declared.field.Field.TheVariants.{A, B, P, I, Io, Carry, Slot, Wait, Stop, Data, Return, Ram, Rom}
use Rattle.ga_image.specs.declared.field.Format.TheVariants.{Two}
use Rattle.ga_image.specs.Fields.{fields_with_words, field_number, run_state_at_load, run_state_after_words, is_inconsistent_run_state}
use Rattle.ga_text.specs.Lines.{lines_of_text}
use Rattle.ga_image.specs.Spelling.{Node, End}
use Rattle.ga_image.specs.Grammar.{header_of_format, NodeBlock, field_line_form, line_forms_of_block, field_line_writes, IsFieldLineInRange, IsBlockOfGridNode, node_with_field_word, chip_with_word, chip_with_words, chip_with_blocks, IsImage}
use Rattle.ga_image.specs.Printing.{text_of_line_form, line_unless_default, word_line_unless_default, row_of_words, memory_lines, register_lines, stack_and_run_state_lines, changed_lines_since_load, changed_lines_of_node, block_unless_empty, blocks_from_node, line_forms_after_header, printed_image, HasWaitSides, IsRecordInRange, AreRecordsInRange, IsImageOfRecords}
use Rattle.ga_image.proofs.Found.{held-append}
use Rattle.ga_image.proofs.Pieces.{IsPrintable, forms_printed, no_feed_lines, no_feed_header, lines_again}
use Rattle.ga_image.proofs.PrintedFields.{IsGood, all_append, lines_good, lines_apart}
use Rattle.ga_image.proofs.PrintedStates.{given, writes_append, made_of, node_given, record_made, same_word}

-- ---- wait, stop and slot

abbrev IsPlain : Field → Type 0
IsPlain Wait = ⊥
IsPlain Stop = ⊥
IsPlain Slot = ⊥
IsPlain _ = Unit {0}

held_plain : (held : RunState) (field : Field) (words : List ℕ) → IsPlain field → run_state_after_words held (fields_with_words field words) ≡ held
held_plain held field [] plain = refl
held_plain held A (w ∷ words) plain = held_plain held A words plain
held_plain held B (w ∷ words) plain = held_plain held B words plain
held_plain held P (w ∷ words) plain = held_plain held P words plain
held_plain held I (w ∷ words) plain = held_plain held I words plain
held_plain held Io (w ∷ words) plain = held_plain held Io words plain
held_plain held Carry (w ∷ words) plain = held_plain held Carry words plain
held_plain held Slot (w ∷ words) plain = absurd plain
held_plain held Wait (w ∷ words) plain = absurd plain
held_plain held Stop (w ∷ words) plain = absurd plain
held_plain held (Data k) (w ∷ words) plain = held_plain held (Data (k + 1)) words plain
held_plain held (Return k) (w ∷ words) plain = held_plain held (Return (k + 1)) words plain
held_plain held (Ram k) (w ∷ words) plain = held_plain held (Ram (k + 1)) words plain
held_plain held (Rom k) (w ∷ words) plain = held_plain held (Rom (k + 1)) words plain

-- a block's wait, stop and slot before some lines, and after them
record Holds (first : RunState) (lines : List (Field × List ℕ)) (last : RunState) : Type 0 where
  holds : run_state_after_words first (field_line_writes lines) ≡ last

unless_held : (before after : RunState) (at_load : ℕ) (field : Field) (words : List ℕ) → (list_all (λ word. word == at_load) words ≡ true → before ≡ after) → run_state_after_words before (fields_with_words field words) ≡ after
    → Holds before (line_unless_default at_load field words) after
unless_held before after at_load field words none some = record { holds = either (list_all (λ word. word == at_load) words) refl } where
  either : (b : Bool) → list_all (λ word. word == at_load) words ≡ b → run_state_after_words before (field_line_writes (cond b [] ((field, words) ∷ []))) ≡ after
  either true is = none is
  either false is = ap (run_state_after_words before) (append-nil (fields_with_words field words)) ∙ some

plain_unless : (held : RunState) (at_load : ℕ) (field : Field) (words : List ℕ) → IsPlain field → Holds held (line_unless_default at_load field words) held
plain_unless held at_load field words plain = unless_held held held at_load field words (λ _. refl) (held_plain held field words plain)

word_held : (state : ℕ → RunState) (at_load : ℕ) (field : Field) (word : ℕ) → run_state_after_words (state at_load) (fields_with_words field (word ∷ [])) ≡ state word → Holds (state at_load) (word_line_unless_default at_load field word) (state word)
word_held state at_load field word writes_one = unless_held (state at_load) (state word) at_load field (word ∷ []) (λ same. ap state (sym (same_word word at_load same))) writes_one

lines_held : {first middle last : RunState} {xs ys : List (Field × List ℕ)} → Holds first xs middle → Holds middle ys last → Holds first (xs ++ ys) last
lines_held {first = first} {middle = middle} {last = last} {xs = xs} {ys = ys} p q =
    record { holds = ap (run_state_after_words first) (writes_append xs ys) ∙ held-append first (field_line_writes xs) (field_line_writes ys) ∙ ap (λ (held : RunState). run_state_after_words held (field_line_writes ys)) p.holds ∙ q.holds }

memory_held : (held : RunState) (field : ℕ → Field) (memory : List ℕ) → ((cell : ℕ) → IsPlain (field cell)) → Holds held (memory_lines field memory) held
memory_held held field memory plain =
    let row : (cell : ℕ) → Holds held (line_unless_default 0 (field cell) (row_of_words memory cell)) held = λ cell. plain_unless held 0 (field cell) (row_of_words memory cell) (plain cell) in
    lines_held (row 0)
    (lines_held (row 8)
    (lines_held (row 16)
    (lines_held (row 24)
    (lines_held (row 32)
    (lines_held (row 40)
    (lines_held (row 48)
    (lines_held (row 56) (record { holds = refl }))))))))

-- the wait, stop and slot that the lines of a node give
lines_hold : (p : ℕ) (node : NodeRecord) → run_state_after_words run_state_at_load (field_line_writes (changed_lines_since_load (record_at_load_defaults p) node)) ≡ record { wait = wait_code node.wait; stop = node.stop; slot = node.slot }
lines_hold p node =
    let fresh = record_at_load_defaults p in
    let slot_only : RunState = record { wait = 0; stop = 0; slot = node.slot } in
    let waiting : RunState = record { wait = wait_code node.wait; stop = 0; slot = node.slot } in
    let last : RunState = record { wait = wait_code node.wait; stop = node.stop; slot = node.slot } in
    let registers : Holds run_state_at_load (register_lines fresh node) run_state_at_load =
    lines_held (plain_unless run_state_at_load fresh.a A (node.a ∷ []) tt)
    (lines_held (plain_unless run_state_at_load fresh.b B (node.b ∷ []) tt)
    (lines_held (plain_unless run_state_at_load fresh.p P (node.p ∷ []) tt)
    (lines_held (plain_unless run_state_at_load fresh.i I (node.i ∷ []) tt)
    (plain_unless run_state_at_load fresh.io Io (node.io ∷ []) tt)))) in
    let state : Holds run_state_at_load (stack_and_run_state_lines fresh node) last =
    lines_held (plain_unless run_state_at_load (from_bool fresh.carry) Carry (from_bool node.carry ∷ []) tt)
    (lines_held (word_held (λ n. record { wait = 0; stop = 0; slot = n }) 4 Slot node.slot refl)
    (lines_held (plain_unless slot_only 0x15555 (Data 0) node.d tt)
    (lines_held (plain_unless slot_only 0x15555 (Return 0) node.r tt)
    (lines_held (word_held (λ n. record { wait = n; stop = 0; slot = node.slot }) 0 Wait (wait_code node.wait) refl)
    (word_held (λ n. record { wait = wait_code node.wait; stop = n; slot = node.slot }) 0 Stop node.stop refl))))) in
    let all : Holds run_state_at_load (changed_lines_since_load fresh node) last =
    lines_held registers
    (lines_held state
    (lines_held (memory_held last Ram node.ram (λ _. tt))
    (memory_held last Rom node.rom (λ _. tt)))) in
    all.holds

-- they are consistent in a steady node
steady_held : (wait : NodeWait) (slot stop : ℕ) → HasWaitSides wait → IsWaitFittingSlotAndStop wait slot stop → is_inconsistent_run_state (record { wait = wait_code wait; stop = stop; slot = slot }) ≡ false
steady_held Nothing slot stop sides fits = refl
steady_held (Fetch s) slot stop sides fits = let low : nat_lt (16 + s) 32 ≡ true = let small = sides.1 in grind (arith, nat_tests) in let due : (slot == 4) ≡ true = rw (fits.0) refl in rw (fits.1, low, due) (grind (arith, nat_tests))
steady_held (Read s) slot stop sides fits = let due = fits.0 in let runs_on = fits.1 in let high : nat_lt (32 + s) 32 ≡ false = grind (arith, nat_tests) in let no : (slot == 4) ≡ false = ne_eqb slot 4 due in rw (runs_on, high, no) (grind (arith, nat_tests))
steady_held (Write Right) slot stop sides fits = let no : (slot == 4) ≡ false = ne_eqb slot 4 fits.0 in rw (fits.1, no) refl
steady_held (Write Down) slot stop sides fits = let no : (slot == 4) ≡ false = ne_eqb slot 4 fits.0 in rw (fits.1, no) refl
steady_held (Write Left) slot stop sides fits = let no : (slot == 4) ≡ false = ne_eqb slot 4 fits.0 in rw (fits.1, no) refl
steady_held (Write Up) slot stop sides fits = let no : (slot == 4) ≡ false = ne_eqb slot 4 fits.0 in rw (fits.1, no) refl

-- ---- blocks

-- a node that can be printed
abbrev IsWhole : NodeRecord → Type 0
IsWhole node = IsRecordInRange node × HasWaitFittingSlotAndStop node

good_lines : (lines : List (Field × List ℕ)) → AllByRecursion IsGood lines → AllByRecursion IsFieldLineInRange lines
good_lines [] each = tt
good_lines (line ∷ lines) each = (each.0.1, good_lines lines each.1)

block_good : (n : ℕ) (node : NodeRecord) → n < 144 → IsWhole node → AllByRecursion IsBlockOfGridNode (block_unless_empty n (changed_lines_of_node n node))
unfolding changed_lines_of_node
block_good n node small is = either (changed_lines_since_load (record_at_load_defaults (initial_p_of_node n)) node) refl where
  either : (lines : List (Field × List ℕ)) → changed_lines_since_load (record_at_load_defaults (initial_p_of_node n)) node ≡ lines → AllByRecursion IsBlockOfGridNode (block_unless_empty n lines)
  either [] same = tt
  either (line ∷ lines) same =
      let p = initial_p_of_node n in (
        record {
          node = small;
          field_lines = subst (AllByRecursion IsFieldLineInRange) same (good_lines _ (lines_good p node is.0));
          apart = subst (λ (ls : List (Field × List ℕ)). IsDistinct nat_eq (map (λ w. field_number w.0) (field_line_writes ls))) same (lines_apart p node is.0);
          steady = ap (λ (ls : List (Field × List ℕ)). is_inconsistent_run_state (run_state_after_words run_state_at_load (field_line_writes ls))) (sym same) ∙ ap is_inconsistent_run_state (lines_hold p node) ∙ steady_held node.wait node.slot node.stop is.0.state.wait is.1;
        },
        tt,
      )

blocks_good : (n : ℕ) (nodes : List NodeRecord) → n + length nodes ≤ 144 → AllByRecursion IsWhole nodes → AllByRecursion IsBlockOfGridNode (blocks_from_node n nodes)
unfolding blocks_from_node
blocks_good n [] small each = tt
blocks_good n (node ∷ nodes) small each =
    all_append IsBlockOfGridNode (block_unless_empty n (changed_lines_of_node n node)) (blocks_from_node (n + 1) nodes) (block_good n node (omega arith) each.0) (blocks_good (n + 1) nodes (omega arith) each.1)

-- ---- no node has two blocks

abbrev ArePast : ℕ → List NodeBlock → Type 0
ArePast n blocks = AllByRecursion (λ block. n ≤ block.node) blocks

past_weaker : (n m : ℕ) (blocks : List NodeBlock) → n ≤ m → ArePast m blocks → ArePast n blocks
past_weaker n m [] less past = tt
past_weaker n m (block ∷ blocks) less past = (let h = past.0 in omega arith, past_weaker n m blocks less past.1)

blocks_past : (n : ℕ) (nodes : List NodeRecord) → ArePast n (blocks_from_node n nodes)
unfolding blocks_from_node
blocks_past n [] = tt
blocks_past n (node ∷ nodes) =
    all_append (λ block. n ≤ block.node) (block_unless_empty n (changed_lines_of_node n node)) (blocks_from_node (n + 1) nodes) (either (changed_lines_of_node n node)) (past_weaker n (n + 1) (blocks_from_node (n + 1) nodes) (omega arith) (blocks_past (n + 1) nodes)) where
      either : (lines : List (Field × List ℕ)) → ArePast n (block_unless_empty n lines)
      either [] = tt
      either (line ∷ lines) = (omega arith, tt)

others : (n : ℕ) (blocks : List NodeBlock) → ArePast (n + 1) blocks → AllByRecursion (λ m. nat_eq n m ≡ false) (map (λ block. block.node) blocks)
others n [] past = tt
others n (block ∷ blocks) past = (ne_eqb n block.node (λ same. let h = past.0 in omega arith), others n blocks past.1)

block_apart : (n : ℕ) (lines : List (Field × List ℕ)) (blocks : List NodeBlock) → ArePast (n + 1) blocks → IsDistinct nat_eq (map (λ block. block.node) blocks) → IsDistinct nat_eq (map (λ block. block.node) (block_unless_empty n lines ++ blocks))
block_apart n [] blocks past apart = apart
block_apart n (line ∷ lines) blocks past apart = IsDistinct-cons nat_eq n (map (λ block. block.node) blocks) (others n blocks past) apart

no_blocks_apart : IsDistinct nat_eq []
unfolding IsDistinct
no_blocks_apart = tt

blocks_apart : (n : ℕ) (nodes : List NodeRecord) → IsDistinct nat_eq (map (λ block. block.node) (blocks_from_node n nodes))
unfolding blocks_from_node
blocks_apart n [] = no_blocks_apart
blocks_apart n (node ∷ nodes) = block_apart n (changed_lines_of_node n node) (blocks_from_node (n + 1) nodes) (blocks_past (n + 1) nodes) (blocks_apart (n + 1) nodes)

-- ---- the lines

good_forms : (lines : List (Field × List ℕ)) → AllByRecursion IsGood lines → AllByRecursion IsPrintable (map field_line_form lines)
good_forms [] each = tt
good_forms (line ∷ lines) each = (each.0.0, good_forms lines each.1)

block_printable : (n : ℕ) (lines : List (Field × List ℕ)) → n < 144 → AllByRecursion IsGood lines → AllByRecursion IsPrintable (flat_map line_forms_of_block (block_unless_empty n lines))
block_printable n [] small each = tt
block_printable n (line ∷ lines) small each =
    all_append IsPrintable (Node (decimal_name_of_node n) ∷ map field_line_form (line ∷ lines)) [] (let row : n / 18 < 8 = omega arith in omega arith, good_forms (line ∷ lines) each) tt

blocks_printable : (n : ℕ) (nodes : List NodeRecord) → n + length nodes ≤ 144 → AllByRecursion IsWhole nodes → AllByRecursion IsPrintable (flat_map line_forms_of_block (blocks_from_node n nodes))
unfolding blocks_from_node changed_lines_of_node
blocks_printable n [] small each = tt
blocks_printable n (node ∷ nodes) small each =
    subst (AllByRecursion IsPrintable) (sym (flat_map-append line_forms_of_block (block_unless_empty n (changed_lines_of_node n node)) (blocks_from_node (n + 1) nodes)))
    (all_append IsPrintable (flat_map line_forms_of_block (block_unless_empty n (changed_lines_of_node n node))) (flat_map line_forms_of_block (blocks_from_node (n + 1) nodes))
    (block_printable n (changed_lines_of_node n node) (omega arith) (lines_good (initial_p_of_node n) node each.0.0))
    (blocks_printable (n + 1) nodes (omega arith) each.1))

-- the lines of the text are those that were printed
lines_printed : (nodes : List NodeRecord) → lines_of_text (printed_image nodes) ≡ header_of_format Two ∷ map text_of_line_form (line_forms_after_header nodes)
unfolding printed_image
lines_printed nodes = lines_again (header_of_format Two ∷ map text_of_line_form (line_forms_after_header nodes)) (no_feed_header, no_feed_lines (line_forms_after_header nodes))

-- ---- the chip that they describe

pub written_given : (n : ℕ) (chip : List NodeState) (ws : List (Field × ℕ)) → n < length chip → chip_with_words n chip ws ≡ chip_with_node chip n (given (node_at chip n) ws)
unfolding chip_with_word
written_given n chip [] small = sym (set-get_or chip n default_node)
written_given n chip (w ∷ ws) small =
    let node = node_with_field_word (node_at chip n) w.0 w.1 in
    let next = chip_with_node chip n node in
    written_given n next ws (let same = length-chip_with_node chip n node in omega arith)
    ∙ ap (λ (at : NodeState). chip_with_node next n (given at ws)) (node_at-with_node_same chip n node small)
    ∙ set-set chip n node (given node ws)

loaded_append : (chip : List NodeState) (xs ys : List NodeBlock) → chip_with_blocks chip (xs ++ ys) ≡ chip_with_blocks (chip_with_blocks chip xs) ys
loaded_append chip [] ys = refl
loaded_append chip (x ∷ xs) ys = loaded_append (chip_with_words x.node chip (field_line_writes x.field_lines)) xs ys

block_loaded : (n : ℕ) (chip : List NodeState) (lines : List (Field × List ℕ)) → n < length chip → chip_with_blocks chip (block_unless_empty n lines) ≡ chip_with_node chip n (given (node_at chip n) (field_line_writes lines))
block_loaded n chip [] small = sym (set-get_or chip n default_node)
block_loaded n chip (line ∷ lines) small = written_given n chip (field_line_writes (line ∷ lines)) small

-- the nodes from a number on are at load
abbrev AreFresh : ℕ → List NodeState → Type 0
AreFresh n chip = (k : ℕ) → n ≤ k → k < 144 → node_at chip k ≡ node_at_load_defaults (initial_p_of_node k)

nodes_loaded : (n : ℕ) (nodes : List NodeRecord) (chip : List NodeState) → length chip ≡ 144 → n + length nodes ≡ 144 → AreFresh n chip → AllByRecursion IsWhole nodes
    → records_of_chip (chip_with_blocks chip (blocks_from_node n nodes)) ≡ take n (records_of_chip chip) ++ nodes
unfolding blocks_from_node changed_lines_of_node
nodes_loaded n [] chip size fits fresh each =
    let counted = length-map chip record_of_node in
    sym (append-nil (take n (records_of_chip chip)) ∙ take_all n (records_of_chip chip) (omega arith))
nodes_loaded n (node ∷ nodes) chip size fits fresh each =
    let p = initial_p_of_node n in
    let lines = changed_lines_since_load (record_at_load_defaults p) node in
    let within : n < length chip = omega arith in
    let next = chip_with_node chip n (made_of node) in
    let made : given (node_at chip n) (field_line_writes lines) ≡ made_of node = ap (λ (at : NodeState). given at (field_line_writes lines)) (fresh n (omega arith) (omega arith)) ∙ node_given p node each.0.0 each.0.1 in
    let first : chip_with_blocks chip (block_unless_empty n lines) ≡ next = block_loaded n chip lines within ∙ ap (chip_with_node chip n) made in
    let still : AreFresh (n + 1) next = λ k past small. node_at-with_node_other chip n k (made_of node) (λ same. omega arith) ∙ fresh k (omega arith) small in
    let counted = length-map chip record_of_node in
    let one : take (n + 1) (records_of_chip next) ≡ take n (records_of_chip chip) ++ node ∷ [] =
    ap (take (n + 1)) (records_of_chip-chip_with_node chip n (made_of node) ∙ ap (set (records_of_chip chip) n) (record_made node))
    ∙ take_more_set (records_of_chip chip) n node (omega arith) in
    ap records_of_chip (loaded_append chip (block_unless_empty n lines) (blocks_from_node (n + 1) nodes) ∙ ap (λ (c : List NodeState). chip_with_blocks c (blocks_from_node (n + 1) nodes)) first)
    ∙ nodes_loaded (n + 1) nodes next (length-chip_with_node chip n (made_of node) ∙ size) (omega arith) still each.1
    ∙ ap (λ xs. xs ++ nodes) one
    ∙ append_assoc (take n (records_of_chip chip)) (node ∷ []) nodes

-- ---- the law

whole_from : (nodes : List NodeRecord) → AllByRecursion IsRecordInRange nodes → ((n : ℕ) → n < length nodes → HasWaitFittingSlotAndStop (node_record_at nodes n)) → AllByRecursion IsWhole nodes
whole_from [] sound steady = tt
whole_from (node ∷ nodes) sound steady = ((sound.0, steady 0 (omega arith)), whole_from nodes sound.1 (λ n small. steady (suc n) (omega arith)))

pub print_parse_round_trips : (nodes : List NodeRecord) → AreRecordsInRange nodes → HaveWaitsFittingSlotsAndStops nodes → IsImageOfRecords (lines_of_text (printed_image nodes)) nodes
print_parse_round_trips nodes sound steady =
    let size = sound.size in
    let whole = whole_from nodes sound.each (λ n small. steady n (omega arith)) in
    let blocks = blocks_from_node 0 nodes in
    let printable : AllByRecursion IsPrintable (line_forms_after_header nodes) = all_append IsPrintable (flat_map line_forms_of_block blocks) (End ∷ []) (blocks_printable 0 nodes (omega arith) whole) (tt, tt) in
    let image : IsImage (lines_of_text (printed_image nodes)) (chip_with_blocks default_chip blocks) = record {
      format = Two;
      lines = map text_of_line_form (line_forms_after_header nodes);
      blocks = blocks;
      starts = lines_printed nodes;
      spelled = forms_printed (line_forms_after_header nodes) printable;
      each = blocks_good 0 nodes (omega arith) whole;
      apart = blocks_apart 0 nodes;
      describes = refl;
    } in
    let fresh : AreFresh 0 default_chip = λ k past small. node_at-default_chip k small in
    (chip_with_blocks default_chip blocks, image, nodes_loaded 0 nodes default_chip length-default_chip (omega arith) fresh whole)
