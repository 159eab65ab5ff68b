-- What the lines that are printed of a node make of the node at load.
use Rattle.std.specs.Prelude.{nat_lt, ◌==◌, ◌-◌}
use Rattle.std.specs.Int.{from_bool}
use Rattle.std.specs.List.{list_all}
use Rattle.std.proofs.Common.{◌≡◌, ◌≢◌, ℕ, ◌+◌, Bool, true, false, cond, List, [], ◌∷◌, ◌++◌, length, take, drop, set, replicate, refl, sym, ◌∙◌, ap, arith, append_assoc, length-append, length-drop}
use Rattle.std.proofs.lemmas.Bool.Decides.{nat_tests}
use Rattle.std.proofs.lemmas.Bool.{eqb-true}
use Rattle.std.proofs.lemmas.List.{append-nil, set_at, take-append-drop, take-take, drop-take, take_all, length-take-le, length-replicate, replicate-append-replicate}
use Rattle.std.proofs.lemmas.List.Concat.{flat_map-append}
use Rattle.ga_stacks.specs.Ring.{StackRing, initial_stack_ring, initial_stack_word, words_of_stack}
use Rattle.ga_ports.specs.declared.side.Side.TheVariants.{Right, Down, Left, Up}
use Rattle.ga_node.specs.declared.wait.Wait.TheVariants.{Nothing, Fetch, Read, Write}
use Rattle.ga_node.specs.declared.wait.Wait.{Wait as NodeWait}
use Rattle.ga_node.specs.State.{wait_code, wait_of_code}
use Rattle.ga_node.specs.Record.{NodeState, node_at_load_defaults, NodeRecord, record_of_node, record_at_load_defaults, IsWaitFittingSlotAndStop, HasWaitFittingSlotAndStop}
use Rattle.ga_image.specs.declared.field.Field.{Field}
use Rattle.ga_image.specs.declared.field.Field.TheVariants.{A, B, P, I, Io, Carry, Slot, Wait, Stop, Data, Return, Ram, Rom}
use Rattle.ga_image.specs.Fields.{fields_with_words}
use Rattle.ga_image.specs.Grammar.{field_line_writes, node_with_field_word}
use Rattle.ga_image.specs.Printing.{line_unless_default, word_line_unless_default, row_of_words, memory_lines, register_lines, stack_and_run_state_lines, changed_lines_since_load, IsRecordInRange, HasWaitSides}
use Rattle.ga_image.proofs.PrintedFields.{other_word}
use Rattle.ga_image.proofs.Found.{sizes as both_true}

-- a node with what is given, one word after the other
abbrev pub given : NodeState → List (Field × ℕ) → NodeState
given node [] = node
given node (w ∷ ws) = given (node_with_field_word node w.0 w.1) ws

given_append : (node : NodeState) (xs ys : List (Field × ℕ)) → given node (xs ++ ys) ≡ given (given node xs) ys
given_append node [] ys = refl
given_append node (x ∷ xs) ys = given_append (node_with_field_word node x.0 x.1) xs ys

pub writes_append : (xs ys : List (Field × List ℕ)) → field_line_writes (xs ++ ys) ≡ field_line_writes xs ++ field_line_writes ys
writes_append xs ys = flat_map-append (λ line. fields_with_words line.0 line.1) xs ys

-- some lines, then others
pub record Gives (first : NodeState) (lines : List (Field × List ℕ)) (last : NodeState) : Type 0 where
  pub gives : given first (field_line_writes lines) ≡ last

lines_given : {first middle last : NodeState} {xs ys : List (Field × List ℕ)} → Gives first xs middle → Gives middle ys last → Gives first (xs ++ ys) last
lines_given {first = first} {middle = middle} {last = last} {xs = xs} {ys = ys} p q =
    record { gives = ap (given first) (writes_append xs ys) ∙ given_append first (field_line_writes xs) (field_line_writes ys) ∙ ap (λ (node : NodeState). given node (field_line_writes ys)) p.gives ∙ q.gives }

then_same : {first middle last : NodeState} {lines : List (Field × List ℕ)} → Gives first lines middle → middle ≡ last → Gives first lines last
then_same p q = record { gives = p.gives ∙ q }

-- a line that is written only if a word differs from its value at load
unless_given : (before after : NodeState) (at_load : ℕ) (field : Field) (words : List ℕ) → (list_all (λ word. word == at_load) words ≡ true → before ≡ after)
    → (list_all (λ word. word == at_load) words ≡ false → given before (fields_with_words field words) ≡ after) → Gives before (line_unless_default at_load field words) after
unless_given before after at_load field words none some = record { gives = either (list_all (λ word. word == at_load) words) refl } where
  either : (b : Bool) → list_all (λ word. word == at_load) words ≡ b → given before (field_line_writes (cond b [] ((field, words) ∷ []))) ≡ after
  either true is = none is
  either false is = ap (given before) (append-nil (fields_with_words field words)) ∙ some is

pub same_word : (word at_load : ℕ) → list_all (λ w. w == at_load) (word ∷ []) ≡ true → word ≡ at_load
same_word word at_load is = eqb-true word at_load (both_true (word == at_load) true is).0

same_words : (words : List ℕ) (at_load : ℕ) → list_all (λ w. w == at_load) words ≡ true → words ≡ replicate (length words) at_load
same_words [] at_load is = refl
same_words (word ∷ words) at_load is =
    let (first, others) = both_true (word == at_load) (list_all (λ w. w == at_load) words) is in
    rw (eqb-true word at_load first, ← same_words words at_load others) refl

-- the line of one word
word_given : (state : ℕ → NodeState) (at_load : ℕ) (field : Field) (word : ℕ) → given (state at_load) (fields_with_words field (word ∷ [])) ≡ state word → Gives (state at_load) (word_line_unless_default at_load field word) (state word)
word_given state at_load field word writes_one =
    unless_given (state at_load) (state word) at_load field (word ∷ []) (λ same. ap state (sym (same_word word at_load same))) (λ _. writes_one)

-- ---- a whole node

abbrev pub held : (d r : StackRing) (ram rom : List ℕ) (a b p i io : ℕ) (carry : Bool) (slot : ℕ) (wait : NodeWait) (stop : ℕ) → NodeState
held d r ram rom a b p i io carry slot wait stop =
    record { data_stack = d; return_stack = r; ram = ram; rom = rom; a = a; b = b; p = p; i = i; io = io; carry = carry; slot = slot; wait = wait; stop = stop }

-- a stack of these words, with its newest cell at 0
abbrev pub ring_of : ℕ → List ℕ → StackRing
ring_of registers words = record { registers = take registers words; cells = drop registers words; pointer = 0 }

pub listed_ring : (registers : ℕ) (words : List ℕ) → words_of_stack (ring_of registers words) ≡ words
listed_ring registers words = append-nil (take registers words ++ drop registers words) ∙ take-append-drop registers words

carry_back : (carry : Bool) → (from_bool carry == 1) ≡ carry
carry_back true = refl
carry_back false = refl

wait_back : (wait : NodeWait) → HasWaitSides wait → wait_of_code (wait_code wait) ≡ wait
wait_back Nothing sides = refl
wait_back (Fetch s) sides =
    let h = sides.0 in
    let k = sides.1 in
    let some : (16 + s == 0) ≡ false = grind (arith, nat_tests) in
    let low : nat_lt (16 + s) 32 ≡ true = grind (arith, nat_tests) in
    let back : 16 + s - 16 ≡ s = omega arith in
    rw (some, low) (ap (λ (n : ℕ). Fetch n) back)
wait_back (Read s) sides =
    let h = sides.0 in
    let k = sides.1 in
    let some : (32 + s == 0) ≡ false = grind (arith, nat_tests) in
    let low : nat_lt (32 + s) 32 ≡ false = grind (arith, nat_tests) in
    let middle : nat_lt (32 + s) 48 ≡ true = grind (arith, nat_tests) in
    let back : 32 + s - 32 ≡ s = omega arith in
    rw (some, low, middle) (ap (λ (n : ℕ). Read n) back)
wait_back (Write Right) sides = refl
wait_back (Write Down) sides = refl
wait_back (Write Left) sides = refl
wait_back (Write Up) sides = refl

-- a stopped node that is steady doesn't wait
stopped : (wait : NodeWait) (slot stop : ℕ) → IsWaitFittingSlotAndStop wait slot stop → stop ≢ 0 → wait ≡ Nothing
stopped Nothing slot stop fits other = refl
stopped (Fetch s) slot stop fits other = absurd (other fits.1)
stopped (Read s) slot stop fits other = absurd (other fits.1)
stopped (Write side) slot stop fits other = absurd (other fits.1)

data_given : (r : StackRing) (ram rom : List ℕ) (a b p i io : ℕ) (carry : Bool) (slot : ℕ) (wait : NodeWait) (stop : ℕ) (d : List ℕ) → length d ≡ 10
    → given (held (initial_stack_ring 2) r ram rom a b p i io carry slot wait stop) (fields_with_words (Data 0) d) ≡ held (ring_of 2 d) r ram rom a b p i io carry slot wait stop
data_given r ram rom a b p i io carry slot wait stop (t ∷ s ∷ c0 ∷ c1 ∷ c2 ∷ c3 ∷ c4 ∷ c5 ∷ c6 ∷ c7 ∷ []) size = refl
data_given r ram rom a b p i io carry slot wait stop [] size = absurd (omega arith)
data_given r ram rom a b p i io carry slot wait stop (t ∷ []) size = absurd (omega arith)
data_given r ram rom a b p i io carry slot wait stop (t ∷ s ∷ []) size = absurd (omega arith)
data_given r ram rom a b p i io carry slot wait stop (t ∷ s ∷ c0 ∷ []) size = absurd (omega arith)
data_given r ram rom a b p i io carry slot wait stop (t ∷ s ∷ c0 ∷ c1 ∷ []) size = absurd (omega arith)
data_given r ram rom a b p i io carry slot wait stop (t ∷ s ∷ c0 ∷ c1 ∷ c2 ∷ []) size = absurd (omega arith)
data_given r ram rom a b p i io carry slot wait stop (t ∷ s ∷ c0 ∷ c1 ∷ c2 ∷ c3 ∷ []) size = absurd (omega arith)
data_given r ram rom a b p i io carry slot wait stop (t ∷ s ∷ c0 ∷ c1 ∷ c2 ∷ c3 ∷ c4 ∷ []) size = absurd (omega arith)
data_given r ram rom a b p i io carry slot wait stop (t ∷ s ∷ c0 ∷ c1 ∷ c2 ∷ c3 ∷ c4 ∷ c5 ∷ []) size = absurd (omega arith)
data_given r ram rom a b p i io carry slot wait stop (t ∷ s ∷ c0 ∷ c1 ∷ c2 ∷ c3 ∷ c4 ∷ c5 ∷ c6 ∷ []) size = absurd (omega arith)
data_given r ram rom a b p i io carry slot wait stop (t ∷ s ∷ c0 ∷ c1 ∷ c2 ∷ c3 ∷ c4 ∷ c5 ∷ c6 ∷ c7 ∷ w ∷ d) size = absurd (omega arith)

return_given : (d : StackRing) (ram rom : List ℕ) (a b p i io : ℕ) (carry : Bool) (slot : ℕ) (wait : NodeWait) (stop : ℕ) (r : List ℕ) → length r ≡ 9
    → given (held d (initial_stack_ring 1) ram rom a b p i io carry slot wait stop) (fields_with_words (Return 0) r) ≡ held d (ring_of 1 r) ram rom a b p i io carry slot wait stop
return_given d ram rom a b p i io carry slot wait stop (t ∷ c0 ∷ c1 ∷ c2 ∷ c3 ∷ c4 ∷ c5 ∷ c6 ∷ c7 ∷ []) size = refl
return_given d ram rom a b p i io carry slot wait stop [] size = absurd (omega arith)
return_given d ram rom a b p i io carry slot wait stop (t ∷ []) size = absurd (omega arith)
return_given d ram rom a b p i io carry slot wait stop (t ∷ c0 ∷ []) size = absurd (omega arith)
return_given d ram rom a b p i io carry slot wait stop (t ∷ c0 ∷ c1 ∷ []) size = absurd (omega arith)
return_given d ram rom a b p i io carry slot wait stop (t ∷ c0 ∷ c1 ∷ c2 ∷ []) size = absurd (omega arith)
return_given d ram rom a b p i io carry slot wait stop (t ∷ c0 ∷ c1 ∷ c2 ∷ c3 ∷ []) size = absurd (omega arith)
return_given d ram rom a b p i io carry slot wait stop (t ∷ c0 ∷ c1 ∷ c2 ∷ c3 ∷ c4 ∷ []) size = absurd (omega arith)
return_given d ram rom a b p i io carry slot wait stop (t ∷ c0 ∷ c1 ∷ c2 ∷ c3 ∷ c4 ∷ c5 ∷ []) size = absurd (omega arith)
return_given d ram rom a b p i io carry slot wait stop (t ∷ c0 ∷ c1 ∷ c2 ∷ c3 ∷ c4 ∷ c5 ∷ c6 ∷ []) size = absurd (omega arith)
return_given d ram rom a b p i io carry slot wait stop (t ∷ c0 ∷ c1 ∷ c2 ∷ c3 ∷ c4 ∷ c5 ∷ c6 ∷ c7 ∷ w ∷ r) size = absurd (omega arith)

-- ---- memories

-- a state with one memory, and the fields of its cells
pub record IsMemory (state : List ℕ → NodeState) (field : ℕ → Field) : Type 0 where
  pub writes_one : (memory : List ℕ) (cell word : ℕ) → node_with_field_word (state memory) (field cell) word ≡ state (set memory cell word)
  pub next : (cell : ℕ) (words : List ℕ) → (word : ℕ) → fields_with_words (field cell) (word ∷ words) ≡ (field cell, word) ∷ fields_with_words (field (cell + 1)) words

cells_given : (state : List ℕ → NodeState) (field : ℕ → Field) → IsMemory state field → (front olds back words : List ℕ) (cell : ℕ) → length front ≡ cell → length olds ≡ length words
    → given (state (front ++ (olds ++ back))) (fields_with_words (field cell) words) ≡ state (front ++ (words ++ back))
cells_given state field is front [] back [] cell size same = refl
cells_given state field is front (old ∷ olds) back [] cell size same = absurd (omega arith)
cells_given state field is front [] back (word ∷ words) cell size same = absurd (omega arith)
cells_given state field is front (old ∷ olds) back (word ∷ words) cell size same =
    let before = front ++ (old ∷ (olds ++ back)) in
    let longer = front ++ word ∷ [] in
    let first : node_with_field_word (state before) (field cell) word ≡ state (longer ++ (olds ++ back)) =
    is.writes_one before cell word ∙ ap state (set_at front old (olds ++ back) word cell size ∙ sym (append_assoc front (word ∷ []) (olds ++ back))) in
    ap (given (state before)) (is.next cell words word)
    ∙ ap (λ (node : NodeState). given node (fields_with_words (field (cell + 1)) words)) first
    ∙ cells_given state field is longer olds back words (cell + 1) (omega (arith, length-append front (word ∷ []))) (omega arith)
    ∙ ap state (append_assoc front (word ∷ []) (words ++ back))

take_row : (memory : List ℕ) (cell : ℕ) → take (cell + 8) memory ≡ take cell memory ++ row_of_words memory cell
take_row memory cell =
    sym (take-append-drop cell (take (cell + 8) memory))
    ∙ ap (λ xs. xs ++ drop cell (take (cell + 8) memory)) (take-take cell (cell + 8) memory (omega arith))
    ∙ ap (λ xs. take cell memory ++ xs) (drop-take cell 8 memory)

row_given : (state : List ℕ → NodeState) (field : ℕ → Field) → IsMemory state field → (memory : List ℕ) (cell left : ℕ) → length memory ≡ 64 → cell + 8 + left ≡ 64
    → Gives (state (take cell memory ++ replicate (8 + left) 0)) (line_unless_default 0 (field cell) (row_of_words memory cell)) (state (take (cell + 8) memory ++ replicate left 0))
row_given state field is memory cell left size fits =
    let front = take cell memory in
    let row = row_of_words memory cell in
    let count : length row ≡ 8 = length-take-le 8 (drop cell memory) (omega (arith, length-drop cell memory)) in
    let split : front ++ replicate (8 + left) 0 ≡ front ++ (replicate 8 0 ++ replicate left 0) = ap (λ xs. front ++ xs) (sym (replicate-append-replicate 8 left 0)) in
    let after : front ++ (row ++ replicate left 0) ≡ take (cell + 8) memory ++ replicate left 0 = sym (append_assoc front row (replicate left 0)) ∙ ap (λ xs. xs ++ replicate left 0) (sym (take_row memory cell)) in
    unless_given (state (front ++ replicate (8 + left) 0)) (state (take (cell + 8) memory ++ replicate left 0)) 0 (field cell) row
    (λ zeros. ap state (split ∙ ap (λ xs. front ++ (xs ++ replicate left 0)) (ap (λ (n : ℕ). replicate n 0) (sym count) ∙ sym (same_words row 0 zeros)) ∙ after))
    (λ _. ap (λ xs. given (state xs) (fields_with_words (field cell) row)) split
    ∙ cells_given state field is front (replicate 8 0) (replicate left 0) row cell (length-take-le cell memory (omega arith)) (length-replicate {A = ℕ} 8 0 ∙ sym count)
    ∙ ap state after)

pub memory_given : (state : List ℕ → NodeState) (field : ℕ → Field) → IsMemory state field → (memory : List ℕ) → length memory ≡ 64 → Gives (state (replicate 64 0)) (memory_lines field memory) (state memory)
memory_given state field is memory size =
    let at : ℕ → ℕ → NodeState = λ cell left. state (take cell memory ++ replicate left 0) in
    let row : (cell left : ℕ) → cell + 8 + left ≡ 64 → Gives (at cell (8 + left)) (line_unless_default 0 (field cell) (row_of_words memory cell)) (at (cell + 8) left) = λ cell left fits. row_given state field is memory cell left size fits in
    let end : at 64 0 ≡ state memory = ap state (append-nil (take 64 memory) ∙ take_all 64 memory (omega arith)) in
    let none : Gives (at 64 0) [] (state memory) = record { gives = end } in
    lines_given (row 0 56 (omega arith))
    (lines_given (row 8 48 (omega arith))
    (lines_given (row 16 40 (omega arith))
    (lines_given (row 24 32 (omega arith))
    (lines_given (row 32 24 (omega arith))
    (lines_given (row 40 16 (omega arith))
    (lines_given (row 48 8 (omega arith))
    (lines_given (row 56 0 (omega arith)) none)))))))

-- ---- the node that the lines of a block give

-- the node that they make of the node at load
abbrev pub made_of : NodeRecord → NodeState
made_of node = held (ring_of 2 node.d) (ring_of 1 node.r) node.ram node.rom node.a node.b node.p node.i node.io node.carry node.slot node.wait node.stop

registers_given : (p : ℕ) (node : NodeRecord)
    → Gives (node_at_load_defaults p) (register_lines (record_at_load_defaults p) node) (held (initial_stack_ring 2) (initial_stack_ring 1) (replicate 64 0) (replicate 64 0) node.a node.b node.p node.i node.io false 4 Nothing 0)
unfolding node_at_load_defaults
registers_given p node =
    let at : ℕ → ℕ → ℕ → ℕ → ℕ → NodeState = λ a b q i io. held (initial_stack_ring 2) (initial_stack_ring 1) (replicate 64 0) (replicate 64 0) a b q i io false 4 Nothing 0 in
    lines_given (word_given (λ a. at a 0x15d p 0 initial_stack_word) 0 A node.a refl)
    (lines_given (word_given (λ b. at node.a b p 0 initial_stack_word) 0x15d B node.b refl)
    (lines_given (word_given (λ q. at node.a node.b q 0 initial_stack_word) p P node.p refl)
    (lines_given (word_given (λ i. at node.a node.b node.p i initial_stack_word) 0 I node.i refl)
    (word_given (λ io. at node.a node.b node.p node.i io) initial_stack_word Io node.io refl))))

state_given : (p a b q i io : ℕ) (ram rom : List ℕ) (node : NodeRecord) → IsRecordInRange node → HasWaitFittingSlotAndStop node
    → Gives (held (initial_stack_ring 2) (initial_stack_ring 1) ram rom a b q i io false 4 Nothing 0) (stack_and_run_state_lines (record_at_load_defaults p) node) (held (ring_of 2 node.d) (ring_of 1 node.r) ram rom a b q i io node.carry node.slot node.wait node.stop)
state_given p a b q i io ram rom node is steady =
    let at : StackRing → StackRing → Bool → ℕ → NodeWait → ℕ → NodeState = λ d r carry slot wait stop. held d r ram rom a b q i io carry slot wait stop in
    let d = ring_of 2 node.d in
    let r = ring_of 1 node.r in
    let s0 = at (initial_stack_ring 2) (initial_stack_ring 1) false 4 Nothing 0 in
    let s1 = at (initial_stack_ring 2) (initial_stack_ring 1) node.carry 4 Nothing 0 in
    let s2 = at (initial_stack_ring 2) (initial_stack_ring 1) node.carry node.slot Nothing 0 in
    let s3 = at d (initial_stack_ring 1) node.carry node.slot Nothing 0 in
    let s4 = at d r node.carry node.slot Nothing 0 in
    let s5 = at d r node.carry node.slot node.wait 0 in
    let s6 = at d r node.carry node.slot node.wait node.stop in
    let carry : Gives s0 (word_line_unless_default 0 Carry (from_bool node.carry)) s1 = then_same (word_given (λ n. at (initial_stack_ring 2) (initial_stack_ring 1) (n == 1) 4 Nothing 0) 0 Carry (from_bool node.carry) refl)
    (ap (λ (c : Bool). at (initial_stack_ring 2) (initial_stack_ring 1) c 4 Nothing 0) (carry_back node.carry)) in
    let slot : Gives s1 (word_line_unless_default 4 Slot node.slot) s2 = word_given (λ n. at (initial_stack_ring 2) (initial_stack_ring 1) node.carry n Nothing 0) 4 Slot node.slot refl in
    let fresh_d : list_all (λ word. word == initial_stack_word) node.d ≡ true → s2 ≡ s3 = λ same.
    ap (λ words. at (ring_of 2 words) (initial_stack_ring 1) node.carry node.slot Nothing 0) (ap (λ (n : ℕ). replicate n initial_stack_word) (sym is.state.d.1) ∙ sym (same_words node.d initial_stack_word same)) in
    let fresh_r : list_all (λ word. word == initial_stack_word) node.r ≡ true → s3 ≡ s4 = λ same.
    ap (λ words. at d (ring_of 1 words) node.carry node.slot Nothing 0) (ap (λ (n : ℕ). replicate n initial_stack_word) (sym is.state.r.1) ∙ sym (same_words node.r initial_stack_word same)) in
    let data_words = unless_given s2 s3 initial_stack_word (Data 0) node.d fresh_d (λ _. data_given (initial_stack_ring 1) ram rom a b q i io node.carry node.slot Nothing 0 node.d is.state.d.1) in
    let return_words = unless_given s3 s4 initial_stack_word (Return 0) node.r fresh_r (λ _. return_given d ram rom a b q i io node.carry node.slot Nothing 0 node.r is.state.r.1) in
    let wait : Gives s4 (word_line_unless_default 0 Wait (wait_code node.wait)) s5 = then_same (word_given (λ n. at d r node.carry node.slot (wait_of_code n) 0) 0 Wait (wait_code node.wait) refl)
    (ap (λ (w : NodeWait). at d r node.carry node.slot w 0) (wait_back node.wait is.state.wait)) in
    let none : list_all (λ word. word == 0) (node.stop ∷ []) ≡ true → s5 ≡ s6 = λ same. ap (λ (n : ℕ). at d r node.carry node.slot node.wait n) (sym (same_word node.stop 0 same)) in
    let some : list_all (λ word. word == 0) (node.stop ∷ []) ≡ false → given s5 ((Stop, node.stop) ∷ []) ≡ s6 = λ other.
    ap (λ (w : NodeWait). at d r node.carry node.slot w node.stop) (sym (stopped node.wait node.slot node.stop steady (other_word 0 node.stop other))) in
    lines_given carry
    (lines_given slot
    (lines_given data_words
    (lines_given return_words
    (lines_given wait
    (unless_given s5 s6 0 Stop (node.stop ∷ []) none some)))))

-- the node at load with the lines of another is that other, its stacks with their newest cells at 0
pub node_given : (p : ℕ) (node : NodeRecord) → IsRecordInRange node → HasWaitFittingSlotAndStop node → given (node_at_load_defaults p) (field_line_writes (changed_lines_since_load (record_at_load_defaults p) node)) ≡ made_of node
node_given p node is steady =
    let zeros : List ℕ = replicate 64 0 in
    let at : List ℕ → List ℕ → NodeState = λ ram rom. held (ring_of 2 node.d) (ring_of 1 node.r) ram rom node.a node.b node.p node.i node.io node.carry node.slot node.wait node.stop in
    let rams : IsMemory (λ ram. at ram zeros) Ram = record { writes_one = λ memory cell word. refl; next = λ cell words word. refl } in
    let roms : IsMemory (λ rom. at node.ram rom) Rom = record { writes_one = λ memory cell word. refl; next = λ cell words word. refl } in
    let all : Gives (node_at_load_defaults p) (changed_lines_since_load (record_at_load_defaults p) node) (made_of node) =
    lines_given (registers_given p node)
    (lines_given (state_given p node.a node.b node.p node.i node.io zeros zeros node is steady)
    (lines_given (memory_given (λ ram. at ram zeros) Ram rams node.ram is.ram.1)
    (memory_given (λ rom. at node.ram rom) Rom roms node.rom is.rom.1))) in
    all.gives

-- and has its record
pub record_made : (node : NodeRecord) → record_of_node (made_of node) ≡ node
unfolding record_of_node
record_made node = rw (listed_ring 2 node.d, listed_ring 1 node.r) refl
