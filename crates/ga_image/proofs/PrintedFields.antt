-- The field lines that are printed of a node: they can be printed and read, and none gives a field twice.
use Rattle.std.specs.Prelude.{nat_eq, nat_lt, ◌==◌, ◌-◌}
use Rattle.std.specs.Int.{from_bool}
use Rattle.std.specs.List.{AllByRecursion, IsDistinct, list_all}
use Rattle.std.proofs.Common.{◌≡◌, ◌≢◌, ℕ, zero, suc, ◌+◌, ◌<◌, ◌≤◌, inl, inr, Bool, true, false, cond, List, [], ◌∷◌, ◌++◌, length, map, take, drop, refl, sym, ◌∙◌, ap, subst, arith, eq-eqb, length-drop, ◌*◌, ◌^◌, get_or}
use Rattle.std.proofs.lemmas.Bool.Decides.{nat_tests}
use Rattle.std.proofs.lemmas.Bool.{ne_eqb, false≢true}
use Rattle.std.proofs.lemmas.List.{length-take-le, map-append, append-nil, take_all, take_more}
use Rattle.std.proofs.lemmas.List.Concat.{flat_map-append}
use Rattle.ga_stacks.specs.Ring.{initial_stack_word}
use Rattle.ga_ports.specs.declared.side.Side.TheVariants.{Right, Down, Left, Up}
use Rattle.ga_node.specs.declared.wait.Wait.TheVariants.{Nothing, Fetch, Read, Write}
use Rattle.ga_node.specs.declared.wait.Wait.{Wait as NodeWait}
use Rattle.ga_node.specs.State.{wait_code, IsWaitCode, wait_of_code}
use Rattle.ga_node.specs.Record.{NodeRecord, record_at_load_defaults}
use Rattle.ga_image.specs.declared.field.Field.{Field}
use Rattle.ga_image.specs.declared.field.Field.TheVariants.{A, B, P, I, Io, Carry, Slot, Wait, Stop, Data, Return, Ram, Rom}
use Rattle.ga_image.specs.Fields.{fields_with_words, field_number}
use Rattle.ga_image.specs.Grammar.{field_line_writes, IsFieldLineInRange}
use Rattle.ga_image.specs.Printing.{AreEighteenBitWords, line_unless_default, row_of_words, memory_lines, register_lines, stack_and_run_state_lines, changed_lines_since_load, IsRecordInRange, HasWaitSides, AreStackOrMemoryWords}
use Rattle.ga_image.proofs.Pieces.{IsLine}
use Rattle.ga_image.proofs.Spelled.{AreSix}
use Rattle.std.proofs.Math.Seq.{take-add}

-- ---- each line

-- what holds of a line that isn't written for nothing holds of each
unless_all : (Q : Field × List ℕ → Type 0) (at_load : ℕ) (field : Field) (words : List ℕ) → (list_all (λ word. word == at_load) words ≡ false → Q (field, words)) → AllByRecursion Q (line_unless_default at_load field words)
unless_all Q at_load field words holds = either (list_all (λ word. word == at_load) words) refl where
  either : (b : Bool) → list_all (λ word. word == at_load) words ≡ b → AllByRecursion Q (cond b [] ((field, words) ∷ []))
  either true is = tt
  either false is = (holds is, tt)

pub all_append : {X : Type 0} (Q : X → Type 0) (xs ys : List X) → AllByRecursion Q xs → AllByRecursion Q ys → AllByRecursion Q (xs ++ ys)
all_append Q [] ys first second = second
all_append Q (x ∷ xs) ys first second = (first.0, all_append Q xs ys first.1 second)

-- something holds of each line
record Each (Q : Field × List ℕ → Type 0) (lines : List (Field × List ℕ)) : Type 0 where
  all : AllByRecursion Q lines

each_unless : (Q : Field × List ℕ → Type 0) (at_load : ℕ) (field : Field) (words : List ℕ) → (list_all (λ word. word == at_load) words ≡ false → Q (field, words)) → Each Q (line_unless_default at_load field words)
each_unless Q at_load field words holds = record { all = unless_all Q at_load field words holds }

each_append : (Q : Field × List ℕ → Type 0) {xs ys : List (Field × List ℕ)} → Each Q xs → Each Q ys → Each Q (xs ++ ys)
each_append Q {xs = xs} {ys = ys} first second = record { all = all_append Q xs ys first.all second.all }

each_none : (Q : Field × List ℕ → Type 0) → Each Q []
each_none Q = record { all = tt }

-- a line that can be printed and read
abbrev pub IsGood : Field × List ℕ → Type 0
IsGood line = IsLine line.0 line.1 × IsFieldLineInRange line

-- one word that is not the one at load
pub other_word : (at_load word : ℕ) → list_all (λ w. w == at_load) (word ∷ []) ≡ false → word ≢ at_load
other_word at_load word some same = false≢true (sym some ∙ rw (eq-eqb word at_load same) refl)

small_six : (words : List ℕ) → AreEighteenBitWords words → AreSix words
small_six [] small = tt
small_six (w ∷ words) small = (let h = small.0 in omega arith, small_six words small.1)

small_greatest : (words : List ℕ) → AreEighteenBitWords words → AllByRecursion (λ word. word ≤ 0x3ffff) words
small_greatest [] small = tt
small_greatest (w ∷ words) small = (let h = small.0 in omega arith, small_greatest words small.1)

small_take : (n : ℕ) (words : List ℕ) → AreEighteenBitWords words → AreEighteenBitWords (take n words)
small_take zero words small = tt
small_take (suc n) [] small = tt
small_take (suc n) (w ∷ words) small = (small.0, small_take n words small.1)

small_drop : (n : ℕ) (words : List ℕ) → AreEighteenBitWords words → AreEighteenBitWords (drop n words)
small_drop zero words small = small
small_drop (suc n) [] small = tt
small_drop (suc n) (w ∷ words) small = small_drop n words small.1

wait_fits : (wait : NodeWait) → HasWaitSides wait → IsWaitCode (wait_code wait)
wait_fits Nothing sides = inl refl
wait_fits (Fetch s) sides = inr (inl (let h = sides.0 in omega arith, let h = sides.1 in omega arith))
wait_fits (Read s) sides = inr (inr (inl (let h = sides.0 in omega arith, let h = sides.1 in omega arith)))
wait_fits (Write Right) sides = inr (inr (inr (inr (inr (inr refl)))))
wait_fits (Write Down) sides = inr (inr (inr (inr (inr (inl refl)))))
wait_fits (Write Left) sides = inr (inr (inr (inr (inl refl))))
wait_fits (Write Up) sides = inr (inr (inr (inl refl)))

wait_most : (wait : NodeWait) → HasWaitSides wait → wait_code wait ≤ 56
wait_most Nothing sides = omega arith
wait_most (Fetch s) sides = let h = sides.1 in omega arith
wait_most (Read s) sides = let h = sides.1 in omega arith
wait_most (Write Right) sides = omega arith
wait_most (Write Down) sides = omega arith
wait_most (Write Left) sides = omega arith
wait_most (Write Up) sides = omega arith

carry_fits : (carry : Bool) → from_bool carry ≤ 1
carry_fits true = omega arith
carry_fits false = omega arith

row_size : (memory : List ℕ) (cell : ℕ) → length memory ≡ 64 → cell ≤ 56 → length (row_of_words memory cell) ≡ 8
row_size memory cell size small = length-take-le 8 (drop cell memory) (omega (arith, length-drop cell memory))

row_small : (memory : List ℕ) (cell : ℕ) → AreEighteenBitWords memory → AreEighteenBitWords (row_of_words memory cell)
row_small memory cell small = small_take 8 (drop cell memory) (small_drop cell memory small)

ram_good : (memory : List ℕ) (cell : ℕ) → AreEighteenBitWords memory → length memory ≡ 64 → cell ≤ 56 → IsGood (Ram cell, row_of_words memory cell)
ram_good memory cell small size low =
    let count = row_size memory cell size low in
    let words = row_small memory cell small in
    (((omega arith, omega arith, omega arith), small_six (row_of_words memory cell) words), (omega arith, small_greatest (row_of_words memory cell) words))

rom_good : (memory : List ℕ) (cell : ℕ) → AreEighteenBitWords memory → length memory ≡ 64 → cell ≤ 56 → IsGood (Rom cell, row_of_words memory cell)
rom_good memory cell small size low =
    let count = row_size memory cell size low in
    let words = row_small memory cell small in
    (((omega arith, omega arith, omega arith), small_six (row_of_words memory cell) words), (omega arith, small_greatest (row_of_words memory cell) words))

-- what holds of each row holds of each line of a memory
rows_each : (Q : Field × List ℕ → Type 0) (field : ℕ → Field) (memory : List ℕ) → ((cell : ℕ) → cell ≤ 56 → Q (field cell, row_of_words memory cell)) → Each Q (memory_lines field memory)
rows_each Q field memory holds =
    let at : (cell : ℕ) → cell ≤ 56 → Each Q (line_unless_default 0 (field cell) (row_of_words memory cell)) = λ cell low. each_unless Q 0 (field cell) (row_of_words memory cell) (λ _. holds cell low) in
    each_append Q (at 0 (omega arith))
    (each_append Q (at 8 (omega arith))
    (each_append Q (at 16 (omega arith))
    (each_append Q (at 24 (omega arith))
    (each_append Q (at 32 (omega arith))
    (each_append Q (at 40 (omega arith))
    (each_append Q (at 48 (omega arith))
    (each_append Q (at 56 (omega arith)) (each_none Q))))))))

registers_good : (fresh node : NodeRecord) → IsRecordInRange node → Each IsGood (register_lines fresh node)
registers_good fresh node is =
    each_append IsGood (each_unless IsGood fresh.a A (node.a ∷ []) (λ _. let h = is.registers.a in ((refl, (omega arith, tt)), (tt, (omega arith, tt)))))
    (each_append IsGood (each_unless IsGood fresh.b B (node.b ∷ []) (λ _. let h = is.registers.b in ((refl, (omega arith, tt)), (tt, (omega arith, tt)))))
    (each_append IsGood (each_unless IsGood fresh.p P (node.p ∷ []) (λ _. let h = is.registers.p in ((refl, (omega arith, tt)), (tt, (omega arith, tt)))))
    (each_append IsGood (each_unless IsGood fresh.i I (node.i ∷ []) (λ _. let h = is.registers.i in ((refl, (omega arith, tt)), (tt, (omega arith, tt)))))
    (each_unless IsGood fresh.io Io (node.io ∷ []) (λ _. let h = is.registers.io in ((refl, (omega arith, tt)), (tt, (omega arith, tt))))))))

state_good : (p : ℕ) (node : NodeRecord) → IsRecordInRange node → Each IsGood (stack_and_run_state_lines (record_at_load_defaults p) node)
state_good p node is =
    each_append IsGood (each_unless IsGood 0 Carry (from_bool node.carry ∷ []) (λ _. ((from_bool node.carry, refl, carry_fits node.carry), (tt, (carry_fits node.carry, tt)))))
    (each_append IsGood (each_unless IsGood 4 Slot (node.slot ∷ []) (λ _. ((node.slot, refl, is.state.slot), (tt, (is.state.slot, tt)))))
    (each_append IsGood (each_unless IsGood initial_stack_word (Data 0) node.d (λ _. let size = is.state.d.1 in (((refl, is.state.d.1), small_six node.d is.state.d.0), (omega arith, small_greatest node.d is.state.d.0))))
    (each_append IsGood (each_unless IsGood initial_stack_word (Return 0) node.r (λ _. let size = is.state.r.1 in (((refl, is.state.r.1), small_six node.r is.state.r.0), (omega arith, small_greatest node.r is.state.r.0))))
    (each_append IsGood (each_unless IsGood 0 Wait (wait_code node.wait ∷ []) (λ some. ((wait_code node.wait, refl, (wait_fits node.wait is.state.wait, other_word 0 (wait_code node.wait) some)), (tt, (wait_most node.wait is.state.wait, tt)))))
    (each_unless IsGood 0 Stop (node.stop ∷ []) (λ some. let other = other_word 0 node.stop some in let h = is.state.stop in ((node.stop, refl, (omega arith, is.state.stop)), (tt, (is.state.stop, tt)))))))))

-- each line of a node can be printed and read
pub lines_good : (p : ℕ) (node : NodeRecord) → IsRecordInRange node → AllByRecursion IsGood (changed_lines_since_load (record_at_load_defaults p) node)
lines_good p node is =
    let good =
    each_append IsGood (registers_good (record_at_load_defaults p) node is)
    (each_append IsGood (state_good p node is)
    (each_append IsGood (rows_each IsGood Ram node.ram (λ cell low. ram_good node.ram cell is.ram.0 is.ram.1 low))
    (rows_each IsGood Rom node.rom (λ cell low. rom_good node.rom cell is.rom.0 is.rom.1 low)))) in
    good.all

-- ---- no field is given twice

-- the place of a field in the order of printing, by its number
abbrev pub rank : ℕ → ℕ
rank n = cond (nat_lt n 7) n (cond (nat_lt n 9) (n + 19) (cond (nat_lt n 28) (n - 2) n))

-- the ranks of numbers climb from one on and stay below another
abbrev pub Climbs : ℕ → List ℕ → ℕ → Type 0
Climbs low [] high = low ≤ high
Climbs low (n ∷ ns) high = (low ≤ rank n) × Climbs (rank n + 1) ns high

climbs_append : (low : ℕ) (xs : List ℕ) (middle : ℕ) (ys : List ℕ) (high : ℕ) → Climbs low xs middle → Climbs middle ys high → Climbs low (xs ++ ys) high
climbs_append low [] middle [] high first second = omega arith
climbs_append low [] middle (y ∷ ys) high first second = (let h = second.0 in omega arith, second.1)
climbs_append low (x ∷ xs) middle ys high first second = (first.0, climbs_append (rank x + 1) xs middle ys high first.1 second)

above : (low n : ℕ) (ns : List ℕ) (high : ℕ) → rank n < low → Climbs low ns high → AllByRecursion (λ m. nat_eq n m ≡ false) ns
above low n [] high less climbs = tt
above low n (m ∷ ns) high less climbs =
    let other : n ≢ m = λ same. let equal : rank n ≡ rank m = ap rank same in let h = climbs.0 in omega arith in
    (ne_eqb n m other, above (rank m + 1) n ns high (let h = climbs.0 in omega arith) climbs.1)

pub climbs_apart : (low : ℕ) (ns : List ℕ) (high : ℕ) → Climbs low ns high → IsDistinct nat_eq ns
unfolding IsDistinct
climbs_apart low [] high climbs = tt
climbs_apart low (n ∷ ns) high climbs = (above (rank n + 1) n ns high (omega arith) climbs.1, climbs_apart (rank n + 1) ns high climbs.1)

-- the numbers of the fields that lines give
abbrev pub numbers_in : List (Field × List ℕ) → List ℕ
numbers_in lines = map (λ w. field_number w.0) (field_line_writes lines)

numbers_append : (xs ys : List (Field × List ℕ)) → numbers_in (xs ++ ys) ≡ numbers_in xs ++ numbers_in ys
numbers_append xs ys = ap (map (λ w. field_number w.0)) (flat_map-append (λ line. fields_with_words line.0 line.1) xs ys) ∙ map-append (λ w. field_number w.0) (field_line_writes xs) (field_line_writes ys)

-- lines whose numbers climb
record DoClimb (low : ℕ) (lines : List (Field × List ℕ)) (high : ℕ) : Type 0 where
  climb : Climbs low (numbers_in lines) high

lines_climb : {low middle high : ℕ} {xs ys : List (Field × List ℕ)} → DoClimb low xs middle → DoClimb middle ys high → DoClimb low (xs ++ ys) high
lines_climb {low = low} {middle = middle} {high = high} {xs = xs} {ys = ys} first second =
    record { climb = subst (λ (ns : List ℕ). Climbs low ns high) (sym (numbers_append xs ys)) (climbs_append low (numbers_in xs) middle (numbers_in ys) high first.climb second.climb) }

climbs_lower : (low lower : ℕ) (ns : List ℕ) (high : ℕ) → lower ≤ low → Climbs low ns high → Climbs lower ns high
climbs_lower low lower [] high less climbs = omega arith
climbs_lower low lower (n ∷ ns) high less climbs = (let h = climbs.0 in omega arith, climbs.1)

-- the numbers of one line
abbrev numbers_from : Field → List ℕ → List ℕ
numbers_from field words = map (λ w. field_number w.0) (fields_with_words field words)

unless_climbs : (low at_load : ℕ) (field : Field) (words : List ℕ) (high : ℕ) → low ≤ high → Climbs low (numbers_from field words) high → DoClimb low (line_unless_default at_load field words) high
unless_climbs low at_load field words high less climbs = record { climb = either (list_all (λ word. word == at_load) words) } where
  either : (b : Bool) → Climbs low (numbers_in (cond b [] ((field, words) ∷ []))) high
  either true = less
  either false = subst (λ (ws : List (Field × ℕ)). Climbs low (map (λ w. field_number w.0) ws) high) (sym (append-nil (fields_with_words field words))) climbs

rank_data : (k : ℕ) → k < 10 → rank (9 + k) ≡ 7 + k
rank_data k small = grind (arith, nat_tests)

rank_return : (k : ℕ) → k < 9 → rank (19 + k) ≡ 17 + k
rank_return k small = grind (arith, nat_tests)

rank_ram : (k : ℕ) → rank (28 + k) ≡ 28 + k
rank_ram k = grind (arith, nat_tests)

rank_rom : (k : ℕ) → rank (92 + k) ≡ 92 + k
rank_rom k = grind (arith, nat_tests)

data_climbs : (k : ℕ) (words : List ℕ) → k + length words ≤ 10 → Climbs (7 + k) (numbers_from (Data k) words) 17
data_climbs k [] few = omega arith
data_climbs k (w ∷ words) few =
    let is : rank (9 + k) ≡ 7 + k = rank_data k (omega arith) in
    (omega arith, climbs_lower (7 + (k + 1)) (rank (9 + k) + 1) (numbers_from (Data (k + 1)) words) 17 (omega arith) (data_climbs (k + 1) words (omega arith)))

return_climbs : (k : ℕ) (words : List ℕ) → k + length words ≤ 9 → Climbs (17 + k) (numbers_from (Return k) words) 26
return_climbs k [] few = omega arith
return_climbs k (w ∷ words) few =
    let is : rank (19 + k) ≡ 17 + k = rank_return k (omega arith) in
    (omega arith, climbs_lower (17 + (k + 1)) (rank (19 + k) + 1) (numbers_from (Return (k + 1)) words) 26 (omega arith) (return_climbs (k + 1) words (omega arith)))

ram_climbs : (k : ℕ) (words : List ℕ) (last : ℕ) → k + length words ≤ last → Climbs (28 + k) (numbers_from (Ram k) words) (28 + last)
ram_climbs k [] last few = omega arith
ram_climbs k (w ∷ words) last few =
    let is : rank (28 + k) ≡ 28 + k = rank_ram k in
    (omega arith, climbs_lower (28 + (k + 1)) (rank (28 + k) + 1) (numbers_from (Ram (k + 1)) words) (28 + last) (omega arith) (ram_climbs (k + 1) words last (omega arith)))

rom_climbs : (k : ℕ) (words : List ℕ) (last : ℕ) → k + length words ≤ last → Climbs (92 + k) (numbers_from (Rom k) words) (92 + last)
rom_climbs k [] last few = omega arith
rom_climbs k (w ∷ words) last few =
    let is : rank (92 + k) ≡ 92 + k = rank_rom k in
    (omega arith, climbs_lower (92 + (k + 1)) (rank (92 + k) + 1) (numbers_from (Rom (k + 1)) words) (92 + last) (omega arith) (rom_climbs (k + 1) words last (omega arith)))

-- rows that climb make a memory that climbs
rows_climb : (base : ℕ) (field : ℕ → Field) (memory : List ℕ) → ((cell : ℕ) → cell ≤ 56 → Climbs (base + cell) (numbers_from (field cell) (row_of_words memory cell)) (base + (cell + 8)))
    → DoClimb base (memory_lines field memory) (base + 64)
rows_climb base field memory climbs =
    let at : (cell : ℕ) → cell ≤ 56 → DoClimb (base + cell) (line_unless_default 0 (field cell) (row_of_words memory cell)) (base + (cell + 8)) =
    λ cell low. unless_climbs (base + cell) 0 (field cell) (row_of_words memory cell) (base + (cell + 8)) (omega arith) (climbs cell low) in
    let row : (cell : ℕ) → cell ≤ 56 → DoClimb (base + cell) (line_unless_default 0 (field cell) (row_of_words memory cell)) (base + (cell + 8)) = at in
    let first : DoClimb base (line_unless_default 0 (field 0) (row_of_words memory 0)) (base + 8) = unless_climbs base 0 (field 0) (row_of_words memory 0) (base + 8) (omega arith) (climbs_lower (base + 0) base (numbers_from (field 0) (row_of_words memory 0)) (base + 8) (omega arith) (climbs 0 (omega arith))) in
    let none : DoClimb (base + 64) [] (base + 64) = record { climb = omega arith } in
    lines_climb first
    (lines_climb (row 8 (omega arith))
    (lines_climb (row 16 (omega arith))
    (lines_climb (row 24 (omega arith))
    (lines_climb (row 32 (omega arith))
    (lines_climb (row 40 (omega arith))
    (lines_climb (row 48 (omega arith))
    (lines_climb (row 56 (omega arith)) none)))))))

registers_climb : (fresh node : NodeRecord) → DoClimb 0 (register_lines fresh node) 5
registers_climb fresh node =
    lines_climb (unless_climbs 0 fresh.a A (node.a ∷ []) 1 (omega arith) (omega arith, omega arith))
    (lines_climb (unless_climbs 1 fresh.b B (node.b ∷ []) 2 (omega arith) (omega arith, omega arith))
    (lines_climb (unless_climbs 2 fresh.p P (node.p ∷ []) 3 (omega arith) (omega arith, omega arith))
    (lines_climb (unless_climbs 3 fresh.i I (node.i ∷ []) 4 (omega arith) (omega arith, omega arith))
    (unless_climbs 4 fresh.io Io (node.io ∷ []) 5 (omega arith) (omega arith, omega arith)))))

state_climbs : (p : ℕ) (node : NodeRecord) → IsRecordInRange node → DoClimb 5 (stack_and_run_state_lines (record_at_load_defaults p) node) 28
state_climbs p node is =
    lines_climb (unless_climbs 5 0 Carry (from_bool node.carry ∷ []) 6 (omega arith) (omega arith, omega arith))
    (lines_climb (unless_climbs 6 4 Slot (node.slot ∷ []) 7 (omega arith) (omega arith, omega arith))
    (lines_climb (unless_climbs 7 initial_stack_word (Data 0) node.d 17 (omega arith) (data_climbs 0 node.d (let size = is.state.d.1 in omega arith)))
    (lines_climb (unless_climbs 17 initial_stack_word (Return 0) node.r 26 (omega arith) (return_climbs 0 node.r (let size = is.state.r.1 in omega arith)))
    (lines_climb (unless_climbs 26 0 Wait (wait_code node.wait ∷ []) 27 (omega arith) (omega arith, omega arith))
    (unless_climbs 27 0 Stop (node.stop ∷ []) 28 (omega arith) (omega arith, omega arith))))))

-- no field of a node is given twice
pub lines_apart : (p : ℕ) (node : NodeRecord) → IsRecordInRange node → IsDistinct nat_eq (numbers_in (changed_lines_since_load (record_at_load_defaults p) node))
lines_apart p node is =
    let climbing : DoClimb 0 (changed_lines_since_load (record_at_load_defaults p) node) 156 =
    lines_climb (registers_climb (record_at_load_defaults p) node)
    (lines_climb (state_climbs p node is)
    (lines_climb (rows_climb 28 Ram node.ram (λ cell low. ram_climbs cell (row_of_words node.ram cell) (cell + 8) (let size = row_size node.ram cell is.ram.1 low in omega arith)))
    (rows_climb 92 Rom node.rom (λ cell low. rom_climbs cell (row_of_words node.rom cell) (cell + 8) (let size = row_size node.rom cell is.rom.1 low in omega arith))))) in
    climbs_apart 0 (numbers_in (changed_lines_since_load (record_at_load_defaults p) node)) 156 climbing.climb

-- ---- whatever is printed is sound

-- the wait of a number names a side at least, where it is for one of a set
pub sides_of : (code : ℕ) → IsWaitCode code → HasWaitSides (wait_of_code code)
sides_of code (inl is) = rw is tt
sides_of code (inr (inl low)) =
    let more = low.0 in
    let less = low.1 in
    let some : (code == 0) ≡ false = grind (arith, nat_tests) in
    let fetch : nat_lt code 32 ≡ true = grind (arith, nat_tests) in
    rw (some, fetch) (omega arith, omega arith)
sides_of code (inr (inr (inl middle))) =
    let more = middle.0 in
    let less = middle.1 in
    let some : (code == 0) ≡ false = grind (arith, nat_tests) in
    let other : nat_lt code 32 ≡ false = grind (arith, nat_tests) in
    let read : nat_lt code 48 ≡ true = grind (arith, nat_tests) in
    rw (some, other, read) (omega arith, omega arith)
sides_of code (inr (inr (inr (inl is)))) = rw is tt
sides_of code (inr (inr (inr (inr (inl is))))) = rw is tt
sides_of code (inr (inr (inr (inr (inr (inl is)))))) = rw is tt
sides_of code (inr (inr (inr (inr (inr (inr is)))))) = rw is tt

-- a row of all words is the whole list
pub whole_row : (words : List ℕ) (size : ℕ) → length words ≡ size → take size (drop 0 words) ≡ words
whole_row words size count = take_all size words (omega arith)

-- and its words are known
pub holds_row : (size : ℕ) (found words : List ℕ) → found ≡ take size (drop 0 words) → AreEighteenBitWords found → length words ≡ size → AreStackOrMemoryWords size words
holds_row size found words row each count = (subst AreEighteenBitWords (row ∙ whole_row words size count) each, count)

-- one row more
pub rows_words : (memory : List ℕ) (number : ℕ) → AreEighteenBitWords (take (8 * number) memory) → AreEighteenBitWords (row_of_words memory (8 * number)) → AreEighteenBitWords (take (8 * (number + 1)) memory)
rows_words memory number before row =
    let next : 8 * (number + 1) ≡ 8 * number + 8 = omega arith in
    let longer : take (8 * (number + 1)) memory ≡ take (8 * number) memory ++ row_of_words memory (8 * number) = ap (λ (n : ℕ). take n memory) next ∙ take-add (8 * number) 8 memory in
    subst AreEighteenBitWords (sym longer) (all_append (λ word. word < 2 ^ 18) (take (8 * number) memory) (row_of_words memory (8 * number)) before row)

-- all rows
pub memory_words : (memory : List ℕ) (number : ℕ) → 8 ≤ number → length memory ≡ 64 → AreEighteenBitWords (take (8 * number) memory) → AreStackOrMemoryWords 64 memory
memory_words memory number past size words = (subst AreEighteenBitWords (take_all (8 * number) memory (omega arith)) words, size)

-- one more of a list
pub all_more : {X : Type 0} (Q : X → Type 0) (xs : List X) (n : ℕ) (d : X) → n < length xs → AllByRecursion Q (take n xs) → Q (get_or xs n d) → AllByRecursion Q (take (n + 1) xs)
all_more Q xs n d within before last = subst (AllByRecursion Q) (sym (take_more xs n d within)) (all_append Q (take n xs) (get_or xs n d ∷ []) before (last, tt))

-- all of it
pub all_whole : {X : Type 0} (Q : X → Type 0) (xs : List X) (n : ℕ) → length xs ≤ n → AllByRecursion Q (take n xs) → AllByRecursion Q xs
all_whole Q xs n past each = subst (AllByRecursion Q) (take_all n xs past) each
