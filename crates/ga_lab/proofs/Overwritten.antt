-- The value of a place right before a step, by the step's entry.
use Rattle.std.proofs.Common.{◌≡◌, ℕ, zero, suc, ◌≤◌, List, [], ◌∷◌, ◌++◌, length, take, drop, refl, sym, ◌∙◌, ap, subst, arith, ◌+◌, ◌<◌, ◌==◌, Bool, true, false, cond, Option, Some, None, ⊎_elim}
use Rattle.std.proofs.lemmas.List.{take-append-drop, length-set, get_or-set_same, get_or-set_other}
use Rattle.ga_node.specs.Record.{NodeState, NodeRecord, HasValidListSizes, record_of_node}
use Rattle.ga_event.specs.Undo.{CanRestoreNode}
use Rattle.ga_event.specs.Told.{count_steps}
use Rattle.ga_journal.specs.Histories.{EntryRecord, JournalState, history}
use Rattle.ga_journal.specs.Walked.{node_before_entries, CanRestoreEntries, old_value_or_previous, old_value_of_place, value_before_entry, overwritten_value}
use Rattle.ga_journal.proofs.Logs.{steps_log}
use Rattle.ga_lab.specs.inner.LabInvariant.{AreHistoriesOfChip, state_of}
use Rattle.ga_lab.proofs.Stepping.{whole_of}
use Rattle.ga_lab.proofs.Replays.{kept_steps, peeked, steps_front, can_peek}
use Rattle.ga_rollback.proofs.Link.{walked-append}
use Rattle.std.specs.Prelude.{IfSome, IfNone, slice_index, slice_set}
use Rattle.std.proofs.lemmas.Bool.{eqb-true, eqb-false}
use Rattle.std.proofs.lemmas.Option.{none-some, slice_get_cases}
use Rattle.ga_node.specs.declared.place.NodePlace.{NodePlace}
use Rattle.ga_node.specs.declared.place.NodePlace.TheVariants.{T, S, DataCell, DataPointer, R, ReturnCell, ReturnPointer, P, I, A, B, Ram, Slot, Wait}
use Rattle.ga_node.specs.State.{wait_of_code, node_with_restored_values, node_with_value, IsPlaceValueInRange, ArePlaceValuesValid}
use Rattle.ga_grid.specs.Chip.{node_at, node_record_at}
use Rattle.ga_journal.proofs.Walks.{overwritten_within, walked_one, can_one}
use Rattle.ga_lab.specs.Machine.{chip_of_machine, earlier_state}
use Rattle.ga_lab.specs.Holding.{HoldsPlaceValue}

-- ---- A node walked back in parts

can-append : (now : NodeState) (older newer : List EntryRecord) → CanRestoreEntries now (older ++ newer) → CanRestoreEntries (node_before_entries now newer) older
can-append now [] newer can = tt
can-append now (x ∷ xs) newer can = (subst (λ (z : NodeState). CanRestoreNode z x.saved) (walked-append now xs newer) can.0, can-append now xs newer can.1)

between : (to from : ℕ) (h : List EntryRecord) → to ≤ from → drop to h ≡ drop to (take from h) ++ drop from h
between zero from h l = sym (take-append-drop from h)
between (suc to) zero h l = absurd (omega (arith, l))
between (suc to) (suc from) [] l = refl
between (suc to) (suc from) (x ∷ xs) l = between to from xs (omega (arith, l))

-- what was walked back to one step can be walked back to an earlier one, and is then as if it had been walked back there at once
pub can_between : (now behind : NodeState) (to from : ℕ) (h : List EntryRecord) → to ≤ from → behind ≡ node_before_entries now (drop from h) → CanRestoreEntries now (drop to h) → CanRestoreEntries behind (drop to (take from h))
can_between now behind to from h l is can =
    subst (λ (z : NodeState). CanRestoreEntries z (drop to (take from h))) (sym is) (can-append now (drop to (take from h)) (drop from h) (subst (CanRestoreEntries now) (between to from h l) can))

pub walked_between : (now behind last : NodeState) (to from : ℕ) (h : List EntryRecord) → to ≤ from → behind ≡ node_before_entries now (drop from h) → last ≡ node_before_entries behind (drop to (take from h)) → last ≡ node_before_entries now (drop to h)
walked_between now behind last to from h l is e =
    e ∙ ap (λ (z : NodeState). node_before_entries z (drop to (take from h))) is ∙ sym (walked-append now (drop to (take from h)) (drop from h)) ∙ ap (node_before_entries now) (sym (between to from h l))

-- a node's history has as many entries as the history of all events has steps of the node
pub kept_long : (chip : List NodeState) (book : JournalState) (n : ℕ) → AreHistoriesOfChip chip book → length (history book.histories n) ≡ count_steps n (state_of chip book).kept
kept_long chip book n tied = steps_log book n (whole_of chip book tied) ∙ kept_steps chip book n

pub if_some : (o : Option ℕ) (Q : ℕ → Type 0) → ((old : ℕ) → o ≡ Some old → Q old) → IfSome o Q
if_some None Q h = tt
if_some (Some old) Q h = h old refl

pub if_none : (o : Option ℕ) (Q : Type 0) → (o ≡ None → Q) → IfNone o Q
if_none None Q h = h refl
if_none (Some old) Q h = tt

-- ---- one old value written back

same_some : {x y : ℕ} → Some x ≡ Some y → x ≡ y
same_some h = cc

written_ram : (ram : List ℕ) (cell other old value : ℕ) (later : Option ℕ) (same : Bool) → (cell == other) ≡ same → other < length ram
    → (later ≡ Some value → slice_index ram cell ≡ value) → cond same (Some old) later ≡ Some value → slice_index (slice_set ram other old) cell ≡ value
written_ram ram cell other old value later true is within rest h =
    ap (slice_index (slice_set ram other old)) (eqb-true cell other is) ∙ get_or-set_same ram other old _ within ∙ same_some h
written_ram ram cell other old value later false is within rest h = get_or-set_other ram other cell old _ (eqb-false cell other is) ∙ rest h

left_ram : (ram : List ℕ) (cell other old value : ℕ) (later : Option ℕ) (same : Bool) → (cell == other) ≡ same
    → (later ≡ None → slice_index ram cell ≡ value) → cond same (Some old) later ≡ None → slice_index (slice_set ram other old) cell ≡ value
left_ram ram cell other old value later true is rest h = absurd (none-some old (sym h))
left_ram ram cell other old value later false is rest h = get_or-set_other ram other cell old _ (eqb-false cell other is) ∙ rest h

-- a node has all its registers and cells
pub record IsWhole (node : NodeState) : Type 0 where
  ram : length node.ram ≡ 64
  words : length node.data_stack.registers ≡ 2
  returns : length node.return_stack.registers ≡ 1

-- the cells of a node's stacks as lists, from the newest on and those before it
abbrev data_from : NodeState → List ℕ
data_from node = drop node.data_stack.pointer node.data_stack.cells

abbrev data_before : NodeState → List ℕ
data_before node = take node.data_stack.pointer node.data_stack.cells

abbrev return_from : NodeState → List ℕ
return_from node = drop node.return_stack.pointer node.return_stack.cells

abbrev return_before : NodeState → List ℕ
return_before node = take node.return_stack.pointer node.return_stack.cells

-- the registers of a stack, when one of them is written
first_written : (registers from before : List ℕ) (old : ℕ) → 0 < length registers → slice_index ((slice_set registers 0 old ++ from) ++ before) 0 ≡ old
first_written [] from before old l = absurd (omega (arith, l))
first_written (x ∷ xs) from before old l = refl

second_written : (registers from before : List ℕ) (old : ℕ) → 1 < length registers → slice_index ((slice_set registers 1 old ++ from) ++ before) 1 ≡ old
second_written [] from before old l = absurd (omega (arith, l))
second_written (x ∷ []) from before old l = absurd (omega (arith, l))
second_written (x ∷ y ∷ ys) from before old l = refl

first_left : (registers from before : List ℕ) (old : ℕ) → slice_index ((slice_set registers 1 old ++ from) ++ before) 0 ≡ slice_index ((registers ++ from) ++ before) 0
first_left [] from before old = refl
first_left (x ∷ xs) from before old = refl

second_left : (registers from before : List ℕ) (old : ℕ) → slice_index ((slice_set registers 0 old ++ from) ++ before) 1 ≡ slice_index ((registers ++ from) ++ before) 1
second_left [] from before old = refl
second_left (x ∷ xs) from before old = refl

-- and when the cells are
first_over : (registers from before other last : List ℕ) → 0 < length registers → slice_index ((registers ++ from) ++ before) 0 ≡ slice_index ((registers ++ other) ++ last) 0
first_over [] from before other last l = absurd (omega (arith, l))
first_over (x ∷ xs) from before other last l = refl

second_over : (registers from before other last : List ℕ) → 1 < length registers → slice_index ((registers ++ from) ++ before) 1 ≡ slice_index ((registers ++ other) ++ last) 1
second_over [] from before other last l = absurd (omega (arith, l))
second_over (x ∷ []) from before other last l = absurd (omega (arith, l))
second_over (x ∷ y ∷ ys) from before other last l = refl

has_top : (node : NodeState) → IsWhole node → 0 < length node.data_stack.registers
has_top node whole = omega (arith, whole.words)

has_second : (node : NodeState) → IsWhole node → 1 < length node.data_stack.registers
has_second node whole = omega (arith, whole.words)

has_return : (node : NodeState) → IsWhole node → 0 < length node.return_stack.registers
has_return node whole = omega (arith, whole.returns)

-- what a place that was written holds, and another
holds_old : (what place : NodePlace) (old value : ℕ) (node : NodeState) (later : Option ℕ) → IsPlaceValueInRange place old → IsWhole node
    → (later ≡ Some value → HoldsPlaceValue (record_of_node node) what value) → old_value_or_previous what place old later ≡ Some value → HoldsPlaceValue (record_of_node (node_with_value node place old)) what value
unfolding record_of_node
holds_old T T old value node later fit whole rest h = first_written node.data_stack.registers (data_from node) (data_before node) old (has_top node whole) ∙ same_some h
holds_old T S old value node later fit whole rest h = first_left node.data_stack.registers (data_from node) (data_before node) old ∙ rest h
holds_old T (DataCell cell) old value node later fit whole rest h = first_over node.data_stack.registers (data_from (node_with_value node (DataCell cell) old)) (data_before (node_with_value node (DataCell cell) old)) (data_from node) (data_before node) (has_top node whole) ∙ rest h
holds_old T DataPointer old value node later fit whole rest h = first_over node.data_stack.registers (data_from (node_with_value node DataPointer old)) (data_before (node_with_value node DataPointer old)) (data_from node) (data_before node) (has_top node whole) ∙ rest h
holds_old T place old value node later fit whole rest h = rest h
holds_old S S old value node later fit whole rest h = second_written node.data_stack.registers (data_from node) (data_before node) old (has_second node whole) ∙ same_some h
holds_old S T old value node later fit whole rest h = second_left node.data_stack.registers (data_from node) (data_before node) old ∙ rest h
holds_old S (DataCell cell) old value node later fit whole rest h = second_over node.data_stack.registers (data_from (node_with_value node (DataCell cell) old)) (data_before (node_with_value node (DataCell cell) old)) (data_from node) (data_before node) (has_second node whole) ∙ rest h
holds_old S DataPointer old value node later fit whole rest h = second_over node.data_stack.registers (data_from (node_with_value node DataPointer old)) (data_before (node_with_value node DataPointer old)) (data_from node) (data_before node) (has_second node whole) ∙ rest h
holds_old S place old value node later fit whole rest h = rest h
holds_old R R old value node later fit whole rest h = first_written node.return_stack.registers (return_from node) (return_before node) old (has_return node whole) ∙ same_some h
holds_old R (ReturnCell cell) old value node later fit whole rest h = first_over node.return_stack.registers (return_from (node_with_value node (ReturnCell cell) old)) (return_before (node_with_value node (ReturnCell cell) old)) (return_from node) (return_before node) (has_return node whole) ∙ rest h
holds_old R ReturnPointer old value node later fit whole rest h = first_over node.return_stack.registers (return_from (node_with_value node ReturnPointer old)) (return_before (node_with_value node ReturnPointer old)) (return_from node) (return_before node) (has_return node whole) ∙ rest h
holds_old R place old value node later fit whole rest h = rest h
holds_old I I old value node later fit whole rest h = same_some h
holds_old I place old value node later fit whole rest h = rest h
holds_old Slot Slot old value node later fit whole rest h = same_some h
holds_old Slot place old value node later fit whole rest h = rest h
holds_old P P old value node later fit whole rest h = same_some h
holds_old P place old value node later fit whole rest h = rest h
holds_old A A old value node later fit whole rest h = same_some h
holds_old A place old value node later fit whole rest h = rest h
holds_old B B old value node later fit whole rest h = same_some h
holds_old B place old value node later fit whole rest h = rest h
holds_old Wait Wait old value node later fit whole rest h = ap wait_of_code (same_some h)
holds_old Wait place old value node later fit whole rest h = rest h
holds_old (Ram cell) (Ram other) old value node later fit whole rest h =
    written_ram node.ram cell other old value later (cell == other) refl (omega (arith, fit.0, whole.ram)) rest h
holds_old (Ram cell) place old value node later fit whole rest h = rest h
holds_old what place old value node later fit whole rest h = tt

holds_left : (what place : NodePlace) (old value : ℕ) (node : NodeState) (later : Option ℕ) → IsWhole node
    → (later ≡ None → HoldsPlaceValue (record_of_node node) what value) → old_value_or_previous what place old later ≡ None → HoldsPlaceValue (record_of_node (node_with_value node place old)) what value
unfolding record_of_node
holds_left T T old value node later whole rest h = absurd (none-some old (sym h))
holds_left T S old value node later whole rest h = first_left node.data_stack.registers (data_from node) (data_before node) old ∙ rest h
holds_left T (DataCell cell) old value node later whole rest h = first_over node.data_stack.registers (data_from (node_with_value node (DataCell cell) old)) (data_before (node_with_value node (DataCell cell) old)) (data_from node) (data_before node) (has_top node whole) ∙ rest h
holds_left T DataPointer old value node later whole rest h = first_over node.data_stack.registers (data_from (node_with_value node DataPointer old)) (data_before (node_with_value node DataPointer old)) (data_from node) (data_before node) (has_top node whole) ∙ rest h
holds_left T place old value node later whole rest h = rest h
holds_left S S old value node later whole rest h = absurd (none-some old (sym h))
holds_left S T old value node later whole rest h = second_left node.data_stack.registers (data_from node) (data_before node) old ∙ rest h
holds_left S (DataCell cell) old value node later whole rest h = second_over node.data_stack.registers (data_from (node_with_value node (DataCell cell) old)) (data_before (node_with_value node (DataCell cell) old)) (data_from node) (data_before node) (has_second node whole) ∙ rest h
holds_left S DataPointer old value node later whole rest h = second_over node.data_stack.registers (data_from (node_with_value node DataPointer old)) (data_before (node_with_value node DataPointer old)) (data_from node) (data_before node) (has_second node whole) ∙ rest h
holds_left S place old value node later whole rest h = rest h
holds_left R R old value node later whole rest h = absurd (none-some old (sym h))
holds_left R (ReturnCell cell) old value node later whole rest h = first_over node.return_stack.registers (return_from (node_with_value node (ReturnCell cell) old)) (return_before (node_with_value node (ReturnCell cell) old)) (return_from node) (return_before node) (has_return node whole) ∙ rest h
holds_left R ReturnPointer old value node later whole rest h = first_over node.return_stack.registers (return_from (node_with_value node ReturnPointer old)) (return_before (node_with_value node ReturnPointer old)) (return_from node) (return_before node) (has_return node whole) ∙ rest h
holds_left R place old value node later whole rest h = rest h
holds_left I I old value node later whole rest h = absurd (none-some old (sym h))
holds_left I place old value node later whole rest h = rest h
holds_left Slot Slot old value node later whole rest h = absurd (none-some old (sym h))
holds_left Slot place old value node later whole rest h = rest h
holds_left P P old value node later whole rest h = absurd (none-some old (sym h))
holds_left P place old value node later whole rest h = rest h
holds_left A A old value node later whole rest h = absurd (none-some old (sym h))
holds_left A place old value node later whole rest h = rest h
holds_left B B old value node later whole rest h = absurd (none-some old (sym h))
holds_left B place old value node later whole rest h = rest h
holds_left Wait Wait old value node later whole rest h = absurd (none-some old (sym h))
holds_left Wait place old value node later whole rest h = rest h
holds_left (Ram cell) (Ram other) old value node later whole rest h = left_ram node.ram cell other old value later (cell == other) refl rest h
holds_left (Ram cell) place old value node later whole rest h = rest h
holds_left what place old value node later whole rest h = tt

fits_old : (what place : NodePlace) (old value : ℕ) (later : Option ℕ) → IsPlaceValueInRange place old → (later ≡ Some value → IsPlaceValueInRange what value) → old_value_or_previous what place old later ≡ Some value → IsPlaceValueInRange what value
fits_old T T old value later fit rest h = subst (IsPlaceValueInRange T) (same_some h) fit
fits_old S S old value later fit rest h = subst (IsPlaceValueInRange S) (same_some h) fit
fits_old R R old value later fit rest h = subst (IsPlaceValueInRange R) (same_some h) fit
fits_old I I old value later fit rest h = subst (IsPlaceValueInRange I) (same_some h) fit
fits_old Slot Slot old value later fit rest h = subst (IsPlaceValueInRange Slot) (same_some h) fit
fits_old P P old value later fit rest h = subst (IsPlaceValueInRange P) (same_some h) fit
fits_old A A old value later fit rest h = subst (IsPlaceValueInRange A) (same_some h) fit
fits_old B B old value later fit rest h = subst (IsPlaceValueInRange B) (same_some h) fit
fits_old Wait Wait old value later fit rest h = subst (IsPlaceValueInRange Wait) (same_some h) fit
fits_old (Ram cell) (Ram other) old value later fit rest h = by_cell (cell == other) refl h
  where
    by_cell : (same : Bool) → (cell == other) ≡ same → cond same (Some old) later ≡ Some value → IsPlaceValueInRange (Ram cell) value
    by_cell true is g = subst (IsPlaceValueInRange (Ram cell)) (same_some g) (subst (λ (k : ℕ). IsPlaceValueInRange (Ram k) old) (sym (eqb-true cell other is)) fit)
    by_cell false is g = rest g
fits_old what place old value later fit rest h = rest h

-- ---- all of an event, and of many

fit_among : (what : NodePlace) (saved : List (NodePlace × ℕ)) (value : ℕ) → ArePlaceValuesValid saved → old_value_of_place what saved ≡ Some value → IsPlaceValueInRange what value
unfolding ArePlaceValuesValid
fit_among what [] value fit h = absurd (none-some value h)
fit_among what (x ∷ rest) value fit h = fits_old what x.0 x.1 value (old_value_of_place what rest) fit.0 (fit_among what rest value fit.1) h

whole_with : (place : NodePlace) (old : ℕ) (node : NodeState) → IsWhole node → IsWhole (node_with_value node place old)
whole_with T old node whole = record { ram = whole.ram; words = length-set node.data_stack.registers 0 old ∙ whole.words; returns = whole.returns }
whole_with S old node whole = record { ram = whole.ram; words = length-set node.data_stack.registers 1 old ∙ whole.words; returns = whole.returns }
whole_with R old node whole = record { ram = whole.ram; words = whole.words; returns = length-set node.return_stack.registers 0 old ∙ whole.returns }
whole_with (Ram cell) old node whole = record { ram = length-set node.ram cell old ∙ whole.ram; words = whole.words; returns = whole.returns }
whole_with place old node whole = record { ram = whole.ram; words = whole.words; returns = whole.returns }

whole_restored : (node : NodeState) (saved : List (NodePlace × ℕ)) → IsWhole node → IsWhole (node_with_restored_values node saved)
unfolding node_with_restored_values
whole_restored node [] whole = whole
whole_restored node (x ∷ rest) whole = whole_with x.0 x.1 (node_with_restored_values node rest) (whole_restored node rest whole)

whole_walked : (node : NodeState) (es : List EntryRecord) → IsWhole node → IsWhole (node_before_entries node es)
whole_walked node [] whole = whole
whole_walked node (e ∷ es) whole = whole_restored (node_before_entries node es) e.saved (whole_walked node es whole)

restored_old : (what : NodePlace) (node : NodeState) (saved : List (NodePlace × ℕ)) (value : ℕ) → ArePlaceValuesValid saved → IsWhole node → old_value_of_place what saved ≡ Some value
    → HoldsPlaceValue (record_of_node (node_with_restored_values node saved)) what value
unfolding node_with_restored_values ArePlaceValuesValid
restored_old what node [] value fit whole h = absurd (none-some value h)
restored_old what node (x ∷ rest) value fit whole h =
    holds_old what x.0 x.1 value (node_with_restored_values node rest) (old_value_of_place what rest) fit.0 (whole_restored node rest whole) (restored_old what node rest value fit.1 whole) h

restored_left : (what : NodePlace) (node : NodeState) (saved : List (NodePlace × ℕ)) (value : ℕ) → IsWhole node → HoldsPlaceValue (record_of_node node) what value → old_value_of_place what saved ≡ None
    → HoldsPlaceValue (record_of_node (node_with_restored_values node saved)) what value
unfolding node_with_restored_values
restored_left what node [] value whole held h = held
restored_left what node (x ∷ rest) value whole held h =
    holds_left what x.0 x.1 value (node_with_restored_values node rest) (old_value_of_place what rest) (whole_restored node rest whole) (restored_left what node rest value whole held) h

walked_old : (now : NodeState) (h : List EntryRecord) (k value : ℕ) (what : NodePlace) → IsWhole now → CanRestoreEntries now (drop k h) → overwritten_value h k what ≡ Some value
    → HoldsPlaceValue (record_of_node (node_before_entries now (drop k h))) what value
walked_old now h k value what whole can is = ⊎_elim
    (λ found.
    let fit : CanRestoreNode (node_before_entries now (drop (k + 1) h)) found.0.saved = can_one now h k found.0 found.2 can in
    subst (λ (z : NodeState). HoldsPlaceValue (record_of_node z) what value) (sym (walked_one now h k found.0 found.2))
    (restored_old what (node_before_entries now (drop (k + 1) h)) found.0.saved value fit.fit (whole_walked now (drop (k + 1) h) whole) (sym (ap (value_before_entry what) found.2) ∙ is)))
    (λ past. absurd (none-some value (sym (ap (value_before_entry what) past.1) ∙ is)))
    (slice_get_cases h k).1

walked_fits : (now : NodeState) (h : List EntryRecord) (k value : ℕ) (what : NodePlace) → CanRestoreEntries now (drop k h) → overwritten_value h k what ≡ Some value → IsPlaceValueInRange what value
walked_fits now h k value what can is = ⊎_elim
    (λ found.
    let fit : CanRestoreNode (node_before_entries now (drop (k + 1) h)) found.0.saved = can_one now h k found.0 found.2 can in
    fit_among what found.0.saved value fit.fit (sym (ap (value_before_entry what) found.2) ∙ is))
    (λ past. absurd (none-some value (sym (ap (value_before_entry what) past.1) ∙ is)))
    (slice_get_cases h k).1

walked_left : (now : NodeState) (h : List EntryRecord) (k value : ℕ) (what : NodePlace) → IsWhole now → k < length h → overwritten_value h k what ≡ None
    → HoldsPlaceValue (record_of_node (node_before_entries now (drop (k + 1) h))) what value → HoldsPlaceValue (record_of_node (node_before_entries now (drop k h))) what value
walked_left now h k value what whole l is held = ⊎_elim
    (λ found.
    subst (λ (z : NodeState). HoldsPlaceValue (record_of_node z) what value) (sym (walked_one now h k found.0 found.2))
    (restored_left what (node_before_entries now (drop (k + 1) h)) found.0.saved value (whole_walked now (drop (k + 1) h) whole) held (sym (ap (value_before_entry what) found.2) ∙ is)))
    (λ past. absurd (omega (arith, l, past.0)))
    (slice_get_cases h k).1

-- ---- of a node of a lab

-- the record of a node after `at` of its steps
there : (chip : List NodeState) (book : JournalState) (n at place : ℕ) → AreHistoriesOfChip chip book → count_steps n (take place (state_of chip book).kept) ≡ at
    → record_of_node (node_before_entries (node_at chip n) (drop at (history book.histories n))) ≡ node_record_at (chip_of_machine (earlier_state (state_of chip book) place)) n
there chip book n at place tied so_many = peeked chip book n place at (node_before_entries (node_at chip n) (drop at (history book.histories n))) tied so_many refl

-- a node that is stored has all its registers and cells
pub is_whole : (node : NodeState) → HasValidListSizes (record_of_node node) → length node.data_stack.registers ≡ 2 → length node.return_stack.registers ≡ 1 → IsWhole node
unfolding record_of_node
is_whole node sizes words returns = record { ram = sizes.ram; words = words; returns = returns }

pub old_is : (chip : List NodeState) (book : JournalState) (n at value place : ℕ) (what : NodePlace) → AreHistoriesOfChip chip book → IsWhole (node_at chip n)
    → overwritten_value (history book.histories n) at what ≡ Some value → count_steps n (take place (state_of chip book).kept) ≡ at
    → HoldsPlaceValue (node_record_at (chip_of_machine (earlier_state (state_of chip book) place)) n) what value
old_is chip book n at value place what tied whole is so_many =
    subst (λ (z : NodeRecord). HoldsPlaceValue z what value) (there chip book n at place tied so_many)
    (walked_old (node_at chip n) (history book.histories n) at value what whole (can_peek chip book n at tied) is)

pub old_in_range : (chip : List NodeState) (book : JournalState) (n at value : ℕ) (what : NodePlace) → AreHistoriesOfChip chip book → overwritten_value (history book.histories n) at what ≡ Some value → IsPlaceValueInRange what value
old_in_range chip book n at value what tied is = walked_fits (node_at chip n) (history book.histories n) at value what (can_peek chip book n at tied) is

pub old_within : (chip : List NodeState) (book : JournalState) (n at value : ℕ) (what : NodePlace) → AreHistoriesOfChip chip book → overwritten_value (history book.histories n) at what ≡ Some value
    → at < count_steps n (state_of chip book).kept
old_within chip book n at value what tied is =
    let long = kept_long chip book n tied in
    let within = overwritten_within (history book.histories n) at value what is in omega (arith, long, within)

pub stays_there : (chip : List NodeState) (book : JournalState) (n at before behind value : ℕ) (what : NodePlace) → AreHistoriesOfChip chip book → IsWhole (node_at chip n)
    → overwritten_value (history book.histories n) at what ≡ None
    → count_steps n (take before (state_of chip book).kept) ≡ at → count_steps n (take behind (state_of chip book).kept) ≡ at + 1
    → HoldsPlaceValue (node_record_at (chip_of_machine (earlier_state (state_of chip book) behind)) n) what value → HoldsPlaceValue (node_record_at (chip_of_machine (earlier_state (state_of chip book) before)) n) what value
stays_there chip book n at before behind value what tied whole is first second held =
    let within : at < length (history book.histories n) =
    (let front = steps_front n behind (state_of chip book).kept in let long = kept_long chip book n tied in omega (arith, front, long, second)) in
    subst (λ (z : NodeRecord). HoldsPlaceValue z what value) (there chip book n at before tied first)
    (walked_left (node_at chip n) (history book.histories n) at value what whole within is
    (subst (λ (z : NodeRecord). HoldsPlaceValue z what value) (sym (there chip book n (at + 1) behind tied second)) held))
