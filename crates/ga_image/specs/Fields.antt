-- The fields of a block, the places of a field line's words, and which wait, stop and slot are consistent (docs/REFERENCE.md,
-- "Images"; this project's own).
use Rattle.std.specs.Prelude.{ℕ, ◌+◌, ◌-◌, ◌==◌, ◌||◌, nat_lt, if◌then◌else◌, Bool, true, false, List, [], ◌∷◌, slice_index_or, slice_set, ◌&&◌, not}
use Rattle.std.specs.List.{list_any}
use Rattle.ga_node.specs.declared.place.NodePlace.{NodePlace}
use Rattle.ga_node.specs.declared.place.NodePlace.TheVariants as place
use Rattle.ga_node.specs.Places.{greatest_place_value}
use Rattle.ga_image.specs.declared.field.Field.{Field}
use Rattle.ga_image.specs.declared.field.Field.TheVariants.{A, B, P, I, Io, Carry, Slot, Wait, Stop, Data, Return, Ram, Rom}
use Rattle.ga_image.specs.declared.field.Format.{Format}
use Rattle.ga_image.specs.declared.field.Format.TheVariants.{One, Two}
use Rattle.ga_image.specs.declared.field.RunState.{RunState}

-- a format has a field: format 1 has the registers A, B and P and the memories, format 2 has all
abbrev pub format_has_field : Format → Field → Bool
format_has_field Two field = true
format_has_field One A = true
format_has_field One B = true
format_has_field One P = true
format_has_field One (Ram cell) = true
format_has_field One (Rom cell) = true
format_has_field One _ = false

-- The place of a node that a field names. A node at load has the newest of its stacks' cells at 0, and the older ones follow:
-- the words of the data stack are in T, S and the cells from 0 on, and those of the return stack in R and the cells.
abbrev pub field_place : Field → NodePlace
field_place A = place.A
field_place B = place.B
field_place P = place.P
field_place I = place.I
field_place Io = place.Io
field_place Carry = place.Carry
field_place Slot = place.Slot
field_place Wait = place.Wait
field_place Stop = place.Stop
field_place (Data k) = if k == 0 then place.T else if k == 1 then place.S else place.DataCell (k - 2)
field_place (Return k) = if k == 0 then place.R else place.ReturnCell (k - 1)
field_place (Ram cell) = place.Ram cell
field_place (Rom cell) = place.Rom cell

-- how many fields a block can give
abbrev pub field_count : ℕ
field_count = 156

-- the number of a field among those that a block can give
abbrev pub field_number : Field → ℕ
field_number A = 0
field_number B = 1
field_number P = 2
field_number I = 3
field_number Io = 4
field_number Carry = 5
field_number Slot = 6
field_number Wait = 7
field_number Stop = 8
field_number (Data k) = 9 + k
field_number (Return k) = 19 + k
field_number (Ram cell) = 28 + cell
field_number (Rom cell) = 92 + cell

-- the field of the next word of a line
abbrev pub next_field : Field → Field
next_field (Data k) = Data (k + 1)
next_field (Return k) = Return (k + 1)
next_field (Ram cell) = Ram (cell + 1)
next_field (Rom cell) = Rom (cell + 1)
next_field register = register

-- words for a field and for those after it
abbrev pub fields_with_words : Field → List ℕ → List (Field × ℕ)
fields_with_words field [] = []
fields_with_words field (word ∷ words) = (field, word) ∷ fields_with_words (next_field field) words

-- whether `count` words exceed the last word of a stack or the last cell of a memory
abbrev pub row_exceeds_bank : Field → ℕ → Bool
row_exceeds_bank (Data k) count = nat_lt 10 (k + count)
row_exceeds_bank (Return k) count = nat_lt 9 (k + count)
row_exceeds_bank (Ram cell) count = nat_lt 64 (cell + count)
row_exceeds_bank (Rom cell) count = nat_lt 64 (cell + count)
row_exceeds_bank register count = false

-- the greatest word that a field holds
abbrev pub greatest_field_word : Field → ℕ
greatest_field_word field = greatest_place_value (field_place field)

-- one of the words is past the greatest of the field
abbrev pub has_too_great_word : Field → List ℕ → Bool
has_too_great_word field words = list_any (λ word. nat_lt (greatest_field_word field) word) words

-- one of the fields was given before, or is among them twice
abbrev pub has_repeated_field : List Bool → List (Field × ℕ) → Bool
has_repeated_field given [] = false
has_repeated_field given (w ∷ ws) = slice_index_or given (field_number w.0) false || has_repeated_field (slice_set given (field_number w.0) true) ws

-- ---- a block's wait, stop and slot, and which of these are consistent

-- at load a node neither waits nor is stopped, and a fetch is due
abbrev pub run_state_at_load : RunState
run_state_at_load = record { wait = 0; stop = 0; slot = 4 }

-- a block's wait, stop and slot, with a word for a field
abbrev pub run_state_with_field_word : RunState → Field → ℕ → RunState
run_state_with_field_word held Wait word = record held { wait = word }
run_state_with_field_word held Stop word = record held { stop = word }
run_state_with_field_word held Slot word = record held { slot = word }
run_state_with_field_word held _ word = held

-- a block's wait, stop and slot, with one word more
abbrev pub run_state_with_field_write : RunState → Field × ℕ → RunState
run_state_with_field_write held w = run_state_with_field_word held w.0 w.1

-- a block's wait, stop and slot after words, one after the other
abbrev pub run_state_after_words : RunState → List (Field × ℕ) → RunState
run_state_after_words held [] = held
run_state_after_words held (w ∷ ws) = run_state_after_words (run_state_with_field_write held w) ws

-- Whether a block's wait, stop and slot are inconsistent: the node waits and is stopped, or it waits for an instruction word
-- where none is due, or for another word where an instruction word is due. The numbers of waits for an instruction word are
-- below 32.
abbrev pub is_inconsistent_run_state : RunState → Bool
is_inconsistent_run_state held =
    not (held.wait == 0)
    && (not (held.stop == 0) || (if nat_lt held.wait 32 then not (held.slot == 4) else held.slot == 4))
