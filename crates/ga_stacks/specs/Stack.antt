-- The places of a stack, and the old values of those that a change overwrites.
use Rattle.std.specs.Prelude.{ℕ, ◌<◌, ◌≤◌, ◌^◌, ◌≢◌, List, [], ◌∷◌, slice_index, slice_set, AllPairs, map}
use Rattle.ga_stacks.specs.declared.place.StackPlace.{StackPlace}
use Rattle.ga_stacks.specs.declared.place.StackPlace.TheVariants.{Pointer, Top, Second, Cell}
use Rattle.ga_stacks.specs.Ring.{StackRing}

-- the value at a place
abbrev pub stack_word_at_place : StackRing → StackPlace → ℕ
stack_word_at_place ring Pointer = ring.pointer
stack_word_at_place ring Top = slice_index ring.registers 0
stack_word_at_place ring Second = slice_index ring.registers 1
stack_word_at_place ring (Cell k) = slice_index ring.cells k

-- the stack with another value at a place
abbrev pub stack_with_word : StackRing → StackPlace → ℕ → StackRing
stack_with_word ring Pointer value = record ring { pointer = value }
stack_with_word ring Top value = record ring { registers = slice_set ring.registers 0 value }
stack_with_word ring Second value = record ring { registers = slice_set ring.registers 1 value }
stack_with_word ring (Cell k) value = record ring { cells = slice_set ring.cells k value }

-- the stack with its old values written back, the last of them first
abbrev pub stack_with_restored_words : StackRing → List (StackPlace × ℕ) → StackRing
stack_with_restored_words ring [] = ring
stack_with_restored_words ring (saved ∷ rest) = stack_with_word (stack_with_restored_words ring rest) saved.0 saved.1

-- whether a stack with this number of registers has the place
abbrev pub HasStackPlace : ℕ → StackPlace → Type 0
HasStackPlace registers Pointer = Unit {0}
HasStackPlace registers Top = Unit {0}
HasStackPlace registers Second = 2 ≤ registers
HasStackPlace registers (Cell k) = k < 8

-- a value in its place's range
abbrev pub FitsStackPlace : StackPlace → ℕ → Type 0
FitsStackPlace Pointer value = value < 8
FitsStackPlace Top value = value < 2 ^ 18
FitsStackPlace Second value = value < 2 ^ 18
FitsStackPlace (Cell k) value = value < 2 ^ 18

-- whether these can be old values of a stack with this number of registers: places of that stack, with values in their ranges
abbrev pub AreStackValuesInRange : ℕ → List (StackPlace × ℕ) → Type 0
AreStackValuesInRange registers [] = Unit {0}
AreStackValuesInRange registers (saved ∷ rest) = HasStackPlace registers saved.0 × FitsStackPlace saved.0 saved.1 × AreStackValuesInRange registers rest

-- some places, each with its value in the stack
abbrev pub stack_places_with_values : StackRing → List StackPlace → List (StackPlace × ℕ)
stack_places_with_values ring places = map (λ place. (place, stack_word_at_place ring place)) places

-- whether no place of a stack is twice in the list
abbrev pub AreSavedPlacesDistinct : List (StackPlace × ℕ) → Type 0
AreSavedPlacesDistinct saved = AllPairs (λ a b. a.0 ≢ b.0) saved
