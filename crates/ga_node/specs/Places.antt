-- The places of a node: how great their values are.
use Rattle.std.specs.Prelude.{ℕ}
use Rattle.ga_node.specs.declared.place.NodePlace.{NodePlace}
use Rattle.ga_node.specs.declared.place.NodePlace.TheVariants.{T, S, DataCell, DataPointer, R, ReturnCell, ReturnPointer, Ram, Rom, A, B, P, I, Slot, Io, Carry, Wait, Stop}

-- the greatest value of a place
abbrev pub greatest_place_value : NodePlace → ℕ
greatest_place_value T = 0x3ffff
greatest_place_value S = 0x3ffff
greatest_place_value (DataCell cell) = 0x3ffff
greatest_place_value DataPointer = 7
greatest_place_value R = 0x3ffff
greatest_place_value (ReturnCell cell) = 0x3ffff
greatest_place_value ReturnPointer = 7
greatest_place_value (Ram cell) = 0x3ffff
greatest_place_value (Rom cell) = 0x3ffff
greatest_place_value A = 0x3ffff
greatest_place_value B = 0x1ff
greatest_place_value P = 0x3ff
greatest_place_value I = 0x3ffff
greatest_place_value Slot = 4
greatest_place_value Io = 0x3ffff
greatest_place_value Carry = 1
greatest_place_value Wait = 56
greatest_place_value Stop = 3
