-- The value of a node at a place, for the places whose old values can be queried alone (F18A Technology Reference DB001,
-- registers and memory).
use Rattle.std.specs.Prelude.{ℕ, ◌≡◌, slice_index}
use Rattle.ga_node.specs.Record.{NodeRecord}
use Rattle.ga_node.specs.State.{wait_of_code}
use Rattle.ga_node.specs.declared.place.NodePlace.{NodePlace}
use Rattle.ga_node.specs.declared.place.NodePlace.TheVariants.{T, S, R, P, I, A, B, Ram, Slot, Wait}

-- whether a node has this value at a place: on top of a stack or in S, in P, I, A, B or a cell of RAM, as its slot, or as the number of
-- its wait; true for other places
abbrev pub HoldsPlaceValue : NodeRecord → NodePlace → ℕ → Type 0
HoldsPlaceValue node T value = slice_index node.d 0 ≡ value
HoldsPlaceValue node S value = slice_index node.d 1 ≡ value
HoldsPlaceValue node R value = slice_index node.r 0 ≡ value
HoldsPlaceValue node P value = node.p ≡ value
HoldsPlaceValue node I value = node.i ≡ value
HoldsPlaceValue node A value = node.a ≡ value
HoldsPlaceValue node B value = node.b ≡ value
HoldsPlaceValue node (Ram cell) value = slice_index node.ram cell ≡ value
HoldsPlaceValue node Slot value = node.slot ≡ value
HoldsPlaceValue node Wait value = node.wait ≡ wait_of_code value
HoldsPlaceValue node _ value = Unit {0}
