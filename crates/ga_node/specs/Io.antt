-- What a read of `io` shows of the neighbours (F18A Technology Reference DB001, the `io` register; the whole table is a choice
-- of this project's own: which bits a side has, what sets and clears them, every other bit, and what counts as waiting).
use Rattle.std.specs.Prelude.{ℕ, ◌+◌, ◌^◌}
use Rattle.ga_node.specs.declared.seen.NeighbourState.{NeighbourState}
use Rattle.ga_node.specs.declared.seen.NeighbourState.TheVariants.{Nobody, Idle, Reading, Writing}
use Rattle.ga_node.specs.declared.seen.SeenNeighbours.{SeenNeighbours}

-- what a side shows in its two bits: the first is cleared where the neighbour waits reading a set with the side, and the
-- second is set where it waits writing the side
abbrev pub side_io_bits : NeighbourState → ℕ → ℕ → ℕ
side_io_bits Nobody first second = 2 ^ first
side_io_bits Idle first second = 2 ^ first
side_io_bits Reading first second = 0
side_io_bits Writing first second = 2 ^ first + 2 ^ second

-- 015555 with the bits that each side shows; where no neighbour waits it is 015555 itself
unfoldable pub io_word : SeenNeighbours → ℕ
io_word seen =
    0x155
    + side_io_bits seen.right 16 15
    + side_io_bits seen.down 14 13
    + side_io_bits seen.left 12 11
    + side_io_bits seen.up 10 9

-- no neighbour on any side; an event that reads nothing is the same for all neighbours
abbrev pub no_neighbours : SeenNeighbours
no_neighbours = record { right = Nobody; down = Nobody; left = Nobody; up = Nobody }
