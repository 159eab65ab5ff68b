-- Which words of a chip its source gives (docs/REFERENCE.md, "Source" and "Causes"; this project's own).
use Rattle.std.specs.Prelude.{ℕ, ◌-◌, nat_lt, ◌||◌, ◌≡◌, if◌then◌else◌, Bool, List, [], ◌∷◌, ◌++◌, map, flat_map, is_some, Some}
use Rattle.ga_node.specs.declared.place.NodePlace.{NodePlace}
use Rattle.ga_node.specs.declared.place.NodePlace.TheVariants.{A, B, P, Ram, Rom}
use Rattle.ga_grid.specs.declared.node_id.NodeId.{NodeId}
use Rattle.ga_image.specs.declared.given.GivenRange.{GivenRange}
use Rattle.ga_image.specs.Given.{ranges_of_given_words}
use Rattle.ga_source.specs.declared.program.Program.{Program}
use Rattle.ga_source.specs.Programs.{requests_have_cells}
use Rattle.ga_debug_info.specs.declared.notes.CellSource.{CellSource}
use Rattle.ga_debug_info.specs.declared.notes.DebugInfo.{DebugInfo}

-- a word of a node
abbrev pub given_range_of_word : NodeId → NodePlace → GivenRange
given_range_of_word node place = record { node = node; first = place; count = 1 }

abbrev pub word_range_if_given : Bool → NodeId → NodePlace → List GivenRange
word_range_if_given given node place = if given then given_range_of_word node place ∷ [] else []

-- The registers that a program gives: A and B by their words, P also by its cells, which begin at `main` or 0.
abbrev pub given_ranges_of_registers : Program → List GivenRange
given_ranges_of_registers program =
    word_range_if_given (is_some program.registers.a) program.node A
    ++ word_range_if_given (is_some program.registers.b) program.node B
    ++ word_range_if_given (is_some program.registers.p || requests_have_cells program.asked.items) program.node P

-- a cell as a place: 0 to 63 of RAM, 128 to 191 of ROM
abbrev pub cell_as_node_place : ℕ → NodePlace
cell_as_node_place cell = if nat_lt cell 128 then Ram cell else Rom (cell - 128)

abbrev pub given_range_of_cell_source : CellSource → GivenRange
given_range_of_cell_source note = given_range_of_word note.node (cell_as_node_place note.cell)

-- the words that programs give: registers, and the cells of which the source says something
abbrev pub given_ranges_of_source : List Program → List CellSource → List GivenRange
given_ranges_of_source programs notes = flat_map given_ranges_of_registers programs ++ map given_range_of_cell_source notes

-- debug info has the words that programs give
abbrev pub HasGivenRangesOfSource : List Program → DebugInfo → Type 0
HasGivenRangesOfSource programs notes = ranges_of_given_words notes.given ≡ Some (given_ranges_of_source programs notes.notes.items)
