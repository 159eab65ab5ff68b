-- Which words of a chip a text gives (docs/REFERENCE.md, "Images" and "Causes"; this project's own). What isn't given is as at load.
use Rattle.std.specs.Prelude.{ℕ, ◌+◌, ◌==◌, ◌&&◌, nat_le, nat_lt, if◌then◌else◌, Bool, true, false, List, [], ◌∷◌, ◌++◌, length, Option, Some, None, option_map}
use Rattle.std.specs.List.{list_any}
use Rattle.ga_text.specs.Lines.{Line}
use Rattle.ga_node.specs.declared.place.NodePlace.{NodePlace}
use Rattle.ga_node.specs.declared.place.NodePlace.TheVariants.{A, B, P, Ram, Rom}
use Rattle.ga_grid.specs.declared.node_id.NodeId.{NodeId}
use Rattle.ga_grid.specs.Grid.{node_id, node_number_of_name}
use Rattle.ga_image.specs.declared.given.GivenRange.{GivenRange}
use Rattle.ga_image.specs.declared.given.GivenWords.{GivenWords}
use Rattle.ga_image.specs.declared.given.GivenWords.TheVariants.{All, Ranges}
use Rattle.ga_image.specs.declared.field.Format.{Format}
use Rattle.ga_image.specs.declared.field.Format.TheVariants.{One, Two}
use Rattle.ga_image.specs.Fields.{field_place}
use Rattle.ga_image.specs.Spelling.{LineForm, Node, Words, line_form}
use Rattle.ga_image.specs.FirstFault.{format_of_first_line}

-- ---- whether a word is given

-- the cell of RAM, or of ROM, that a place is
abbrev pub ram_cell_of_place : NodePlace → Option ℕ
ram_cell_of_place (Ram cell) = Some cell
ram_cell_of_place _ = None

abbrev pub rom_cell_of_place : NodePlace → Option ℕ
rom_cell_of_place (Rom cell) = Some cell
rom_cell_of_place _ = None

abbrev pub is_register_a : NodePlace → Bool
is_register_a A = true
is_register_a _ = false

abbrev pub is_register_b : NodePlace → Bool
is_register_b B = true
is_register_b _ = false

abbrev pub is_register_p : NodePlace → Bool
is_register_p P = true
is_register_p _ = false

-- a cell is one of `count` from the first on
abbrev pub is_cell_in_row : ℕ → ℕ → Option ℕ → Bool
is_cell_in_row first count (Some cell) = nat_le first cell && nat_lt cell (first + count)
is_cell_in_row first count None = false

-- A place is the register A, B or P that is given, or one of the cells from the first on.
abbrev pub is_place_in_row : NodePlace → ℕ → NodePlace → Bool
is_place_in_row A count place = is_register_a place
is_place_in_row B count place = is_register_b place
is_place_in_row P count place = is_register_p place
is_place_in_row (Ram first) count place = is_cell_in_row first count (ram_cell_of_place place)
is_place_in_row (Rom first) count place = is_cell_in_row first count (rom_cell_of_place place)
is_place_in_row _ count place = false

-- one of the words of a row is that of a place of the node
abbrev pub range_gives_word : NodeId → NodePlace → GivenRange → Bool
range_gives_word node place range = range.node.number == node.number && is_place_in_row range.first range.count place

-- the text gives the word of a place of the node
abbrev pub is_word_given : GivenWords → NodeId → NodePlace → Bool
is_word_given All node place = true
is_word_given (Ranges ranges) node place = list_any (range_gives_word node place) ranges.items

-- ---- what an image gives

-- the words that a field line gives to the node of its block
abbrev pub given_ranges_of_line : Option NodeId → Option LineForm → List GivenRange
given_ranges_of_line (Some node) (Some (Words field words)) = record { node = node; first = field_place field; count = length words } ∷ []
given_ranges_of_line _ _ = []

-- the node whose block continues after a line
abbrev pub node_of_open_block : Option NodeId → Option LineForm → Option NodeId
node_of_open_block before (Some (Node decimal_name)) = option_map node_id (node_number_of_name decimal_name)
node_of_open_block before _ = before

-- the words that lines give, the first of which continue the block of this node
unfoldable pub ranges_given_by_lines : Option NodeId → List Line → List GivenRange
ranges_given_by_lines block [] = []
ranges_given_by_lines block (text ∷ texts) = given_ranges_of_line block (line_form text) ++ ranges_given_by_lines (node_of_open_block block (line_form text)) texts

-- a word that an image of format 2 doesn't give is as its dump had it
abbrev pub format_gives_all_words : Format → Bool
format_gives_all_words One = false
format_gives_all_words Two = true

-- the words that an image gives, which are all of format 2
abbrev pub given_ranges_of_image : List Line → Option (List GivenRange)
given_ranges_of_image texts = if format_gives_all_words (format_of_first_line texts) then None else Some (ranges_given_by_lines None texts)

-- given words as their list, if they aren't all
abbrev pub ranges_of_given_words : GivenWords → Option (List GivenRange)
ranges_of_given_words All = None
ranges_of_given_words (Ranges ranges) = Some ranges.items
