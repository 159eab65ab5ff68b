-- What a node holds or does where it doesn't meet an expectation, and how the words over a link break one (docs/REFERENCE.md, "Every expectation"; this
-- project's own).
use Rattle.std.specs.Prelude.{ℕ, ◌+◌, ◌%◌, Bool, true, false, [], ◌++◌, codes, decimal}
use Rattle.ga_word.specs.Word.{word_modulus, hex_digits_of_word}
use Rattle.ga_ports.specs.Address.{single_side_set, has_side}
use Rattle.ga_ports.specs.declared.side.Side.TheVariants as side
use Rattle.ga_text.specs.Lines.{Text}
use Rattle.ga_state_expectations.specs.declared.observation.NodeObservation.{NodeObservation}
use Rattle.ga_state_expectations.specs.declared.observation.NodeObservation.TheVariants.{Is, Runs, AwaitsCode, Reads, Writes, Stopped}
use Rattle.ga_state_links.specs.declared.expectation.LinkFault.{LinkFault}
use Rattle.ga_state_links.specs.declared.expectation.LinkFault.TheVariants.{OtherWord, ExtraWord, MissingWord}

-- ---- what a node holds or does

abbrev pub optional_side_text : Bool → Text → Text
optional_side_text true name = name
optional_side_text false name = []

-- the sides of a set, each after a blank
abbrev pub side_names_after_blanks : ℕ → Text
side_names_after_blanks sides =
    optional_side_text (has_side sides side.Right) (codes " right") ++ optional_side_text (has_side sides side.Down) (codes " down")
    ++ optional_side_text (has_side sides side.Left) (codes " left") ++ optional_side_text (has_side sides side.Up) (codes " up")

abbrev pub observation_text : NodeObservation → Text
observation_text (Is word) = codes "is " ++ hex_digits_of_word word
observation_text Runs = codes "runs"
observation_text AwaitsCode = codes "waits for code"
observation_text (Reads sides) = codes "waits to read" ++ side_names_after_blanks sides
observation_text (Writes side) = codes "waits to write" ++ side_names_after_blanks (single_side_set side)
observation_text (Stopped stop) = codes "stop " ++ decimal stop

-- ---- the words over a link

-- after this number of words that came as expected
abbrev pub link_fault_text : ℕ → LinkFault → Text
link_fault_text place (OtherWord word) = codes "word " ++ decimal (place + 1) ++ codes " is " ++ hex_digits_of_word (word % word_modulus)
link_fault_text place (ExtraWord word) = codes "a further word is " ++ hex_digits_of_word (word % word_modulus)
link_fault_text place MissingWord = codes "word " ++ decimal (place + 1) ++ codes " never comes"
