-- What a node does and what a word is, as a person reads it (Debug Adapter Protocol, "Thread.name", "Variable.value"; F18A Technology Reference
-- DB001, ports).
use Rattle.std.specs.Prelude.{ℕ, ◌==◌, ◌-◌, nat_lt, if◌then◌else◌, List, [], ◌∷◌, ◌++◌, codes, decimal}
use Rattle.ga_text.specs.Lines.{Text}
use Rattle.ga_text.specs.Digits.{three_decimal_digits}
use Rattle.ga_word.specs.Word.{hex_digits_of_word}
use Rattle.ga_ports.specs.Address.{has_side}
use Rattle.ga_ports.specs.declared.side.Side.{Side}
use Rattle.ga_ports.specs.declared.side.Side.TheVariants.{Right, Down, Left, Up}
use Rattle.ga_node.specs.Record.{NodeRecord}
use Rattle.ga_node.specs.declared.wait.Wait.{Wait}
use Rattle.ga_node.specs.declared.wait.Wait.TheVariants as wait
use Rattle.ga_grid.specs.Grid.{decimal_name_of_node}
use Rattle.ga_grid.specs.Chip.{node_record_at}

abbrev pub side_name : Side → Text
side_name Right = codes "right"
side_name Down = codes "down"
side_name Left = codes "left"
side_name Up = codes "up"

-- a side, if a set has it, after those already named
abbrev pub append_side_name : ℕ → Side → Text → Text
append_side_name sides side [] = if has_side sides side then side_name side else []
append_side_name sides side (c ∷ text) = if has_side sides side then (c ∷ text) ++ codes " or " ++ side_name side else c ∷ text

-- the sides of a set
abbrev pub side_names : ℕ → Text
side_names sides = append_side_name sides Up (append_side_name sides Left (append_side_name sides Down (append_side_name sides Right [])))

-- a stop by its number (docs/REFERENCE.md, "Steps, dependence and rollback")
abbrev pub node_stop_text : ℕ → Text
node_stop_text stop =
    if stop == 0 then codes "runs"
    else if stop == 1 then codes "stopped: a write to several ports"
    else if stop == 2 then codes "stopped: an address that names nothing"
    else codes "stopped"

-- what a node does that waits so, or is stopped so
abbrev pub wait_activity_text : Wait → ℕ → Text
wait_activity_text (wait.Fetch sides) stop = codes "waits for code from " ++ side_names sides
wait_activity_text (wait.Read sides) stop = codes "waits to read from " ++ side_names sides
wait_activity_text (wait.Write side) stop = codes "waits to write to " ++ side_name side
wait_activity_text wait.Nothing stop = node_stop_text stop

-- what a node of a chip does; with its name before it
abbrev pub thread_activity_text : List NodeRecord → ℕ → Text
thread_activity_text chip n = wait_activity_text (node_record_at chip n).wait (node_record_at chip n).stop

abbrev pub node_name_and_activity_text : List NodeRecord → ℕ → Text
node_name_and_activity_text chip n = three_decimal_digits (decimal_name_of_node n) ++ codes " " ++ thread_activity_text chip n

-- a word: its six digits, the number, and the negative number where its highest bit is set
abbrev pub negative_value_suffix_text : ℕ → Text
negative_value_suffix_text word = if nat_lt word 0x20000 then [] else codes " = -" ++ decimal (0x40000 - word)

abbrev pub word_value_text : ℕ → Text
word_value_text word = hex_digits_of_word word ++ codes " = " ++ decimal word ++ negative_value_suffix_text word
