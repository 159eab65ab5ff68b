-- What a step of a node did, in a few words (docs/REFERENCE.md, "Exploring"; this project's own).
use Rattle.std.specs.Prelude.{ℕ, ◌==◌, ◌%◌, if◌then◌else◌, ◌++◌, codes, decimal}
use Rattle.ga_text.specs.Lines.{Text}
use Rattle.ga_word.specs.Word.{hex_digits_of_word}
use Rattle.ga_slots.specs.Codes.{name_of_opcode, opcode_of_code}
use Rattle.ga_node.specs.declared.kind.OwnEventKind.{OwnEventKind}
use Rattle.ga_node.specs.declared.kind.OwnEventKind.TheVariants as kind
use Rattle.ga_grid.specs.declared.node_id.NodeId.{NodeId}
use Rattle.ga_event.specs.declared.made.MadeEvent.{MadeEvent}
use Rattle.ga_event.specs.declared.made.MadeEvent.TheVariants.{Own, Pass}
use Rattle.ga_text.specs.Digits.{step_text}

-- an event of a node's own: the opcode's name, or what came in its place
abbrev pub own_event_kind_name : OwnEventKind → Text
own_event_kind_name kind.Fetch = codes "fetch"
own_event_kind_name (kind.Run code) = name_of_opcode (opcode_of_code (code % 32))
own_event_kind_name kind.Wait = codes "wait"
own_event_kind_name (kind.Stop number) = codes "stop " ++ decimal number

-- a word that was passed, with the step at the other end
abbrev pub passed_word_text : Text → ℕ → Text → NodeId → ℕ → Text
passed_word_text way word end other step = way ++ hex_digits_of_word word ++ end ++ step_text other step

-- the text of a step, from the view of this node
abbrev pub step_text_for_node : MadeEvent → ℕ → Text
step_text_for_node (Own node step kind) n = own_event_kind_name kind
step_text_for_node (Pass writer i reader j word) n =
    if n == reader.number then passed_word_text (codes "takes ") word (codes " from ") writer i
    else passed_word_text (codes "sends ") word (codes " to ") reader j
