-- Events as fields of a row (docs/REFERENCE.md, "Exploring"; this project's own).
use Rattle.std.specs.Prelude.{ℕ, ◌%◌, pos, List, [], ◌∷◌, ◌++◌, codes}
use Rattle.ga_slots.specs.Codes.{name_of_opcode, opcode_of_code}
use Rattle.ga_node.specs.declared.kind.OwnEventKind.{OwnEventKind}
use Rattle.ga_node.specs.declared.kind.OwnEventKind.TheVariants as kind
use Rattle.ga_grid.specs.declared.node_id.NodeId.{NodeId}
use Rattle.ga_event.specs.declared.made.MadeEvent.{MadeEvent}
use Rattle.ga_event.specs.declared.made.MadeEvent.TheVariants.{Own, Pass}
use Rattle.ga_text.specs.Digits.{name_of_node}
use Rattle.ga_json.specs.Values.{number, string}
use Rattle.ga_json.specs.Fields.{NamedValue}

-- an event of a node's own: the opcode, or what came in its place, with the number of a stop
abbrev pub own_event_fields : OwnEventKind → List NamedValue
own_event_fields kind.Fetch = (codes "what", string (codes "fetch")) ∷ []
own_event_fields (kind.Run code) = (codes "what", string (codes "run")) ∷ (codes "opcode", string (name_of_opcode (opcode_of_code (code % 32)))) ∷ []
own_event_fields kind.Wait = (codes "what", string (codes "wait")) ∷ []
own_event_fields (kind.Stop n) = (codes "what", string (codes "stop")) ∷ (codes "stop", number (pos n)) ∷ []

-- a word that was passed, with both ends and their steps
abbrev pub passed_word_fields : NodeId → ℕ → NodeId → ℕ → ℕ → List NamedValue
passed_word_fields writer i reader j word =
    (codes "what", string (codes "pass"))
    ∷ (codes "from", string (name_of_node writer))
    ∷ (codes "from_step", number (pos i))
    ∷ (codes "to", string (name_of_node reader))
    ∷ (codes "to_step", number (pos j))
    ∷ (codes "word", number (pos word))
    ∷ []

-- what a step did
abbrev pub event_action_fields : MadeEvent → List NamedValue
event_action_fields (Own node step kind) = own_event_fields kind
event_action_fields (Pass writer i reader j word) = passed_word_fields writer i reader j word

-- an event with its steps: of a node's own, or a pass
abbrev pub made_event_fields : MadeEvent → List NamedValue
made_event_fields (Own node step kind) = ((codes "node", string (name_of_node node)) ∷ (codes "step", number (pos step)) ∷ []) ++ own_event_fields kind
made_event_fields (Pass writer i reader j word) = passed_word_fields writer i reader j word
