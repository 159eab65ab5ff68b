-- What `words` answers, as a JSON value (docs/REFERENCE.md, "Exploring"; this project's own).
use Rattle.std.specs.Prelude.{ℕ, pos, if◌then◌else◌, List, [], ◌∷◌, codes}
use Rattle.ga_grid.specs.declared.node_id.NodeId.{NodeId}
use Rattle.ga_lab.specs.Machine.{MachineState}
use Rattle.ga_races.specs.HappensBefore.{are_neighbours}
use Rattle.ga_scheduler.specs.Words.{link_transfers, link_transfer_count}
use Rattle.ga_scheduler.specs.declared.words.Transfer.{Transfer}
use Rattle.ga_text.specs.Digits.{name_of_node}
use Rattle.ga_json.specs.Values.{JsonValue, number, string}
use Rattle.ga_json.specs.Fields.{NamedValue, json_object, json_report}
use Rattle.ga_explorer_json.specs.Refusals.{hint_of_refusal, refusal_json}
use Rattle.ga_explorer_text.specs.Texts.{no_link_refusal}
use Rattle.ga_explorer_json.specs.Rows.{json_rows_of_items}

-- a word: its number, the steps of both ends and itself
abbrev pub transfer_json : Transfer → JsonValue
transfer_json sent =
    json_object
    ((codes "number", number (pos sent.number))
    ∷ (codes "from_step", number (pos sent.writer_step))
    ∷ (codes "to_step", number (pos sent.reader_step))
    ∷ (codes "word", number (pos sent.word))
    ∷ [])

-- the link, and how many words of it are kept
abbrev pub link_words_head_fields : NodeId → NodeId → ℕ → List NamedValue
link_words_head_fields from to count =
    (codes "command", string (codes "words"))
    ∷ (codes "from", string (name_of_node from))
    ∷ (codes "to", string (name_of_node to))
    ∷ (codes "count", number (pos count))
    ∷ []

-- the link between two neighbours, and the words of it that are kept
abbrev pub transfers_json : MachineState → NodeId → NodeId → JsonValue
transfers_json s from to =
    json_report (link_words_head_fields from to (link_transfer_count s from.number to.number)) (json_rows_of_items transfer_json (link_transfers s from.number to.number))

abbrev pub link_words_answer_json : MachineState → NodeId → NodeId → JsonValue
link_words_answer_json s from to = if are_neighbours from.number to.number then transfers_json s from to else refusal_json (codes "words") 34 (codes "nolink") (hint_of_refusal no_link_refusal)
