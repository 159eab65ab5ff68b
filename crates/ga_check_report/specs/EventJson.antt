-- An event, as `ga144 check --json` prints it (docs/JSON.md; this project's own): the node, its step and what it was; of a transfer the writer's
-- step, and then the reader's with the word.
use Rattle.std.specs.Prelude.{ℕ, pos, List, [], ◌∷◌, codes}
use Rattle.ga_text.specs.Lines.{Text}
use Rattle.ga_text.specs.Digits.{name_of_node}
use Rattle.ga_node.specs.declared.kind.OwnEventKind.TheVariants as kind
use Rattle.ga_grid.specs.declared.node_id.NodeId.{NodeId}
use Rattle.ga_event.specs.declared.made.MadeEvent.{MadeEvent}
use Rattle.ga_event.specs.declared.made.MadeEvent.TheVariants.{Own, Pass}
use Rattle.ga_json.specs.Values.{number, string}
use Rattle.ga_json.specs.Fields.{NamedValue}

abbrev pub event_kind_and_step_fields : Text → NodeId → ℕ → List NamedValue → List NamedValue
event_kind_and_step_fields what node step more =
    (codes "event", string what) ∷ (codes "node", string (name_of_node node)) ∷ (codes "step", number (pos step)) ∷ more

abbrev pub event_detail_fields : MadeEvent → List NamedValue
event_detail_fields (Own node step kind.Fetch) = event_kind_and_step_fields (codes "fetch") node step []
event_detail_fields (Own node step (kind.Run code)) = event_kind_and_step_fields (codes "run") node step ((codes "opcode", number (pos code)) ∷ [])
event_detail_fields (Own node step kind.Wait) = event_kind_and_step_fields (codes "wait") node step []
event_detail_fields (Own node step (kind.Stop stop)) = event_kind_and_step_fields (codes "stop") node step ((codes "stop", number (pos stop)) ∷ [])
event_detail_fields (Pass writer writer_step reader reader_step word) =
    event_kind_and_step_fields (codes "pass") writer writer_step
    ((codes "reader", string (name_of_node reader)) ∷ (codes "reader_step", number (pos reader_step)) ∷ (codes "word", number (pos word)) ∷ [])
