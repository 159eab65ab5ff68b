use Rattle.std.proofs.Common.{◌<◌, ◌≤◌, ◌+◌, ◌-◌, ap, sym, ◌∙◌, arith}
use Rattle.ga_node.specs.Record.{record_of_node}
use Rattle.ga_json.specs.Values.{JsonValue, item}
use Rattle.ga_explorer_json.specs.NodeState.{stack_rows}
use Rattle.ga_explorer_json.proofs.NodeState.{no_word, next_word}
use Rattle.ga_explorer_json.proofs.node_json.StackRowsRowCursor.next.Goals as goal

pub returns-then-place-ge-STACK_WORDS : goal.returns-then-place-ge-STACK_WORDS
returns-then-place-ge-STACK_WORDS c =
    let rows = c.args.self.now in
    let past : 19 ≤ rows.place = omega (arith, c.if-place-ge-STACK_WORDS.true) in record {
      row = no_word (record_of_node rows.node.now) rows.place past;
    }

pub returns : goal.returns
returns c =
    let rows = c.args.self.now in
    let at = record_of_node rows.node.now in
    let place = rows.place in
    let below : place < 19 = omega (arith, c.if-place-ge-STACK_WORDS.false) in record {
      row = next_word at place below ∙ ap (λ (z : JsonValue). item z (stack_rows at (place + 1) (19 - (place + 1)))) (sym c.stack_row.ensures);
    }
