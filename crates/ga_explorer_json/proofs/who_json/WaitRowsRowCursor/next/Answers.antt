use Rattle.std.proofs.Common.{◌≡◌, ◌<◌, ◌≤◌, ℕ, ◌+◌, ◌-◌, Bool, true, false, ap, sym, ◌∙◌, arith}
use Rattle.ga_grid.specs.Chip.{records_of_chip}
use Rattle.ga_causal.specs.Dependence.{is_node_flagged}
use Rattle.ga_json.specs.Values.{JsonValue, item}
use Rattle.ga_explorer_json.specs.declared.who_json.WaitRows.{WaitRows}
use Rattle.ga_explorer_json.specs.Who.{waiting_node_json, has_waiting_node_row, waiting_node_rows}
use Rattle.ga_explorer_json.proofs.Who.{no_node, listed_node, passed_node}
use Rattle.ga_explorer_json.proofs.who_json.WaitRowsRowCursor.next.Goals as goal

pub returns-then-has_waiting_node_row : goal.returns-then-has_waiting_node_row
returns-then-has_waiting_node_row c =
    let rows = c.seeking.self in
    let k : ℕ = c.seeking.number in
    let chip = records_of_chip rows.chip.now in
    let marks = is_node_flagged rows.stuck.now in
    let over = is_node_flagged rows.ended.now in
    let idle = is_node_flagged rows.idle.now in
    let node = c.new-node.result.number in
    let below : k < 144 = omega (arith, c.seeking-test.true) in
    let is : has_waiting_node_row chip marks idle k ≡ true = ap (has_waiting_node_row chip marks idle) (sym c.new-node.ensures) ∙ sym c.has_waiting_node_row.ensures ∙ c.if-has_waiting_node_row.true in
    let row =
    c.waiting_row.ensures
    ∙ ap (λ (z : Bool). waiting_node_json chip z c.is_flagged-ended.result node) c.is_flagged-deadlocked.ensures
    ∙ ap (λ (z : Bool). waiting_node_json chip (marks node) z node) c.is_flagged-ended.ensures
    ∙ ap (λ (z : ℕ). waiting_node_json chip (marks z) (over z) z) c.new-node.ensures in record {
      row = c.seeking.invariant.ahead
          ∙ ap (λ (z : WaitRows). waiting_node_rows (records_of_chip z.chip.now) (is_node_flagged z.stuck.now) (is_node_flagged z.ended.now) (is_node_flagged z.idle.now) k (144 - k)) (sym c.seeking.invariant.same)
          ∙ listed_node chip marks over idle k below is
          ∙ ap (λ (z : JsonValue). item z (waiting_node_rows chip marks over idle (k + 1) (144 - (k + 1)))) (sym row);
    }

pub seeking-preserved : goal.seeking-preserved
seeking-preserved c =
    let rows = c.args.self.now in
    let k : ℕ = c.seeking.number in
    let chip = records_of_chip rows.chip.now in
    let marks = is_node_flagged rows.stuck.now in
    let over = is_node_flagged rows.ended.now in
    let idle = is_node_flagged rows.idle.now in
    let below : k < 144 = omega (arith, c.seeking-test.true) in
    let is : has_waiting_node_row chip marks idle k ≡ false =
    ap (λ (z : WaitRows). has_waiting_node_row (records_of_chip z.chip.now) (is_node_flagged z.stuck.now) (is_node_flagged z.idle.now) k) (sym c.seeking.invariant.same)
    ∙ ap (has_waiting_node_row (records_of_chip c.seeking.self.chip.now) (is_node_flagged c.seeking.self.stuck.now) (is_node_flagged c.seeking.self.idle.now)) (sym c.new-node.ensures)
    ∙ sym c.has_waiting_node_row.ensures
    ∙ c.if-has_waiting_node_row.false in record {
      same = c.seeking.invariant.same;
      ahead = c.seeking.invariant.ahead ∙ passed_node chip marks over idle k below is;
    }

pub returns : goal.returns
returns c =
    let rows = c.args.self.now in
    let past : 144 ≤ c.seeking.number = omega (arith, c.seeking-test.false) in record {
      row = c.seeking.invariant.ahead ∙ no_node (records_of_chip rows.chip.now) (is_node_flagged rows.stuck.now) (is_node_flagged rows.ended.now) (is_node_flagged rows.idle.now) c.seeking.number past;
    }
