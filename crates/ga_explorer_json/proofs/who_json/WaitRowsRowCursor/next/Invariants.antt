use Rattle.std.proofs.Common.{◌≡◌, ◌-◌}
use Rattle.ga_grid.specs.Chip.{records_of_chip}
use Rattle.ga_causal.specs.Dependence.{is_node_flagged}
use Rattle.ga_explorer_json.specs.Who.{waiting_node_rows}
use Rattle.ga_explorer_json.proofs.who_json.WaitRowsRowCursor.next.Given as goal

abbrev pub invariant-seeking : goal.invariant-seeking
invariant-seeking l =
    let rows = l.initial.self in
    let chip = records_of_chip rows.chip.now in
    let marks = is_node_flagged rows.stuck.now in
    let over = is_node_flagged rows.ended.now in
    let idle = is_node_flagged rows.idle.now in record {
      same : l.self ≡ l.initial.self;
      ahead : waiting_node_rows chip marks over idle rows.number (144 - rows.number) ≡ waiting_node_rows chip marks over idle l.number (144 - l.number);
    }
