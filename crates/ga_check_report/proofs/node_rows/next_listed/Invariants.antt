use Rattle.std.proofs.Common.{◌≡◌, ◌-◌}
use Rattle.ga_check_report.specs.EndJson.{end_node_rows}
use Rattle.ga_check_report.proofs.node_rows.next_listed.Given as goal

abbrev pub invariant-nodes : goal.invariant-nodes
invariant-nodes l = end_node_rows l.kind l.from (144 - l.from) ≡ end_node_rows l.kind l.number (144 - l.number)
