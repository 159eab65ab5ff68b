use Rattle.std.proofs.Common.{◌≡◌, ℕ, ◌<◌, length}
use Rattle.std.specs.Prelude.{is_some}
use Rattle.ga_node.specs.Table.{refusal_of_own_event}
use Rattle.ga_grid.specs.Chip.{records_of_chip, node_record_at}
use Rattle.ga_causal.specs.Dependence.{is_node_flagged}
use Rattle.ga_races.proofs.deadlock.halted.Given as goal

abbrev pub invariant-loop-number : goal.invariant-loop-number
invariant-loop-number l = record {
  size : length l.marks ≡ 144;
  marked_nodes : (n : ℕ) → n < l.number → is_node_flagged l.marks n ≡ is_some (refusal_of_own_event (node_record_at (records_of_chip l.chip) n));
}
