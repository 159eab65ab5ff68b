use Rattle.std.proofs.Common.{◌≡◌, ℕ, ◌<◌, true, false}
use Rattle.ga_grid.specs.Chip.{records_of_chip}
use Rattle.ga_causal.specs.Dependence.{is_node_flagged}
use Rattle.ga_explorer_text.specs.Ended.{has_node_ended, is_not_live_node}
use Rattle.ga_explorer_text.proofs.ended.first_ended.Given as goal

abbrev pub invariant-loop-number : goal.invariant-loop-number
invariant-loop-number l = (n : ℕ) → n < l.number → is_node_flagged l.live n ≡ true → has_node_ended (records_of_chip l.chip) (is_not_live_node l.live) n ≡ false
