use Rattle.std.proofs.Common.{◌-◌, length}
use Rattle.ga_causal.specs.Dependence.{is_node_flagged}
use Rattle.ga_picture.proofs.Listed.{ArePlain}
use Rattle.ga_picture.proofs.item.plain_events.Given as goal

abbrev pub invariant-events : goal.invariant-events
invariant-events l = ArePlain (is_node_flagged l.fn.ready) l.events (length l.events - l.back) l.flags.items (is_node_flagged l.runs)
