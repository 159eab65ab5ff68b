use Rattle.std.proofs.Common.{◌-◌}
use Rattle.ga_causal.specs.Dependence.{is_node_flagged}
use Rattle.ga_picture.proofs.Shaded.{AreGrounds}
use Rattle.ga_picture.proofs.shade.find_causes.Given as goal

-- the events from here on are looked at
abbrev pub invariant-events : goal.invariant-events
invariant-events l = AreGrounds l.events l.place (l.place - l.back) l.flags.items (is_node_flagged l.wanted)
