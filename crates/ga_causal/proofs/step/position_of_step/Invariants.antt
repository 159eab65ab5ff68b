use Rattle.std.proofs.Common.{◌≡◌, suc, drop}
use Rattle.ga_causal.specs.Dependence.{position_of_step}
use Rattle.ga_causal.proofs.Places.{on_by}
use Rattle.ga_causal.proofs.step.position_of_step.Given as goal

abbrev pub invariant-events : goal.invariant-events
invariant-events l =
    position_of_step l.events l.node.number l.step ≡ on_by l.place (position_of_step (drop l.place l.events) l.node.number (suc l.left))
