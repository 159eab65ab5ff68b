use Rattle.ga_scheduler.proofs.Needing.{AreAsked}
use Rattle.ga_scheduler.proofs.watching.conditions_before_never.Given as goal

abbrev pub invariant-loop-place : goal.invariant-loop-place
invariant-loop-place l = AreAsked l.until l.place
