use Rattle.ga_scheduler.proofs.Needing.{NoneOf}
use Rattle.ga_scheduler.proofs.watching.first_asked.Given as goal

abbrev pub invariant-loop-place : goal.invariant-loop-place
invariant-loop-place l = NoneOf l.until l.made l.lab l.place
