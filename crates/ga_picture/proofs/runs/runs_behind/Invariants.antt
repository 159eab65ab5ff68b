use Rattle.std.proofs.Common.{◌-◌, length}
use Rattle.ga_picture.proofs.Running.{AreBehind}
use Rattle.ga_picture.proofs.runs.runs_behind.Given as goal

abbrev pub invariant-items : goal.invariant-items
invariant-items l = AreBehind l.items (length l.items - l.back) l.counts.items l.runs
