use Rattle.std.proofs.Common.{◌≡◌, ◌++◌, take}
use Rattle.ga_provenance.specs.Lines.{values_used_by_line}
use Rattle.ga_provenance.proofs.lines.push_used.Given as goal

abbrev pub invariant-values : goal.invariant-values
invariant-values l = l.uses.items ≡ l.initial.uses.items ++ values_used_by_line l.user (take l.used-index l.used-items)
