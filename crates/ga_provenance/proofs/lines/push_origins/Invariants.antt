use Rattle.std.proofs.Common.{◌≡◌, ◌++◌, take}
use Rattle.ga_provenance.proofs.lines.push_origins.Given as goal

abbrev pub invariant-values : goal.invariant-values
invariant-values l = l.origins.items ≡ l.initial.origins.items ++ take l.value-index l.value-items
