use Rattle.std.proofs.Common.{◌≡◌, map, take}
use Rattle.ga_provenance.specs.Origins.{value_made_by_step}
use Rattle.ga_provenance.proofs.value_sources.values_of_parts.Given as goal

abbrev pub invariant-parts : goal.invariant-parts
invariant-parts l = l.values.items ≡ map (value_made_by_step l.node l.step) (take l.part-index l.part-items)
