use Rattle.std.proofs.Common.{ℕ, ◌-◌}
use Rattle.std.specs.List.{slice_get}
use Rattle.ga_event.specs.Flow.{From}
use Rattle.ga_lab.specs.Machine.{history_of_node}
use Rattle.ga_provenance.proofs.Sources.{parts_of_step}
use Rattle.ga_provenance.proofs.value_sources.sources_by_trail.Goals as goal

pub returns-in-ComputedFromParts-clause-parts : goal.returns-in-ComputedFromParts-clause-parts
returns-in-ComputedFromParts-clause-parts c =
    let k : ℕ = c.args.value.step - 1 in
    parts_of_step c.args.lab.now c.args.value k (slice_get (history_of_node c.args.lab.now c.args.value.node.number) k) (From c.in-ComputedFromParts.parts.items) c.values_of_parts.result.items c.in-ComputedFromParts.ensures.sources c.values_of_parts.ensures
