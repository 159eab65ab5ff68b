use Rattle.std.proofs.Common.{take}
use Rattle.ga_grid.specs.Chip.{records_of_chip}
use Rattle.ga_wasm.specs.inner.{MakesNextEventsOfNodes}
use Rattle.ga_wasm.proofs.depend.make_all.Given as goal

-- the nodes so far have made their events
abbrev pub invariant-steps : goal.invariant-steps
invariant-steps l = MakesNextEventsOfNodes (records_of_chip l.initial.chip) (take l.at l.nodes) l.causes.items (records_of_chip l.chip)
