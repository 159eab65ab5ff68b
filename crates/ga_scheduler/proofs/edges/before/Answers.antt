use Rattle.std.proofs.Common.{◌≡◌, ◌∙◌, ◌-◌, length, take, take_all, ap, sym, subst, arith}
use Rattle.ga_grid.specs.Chip.{node_record_at}
use Rattle.ga_lab.specs.Machine.{MachineState, chip_of_machine}
use Rattle.ga_lab.specs.Holding.{HoldsPlaceValue}
use Rattle.ga_event.specs.Told.{count_steps}
use Rattle.ga_scheduler.proofs.edges.before.Goals as goal

whole : (s : MachineState) → take (length s.kept) s.kept ≡ s.kept
whole s = take_all (length s.kept) s.kept (omega arith)

pub overflow_sub-steps : goal.overflow_sub-steps
overflow_sub-steps c = omega (arith, c.requires.newest, c.steps.ensures.steps)

pub returns-in-Some : goal.returns-in-Some
returns-in-Some c = c.in-Some.ensures.value (length c.args.lab.now.kept - 1) (omega (arith, c.requires.newest, c.steps.ensures.steps))

pub returns-in-None : goal.returns-in-None
returns-in-None c =
    let s = c.args.lab.now in
    c.in-None.ensures.left (length s.kept - 1) (length s.kept) c.args.behind
    (omega (arith, c.requires.newest, c.steps.ensures.steps))
    (ap (count_steps c.args.node.number) (whole s) ∙ omega (arith, c.requires.newest, c.steps.ensures.steps))
    (subst (λ z. HoldsPlaceValue (node_record_at (chip_of_machine z) c.args.node.number) c.args.what c.args.behind) (ap (λ z. record s { kept = z }) (sym (whole s))) c.requires.held)
