use Rattle.ga_lab.specs.Machine.{machine_events_with_looks}
use Rattle.ga_lab.proofs.Explaining.{answered}
use Rattle.ga_lab.proofs.lab.Lab.find_chain_events.Goals as goal

pub tell-requires : goal.tell-requires
tell-requires c =
    let found = rw c.in-Ok-Some.field-0-is at c.in-Ok-Some.ensures.answer in
    answered (machine_events_with_looks c.args.self.now) c.args.from.0.number c.args.from.1 c.args.to.0.number c.args.to.1 c.in-Ok-Some.chain found
