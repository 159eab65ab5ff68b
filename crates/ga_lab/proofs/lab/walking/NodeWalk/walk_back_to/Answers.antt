use Rattle.std.proofs.Common.{ap, arith}
use Rattle.ga_grid.specs.Chip.{node_at}
use Rattle.ga_journal.specs.Histories.{history}
use Rattle.ga_lab.specs.Machine.{NodeAtStep}
use Rattle.ga_lab.proofs.Replays.{can_peek}
use Rattle.ga_lab.proofs.Overwritten.{can_between, walked_between}
use Rattle.ga_lab.proofs.lab.walking.NodeWalk.walk_back_to.Goals as goal

pub walk_node_back-requires-clause-can : goal.walk_node_back-requires-clause-can
walk_node_back-requires-clause-can c =
    let w = c.self.inside in
    let far = ap (λ (z : NodeAtStep). z.step) c.self.view_is in
    can_between (node_at w.chip.now w.id.number) w.node c.args.step w.step (history w.chronicle.now.journal.histories w.id.number) (omega (arith, far, c.requires))
    c.self.invariant.walked_to (can_peek w.chip.now w.chronicle.now.journal w.id.number c.args.step c.self.invariant.lab.tied)

pub invariant_of-self : goal.invariant_of-self
invariant_of-self c =
    let w = c.self.inside in
    let far = ap (λ (z : NodeAtStep). z.step) c.self.view_is in record {
      lab = c.self.invariant.lab;
      within = omega (arith, far, c.requires, c.self.invariant.within);
      walked_to = walked_between (node_at w.chip.now w.id.number) w.node c.walk_node_back.new.now c.args.step w.step (history w.chronicle.now.journal.histories w.id.number) (omega (arith, far, c.requires))
          c.self.invariant.walked_to c.walk_node_back.ensures;
    }

pub returns : goal.returns
returns c = ap (λ (z : NodeAtStep). record z { step = c.args.step }) c.self.view_is
