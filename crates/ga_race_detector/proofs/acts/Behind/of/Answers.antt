use Rattle.std.proofs.Common.{◌∙◌, ℕ, sym, ap, arith}
use Rattle.std.proofs.lemmas.List.{length-set}
use Rattle.ga_grid.specs.Chip.{node_record_at}
use Rattle.ga_event.specs.Told.{count_steps}
use Rattle.ga_lab.specs.Machine.{chip_of_machine}
use Rattle.ga_race_detector.proofs.Acting.{stood_set}
use Rattle.ga_race_detector.proofs.acts.Behind.of.Goals as goal

pub nodes-preserved : goal.nodes-preserved
nodes-preserved c = record {
  waits = length-set c.nodes.waits c.index-at.result c.wait_now-wait.result ∙ c.nodes.invariant.waits;
  steps = length-set c.nodes.steps c.index-at.result c.steps-step.result ∙ c.nodes.invariant.steps;
  stood = λ p whole.
      stood_set c.args.lab.now c.nodes.waits c.nodes.steps c.nodes.number c.index-at.result c.wait_now-wait.result c.steps-step.result c.nodes.invariant.waits c.nodes.invariant.steps (omega arith)
      (c.index-at.ensures.value ∙ c.new-node.ensures)
      (c.wait_now-wait.ensures.value ∙ ap (λ (z : ℕ). (node_record_at (chip_of_machine c.args.lab.now) z).wait) (sym c.index-at.ensures.value)) c.wait_now-wait.ensures.valid
      (c.steps-step.ensures.steps ∙ ap (λ (z : ℕ). count_steps z c.args.lab.now.kept) (sym c.index-at.ensures.value)) p whole (c.nodes.invariant.stood p whole);
}

pub returns : goal.returns
returns c = λ p whole m l. c.nodes.invariant.stood p whole m (omega (arith, l, c.nodes-test.false))
