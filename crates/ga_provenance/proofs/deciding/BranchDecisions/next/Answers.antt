use Rattle.std.proofs.Common.{◌≡◌, ℕ, suc, sym, ap, ◌∙◌, arith}
use Rattle.ga_lab.specs.Machine.{NodeAtStep, node_at_step}
use Rattle.ga_provenance.specs.Deciding.{branch_decision_at}
use Rattle.ga_provenance.proofs.Decided.{decided_last, decided_before}
use Rattle.ga_provenance.proofs.deciding.BranchDecisions.next.Goals as goal

pub returns-in-Some-clause-value : goal.returns-in-Some-clause-value
returns-in-Some-clause-value c =
    let begun = c.args.self.now in
    let k : ℕ = c.back.new.self.step in
    let is : suc k ≡ c.going.self.step = omega (arith, c.back.ensures.step) in
    decided_last begun.machine begun.node c.going.self.step k c.in-Some.decision is
    (c.in-Some.ensures.value ∙ ap (λ (w : NodeAtStep). branch_decision_at w.machine w.node k) c.going.invariant.same)
    ∙ c.going.invariant.newest

pub going-preserved : goal.going-preserved
going-preserved c =
    let begun = c.args.self.now in
    let k : ℕ = c.back.new.self.step in
    let is : suc k ≡ c.going.self.step = omega (arith, c.back.ensures.step) in
    record {
      same = c.back.ensures.same ∙ ap (λ (w : NodeAtStep). node_at_step w.machine w.node k) c.going.invariant.same;
      newest = decided_before begun.machine begun.node c.going.self.step k is
          (sym c.in_default.is ∙ c.back.ensures.value ∙ ap (λ (w : NodeAtStep). branch_decision_at w.machine w.node k) c.going.invariant.same)
          ∙ c.going.invariant.newest;
    }
