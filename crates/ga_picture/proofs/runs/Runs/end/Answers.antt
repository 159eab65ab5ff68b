use Rattle.std.proofs.Common.{◌≡◌, ◌+◌, ◌||◌, ap, sym, ◌∙◌, subst, arith}
use Rattle.ga_causal.specs.Dependence.{is_node_flagged}
use Rattle.ga_causal.specs.Equivalence.{event_observes_node}
use Rattle.ga_picture.proofs.Running.{AreEnded, ended_none, ended_one, ended_same, ended_within}
use Rattle.ga_picture.proofs.runs.Runs.end.Goals.{then-has, else-has}
use Rattle.ga_picture.proofs.runs.Runs.end.Goals as goal

pub nodes-init : goal.nodes-init
nodes-init c = ended_none c.args.self.now c.args.item.now.cause c.requires

pub nodes-preserved : goal.nodes-preserved
nodes-preserved c =
    let e = c.args.item.now.cause in
    let seen : event_observes_node e c.nodes.number ≡ c.has.result =
    sym (c.has.ensures ∙ ap (is_node_flagged c.add_observed_nodes.new.self) c.new.ensures ∙ c.add_observed_nodes.ensures c.nodes.number ∙ ap (λ b. b || event_observes_node e c.nodes.number) (c.none-seen.ensures c.nodes.number)) in
    elim c.if-has.branch [
      | then-has w ↦ ended_one c.args.self.now c.nodes.self c.if-has.self e c.nodes.number (omega arith) c.nodes.invariant (seen ∙ w.if-has.true) (ap (λ z. z.counts) w.self-is)
          (ap (λ z. z.shades) w.self-is)
      | else-has w ↦ subst (λ z. AreEnded c.args.self.now z e (c.nodes.number + 1)) (sym w.self-is)
          (ended_same c.args.self.now c.nodes.self e c.nodes.number c.nodes.invariant (seen ∙ w.if-has.false))
    ]

pub returns-clause-counts : goal.returns-clause-counts
returns-clause-counts c = λ n l. c.nodes.invariant.done n (omega (arith, l))

pub returns-clause-within : goal.returns-clause-within
returns-clause-within c = λ bound h. ended_within c.args.self.now c.nodes.self c.args.item.now.cause c.nodes.number bound c.nodes.invariant h
