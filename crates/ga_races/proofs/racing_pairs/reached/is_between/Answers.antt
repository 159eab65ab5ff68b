use Rattle.std.proofs.Common.{false, refl, sym, ◌∙◌, arith}
use Rattle.std.proofs.lemmas.Bool.{both_ways}
use Rattle.ga_causal.specs.Dependence.{is_node_flagged}
use Rattle.ga_races.specs.Acts.{trace_actions_of_accesses}
use Rattle.ga_races.proofs.Reaching.{first_reached, found, next_reached, none_between}
use Rattle.ga_races.proofs.racing_pairs.reached.is_between.Goals as goal

pub between-init : goal.between-init
between-init c =
    first_reached c.args.acts.now c.args.first c.args.later (is_node_flagged c.by-reached.result.touched) (is_node_flagged c.by-reached.result.shown) (is_node_flagged c.by-reached.result.looked)
    c.index-acts-first.result c.requires.order c.requires.within c.index-acts-first.is c.by-reached.ensures.touched c.by-reached.ensures.shown c.by-reached.ensures.looked

pub returns-then-both-clause-some : goal.returns-then-both-clause-some
returns-then-both-clause-some c = λ q.
    found c.args.acts.now c.args.first c.args.later c.between.place (is_node_flagged c.between.reached.touched) (is_node_flagged c.between.reached.shown) (is_node_flagged c.between.reached.looked)
    c.index-acts-place.result c.index-acts-later.result c.take-met.result c.keeps_order_with_event.result (omega (arith, c.between.auto.place)) c.between-test.true c.requires.within
    c.index-acts-place.is c.index-acts-later.is c.between.invariant c.take-met.ensures.answer c.keeps_order_with_event.ensures (sym c.both.ensures ∙ c.if-both.true)

pub between-preserved : goal.between-preserved
between-preserved c =
    next_reached c.args.acts.now c.args.first c.args.later c.between.place (is_node_flagged c.between.reached.touched) (is_node_flagged c.between.reached.shown) (is_node_flagged c.between.reached.looked)
    c.index-acts-place.result c.index-acts-later.result c.take-met.result c.keeps_order_with_event.result (omega (arith, c.between.auto.place)) c.between-test.true c.requires.within
    c.index-acts-place.is c.index-acts-later.is c.between.invariant c.take-met.ensures.answer c.keeps_order_with_event.ensures
    (is_node_flagged c.take-met.new.self.touched) (is_node_flagged c.take-met.new.self.shown) (is_node_flagged c.take-met.new.self.looked) (sym c.both.ensures ∙ c.if-both.false)
    c.take-met.ensures.touched c.take-met.ensures.shown c.take-met.ensures.looked

pub returns-clause-none : goal.returns-clause-none
returns-clause-none c = λ q m h k. both_ways false refl
    (none_between (trace_actions_of_accesses c.args.acts.now) c.args.first c.args.later (λ i l g. c.between.invariant.none i (omega (arith, l, c.between-test.false)) g) m h k)
