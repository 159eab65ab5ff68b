use Rattle.std.proofs.Common.{◌≡◌, ◌-◌, ℕ, List, false, inl, inr, refl, sym, ◌∙◌, subst, arith}
use Rattle.std.proofs.lemmas.Bool.{cases_lt}
use Rattle.std.proofs.lemmas.Result.{on_ok_weaker}
use Rattle.ga_races.specs.declared.racing_pairs.RacingPair.{RacingPair}
use Rattle.ga_races.specs.HappensBefore.{trace_action_at}
use Rattle.ga_races.specs.Acts.{trace_actions_of_accesses, is_look_of_node}
use Rattle.ga_races.specs.inner.{AddsRacingPairs, IsPairAtPlaces, IsPairWithChangeAtPlace}
use Rattle.ga_races.proofs.Asking.{look_found, look_hidden, look_none}
use Rattle.ga_races.proofs.racing_pairs.add_look.Goals as goal

pub back-init : goal.back-init
back-init c = record { within = omega arith; same = refl; none = λ q l k. absurd (omega (arith, l, k)) }

pub back-preserved : goal.back-preserved
back-preserved c = record {
  within = omega arith;
  same = c.back.invariant.same;
  none = λ q l k. elim (cases_lt (c.back.place - 1) q) [
    | inl more ↦ c.back.invariant.none q (omega (arith, more)) k
    | inr less ↦ (let e : c.back.place - 1 ≡ q = omega (arith, less, l) in
        subst (λ (z : ℕ). is_look_of_node (trace_action_at (trace_actions_of_accesses c.args.acts.now) z) c.args.node.number ≡ false) e (sym c.is_look_of_node.ensures ∙ c.if-is_look_of_node.false))
  ];
}

pub returns-then-is_look_of_node : goal.returns-then-is_look_of_node
returns-then-is_look_of_node c =
    on_ok_weaker c.add_near.result
    (λ m. look_found c.args.acts.now c.args.change (c.back.place - 1) c.args.node.number (omega arith) c.requires.changes (λ q l k. c.back.invariant.none q (omega (arith, l)) k)
    c.args.list.now.items c.add_near.new.list.items (sym c.is_look_of_node.ensures ∙ c.if-is_look_of_node.true)
    (subst (λ (z : List RacingPair). AddsRacingPairs c.args.acts.now (IsPairAtPlaces (c.back.place - 1) c.args.change) z c.add_near.new.list.items) c.back.invariant.same m))
    c.add_near.ensures

pub returns-then-hides : goal.returns-then-hides
returns-then-hides c =
    subst (λ (z : List RacingPair). AddsRacingPairs c.args.acts.now (IsPairWithChangeAtPlace c.args.acts.now c.args.change c.args.node.number) c.args.list.now.items z) (sym c.back.invariant.same)
    (look_hidden c.args.acts.now c.args.change (c.back.place - 1) c.args.node.number (omega arith) c.requires.changes (λ q l k. c.back.invariant.none q (omega (arith, l)) k)
    c.args.list.now.items (sym c.is_look_of_node.ensures ∙ c.if-is_look_of_node.false) (sym c.hides.ensures ∙ c.if-hides.true))

pub returns : goal.returns
returns c =
    subst (λ (z : List RacingPair). AddsRacingPairs c.args.acts.now (IsPairWithChangeAtPlace c.args.acts.now c.args.change c.args.node.number) c.args.list.now.items z) (sym c.back.invariant.same)
    (look_none c.args.acts.now c.args.change c.back.place c.args.node.number c.args.list.now.items (omega arith) c.back.invariant.none)
