use Rattle.std.proofs.Common.{rules, ◌≡◌, ◌-◌, ℕ, List, ◌++◌, [], Some, codes, refl, sym, ap, ◌∙◌, arith}
use Rattle.ga_lab.specs.Machine.{NodeAtStep}
use Rattle.ga_provenance.specs.Deciding.{newest_decision}
use Rattle.ga_provenance.proofs.Decided.{decision_moved}
use Rattle.ga_text.proofs.WriteLemmas.{truncated_here, truncated_within, written_pending}
use Rattle.ga_explorer_text.specs.Because.{branch_decision_text, decisions_text, decisions_or_none_text}
use Rattle.ga_explorer_text.proofs.Saying.{joined_written}
use Rattle.ga_explorer_text.proofs.Because.{no_more, next_decision}
use Rattle.ga_explorer_text.proofs.source_suffix.StepContext.write_decisions.Goals as goal

pub returns-in_default : goal.returns-in_default
returns-in_default g c = (
  search rules,
  λ before said h. (
    codes "none\n",
    ap (decisions_or_none_text c.args.self.now.notes.now c.args.self.now.lab.now c.args.self.now.node c.args.most (c.args.self.now.near.step - 1))
        (sym c.in_default.is ∙ c.next.ensures.value ∙ ap (λ (w : NodeAtStep). newest_decision w.machine w.node w.step) c.before-decisions.ensures),
    c.write_text.ensures.1 before said h,
  ),
)

pub say_decision-requires : goal.say_decision-requires
say_decision-requires g c =
    decision_moved c.args.self.now.lab.now c.args.self.now.node (c.args.self.now.near.step - 1) c.in-Some.newest
    (sym (c.in-Some.ensures.value ∙ ap (λ (w : NodeAtStep). newest_decision w.machine w.node w.step) c.before-decisions.ensures))

pub returns-then-most-eq0 : goal.returns-then-most-eq0
returns-then-most-eq0 g c = (
  search rules,
  λ before said h.
      let notes = c.args.self.now.notes.now in
      let s = c.args.self.now.lab.now in
      let node = c.args.self.now.node in
      let k = c.args.self.now.near.step - 1 in
      let some : Some c.in-Some.newest ≡ newest_decision s node k = c.in-Some.ensures.value ∙ ap (λ (w : NodeAtStep). newest_decision w.machine w.node w.step) c.before-decisions.ensures in (
        [],
        sym (no_more notes s node c.args.most k (omega (arith, c.if-most-eq0.true))) ∙ ap (decisions_or_none_text notes s node c.args.most k) some,
        written_pending _ before said _ h,
      ),
)

pub returns-in_err-say_decision : goal.returns-in_err-say_decision
returns-in_err-say_decision g c = (
  search rules,
  λ before said h.
      let notes = c.args.self.now.notes.now in
      let s = c.args.self.now.lab.now in
      let node = c.args.self.now.node in
      let k = c.args.self.now.near.step - 1 in
      let some : Some c.in-Some.newest ≡ newest_decision s node k = c.in-Some.ensures.value ∙ ap (λ (w : NodeAtStep). newest_decision w.machine w.node w.step) c.before-decisions.ensures in
      let newest = c.in-Some.newest in
      let now = c.next.new.self.step in
      let rest : List ℕ = decisions_text notes s node (c.args.most - 1) now in
      let whole : List ℕ = decisions_text notes s node c.args.most k in
      let more = next_decision notes s node c.args.most (c.args.most - 1) k now newest (omega (arith, c.if-most-eq0.false)) refl some c.in-Some.ensures.step in (
        whole,
        ap (decisions_or_none_text notes s node c.args.most k) some,
        truncated_here c.from_residual.result _ before (said ++ whole) _ c.from_residual.ensures.0
            (truncated_within _ before said (branch_decision_text notes s node newest) rest whole (sym more) (c.in_err-say_decision.ensures.1 before said h)),
      ),
)

pub returns : goal.returns
returns g c = (
  search rules,
  λ before said h.
      let notes = c.args.self.now.notes.now in
      let s = c.args.self.now.lab.now in
      let node = c.args.self.now.node in
      let k = c.args.self.now.near.step - 1 in
      let some : Some c.in-Some.newest ≡ newest_decision s node k = c.in-Some.ensures.value ∙ ap (λ (w : NodeAtStep). newest_decision w.machine w.node w.step) c.before-decisions.ensures in
      let newest = c.in-Some.newest in
      let now = c.next.new.self.step in
      let first : List ℕ = branch_decision_text notes s node newest in
      let done = c.say_decisions.ensures.1 before (said ++ first) (c.in_ok-say_decision.ensures.1 before said h) in
      let more = next_decision notes s node c.args.most (c.args.most - 1) k now newest (omega (arith, c.if-most-eq0.false)) refl some c.in-Some.ensures.step in (
        first ++ done.0,
        ap (λ (z : List ℕ). first ++ z) done.1 ∙ sym more ∙ ap (decisions_or_none_text notes s node c.args.most k) some,
        joined_written c.say_decisions.result _ before said first done.0 _ done.2,
      ),
)
