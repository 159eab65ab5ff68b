use Rattle.std.proofs.Common.{rules, ◌-◌, ℕ, List, ◌++◌, [], refl, sym, ap, ◌∙◌, arith}
use Rattle.ga_lab.specs.Machine.{NodeAtStep, node_at_step}
use Rattle.ga_provenance.specs.Deciding.{newest_decision}
use Rattle.ga_provenance.proofs.Decided.{decision_moved}
use Rattle.ga_text.proofs.WriteLemmas.{truncated_here, written_pending}
use Rattle.ga_explorer_text.specs.Because.{branch_decision_text, decisions_text}
use Rattle.ga_explorer_text.proofs.Saying.{line_written, line_truncated, all_said}
use Rattle.ga_explorer_text.proofs.Because.{no_more, none_left, next_decision}
use Rattle.ga_explorer_text.proofs.source_suffix.StepContext.say_decisions.Goals as goal

pub telling-init : goal.telling-init
telling-init g c = record {
  decisions = c.requires;
  same = search rules;
  said = λ before said h. record {
    front = [];
    splits = refl;
    is_said = written_pending _ before said _ h;
  };
}

pub say_decision-requires : goal.say_decision-requires
say_decision-requires g c =
    decision_moved c.args.self.now.lab.now c.args.self.now.node c.telling.decisions.step c.in-Some.decision
    (sym (c.in-Some.ensures.value ∙ ap (λ (w : NodeAtStep). newest_decision w.machine w.node c.telling.decisions.step) c.telling.invariant.decisions))

pub returns-in_default : goal.returns-in_default
returns-in_default g c = (
  search rules,
  λ before said h.
      let notes = c.args.self.now.notes.now in
      let s = c.args.self.now.lab.now in
      let node = c.args.self.now.node in
      let at = c.telling.decisions.step in
      let whole : List ℕ = decisions_text notes s node c.args.most c.args.decisions.now.step in (
        whole,
        refl,
        all_said _ before said whole _ _
            (none_left notes s node c.telling.left at (omega (arith, c.telling-test.true))
            (sym c.in_default.is ∙ c.next.ensures.value ∙ ap (λ (w : NodeAtStep). newest_decision w.machine w.node at) c.telling.invariant.decisions))
            (c.telling.invariant.said before said h),
      ),
)

pub returns-in_err-say_decision : goal.returns-in_err-say_decision
returns-in_err-say_decision g c = (
  search rules,
  λ before said h.
      let notes = c.args.self.now.notes.now in
      let s = c.args.self.now.lab.now in
      let node = c.args.self.now.node in
      let at = c.telling.decisions.step in
      let decision = c.in-Some.decision in
      let whole : List ℕ = decisions_text notes s node c.args.most c.args.decisions.now.step in
      let done = c.telling.invariant.said before said h in
      let more = next_decision notes s node c.telling.left (c.telling.left - 1) at c.next.new.self.step decision (omega (arith, c.telling-test.true)) refl
      (c.in-Some.ensures.value ∙ ap (λ (w : NodeAtStep). newest_decision w.machine w.node at) c.telling.invariant.decisions) c.in-Some.ensures.step in (
        whole,
        refl,
        truncated_here c.from_residual.result _ before (said ++ whole) _ c.from_residual.ensures.0
            (line_truncated _ before said whole _ (branch_decision_text notes s node decision) _ done.front more done.splits (c.in_err-say_decision.ensures.1 before (said ++ done.front) done.is_said)),
      ),
)

pub telling-preserved : goal.telling-preserved
telling-preserved g c = record {
  decisions = c.in-Some.ensures.same ∙ ap (λ (w : NodeAtStep). node_at_step w.machine w.node c.next.new.self.step) c.telling.invariant.decisions;
  same = search rules;
  said = λ before said h.
      let notes = c.args.self.now.notes.now in
      let s = c.args.self.now.lab.now in
      let node = c.args.self.now.node in
      let at = c.telling.decisions.step in
      let decision = c.in-Some.decision in
      let whole : List ℕ = decisions_text notes s node c.args.most c.args.decisions.now.step in
      let done = c.telling.invariant.said before said h in
      let more = next_decision notes s node c.telling.left (c.telling.left - 1) at c.next.new.self.step decision (omega (arith, c.telling-test.true)) refl
      (c.in-Some.ensures.value ∙ ap (λ (w : NodeAtStep). newest_decision w.machine w.node at) c.telling.invariant.decisions) c.in-Some.ensures.step in
      line_written _ before said whole _ (branch_decision_text notes s node decision) _ done.front _ more done.splits (c.in_ok-say_decision.ensures.1 before (said ++ done.front) done.is_said);
}

pub returns : goal.returns
returns g c = (
  search rules,
  λ before said h.
      let whole : List ℕ = decisions_text c.args.self.now.notes.now c.args.self.now.lab.now c.args.self.now.node c.args.most c.args.decisions.now.step in (
        whole,
        refl,
        all_said _ before said whole _ _ (no_more c.args.self.now.notes.now c.args.self.now.lab.now c.args.self.now.node c.telling.left c.telling.decisions.step (omega (arith, c.telling-test.false))) (c.telling.invariant.said before said h),
      ),
)
