use Rattle.std.proofs.Common.{rules, ◌≡◌, List, ℕ, ◌-◌, ◌++◌, ap, ◌∙◌}
use Rattle.ga_lab.specs.Machine.{NodeAtStep}
use Rattle.ga_text.proofs.WriteLemmas.{truncated_here, truncated_within}
use Rattle.ga_provenance.proofs.Made.{has_step_so}
use Rattle.ga_explorer_text.specs.Around.{numbered_step_text}
use Rattle.ga_explorer_text.specs.SourceSuffix.{step_suffix_text}
use Rattle.ga_explorer_text.proofs.Saying.{text_as, joined_written, placed}
use Rattle.ga_explorer_text.proofs.source_suffix.StepContext.say_made.Goals as goal

pub invariant_of-there : goal.invariant_of-there
invariant_of-there g c =
    let here = c.args.self.now in
    let there = c.walk_back_to.ensures ∙ ap (λ (z : NodeAtStep). record z { step = c.args.step }) (c.copy-near.ensures ∙ here.stands) in
    record { stands = has_step_so here.lab.now here.node c.args.step c.walk_back_to.new.self there }

pub returns-in_err-write_blocks : goal.returns-in_err-write_blocks
returns-in_err-write_blocks g c = (
  search rules,
  λ before said h.
      let notes = c.args.self.now.notes.now in
      let s = c.args.self.now.lab.now in
      let node = c.args.self.now.node in
      let whole = numbered_step_text notes s node (c.args.step - 1) in
      let k : ℕ = c.walk_back_to.new.self.step in
      let is : k ≡ c.args.step = ap (λ (z : NodeAtStep). z.step) c.walk_back_to.ensures in
      let tail = step_suffix_text notes s node k in
      truncated_here c.from_residual.result _ before (said ++ whole) _ c.from_residual.ensures.0
      (truncated_within _ before said c.as_slice.result.now tail whole
      (ap (λ (t : List ℕ). t ++ tail) (c.as_slice.ensures.value ∙ c.place_line.ensures) ∙ placed notes s node k c.args.step is c.requires.some)
      (c.in_err-write_blocks.ensures.1 before said h)),
)

pub returns : goal.returns
returns g c = (
  search rules,
  λ before said h.
      let notes = c.args.self.now.notes.now in
      let s = c.args.self.now.lab.now in
      let node = c.args.self.now.node in
      let line : List ℕ = c.as_slice.result.now in
      let k : ℕ = c.walk_back_to.new.self.step in
      let is : k ≡ c.args.step = ap (λ (z : NodeAtStep). z.step) c.walk_back_to.ensures in
      let tail = step_suffix_text notes s node k in
      text_as c.write_current_step_suffix.result _ before said (line ++ tail) (numbered_step_text notes s node (c.args.step - 1)) _
      (ap (λ (t : List ℕ). t ++ tail) (c.as_slice.ensures.value ∙ c.place_line.ensures) ∙ placed notes s node k c.args.step is c.requires.some)
      (joined_written c.write_current_step_suffix.result _ before said line tail _ (c.write_current_step_suffix.ensures.1 before (said ++ line) (c.in_ok-write_blocks.ensures.1 before said h))),
)
