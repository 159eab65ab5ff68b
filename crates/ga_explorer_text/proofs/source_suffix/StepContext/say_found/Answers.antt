use Rattle.std.proofs.Common.{rules, ◌≡◌, ◌-◌, ℕ, List, Bool, ◌++◌, refl, sym, subst, ap, ◌∙◌, drop, arith, length-drop}
use Rattle.std.specs.Prelude.{Option, not}
use Rattle.std.specs.List.{All}
use Rattle.std.proofs.lemmas.List.Elements.{All-drop}
use Rattle.ga_lab.specs.Machine.{MachineState}
use Rattle.ga_debug_info.specs.declared.notes.DebugInfo.{DebugInfo}
use Rattle.ga_text.proofs.WriteLemmas.{truncated_here, truncated_within}
use Rattle.ga_provenance.specs.declared.lines.ProvenanceLine.{ProvenanceLine}
use Rattle.ga_provenance.specs.Lines.{IsLineOfMovedValue}
use Rattle.ga_explorer_text.specs.Whence.{has_queried_step_line, optional_queried_step_line, numbered_provenance_lines_text}
use Rattle.ga_explorer_text.specs.inner.{is_step_of_first_line}
use Rattle.ga_explorer_text.proofs.Saying.{joined_written}
use Rattle.ga_explorer_text.proofs.source_suffix.StepContext.say_found.Goals as goal

pub returns-in_err-say_queried : goal.returns-in_err-say_queried
returns-in_err-say_queried g c = (
  search rules,
  λ before said h.
      let notes = c.args.self.now.notes.now in
      let s = c.args.self.now.lab.now in
      let node = c.args.self.now.node in
      let at = c.args.self.now.near.step in
      let value = c.args.value in
      let first = c.args.first in
      let lines = c.args.lines.now in
      let made : not c.is_step_of_first_line-is_moved.result ≡ not (is_step_of_first_line at lines) = ap not (c.is_step_of_first_line-is_moved.ensures ∙ ap (λ (k : ℕ). is_step_of_first_line k lines) c.step.ensures.value) in
      let done = c.in_err-say_queried.ensures.1 before said h in
      let last = numbered_provenance_lines_text notes s (not (is_step_of_first_line at lines)) (first - 1) (drop (first - 1) lines) in (
        done.0 ++ last,
        ap (λ (z : List ℕ). z ++ last) (done.1 ∙ ap (λ (b : Bool). optional_queried_step_line notes s node at value b) (c.has_queried_step_line.ensures ∙ ap (λ (b : Bool). has_queried_step_line b first) made)),
        truncated_here c.from_residual.result _ before (said ++ (done.0 ++ last)) _ c.from_residual.ensures.0
            (truncated_within _ before said done.0 last (done.0 ++ last) refl done.2),
      ),
)

pub say_lines-requires-clause-most : goal.say_lines-requires-clause-most
say_lines-requires-clause-most g c = rw c.skip_provenance_lines-written.ensures (omega (arith, c.requires.most, length-drop {A = ProvenanceLine}))

pub say_lines-requires-clause-used : goal.say_lines-requires-clause-used
say_lines-requires-clause-used g c =
    subst (All (IsLineOfMovedValue c.args.self.now.lab.now)) (sym c.skip_provenance_lines-written.ensures) (All-drop (IsLineOfMovedValue c.args.self.now.lab.now) c.saturating_sub-skipped.result c.args.lines.now c.requires.used)

pub returns : goal.returns
returns g c = (
  search rules,
  λ before said h.
      let notes = c.args.self.now.notes.now in
      let s = c.args.self.now.lab.now in
      let node = c.args.self.now.node in
      let at = c.args.self.now.near.step in
      let value = c.args.value in
      let first = c.args.first in
      let lines = c.args.lines.now in
      let skipped = c.saturating_sub-skipped.result in
      let written = c.skip_provenance_lines-written.result.now in
      let made : not c.is_step_of_first_line-is_moved.result ≡ not (is_step_of_first_line at lines) = ap not (c.is_step_of_first_line-is_moved.ensures ∙ ap (λ (k : ℕ). is_step_of_first_line k lines) c.step.ensures.value) in
      let done = c.in_ok-say_queried.ensures.1 before said h in
      let more = c.say_lines.ensures.1 before (said ++ done.0) done.2 in
      let last : more.0 ≡ numbered_provenance_lines_text notes s (not (is_step_of_first_line at lines)) (first - 1) (drop (first - 1) lines) =
      more.1
      ∙ ap (λ (b : Bool). numbered_provenance_lines_text notes s b skipped written) made
      ∙ ap (λ (z : List ProvenanceLine). numbered_provenance_lines_text notes s (not (is_step_of_first_line at lines)) skipped z) c.skip_provenance_lines-written.ensures
      ∙ ap (λ (k : ℕ). numbered_provenance_lines_text notes s (not (is_step_of_first_line at lines)) k (drop k lines)) c.saturating_sub-skipped.ensures in (
        done.0 ++ more.0,
        ap (λ (z : List ℕ). z ++ more.0) (done.1 ∙ ap (λ (b : Bool). optional_queried_step_line notes s node at value b) (c.has_queried_step_line.ensures ∙ ap (λ (b : Bool). has_queried_step_line b first) made))
            ∙ ap (λ (z : List ℕ). optional_queried_step_line notes s node at value (has_queried_step_line (not (is_step_of_first_line at lines)) first) ++ z) last,
        joined_written c.say_lines.result _ before said done.0 more.0 _ more.2,
      ),
)
