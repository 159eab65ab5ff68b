use Rattle.std.proofs.Common.{rules, ◌≡◌, ◌+◌, ℕ, List, [], ◌++◌, refl, sym, subst, ap, ◌∙◌, arith}
use Rattle.std.specs.Prelude.{Option}
use Rattle.ga_text.proofs.WriteLemmas.{truncated_here, written_pending}
use Rattle.ga_lab.specs.Machine.{MachineState}
use Rattle.ga_debug_info.specs.declared.notes.DebugInfo.{DebugInfo}
use Rattle.ga_provenance.specs.Lines.{IsLineOfMovedValue}
use Rattle.ga_explorer_text.specs.Whence.{value_line_text, numbered_provenance_lines_text}
use Rattle.ga_explorer_text.proofs.Saying.{line_written, line_truncated, all_said, rest_numbered, none_numbered}
use Rattle.ga_explorer_text.proofs.source_suffix.StepContext.say_lines.Goals as goal

pub lines-init : goal.lines-init
lines-init g c = record {
  lab = c.copy-here.ensures.lab;
  notes = c.copy-here.ensures.notes;
  number = omega arith;
  same = search rules;
  said = λ before said h. record { front = []; splits = refl; is_said = written_pending _ before said _ h };
}

pub write_line-requires : goal.write_line-requires
write_line-requires g c =
    subst (λ (s : MachineState). IsLineOfMovedValue s c.line-item.result) (sym c.context_of_value_use-here.ensures.lab)
    (subst (IsLineOfMovedValue c.args.self.now.lab.now) (sym c.line-item.is) (c.requires.used c.lines.line-index c.line-item.result (omega arith)))

pub returns-in_err-write_line : goal.returns-in_err-write_line
returns-in_err-write_line g c = (
  search rules,
  λ before said h.
      let lines = c.args.lines.now in
      let notes = c.args.self.now.notes.now in
      let s = c.args.self.now.lab.now in
      let here = c.context_of_value_use-here.result in
      let whole : List ℕ = numbered_provenance_lines_text notes s c.args.is_moved c.args.skipped lines in
      let i : ℕ = c.lines.line-index in
      let done = c.lines.invariant.said before said h in
      let text = value_line_text here.notes.now here.lab.now c.args.is_moved (c.lines.number + 1) c.line-item.result in
      let same : text ≡ value_line_text notes s c.args.is_moved (c.lines.number + 1) c.line-item.result =
      ap (λ (n : Option DebugInfo). value_line_text n here.lab.now c.args.is_moved (c.lines.number + 1) c.line-item.result) c.context_of_value_use-here.ensures.notes
      ∙ ap (λ (t : MachineState). value_line_text notes t c.args.is_moved (c.lines.number + 1) c.line-item.result) c.context_of_value_use-here.ensures.lab in
      let more = rest_numbered notes s c.args.is_moved lines i c.lines.number c.line-item.result text (omega arith) (same ∙ ap (value_line_text notes s c.args.is_moved (c.lines.number + 1)) c.line-item.is) in (
        whole,
        refl,
        truncated_here c.from_residual.result _ before (said ++ whole) _ c.from_residual.ensures.0
            (line_truncated _ before said whole _ text _ done.front more done.splits (c.in_err-write_line.ensures.1 before (said ++ done.front) done.is_said)),
      ),
)

pub lines-preserved : goal.lines-preserved
lines-preserved g c = record {
  lab = c.context_of_value_use-here.ensures.lab;
  notes = c.context_of_value_use-here.ensures.notes;
  number = omega (arith, c.lines.invariant.number);
  same = search rules;
  said = λ before said h.
      let lines = c.args.lines.now in
      let notes = c.args.self.now.notes.now in
      let s = c.args.self.now.lab.now in
      let here = c.context_of_value_use-here.result in
      let i : ℕ = c.lines.line-index in
      let done = c.lines.invariant.said before said h in
      let text = value_line_text here.notes.now here.lab.now c.args.is_moved (c.lines.number + 1) c.line-item.result in
      let same : text ≡ value_line_text notes s c.args.is_moved (c.lines.number + 1) c.line-item.result =
      ap (λ (n : Option DebugInfo). value_line_text n here.lab.now c.args.is_moved (c.lines.number + 1) c.line-item.result) c.context_of_value_use-here.ensures.notes
      ∙ ap (λ (t : MachineState). value_line_text notes t c.args.is_moved (c.lines.number + 1) c.line-item.result) c.context_of_value_use-here.ensures.lab in
      let more = rest_numbered notes s c.args.is_moved lines i c.lines.number c.line-item.result text (omega arith) (same ∙ ap (value_line_text notes s c.args.is_moved (c.lines.number + 1)) c.line-item.is) in
      line_written _ before said (numbered_provenance_lines_text notes s c.args.is_moved c.args.skipped lines) _ text _ done.front _ more done.splits
      (c.in_ok-write_line.ensures.1 before (said ++ done.front) done.is_said);
}

pub returns : goal.returns
returns g c = (
  search rules,
  λ before said h.
      let lines = c.args.lines.now in
      let notes = c.args.self.now.notes.now in
      let s = c.args.self.now.lab.now in
      let whole : List ℕ = numbered_provenance_lines_text notes s c.args.is_moved c.args.skipped lines in (
        whole,
        refl,
        all_said _ before said whole _ _ (none_numbered notes s c.args.is_moved lines c.lines.line-index c.lines.number (omega arith)) (c.lines.invariant.said before said h),
      ),
)
