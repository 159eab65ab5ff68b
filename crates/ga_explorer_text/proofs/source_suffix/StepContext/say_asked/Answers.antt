use Rattle.std.proofs.Common.{rules, ◌≡◌, ◌≤◌, false, ◌++◌, refl, sym, subst, ◌∙◌, inl, inr, length, arith}
use Rattle.std.specs.List.{All}
use Rattle.ga_provenance.specs.Lines.{IsLineOfMovedValue}
use Rattle.ga_text.proofs.WriteLemmas.{truncated_here, truncated_within}
use Rattle.ga_explorer_text.specs.Whence.{last_written_line_number, more_provenance_lines_text}
use Rattle.ga_explorer_text.proofs.Saying.{joined_written, lines_told}
use Rattle.ga_explorer_text.proofs.source_suffix.StepContext.say_asked.Goals as goal

pub say_found-requires-clause-used : goal.say_found-requires-clause-used
say_found-requires-clause-used g c = subst (All (IsLineOfMovedValue c.args.self.now.lab.now)) (sym c.as_slice-lines.ensures.value) c.in-Ok.ensures.used

pub say_found-requires-clause-most : goal.say_found-requires-clause-most
say_found-requires-clause-most g c = rw c.as_slice-lines.ensures.value (omega (arith, c.in-Ok.ensures.most, c.last_written_line_number.ensures))

pub returns-in_err-say_found-in-Ok : goal.returns-in_err-say_found-in-Ok
returns-in_err-say_found-in-Ok g c = (
  search rules,
  λ before said h.
      let done = c.in_err-say_found-in-Ok.ensures.1 before said h in
      let found = c.in-Ok.found in
      let first = c.args.first in
      let told = c.as_slice-lines.result.now in
      let last = more_provenance_lines_text (length told) first found.is_whole in
      let most : length found.lines.items ≤ last_written_line_number first = rw c.last_written_line_number.ensures at c.in-Ok.ensures.most in
      let cut : found.is_whole ≡ false → length found.lines.items ≡ last_written_line_number first = λ no. c.in-Ok.ensures.cut no ∙ c.last_written_line_number.ensures in (
        done.0 ++ last,
        inr (lines_told c.args.self.now.notes.now c.args.self.now.lab.now c.args.self.now.node c.args.self.now.near.step first c.args.value found.lines.items told found.is_whole done.0 last
            c.in-Ok.ensures.lines most cut c.as_slice-lines.ensures.value done.1 refl),
        truncated_here c.from_residual.result _ before (said ++ (done.0 ++ last)) _ c.from_residual.ensures.0
            (truncated_within _ before said done.0 last (done.0 ++ last) refl done.2),
      ),
)

pub returns-in_ok-say_found-in-Ok : goal.returns-in_ok-say_found-in-Ok
returns-in_ok-say_found-in-Ok g c = (
  search rules,
  λ before said h.
      let done = c.in_ok-say_found-in-Ok.ensures.1 before said h in
      let found = c.in-Ok.found in
      let first = c.args.first in
      let told = c.as_slice-lines.result.now in
      let last = c.as_slice.result.now in
      let most : length found.lines.items ≤ last_written_line_number first = rw c.last_written_line_number.ensures at c.in-Ok.ensures.most in
      let cut : found.is_whole ≡ false → length found.lines.items ≡ last_written_line_number first = λ no. c.in-Ok.ensures.cut no ∙ c.last_written_line_number.ensures in
      let is : last ≡ more_provenance_lines_text (length told) first found.is_whole = c.as_slice.ensures.value ∙ c.more_lines-last.ensures in (
        done.0 ++ last,
        inr (lines_told c.args.self.now.notes.now c.args.self.now.lab.now c.args.self.now.node c.args.self.now.near.step first c.args.value found.lines.items told found.is_whole done.0 last
            c.in-Ok.ensures.lines most cut c.as_slice-lines.ensures.value done.1 is),
        joined_written c.write_blocks.result _ before said done.0 last _ (c.write_blocks.ensures.1 before (said ++ done.0) done.2),
      ),
)

pub returns-in-Err : goal.returns-in-Err
returns-in-Err g c = (search rules, λ before said h. (c.advised_refusal_text.result.now, inl c.advised_refusal_text.ensures.text, c.write_text.ensures.1 before said h))
