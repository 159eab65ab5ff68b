use Rattle.std.proofs.Common.{◌≡◌, ℕ, ◌-◌, List, ◌++◌, ◌≤◌, Some}
use Rattle.ga_text.specs.Input.{IsWithinInputLimit}
use Rattle.ga_text.specs.Output.{IsTextWrittenOrPending}
use Rattle.ga_console.proofs.Heard.{Heard}
use Rattle.ga_console.proofs.commands.answer_lines.Given as goal

abbrev pub invariant-lines : goal.invariant-lines
invariant-lines g l = record {
  within : IsWithinInputLimit l.input;
  counted : l.number ≤ l.input.taken;
  same : l.writer.stream.ghost_name ≡ l.fn.writer.stream.ghost_name;
  heard : (left before said : List ℕ) → g.R.Read.remaining l.fn.reader ≡ Some left → IsTextWrittenOrPending (g.W.Write.contents l.fn.writer.stream.now) before said l.fn.writer.pending.items →
      (rest text : List ℕ) × (g.R.Read.remaining l.reader ≡ Some rest) × IsTextWrittenOrPending (g.W.Write.contents l.writer.stream.now) before (said ++ text) l.writer.pending.items
      × Heard g.S.Responder.answers l.fn.session (l.fn.input.bytes ++ left) l.fn.input.taken (l.input.bytes ++ rest) l.input.taken l.number text l.session;
}

abbrev pub decreases-lines : goal.decreases-lines
decreases-lines g l = 16777216 - l.input.taken
