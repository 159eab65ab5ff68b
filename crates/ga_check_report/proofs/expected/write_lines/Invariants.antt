use Rattle.std.proofs.Common.{◌≡◌, List, ℕ, drop}
use Rattle.ga_text.specs.Output.{IsTextWrittenOrPending}
use Rattle.ga_check_report.specs.ExpectationTexts.{expectations_lines_text}
use Rattle.ga_explorer_text.proofs.Saying.{IsWrittenUpTo}
use Rattle.ga_check_report.proofs.expected.write_lines.Given as goal

abbrev pub invariant-expectations : goal.invariant-expectations
invariant-expectations g l = (l.writer.stream.ghost_name ≡ l.fn.writer.stream.ghost_name)
    × ((before said : List ℕ) → IsTextWrittenOrPending (g.W.Write.contents l.fn.writer.stream.now) before said l.fn.writer.pending.items
    → IsWrittenUpTo (g.W.Write.contents l.writer.stream.now) before said (expectations_lines_text l.whole l.outcomes l.decisions 0 l.expectations)
    (expectations_lines_text l.whole l.outcomes l.decisions l.place (drop l.place l.expectations)) l.writer.pending.items)
