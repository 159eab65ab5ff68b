use Rattle.std.proofs.Common.{◌≡◌, ℕ, List, drop}
use Rattle.ga_text.specs.Output.{IsTextWrittenOrPending}
use Rattle.ga_check_report.specs.EndTexts.{end_kinds_text}
use Rattle.ga_explorer_text.proofs.Saying.{IsWrittenUpTo}
use Rattle.ga_check_report.proofs.ends_text.write_kinds.Given as goal

abbrev pub invariant-kinds : goal.invariant-kinds
invariant-kinds g l = (l.writer.stream.ghost_name ≡ l.fn.writer.stream.ghost_name)
    × ((before said : List ℕ) → IsTextWrittenOrPending (g.W.Write.contents l.fn.writer.stream.now) before said l.fn.writer.pending.items
    → IsWrittenUpTo (g.W.Write.contents l.writer.stream.now) before said (end_kinds_text l.found.decisions 0 l.kinds) (end_kinds_text l.found.decisions l.place (drop l.place l.kinds)) l.writer.pending.items)
