use Rattle.std.proofs.Common.{◌≡◌, ℕ, List, drop}
use Rattle.std.specs.Prelude.{map}
use Rattle.ga_text.specs.Output.{IsTextWrittenOrPending}
use Rattle.ga_explorer.specs.Forms.{command_rows_text}
use Rattle.ga_explorer.specs.inner.{command_entry_of_row}
use Rattle.ga_explorer_text.proofs.Saying.{IsWrittenUpTo}
use Rattle.ga_explorer.proofs.forms.say_rows.Given as goal

abbrev pub invariant-rows : goal.invariant-rows
invariant-rows g l = (l.writer.stream.ghost_name ≡ l.fn.writer.stream.ghost_name)
    × ((before said : List ℕ) → IsTextWrittenOrPending (g.W.Write.contents l.fn.writer.stream.now) before said l.fn.writer.pending.items
    → IsWrittenUpTo (g.W.Write.contents l.writer.stream.now) before said (command_rows_text (map command_entry_of_row l.rows)) (command_rows_text (map command_entry_of_row (drop l.row-index l.rows))) l.writer.pending.items)
