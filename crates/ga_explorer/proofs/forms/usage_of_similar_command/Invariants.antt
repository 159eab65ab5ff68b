use Rattle.std.proofs.Common.{◌≡◌, drop}
use Rattle.std.specs.Prelude.{map}
use Rattle.ga_explorer.specs.NoCommand.{usage_of_similar_command}
use Rattle.ga_explorer.specs.inner.{command_entry_of_row}
use Rattle.ga_explorer.proofs.forms.usage_of_similar_command.Given as goal

abbrev pub invariant-rows : goal.invariant-rows
invariant-rows l = usage_of_similar_command l.word (map command_entry_of_row (drop l.row-index l.rows)) ≡ usage_of_similar_command l.word (map command_entry_of_row l.rows)
