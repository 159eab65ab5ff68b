use Rattle.std.proofs.Common.{◌≡◌, drop}
use Rattle.std.specs.Prelude.{map}
use Rattle.ga_explorer.specs.NoCommand.{command_usage_of_name}
use Rattle.ga_explorer.specs.inner.{command_entry_of_row}
use Rattle.ga_explorer.proofs.forms.form_in.Given as goal

abbrev pub invariant-rows : goal.invariant-rows
invariant-rows l = command_usage_of_name l.word (map command_entry_of_row (drop l.row-index l.rows)) ≡ command_usage_of_name l.word (map command_entry_of_row l.rows)
