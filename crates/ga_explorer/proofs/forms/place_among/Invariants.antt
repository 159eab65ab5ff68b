use Rattle.std.proofs.Common.{◌≡◌, drop}
use Rattle.std.specs.Prelude.{map}
use Rattle.ga_explorer.specs.Forms.{command_index_from_place}
use Rattle.ga_explorer.specs.inner.{command_entry_of_row}
use Rattle.ga_explorer.proofs.forms.place_among.Given as goal

abbrev pub invariant-rows : goal.invariant-rows
invariant-rows l = record {
  at : l.place ≡ l.row-index;
  left : command_index_from_place l.word l.row-index (map command_entry_of_row (drop l.row-index l.rows)) ≡ command_index_from_place l.word 0 (map command_entry_of_row l.rows);
}
