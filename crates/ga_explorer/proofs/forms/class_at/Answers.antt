use Rattle.std.proofs.Common.{◌≡◌, ◌∙◌, List, Some, None, sym, ap}
use Rattle.std.specs.Prelude.{option_map, slice_get}
use Rattle.std.proofs.lemmas.Option.{slice_get-map}
use Rattle.ga_explorer.specs.Forms.{CommandEntry}
use Rattle.ga_explorer.specs.Commands.{command_table}
use Rattle.ga_explorer.specs.inner.{command_entry_of_row}
use Rattle.ga_explorer.proofs.forms.class_at.Goals as goal

pub returns-in-Some : goal.returns-in-Some
returns-in-Some c =
    let row = c.in-Some.row.now in
    let found : Some row ≡ slice_get c.command_table.result.now c.args.place = c.in-Some.ensures in
    let entry : Some (command_entry_of_row row) ≡ slice_get command_table c.args.place =
    ap (option_map command_entry_of_row) found ∙ sym (slice_get-map command_entry_of_row c.command_table.result.now c.args.place) ∙ ap (λ (z : List CommandEntry). slice_get z c.args.place) c.command_table.ensures in
    ap (option_map (λ (it : CommandEntry). it.class)) entry

pub returns-in-None : goal.returns-in-None
returns-in-None c =
    let found : None ≡ slice_get c.command_table.result.now c.args.place = c.in-None.ensures in
    let entry : None ≡ slice_get command_table c.args.place =
    ap (option_map command_entry_of_row) found ∙ sym (slice_get-map command_entry_of_row c.command_table.result.now c.args.place) ∙ ap (λ (z : List CommandEntry). slice_get z c.args.place) c.command_table.ensures in
    ap (option_map (λ (it : CommandEntry). it.class)) entry
