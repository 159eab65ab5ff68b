use Rattle.std.proofs.Common.{rules, ◌≡◌, ◌∙◌, [], List, Some, None, refl, sym, ap}
use Rattle.std.specs.Prelude.{option_map, slice_get}
use Rattle.std.proofs.lemmas.Option.{slice_get-map}
use Rattle.ga_text.proofs.WriteLemmas.{written_as, written_pending}
use Rattle.ga_explorer.specs.Forms.{CommandEntry, command_details_text, optional_command_details_text}
use Rattle.ga_explorer.specs.Commands.{command_table, command_help_text}
use Rattle.ga_explorer.specs.inner.{command_entry_of_row}
use Rattle.ga_explorer_text.proofs.Saying.{text_as}
use Rattle.ga_explorer.proofs.forms.say_command.Goals as goal

pub returns-in-Some : goal.returns-in-Some
returns-in-Some g c = (
  search rules,
  λ before said h.
      let row = c.in-Some.row.now in
      let found : Some row ≡ slice_get c.command_table.result.now c.args.place = c.in-Some.ensures in
      let entry : Some (command_entry_of_row row) ≡ slice_get command_table c.args.place =
      ap (option_map command_entry_of_row) found ∙ sym (slice_get-map command_entry_of_row c.command_table.result.now c.args.place) ∙ ap (λ (z : List CommandEntry). slice_get z c.args.place) c.command_table.ensures in (
        command_help_text c.args.place,
        refl,
        text_as c.say_about.result _ before said (command_details_text (command_entry_of_row row)) (command_help_text c.args.place) _ (ap optional_command_details_text entry) (c.say_about.ensures.1 before said h),
      ),
)

pub returns-in-None : goal.returns-in-None
returns-in-None g c = (
  search rules,
  λ before said h.
      let found : None ≡ slice_get c.command_table.result.now c.args.place = c.in-None.ensures in
      let entry : None ≡ slice_get command_table c.args.place =
      ap (option_map command_entry_of_row) found ∙ sym (slice_get-map command_entry_of_row c.command_table.result.now c.args.place) ∙ ap (λ (z : List CommandEntry). slice_get z c.args.place) c.command_table.ensures in (
        command_help_text c.args.place,
        refl,
        written_as _ before said [] (command_help_text c.args.place) _ (ap optional_command_details_text entry) (written_pending _ before said _ h),
      ),
)
