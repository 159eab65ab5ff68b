-- What `help` says of commands (docs/REFERENCE.md, "Exploring"; this project's own).
use Rattle.std.specs.Prelude.{ℕ, ◌+◌, nat_eq, if◌then◌else◌, List, [], ◌∷◌, ◌++◌, flat_map, Option, Some, None}
use Rattle.std.specs.Cmp.Lexicographic.{pointwise}
use Rattle.ga_text.specs.Lines.{Text, Line}
use Rattle.ga_explorer.specs.declared.forms.CommandClass.{CommandClass}
use Rattle.ga_explorer.specs.declared.forms.CommandClass.TheVariants.{Query, Change}

-- a command: the word that its line begins with, its class, its form, what `help` writes after that, and what `help` of this
-- command writes in addition
pub record CommandEntry : Type 0 where
  pub name : Text
  pub class : CommandClass
  pub form : Text
  pub does : Text
  pub more : Text

-- the row of a query
abbrev pub entry_of_query_command : Text → Text → Text → Text → CommandEntry
entry_of_query_command name form does more = record { name = name; class = Query; form = form; does = does; more = more }

-- the row of a command that changes the machine
abbrev pub entry_of_changing_command : Text → Text → Text → Text → CommandEntry
entry_of_changing_command name form does more = record { name = name; class = Change; form = form; does = does; more = more }

abbrev pub command_row_text : CommandEntry → Text
command_row_text row = row.form ++ row.does

abbrev pub command_rows_text : List CommandEntry → Text
command_rows_text all = flat_map command_row_text all

-- the place of the command of this name among these, which follow `place` others
unfoldable pub command_index_from_place : Line → ℕ → List CommandEntry → Option ℕ
command_index_from_place word before [] = None
command_index_from_place word before (row ∷ more) = if pointwise nat_eq row.name word then Some before else command_index_from_place word (before + 1) more

-- the text of `help` about one command
abbrev pub command_details_text : CommandEntry → Text
command_details_text row = command_row_text row ++ row.more

abbrev pub optional_command_details_text : Option CommandEntry → Text
optional_command_details_text None = []
optional_command_details_text (Some row) = command_details_text row
