-- The answer to a line that is no command (docs/REFERENCE.md, "Exploring"; this project's own).
use Rattle.std.specs.Prelude.{nat_eq, nat_le, Bool, false, ◌&&◌, ◌||◌, if◌then◌else◌, List, [], ◌∷◌, ◌++◌, codes, Option, Some, None}
use Rattle.std.specs.Cmp.Lexicographic.{pointwise}
use Rattle.std.specs.List.{starts_with, ends_with}
use Rattle.ga_text.specs.Lines.{Text, Line}
use Rattle.ga_text.specs.Parsing.{split_at_space}
use Rattle.ga_parser.specs.Nearness.{is_within_one_edit}
use Rattle.ga_explorer.specs.Forms.{CommandEntry}
use Rattle.ga_explorer.specs.Commands.{command_table}

-- the form of the command of this name
unfoldable pub command_usage_of_name : Line → List CommandEntry → Option Text
command_usage_of_name word [] = None
command_usage_of_name word (row ∷ more) = if pointwise nat_eq row.name word then Some row.form else command_usage_of_name word more

-- the form of the first command that has nearly this name
unfoldable pub usage_of_similar_command : Line → List CommandEntry → Option Text
usage_of_similar_command word [] = None
usage_of_similar_command word (row ∷ more) = if is_within_one_edit word row.name then Some row.form else usage_of_similar_command word more

abbrev pub command_usage_or_default : Option Text → Text → Text
command_usage_or_default None other = other
command_usage_or_default (Some form) other = form

abbrev pub suggested_command_usage : Line → Text
suggested_command_usage word = command_usage_or_default (command_usage_of_name word command_table) (command_usage_or_default (usage_of_similar_command word command_table) (codes "help"))

-- the word with which a line begins
abbrev pub command_word : Option (Line × Line) → Line → Line
command_word None line = line
command_word (Some parts) line = parts.0

-- the line begins with the byte order mark of UTF-8
abbrev pub begins_with_byte_order_mark : Line → Bool
begins_with_byte_order_mark line = starts_with nat_eq line (239 ∷ 187 ∷ 191 ∷ [])

abbrev pub ends_with_carriage_return : Line → Bool
ends_with_carriage_return line = ends_with nat_eq line (13 ∷ [])

-- the line begins or ends with a blank or a tab
abbrev pub has_leading_or_trailing_blank : Line → Bool
has_leading_or_trailing_blank line = starts_with nat_eq line (32 ∷ []) || (starts_with nat_eq line (9 ∷ []) || (ends_with nat_eq line (32 ∷ []) || ends_with nat_eq line (9 ∷ [])))

-- A letter is in upper case.
unfoldable pub has_upper_case_letter : Line → Bool
has_upper_case_letter [] = false
has_upper_case_letter (letter ∷ more) = (nat_le 65 letter && nat_le letter 90) || has_upper_case_letter more

-- what to write in place of the line
abbrev pub command_suggestion : Line → Text
command_suggestion line =
    if begins_with_byte_order_mark line then codes "a byte order mark stands before the command; leave it out"
    else if ends_with_carriage_return line then codes "a carriage return ends the line; end it with a line feed alone"
    else if has_leading_or_trailing_blank line then codes "a blank stands at an end of the line; leave it out"
    else if has_upper_case_letter (command_word (split_at_space line) line) then codes "the command is in upper case; write it in lower case"
    else suggested_command_usage (command_word (split_at_space line) line)

abbrev pub unknown_command_text : Line → Text
unknown_command_text line = codes "no 31 syntax: " ++ command_suggestion line ++ codes "\n"
