-- The row of a command has the class of the command, and what is no change leaves the machine as it is.
use Rattle.std.specs.Prelude.{nat_eq, codes, option_map, if◌then◌else◌}
use Rattle.std.specs.Cmp.Lexicographic.{pointwise}
use Rattle.std.proofs.Common.{◌≡◌, ◌≢◌, ℕ, Bool, true, false, List, Option, Some, None, refl, sym, ◌∙◌, ap, subst, inl, inr, rules}
use Rattle.std.proofs.lemmas.Slice.Eq.{bytes_eq-Decides}
use Rattle.ga_lab.specs.Machine.{MachineState}
use Rattle.ga_text.specs.Parsing.{split_at_space}
use Rattle.ga_debug_info.specs.declared.notes.DebugInfo.{DebugInfo}
use Rattle.ga_display.specs.declared.wording.RefusalWording.{RefusalWording}
use Rattle.ga_display.specs.declared.wording.RefusalWording.TheVariants.{Advised}
use Rattle.ga_console.specs.Commands.{SpellsCommand}
use Rattle.ga_console.specs.Replies.{IsCommandReply, IsAnswerInWording, Reply, reply_in_wording}
use Rattle.ga_console.specs.Replies.IsAnswerInWording.{long, command, syntax}
use Rattle.ga_console.specs.declared.command.DebuggerCommand.{DebuggerCommand}
use Rattle.ga_console.specs.declared.command.DebuggerCommand.TheVariants.{Step, Back, Rewind, Node, Memory, Trace, Why, Count, Dump, Quit}
use Rattle.ga_explorer.specs.Answers.{AnswersExplorerLine, AnswersNonExplorerLine}
use Rattle.ga_explorer.specs.Answers.AnswersExplorerLine.{explored, debugged}
use Rattle.ga_explorer.specs.Classes.{command_class_of_name, command_class_of_line, class_of_explorer_command, class_of_debugger_command}
use Rattle.ga_explorer.specs.Commands.{explorer_command_of_line, explorer_command_of_split_line, single_word_command, text_query_of_word, query_without_arguments, command_with_arguments, query_with_arguments, command_table, AnswersExplorerCommand}
use Rattle.ga_explorer.specs.Forms.{command_index_from_place}
use Rattle.ga_explorer.specs.NoCommand.{command_word}
use Rattle.ga_explorer.specs.Opening.{ExplorerState}
use Rattle.ga_explorer.specs.Reading.{parse_run_arguments, parse_back_arguments}
use Rattle.ga_explorer.specs.declared.commands.ExplorerCommand.{ExplorerCommand}
use Rattle.ga_explorer.specs.declared.commands.ExplorerCommand.TheVariants as command
use Rattle.ga_explorer.specs.declared.changes.Change.{Change}
use Rattle.ga_explorer.specs.declared.command_table.TextQuery.{TextQuery}
use Rattle.ga_explorer.specs.declared.commands.Query.{Query as Question}
use Rattle.ga_explorer.specs.declared.commands.Query.TheVariants as question
use Rattle.ga_explorer.specs.declared.forms.CommandClass.TheVariants as class
use Rattle.ga_explorer.proofs.LineAnswers.{same_explored}

-- ---- queries

-- the row of this name is that of a query, if a query is spelled
abbrev IsQueryRow : List ℕ → Option Question → Type 0
IsQueryRow name None = Unit {0}
IsQueryRow name (Some question) = command_class_of_name name ≡ Some class.Query

any_query : (name : List ℕ) (asked : Option Question) → command_class_of_name name ≡ Some class.Query → IsQueryRow name asked
any_query name None of = tt
any_query name (Some question) of = of

-- a branch of a test on the name
query_if : (name word : List ℕ) (found others : Option Question) → command_class_of_name word ≡ Some class.Query → IsQueryRow name others
    → IsQueryRow name (if pointwise nat_eq name word then found else others)
query_if name word found others of later = by_test (pointwise nat_eq name word) (bytes_eq-Decides name word).0 where
  by_test : (b : Bool) → (b ≡ true → name ≡ word) → IsQueryRow name (if b then found else others)
  by_test true is = any_query name found (ap command_class_of_name (is refl) ∙ of)
  by_test false is = later

-- the same, of a query that only a text answers
text_query_if : (name word : List ℕ) (found others : Option TextQuery) → command_class_of_name word ≡ Some class.Query → IsQueryRow name (option_map question.Text others)
    → IsQueryRow name (option_map question.Text (if pointwise nat_eq name word then found else others))
text_query_if name word found others of later = by_test (pointwise nat_eq name word) (bytes_eq-Decides name word).0 where
  by_test : (b : Bool) → (b ≡ true → name ≡ word) → IsQueryRow name (option_map question.Text (if b then found else others))
  by_test true is = any_query name (option_map question.Text found) (ap command_class_of_name (is refl) ∙ of)
  by_test false is = later

text_query : (name : List ℕ) → IsQueryRow name (option_map question.Text (text_query_of_word name))
unfolding text_query_of_word command_table command_index_from_place
text_query name = search (rules, text_query_if)

bare : (name : List ℕ) → IsQueryRow name (query_without_arguments name)
unfolding query_without_arguments command_table command_index_from_place
bare name = search (rules, query_if, text_query)

with_arguments : (name text : List ℕ) → IsQueryRow name (query_with_arguments name text)
unfolding query_with_arguments command_table command_index_from_place
with_arguments name text = search (rules, query_if)

-- ---- commands of exploring

-- the row of this name has the class of the command, if one is spelled
abbrev IsItsRow : List ℕ → Option ExplorerCommand → Type 0
IsItsRow name None = Unit {0}
IsItsRow name (Some asked) = command_class_of_name name ≡ Some (class_of_explorer_command asked)

change_row : (name : List ℕ) (asked : Option Change) → command_class_of_name name ≡ Some class.Change → IsItsRow name (option_map command.Change asked)
change_row name None of = tt
change_row name (Some change) of = of

query_row : (name : List ℕ) (asked : Option Question) → IsQueryRow name asked → IsItsRow name (option_map command.AnswerQuery asked)
query_row name None h = tt
query_row name (Some question) h = h

row_if : (name word : List ℕ) (found others : Option ExplorerCommand) → command_class_of_name word ≡ Some class.Change
    → (command_class_of_name name ≡ Some class.Change → IsItsRow name found) → IsItsRow name others → IsItsRow name (if pointwise nat_eq name word then found else others)
row_if name word found others of change later = by_test (pointwise nat_eq name word) (bytes_eq-Decides name word).0 where
  by_test : (b : Bool) → (b ≡ true → name ≡ word) → IsItsRow name (if b then found else others)
  by_test true is = change (ap command_class_of_name (is refl) ∙ of)
  by_test false is = later

single_row : (name : List ℕ) → IsItsRow name (single_word_command name)
unfolding single_word_command command_table command_index_from_place
single_row name = row_if name (codes "run") _ _ refl (λ of. of) (query_row name (query_without_arguments name) (bare name))

arguments_row : (notes : Option DebugInfo) (name text : List ℕ) → IsItsRow name (command_with_arguments notes name text)
unfolding command_with_arguments command_table command_index_from_place
arguments_row notes name text =
    row_if name (codes "run") _ _ refl (change_row name (parse_run_arguments notes text)) (
    row_if name (codes "back") _ _ refl (change_row name (parse_back_arguments notes text)) (query_row name (query_with_arguments name text) (with_arguments name text)))

row_of_parts : (notes : Option DebugInfo) (parts : Option (List ℕ × List ℕ)) (line : List ℕ) → IsItsRow (command_word parts line) (explorer_command_of_split_line notes parts line)
row_of_parts notes None line = single_row line
row_of_parts notes (Some parts) line = arguments_row notes parts.0 parts.1

pub explored_class : (notes : Option DebugInfo) (line : List ℕ) (asked : ExplorerCommand) → explorer_command_of_line notes line ≡ Some asked → command_class_of_line line ≡ Some (class_of_explorer_command asked)
explored_class notes line asked e =
    let P : Option ExplorerCommand → Type 0 = IsItsRow (command_word (split_at_space line) line) in subst P e (row_of_parts notes (split_at_space line) line)

-- ---- commands of the debugger

pub debugged_class : (c : DebuggerCommand) (line : List ℕ) → SpellsCommand c line → command_class_of_line line ≡ Some (class_of_debugger_command c)
unfolding command_table command_index_from_place
debugged_class (Step node) line is = rw is refl
debugged_class Back line is = rw is refl
debugged_class (Rewind node k) line is = rw is.1 refl
debugged_class (Node node) line is = rw is refl
debugged_class (Memory node address) line is = rw is.2 refl
debugged_class (Trace node) line is = rw is refl
debugged_class (Why from k to j) line is = rw is.2 refl
debugged_class Count line is = rw is refl
debugged_class Dump line is = rw is refl
debugged_class Quit line is = rw is refl

-- ---- what is no change leaves the machine as it is

explored_same : (e : ExplorerState) (asked : ExplorerCommand) (answer : List ℕ) (new : ExplorerState) → class_of_explorer_command asked ≢ class.Change → AnswersExplorerCommand e asked answer new → new ≡ e
explored_same e (command.AnswerQuery question) answer new other_class does = does.1
explored_same e (command.Change change) answer new other_class does = absurd (other_class refl)

reply_same : (w : RefusalWording) (s : MachineState) (c : DebuggerCommand) → class_of_debugger_command c ≢ class.Change → (reply_in_wording w s c).1 ≡ s
reply_same w s (Step node) other_class = absurd (other_class refl)
reply_same w s Back other_class = absurd (other_class refl)
reply_same w s (Rewind node k) other_class = absurd (other_class refl)
reply_same w s other other_class = refl

does_same : (w : RefusalWording) (s : MachineState) (c : DebuggerCommand) (answer : List ℕ) (new : MachineState) → class_of_debugger_command c ≢ class.Change → IsCommandReply w s c answer new → new ≡ s
does_same w s c answer new other_class (inl e) = ap (λ (r : Reply). r.1) e ∙ reply_same w s c other_class
does_same w s c answer new other_class (inr refused) = refused.2

line_same : (s : MachineState) (line answer : List ℕ) (new : MachineState) → command_class_of_line line ≢ Some class.Change → IsAnswerInWording Advised s line answer new → new ≡ s
line_same s line answer new other_class (long past text same) = same
line_same s line answer new other_class (command c short spelled does) = does_same Advised s c answer new (λ is. other_class (debugged_class c line spelled ∙ ap (λ z. Some z) is)) does
line_same s line answer new other_class (syntax short none text same) = same

other_same : (s : MachineState) (line answer : List ℕ) (new : MachineState) → command_class_of_line line ≢ Some class.Change → AnswersNonExplorerLine s line answer new → new ≡ s
other_same s line answer new other_class (inl of) = line_same s line answer new other_class of.1
other_same s line answer new other_class (inr none) = none.2

pub no_change_same : (e : ExplorerState) (line answer : List ℕ) (new : ExplorerState) → command_class_of_line line ≢ Some class.Change → AnswersExplorerLine e line answer new → new ≡ e
no_change_same e line answer new other_class (explored asked short spelled does) =
    explored_same e asked answer new (λ is. other_class (explored_class e.notes line asked spelled ∙ ap (λ z. Some z) is)) does
no_change_same e line answer new other_class (debugged none other notes) = same_explored e new (other_same e.lab line answer new.lab other_class other) notes
