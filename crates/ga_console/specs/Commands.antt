-- The commands, and which line spells which: words with one space between two of them (docs/REFERENCE.md, "Sessions"; this
-- project's own).
use Rattle.std.specs.Prelude.{◌≡◌, List, [], ◌∷◌, ◌++◌, codes, decimal}
use Rattle.ga_text.specs.Lines.{Text, Line}
use Rattle.ga_text.specs.Digits.{name_of_node}
use Rattle.ga_text.specs.Parsing.{IsStepNumberInRange, SpellsAddress}
use Rattle.ga_display.specs.Texts.{join_with_spaces}
use Rattle.ga_console.specs.declared.command.DebuggerCommand.{DebuggerCommand}
use Rattle.ga_console.specs.declared.command.DebuggerCommand.TheVariants.{Step, Back, Rewind, Node, Memory, Trace, Why, Count, Dump, Quit}

-- the line spells the command; numbers are decimal, without leading zeros
abbrev pub SpellsCommand : DebuggerCommand → Line → Type 0
SpellsCommand (Step node) line = line ≡ join_with_spaces (codes "step" ∷ name_of_node node ∷ [])
SpellsCommand Back line = line ≡ codes "back"
SpellsCommand (Rewind node k) line = IsStepNumberInRange k × (line ≡ join_with_spaces (codes "rewind" ∷ name_of_node node ∷ decimal k ∷ []))
SpellsCommand (Node node) line = line ≡ join_with_spaces (codes "node" ∷ name_of_node node ∷ [])
SpellsCommand (Memory node address) line =
    (word : Text)
    × SpellsAddress address word
    × (line ≡ join_with_spaces (codes "mem" ∷ name_of_node node ∷ word ∷ []))
SpellsCommand (Trace node) line = line ≡ join_with_spaces (codes "trace" ∷ name_of_node node ∷ [])
SpellsCommand (Why from k to j) line =
    IsStepNumberInRange k
    × IsStepNumberInRange j
    × (line ≡ join_with_spaces (codes "why" ∷ name_of_node from ∷ decimal k ∷ name_of_node to ∷ decimal j ∷ []))
SpellsCommand Count line = line ≡ codes "count"
SpellsCommand Dump line = line ≡ codes "dump"
SpellsCommand Quit line = line ≡ codes "quit"
