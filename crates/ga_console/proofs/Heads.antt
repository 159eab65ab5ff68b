-- A line that spells a command begins with the first four bytes of one.
use Rattle.std.proofs.Common.{◌≡◌, ◌≤◌, ℕ, true, List, length, refl, sym, subst, arith}
use Rattle.ga_console.specs.Commands.{SpellsCommand}
use Rattle.ga_console.specs.inner.Parsing.{first_four_bytes_number, is_command_first_four_bytes}
use Rattle.ga_console.specs.declared.command.DebuggerCommand.{DebuggerCommand}
use Rattle.ga_console.specs.declared.command.DebuggerCommand.TheVariants.{Step, Back, Rewind, Node, Memory, Trace, Why, Count, Dump, Quit}

abbrev HasHead : List ℕ → Type 0
HasHead line = (4 ≤ length line) × (is_command_first_four_bytes (first_four_bytes_number line) ≡ true)

headed : (line text : List ℕ) → line ≡ text → HasHead text → HasHead line
headed line text e h = subst HasHead (sym e) h

pub spelled_head : (c : DebuggerCommand) (line : List ℕ) → SpellsCommand c line → (4 ≤ length line) × (is_command_first_four_bytes (first_four_bytes_number line) ≡ true)
spelled_head (Step node) line is = headed line _ is (omega arith, refl)
spelled_head Back line is = headed line _ is (omega arith, refl)
spelled_head (Rewind node k) line is = headed line _ is.1 (omega arith, refl)
spelled_head (Node node) line is = headed line _ is (omega arith, refl)
spelled_head (Memory node address) line is = headed line _ is.2 (omega arith, refl)
spelled_head (Trace node) line is = headed line _ is (omega arith, refl)
spelled_head (Why from k to j) line is = headed line _ is.2 (omega arith, refl)
spelled_head Count line is = headed line _ is (omega arith, refl)
spelled_head Dump line is = headed line _ is (omega arith, refl)
spelled_head Quit line is = headed line _ is (omega arith, refl)
