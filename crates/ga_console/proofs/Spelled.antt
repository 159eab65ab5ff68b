-- A line spells the command that is read of it, and no other.
use Rattle.std.specs.Prelude.{nat_eq, codes, option_map, IfSome, IfNone}
use Rattle.std.specs.Cmp.Lexicographic.{pointwise}
use Rattle.std.proofs.Common.{◌≡◌, ℕ, Bool, true, false, cond, List, ◌∷◌, ◌++◌, decimal, Option, Some, None, refl, sym, ◌∙◌, ap, subst}
use Rattle.std.proofs.lemmas.Slice.Eq.{bytes_eq-Decides}
use Rattle.ga_grid.specs.declared.node_id.NodeId.{NodeId}
use Rattle.ga_console.specs.declared.command.DebuggerCommand.{DebuggerCommand}
use Rattle.ga_console.specs.declared.command.DebuggerCommand.TheVariants.{Step, Back, Rewind, Node, Memory, Trace, Why, Count, Dump, Quit}
use Rattle.ga_text.specs.Digits.{name_of_node, hex_byte_value}
use Rattle.ga_text.specs.Parsing.{IsStepNumberInRange, SpellsAddress, split_at_space, parse_node, parse_number}
use Rattle.ga_console.specs.Commands.{SpellsCommand}
use Rattle.ga_console.specs.inner.Parsing.{parse_step_arguments, parse_rewind_arguments, parse_memory_arguments, parse_why_arguments, command_without_arguments, debugger_command_with_arguments, debugger_command_of_split_line, command_spelled_by_line}
use Rattle.ga_text.proofs.Taking.{cut_joined, word_cut, first_step, mapped, node_name, name_node, name_word, number_decimal, decimal_number, decimal_word, byte_address, address_byte}

-- ---- what is read is spelled so

step_spelled : (text : List ℕ) (step : NodeId × ℕ) → parse_step_arguments text ≡ Some step → IsStepNumberInRange step.1 × (text ≡ name_of_node step.0 ++ 32 ∷ decimal step.1)
unfolding parse_step_arguments
step_spelled text step e =
    let (parts, whole, rest) = first_step (split_at_space text) _ step e in
    let (node, name, numbered) = first_step (parse_node parts.0) _ step rest in
    let (k, digits, made) = first_step (parse_number parts.1) _ step numbered in
    let same : (node, k) ≡ step = cc in
    let (is, text_is) = number_decimal parts.1 k digits in
    let P : NodeId × ℕ → Type 0 = λ s. IsStepNumberInRange s.1 × (text ≡ name_of_node s.0 ++ 32 ∷ decimal s.1) in
    subst P same (is, cut_joined text parts whole ∙ ap (λ (t : List ℕ). t ++ 32 ∷ parts.1) (node_name parts.0 node name) ∙ ap (λ (t : List ℕ). name_of_node node ++ 32 ∷ t) text_is)

-- the name is this one, and the command that comes with these arguments
Named : List ℕ → List ℕ → List ℕ → Option DebuggerCommand → DebuggerCommand → Type 0
Named name word text found c = name ≡ word → found ≡ Some c → SpellsCommand c (name ++ 32 ∷ text)

node_spelled : (word text : List ℕ) (f : NodeId → DebuggerCommand) (name : List ℕ) (c : DebuggerCommand)
    → ((node : NodeId) (line : List ℕ) → line ≡ word ++ 32 ∷ name_of_node node → SpellsCommand (f node) line) → Named name word text (option_map f (parse_node text)) c
unfolding Named
node_spelled word text f name c spells is e =
    let (node, found, same) = mapped (parse_node text) f c e in
    let P : DebuggerCommand → Type 0 = λ d. SpellsCommand d (name ++ 32 ∷ text) in
    subst P same (spells node (name ++ 32 ∷ text) (ap (λ (t : List ℕ). t ++ 32 ∷ text) is ∙ ap (λ (t : List ℕ). word ++ 32 ∷ t) (node_name text node found)))

rewind_spelled : (text name : List ℕ) (c : DebuggerCommand) → Named name (codes "rewind") text (parse_rewind_arguments text) c
unfolding Named parse_rewind_arguments
rewind_spelled text name c is e =
    let (step, found, same) = mapped (parse_step_arguments text) _ c e in
    let (number, whole) = step_spelled text step found in
    let P : DebuggerCommand → Type 0 = λ d. SpellsCommand d (name ++ 32 ∷ text) in
    subst P same (number, ap (λ (t : List ℕ). t ++ 32 ∷ text) is ∙ ap (λ (t : List ℕ). codes "rewind" ++ 32 ∷ t) whole)

memory_spelled : (text name : List ℕ) (c : DebuggerCommand) → Named name (codes "mem") text (parse_memory_arguments text) c
unfolding Named parse_memory_arguments
memory_spelled text name c is e =
    let (parts, whole, rest) = first_step (split_at_space text) _ c e in
    let (node, first, last) = first_step (parse_node parts.0) _ c rest in
    let (address, digits, made) = first_step (hex_byte_value parts.1) _ c last in
    let same : Memory node address ≡ c = cc in
    let P : DebuggerCommand → Type 0 = λ d. SpellsCommand d (name ++ 32 ∷ text) in
    subst P {x = Memory node address} same (
      parts.1,
      byte_address parts.1 address digits,
      ap (λ (t : List ℕ). t ++ 32 ∷ text) is
          ∙ ap (λ (t : List ℕ). codes "mem" ++ 32 ∷ t) (cut_joined text parts whole ∙ ap (λ (t : List ℕ). t ++ 32 ∷ parts.1) (node_name parts.0 node first)),
    )

why_spelled : (text name : List ℕ) (c : DebuggerCommand) → Named name (codes "why") text (parse_why_arguments text) c
unfolding Named parse_why_arguments
why_spelled text name c is e =
    let (first, whole, after) = first_step (split_at_space text) _ c e in
    let (second, rest, after_second) = first_step (split_at_space first.1) _ c after in
    let (from, from_found, after_from) = first_step (parse_node first.0) _ c after_second in
    let (k, k_found, after_k) = first_step (parse_number second.0) _ c after_from in
    let (to, to_found, made) = first_step (parse_step_arguments second.1) _ c after_k in
    let same : Why from k to.0 to.1 ≡ c = cc in
    let (k_small, k_text) = number_decimal second.0 k k_found in
    let (j_small, to_text) = step_spelled second.1 to to_found in
    let P : DebuggerCommand → Type 0 = λ d. SpellsCommand d (name ++ 32 ∷ text) in
    subst P {x = Why from k to.0 to.1} same (
      k_small,
      j_small,
      ap (λ (t : List ℕ). t ++ 32 ∷ text) is
          ∙ ap (λ (t : List ℕ). codes "why" ++ 32 ∷ t) (
          cut_joined text first whole
          ∙ ap (λ (t : List ℕ). t ++ 32 ∷ first.1) (node_name first.0 from from_found)
          ∙ ap (λ (t : List ℕ). name_of_node from ++ 32 ∷ t) (
          cut_joined first.1 second rest
          ∙ ap (λ (t : List ℕ). t ++ 32 ∷ second.1) k_text
          ∙ ap (λ (t : List ℕ). decimal k ++ 32 ∷ t) to_text
          )
          ),
    )

-- a branch of a test on a text
tested : (text word : List ℕ) (found others : Option DebuggerCommand) (c : DebuggerCommand) (Q : Type 0) → (text ≡ word → found ≡ Some c → Q) → (others ≡ Some c → Q)
    → cond (pointwise nat_eq text word) found others ≡ Some c → Q
tested text word found others c Q here later e = by_test (pointwise nat_eq text word) (bytes_eq-Decides text word).0 e where
  by_test : (b : Bool) → (b ≡ true → text ≡ word) → cond b found others ≡ Some c → Q
  by_test true is e = here (is refl) e
  by_test false is e = later e

arguments_spelled : (name text : List ℕ) (c : DebuggerCommand) → debugger_command_with_arguments name text ≡ Some c → SpellsCommand c (name ++ 32 ∷ text)
unfolding debugger_command_with_arguments Named
arguments_spelled name text c e =
    let Q : Type 0 = SpellsCommand c (name ++ 32 ∷ text) in
    tested name (codes "step") _ _ c Q (node_spelled (codes "step") text Step name c (λ node line is. is)) (
    tested name (codes "rewind") _ _ c Q (rewind_spelled text name c) (
    tested name (codes "node") _ _ c Q (node_spelled (codes "node") text Node name c (λ node line is. is)) (
    tested name (codes "mem") _ _ c Q (memory_spelled text name c) (
    tested name (codes "trace") _ _ c Q (node_spelled (codes "trace") text Trace name c (λ node line is. is)) (
    tested name (codes "why") _ _ c Q (why_spelled text name c) (λ none. cc)
    )
    )
    )
    )
    ) e

alone_spelled : (line : List ℕ) (c : DebuggerCommand) → command_without_arguments line ≡ Some c → SpellsCommand c line
unfolding command_without_arguments
alone_spelled line c e =
    let Q : Type 0 = SpellsCommand c line in
    let P : DebuggerCommand → Type 0 = λ d. SpellsCommand d line in
    tested line (codes "back") _ _ c Q (λ is some. let same : Back ≡ c = cc in subst P same is) (
    tested line (codes "count") _ _ c Q (λ is some. let same : Count ≡ c = cc in subst P same is) (
    tested line (codes "dump") _ _ c Q (λ is some. let same : Dump ≡ c = cc in subst P same is) (
    tested line (codes "quit") _ _ c Q (λ is some. let same : Quit ≡ c = cc in subst P same is) (λ none. cc)
    )
    )
    ) e

-- ---- what is spelled is read so

step_read : (node : NodeId) (k : ℕ) → IsStepNumberInRange k → parse_step_arguments (name_of_node node ++ 32 ∷ decimal k) ≡ Some (node, k)
unfolding parse_step_arguments
step_read node k small = rw (word_cut (name_of_node node) (decimal k) (name_word node), name_node node, decimal_number k small) refl

memory_read : (node : NodeId) (address : ℕ) (word : List ℕ) → SpellsAddress address word → parse_memory_arguments (name_of_node node ++ 32 ∷ word) ≡ Some (Memory node address)
unfolding parse_memory_arguments
memory_read node address word is = rw (word_cut (name_of_node node) word (name_word node), name_node node, address_byte word address is) refl

why_read : (from : NodeId) (k : ℕ) (to : NodeId) (j : ℕ) → IsStepNumberInRange k → IsStepNumberInRange j
    → parse_why_arguments (name_of_node from ++ 32 ∷ (decimal k ++ 32 ∷ (name_of_node to ++ 32 ∷ decimal j))) ≡ Some (Why from k to j)
unfolding parse_why_arguments
why_read from k to j k_small j_small =
    let rest : List ℕ = name_of_node to ++ 32 ∷ decimal j in
    rw (
      word_cut (name_of_node from) (decimal k ++ 32 ∷ rest) (name_word from),
      word_cut (decimal k) rest (decimal_word k k_small),
      name_node from,
      decimal_number k k_small,
      step_read to j j_small,
    ) refl

-- a line is read as what it spells
pub spelled_read : (c : DebuggerCommand) (line : List ℕ) → SpellsCommand c line → command_spelled_by_line line ≡ Some c
unfolding debugger_command_with_arguments parse_rewind_arguments command_without_arguments
spelled_read (Step node) line is = rw (is, name_node node) refl
spelled_read Back line is = rw is refl
spelled_read (Rewind node k) line is = rw (is.1, step_read node k is.0) refl
spelled_read (Node node) line is = rw (is, name_node node) refl
spelled_read (Memory node address) line is = rw (is.2, memory_read node address is.0 is.1) refl
spelled_read (Trace node) line is = rw (is, name_node node) refl
spelled_read (Why from k to j) line is = rw (is.2, why_read from k to j is.0 is.1) refl
spelled_read Count line is = rw is refl
spelled_read Dump line is = rw is refl
spelled_read Quit line is = rw is refl

-- a line spells what it is read as
pub read_spelled : (c : DebuggerCommand) (line : List ℕ) → command_spelled_by_line line ≡ Some c → SpellsCommand c line
read_spelled c line e = by_cut (split_at_space line) (cut_joined line) e where
  by_cut : (found : Option (List ℕ × List ℕ)) → ((parts : List ℕ × List ℕ) → found ≡ Some parts → line ≡ parts.0 ++ 32 ∷ parts.1) → debugger_command_of_split_line found line ≡ Some c → SpellsCommand c line
  by_cut None is e = alone_spelled line c e
  by_cut (Some parts) is e =
      let P : List ℕ → Type 0 = λ t. SpellsCommand c t in
      subst P (sym (is parts refl)) (arguments_spelled parts.0 parts.1 c e)

-- ---- the command of a line

pub told_some : (found : Option DebuggerCommand) (line : List ℕ) → found ≡ command_spelled_by_line line → IfSome found (λ c. SpellsCommand c line)
told_some None line e = tt
told_some (Some c) line e = read_spelled c line (sym e)

pub told_only : (found : Option DebuggerCommand) (line : List ℕ) → found ≡ command_spelled_by_line line → IfSome found (λ c. (other : DebuggerCommand) → SpellsCommand other line → other ≡ c)
told_only None line e = tt
told_only (Some c) line e = λ other is. let read : command_spelled_by_line line ≡ Some other = spelled_read other line is in let both : Some other ≡ Some c = sym read ∙ sym e in cc

pub told_none : (found : Option DebuggerCommand) (line : List ℕ) → found ≡ command_spelled_by_line line → IfNone found ((c : DebuggerCommand) → ¬ SpellsCommand c line)
told_none None line e = λ c is. let clash : None ≡ Some c = e ∙ spelled_read c line is in absurd cc
told_none (Some c) line e = tt
