use Rattle.std.proofs.Common.{◌≡◌, drop}
use Rattle.std.specs.List.{list_all}
use Rattle.ga_node.specs.Record.{record_of_node}
use Rattle.ga_debug_info.specs.Unrepresented.{is_initial_stack_word}
use Rattle.ga_debug_info.proofs.unrepresented.has_fresh_returns.Given as goal

abbrev pub invariant-loop-place : goal.invariant-loop-place
invariant-loop-place l = list_all is_initial_stack_word (drop l.place (record_of_node l.node).r) ≡ list_all is_initial_stack_word (record_of_node l.node).r
