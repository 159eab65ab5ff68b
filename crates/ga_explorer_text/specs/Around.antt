-- The texts of `at`: the steps around one, each with the registers after it (docs/REFERENCE.md, "Exploring"; this project's
-- own).
use Rattle.std.specs.Prelude.{ℕ, zero, suc, ◌+◌, ◌-◌, nat_le, if◌then◌else◌, [], ◌++◌, codes, Option, Some, None}
use Rattle.std.specs.List.{slice_get}
use Rattle.ga_text.specs.Lines.{Text}
use Rattle.ga_node.specs.Record.{NodeRecord}
use Rattle.ga_node.specs.Table.{register_t, register_s as second, register_r}
use Rattle.ga_grid.specs.declared.node_id.NodeId.{NodeId}
use Rattle.ga_event.specs.Told.{count_steps}
use Rattle.ga_event.specs.declared.made.MadeEvent.{MadeEvent}
use Rattle.ga_lab.specs.Machine.{MachineState, has_step, history_of_node}
use Rattle.ga_provenance.specs.Origins.{node_after_steps}
use Rattle.ga_text.specs.Digits.{step_text}
use Rattle.ga_display.specs.Texts.{register_text, missing_step_text}
use Rattle.ga_debug_info.specs.declared.notes.DebugInfo.{DebugInfo}
use Rattle.ga_explorer_text.specs.Deeds.{step_text_for_node}
use Rattle.ga_explorer_text.specs.SourceSuffix.{step_suffix_text}

-- the registers after a step: T, S, R, A, B and P
abbrev pub registers_after_text : NodeRecord → Text
registers_after_text node =
    register_text (codes "t") (register_t node)
    ++ register_text (codes "s") (second node)
    ++ register_text (codes "r") (register_r node)
    ++ register_text (codes "a") node.a
    ++ register_text (codes "b") node.b
    ++ register_text (codes "p") node.p

-- a step with this number and this report, and the node just after it
abbrev pub step_registers_text : NodeId → ℕ → Option MadeEvent → NodeRecord → Text
step_registers_text node step None behind = []
step_registers_text node step (Some made) behind = step_text node step ++ codes " " ++ step_text_for_node made node.number ++ registers_after_text behind

-- the step after the first `k` of the node
abbrev pub numbered_step_text : Option DebugInfo → MachineState → NodeId → ℕ → Text
numbered_step_text notes s node k =
    step_registers_text node (k + 1) (slice_get (history_of_node s node.number) k) (node_after_steps s node.number (k + 1)) ++ step_suffix_text notes s node (k + 1)

-- the text of `n` steps of the node, from the step after the first `k` on
unfoldable pub numbered_steps_text : Option DebugInfo → MachineState → NodeId → ℕ → ℕ → Text
numbered_steps_text notes s node k zero = []
numbered_steps_text notes s node k (suc more) = numbered_step_text notes s node k ++ numbered_steps_text notes s node (k + 1) more

-- the lesser of two numbers
abbrev pub smaller_number : ℕ → ℕ → ℕ
smaller_number m n = if nat_le m n then m else n

-- the steps of a node up to `around` before and after one, if it exists
abbrev pub steps_around_text : Option DebugInfo → MachineState → NodeId → ℕ → ℕ → Text
steps_around_text notes s node step around =
    if has_step s node.number step
    then (let first = step - 1 - around in numbered_steps_text notes s node first (smaller_number (step + around) (count_steps node.number s.kept) - first))
    else missing_step_text node (count_steps node.number s.kept)
