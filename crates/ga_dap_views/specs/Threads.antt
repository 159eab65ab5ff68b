-- The response to `threads` (Debug Adapter Protocol, "ThreadsRequest"): the nodes that have something to show, with what each does.
use Rattle.std.specs.Prelude.{ℕ, ◌==◌, nat_lt, Bool, true, false, ◌||◌, List, codes, filter}
use Rattle.std.specs.List.{range_with_len, list_any}
use Rattle.serde_json.specs.Data.{Data, string, object, no_members, member}
use Rattle.ga_ports.specs.declared.address.AddressTarget.{AddressTarget}
use Rattle.ga_ports.specs.declared.address.AddressTarget.TheVariants.{Ram, Rom}
use Rattle.ga_ports.specs.Address.{address_target}
use Rattle.ga_grid.specs.Chip.{node_record_at}
use Rattle.ga_grid.specs.declared.node_id.NodeId.{NodeId}
use Rattle.ga_text.specs.Lines.{Text}
use Rattle.ga_event.specs.Told.{count_steps}
use Rattle.ga_lab.specs.Machine.{MachineState, chip_of_machine}
use Rattle.ga_dap_views.specs.Activity.{node_name_and_activity_text}
use Rattle.ga_dap_views.specs.Json.{json_whole_number, json_array_of_mapped_items, json_object_of_member}
use Rattle.ga_dap_views.specs.Numbers.{thread_id}

abbrev pub is_target_in_memory : AddressTarget → Bool
is_target_in_memory (Ram cell) = true
is_target_in_memory (Rom cell) = true
is_target_in_memory target = false

-- whether a node is among some
abbrev pub is_among_nodes : List NodeId → ℕ → Bool
is_among_nodes nodes n = list_any (λ (one : NodeId). one.number == n) nodes

-- A node has a thread that has a program in the source, or that made more than the one event by which it came to wait, or whose P names a
-- cell of memory. What is left is idle.
abbrev pub has_thread : MachineState → List NodeId → ℕ → Bool
has_thread s programs n =
    is_among_nodes programs n || nat_lt 1 (count_steps n s.kept) || is_target_in_memory (address_target (node_record_at (chip_of_machine s) n).p)

unfoldable pub named_thread_object : ℕ → Text → Data
named_thread_object n name = object (member (codes "id") (json_whole_number (thread_id n)) (member (codes "name") (string name) no_members))

abbrev pub node_thread_object : MachineState → ℕ → Data
node_thread_object s n = named_thread_object n (node_name_and_activity_text (chip_of_machine s) n)

-- the nodes below a number that have a thread
unfoldable pub nodes_with_threads : MachineState → List NodeId → ℕ → List ℕ
nodes_with_threads s programs count = filter (has_thread s programs) (range_with_len 0 count)

abbrev pub threads_body : MachineState → List NodeId → Data
threads_body s programs = json_object_of_member (codes "threads") (json_array_of_mapped_items (node_thread_object s) (nodes_with_threads s programs 144))
