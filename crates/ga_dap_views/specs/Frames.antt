-- The response to `stackTrace` (Debug Adapter Protocol, "StackTraceRequest", "StackFrame"): the position of a node, and its
-- open calls.
use Rattle.std.specs.Prelude.{ℕ, zero, suc, ◌+◌, ◌++◌, length, codes, Option, Some, None}
use Rattle.std.specs.List.{slice_get}
use Rattle.serde_json.specs.Data.{Data, string, object, no_members, member}
use Rattle.ga_text.specs.Lines.{Text}
use Rattle.ga_text.specs.Digits.{three_decimal_digits}
use Rattle.ga_grid.specs.Grid.{decimal_name_of_node}
use Rattle.ga_grid.specs.declared.node_id.NodeId.{NodeId}
use Rattle.ga_lab.specs.Machine.{MachineState}
use Rattle.ga_debug_info.specs.declared.notes.DebugInfo.{DebugInfo}
use Rattle.ga_debug_info.specs.declared.wording.SlotWord.{SlotWord}
use Rattle.ga_dap_views.specs.declared.spots.SlotAddress.{SlotAddress}
use Rattle.ga_dap_views.specs.declared.calls.OpenCall.{OpenCall}
use Rattle.ga_dap_views.specs.declared.frames.SourceFile.{SourceFile}
use Rattle.ga_dap_views.specs.Calls.{open_calls}
use Rattle.ga_dap_views.specs.Json.{json_whole_number, json_array_of_mapped_items}
use Rattle.ga_dap_views.specs.Labels.{cell_location_text, source_word_of_slot}
use Rattle.ga_dap_views.specs.Numbers.{frame_id, chip_address}
use Rattle.ga_dap_views.specs.Spots.{current_slot_address}
use Rattle.ga_dap_views.specs.Variables.{memory_reference, requested_index_range}

-- the file of the source ("Source")
unfoldable pub source_object : SourceFile → Data
source_object file = object (member (codes "name") (string file.name.now) (member (codes "path") (string file.path.now) no_members))

-- a frame at a word of the source, which begins at byte `column` of its line
unfoldable pub frame_object_with_line : Data → ℕ → Text → Text → ℕ → ℕ → Data
frame_object_with_line source id name pointer line column =
    object (member (codes "column") (json_whole_number column) (member (codes "id") (json_whole_number id) (member (codes "instructionPointerReference") (string pointer)
    (member (codes "line") (json_whole_number line) (member (codes "name") (string name) (member (codes "source") source no_members))))))

-- a frame in memory without source
unfoldable pub frame_object_without_source : ℕ → Text → Text → Data
frame_object_without_source id name pointer =
    object (member (codes "column") (json_whole_number 0) (member (codes "id") (json_whole_number id) (member (codes "instructionPointerReference") (string pointer)
    (member (codes "line") (json_whole_number 0) (member (codes "name") (string name) no_members)))))

-- a frame outside of memory: the code came over a port, or was in the node at load
unfoldable pub frame_object_outside_memory : ℕ → Text → Data
frame_object_outside_memory id name =
    object (member (codes "column") (json_whole_number 0) (member (codes "id") (json_whole_number id) (member (codes "line") (json_whole_number 0) (member (codes "name") (string name)
    (member (codes "presentationHint") (string (codes "subtle")) no_members)))))

-- the name of a frame
abbrev pub frame_location_text : DebugInfo → NodeId → Option SlotAddress → Text
frame_location_text notes node None = codes "outside its memory"
frame_location_text notes node (Some spot) = cell_location_text notes node spot.cell

abbrev pub frame_name : DebugInfo → NodeId → Option SlotAddress → Text
frame_name notes node spot = three_decimal_digits (decimal_name_of_node node.number) ++ codes " " ++ frame_location_text notes node spot

abbrev pub frame_object_in_memory : SourceFile → ℕ → Text → Text → Option SlotWord → Data
frame_object_in_memory file id name pointer None = frame_object_without_source id name pointer
frame_object_in_memory file id name pointer (Some word) = frame_object_with_line (source_object file) id name pointer word.line word.column

abbrev pub frame_object_at_location : SourceFile → DebugInfo → NodeId → ℕ → Text → Option SlotAddress → Data
frame_object_at_location file notes node id name None = frame_object_outside_memory id name
frame_object_at_location file notes node id name (Some spot) = frame_object_in_memory file id name (memory_reference (chip_address node.number spot.cell)) (source_word_of_slot notes node spot)

abbrev pub frame_object : SourceFile → DebugInfo → NodeId → ℕ → Option SlotAddress → Data
frame_object file notes node level spot = frame_object_at_location file notes node (frame_id node.number level) (frame_name notes node spot) spot

-- the positions of the frames: that of the node itself, then those of the calls
abbrev pub slot_address_of_open_call : Option OpenCall → Option SlotAddress
slot_address_of_open_call None = None
slot_address_of_open_call (Some call) = call.at

abbrev pub frame_slot_address : MachineState → NodeId → ℕ → Option SlotAddress
frame_slot_address s node zero = current_slot_address s node
frame_slot_address s node (suc k) = slot_address_of_open_call (slice_get (open_calls s node) k)

-- The body of the response: `count` frames from one on, or all remaining if the number is 0; and how many there are.
unfoldable pub stack_frames_object : Data → ℕ → Data
stack_frames_object frames total = object (member (codes "stackFrames") frames (member (codes "totalFrames") (json_whole_number total) no_members))

abbrev pub stack_trace_body : SourceFile → DebugInfo → MachineState → NodeId → ℕ → ℕ → Data
stack_trace_body file notes s node start count =
    let total = length (open_calls s node) + 1 in
    stack_frames_object (json_array_of_mapped_items (λ k. frame_object file notes node k (frame_slot_address s node k)) (requested_index_range total start count)) total
