-- Lists of values that grow by one at a time.
use Rattle.std.proofs.Common.{◌≡◌, ℕ, zero, suc, ◌+◌, ◌-◌, ◌≤◌, ◌<◌, min, length, get_or, take, List, [], ◌∷◌, ◌++◌, map, refl, sym, ap, ◌∙◌, arith, ◌==◌, Bool, true, false, cond}
use Rattle.std.specs.List.{range_with_len, filter}
use Rattle.std.proofs.lemmas.List.{map-append, map-id, map_push, map_more}
use Rattle.std.proofs.lemmas.List.FromFn.{map-range_with_len_more}
use Rattle.std.proofs.lemmas.List.Elements.{filter-append}
use Rattle.serde_json.specs.Data.{Data, array}
use Rattle.serde_json.specs.View.{view, items_of}
use Rattle.serde_json.specs.declared.value.Value.{Value}
use Rattle.ga_grid.specs.declared.node_id.NodeId.{NodeId}
use Rattle.ga_lab.specs.Machine.{MachineState}
use Rattle.ga_dap_views.specs.Threads.{has_thread, node_thread_object, nodes_with_threads}
use Rattle.ga_debug_info.specs.declared.notes.DebugInfo.{DebugInfo}
use Rattle.ga_dap_views.specs.declared.frames.SourceFile.{SourceFile}
use Rattle.ga_dap_views.specs.Calls.{open_calls}
use Rattle.ga_dap_views.specs.Frames.{frame_object, frame_slot_address, stack_frames_object, stack_trace_body}
use Rattle.ga_dap_views.specs.Json.{json_array_of_mapped_items}
use Rattle.ga_dap_views.specs.Variables.{requested_index_range}

range_more : (n : ℕ) → range_with_len 0 (n + 1) ≡ range_with_len 0 n ++ n ∷ []
range_more n = sym (map-id (range_with_len 0 (n + 1))) ∙ map-range_with_len_more (λ (x : ℕ). x) 0 n n (omega arith) ∙ ap (λ (z : List ℕ). z ++ n ∷ []) (map-id (range_with_len 0 n))

chosen_more : (s : MachineState) (programs : List NodeId) (n : ℕ)
    → nodes_with_threads s programs (n + 1) ≡ nodes_with_threads s programs n ++ filter (has_thread s programs) (n ∷ [])
unfolding nodes_with_threads
chosen_more s programs n =
    ap (λ (z : List ℕ). filter (has_thread s programs) z) (range_more n) ∙ filter-append (has_thread s programs) (range_with_len 0 n) (n ∷ [])

pub no_threads : (s : MachineState) (programs : List NodeId) → nodes_with_threads s programs 0 ≡ []
unfolding nodes_with_threads
no_threads s programs = refl

-- the thread of one more node, where it has one
pub thread_step : (s : MachineState) (programs : List NodeId) (n at : ℕ) (old new : List Data) → at ≡ n → old ≡ map (node_thread_object s) (nodes_with_threads s programs n)
    → new ≡ old ++ map (node_thread_object s) (filter (has_thread s programs) (at ∷ [])) → new ≡ map (node_thread_object s) (nodes_with_threads s programs (n + 1))
thread_step s programs n at old new same before grown =
    grown
    ∙ ap (λ (z : List Data). z ++ map (node_thread_object s) (filter (has_thread s programs) (at ∷ []))) before
    ∙ ap (λ (z : ℕ). map (node_thread_object s) (nodes_with_threads s programs n) ++ map (node_thread_object s) (filter (has_thread s programs) (z ∷ []))) same
    ∙ sym (map-append (node_thread_object s) (nodes_with_threads s programs n) (filter (has_thread s programs) (n ∷ [])))
    ∙ sym (ap (λ (z : List ℕ). map (node_thread_object s) z) (chosen_more s programs n))

-- one more value after those of a range
pub range_step : (f : ℕ → Data) (first n : ℕ) (old new : List Value) (value : Value) → first ≤ n → new ≡ old ++ value ∷ [] → view value ≡ f n
    → map view old ≡ map f (range_with_len first (n - first)) → map view new ≡ map f (range_with_len first (n + 1 - first))
range_step f first n old new value from pushed same before =
    let more : n + 1 - first ≡ n - first + 1 = omega (arith, from) in
    ap (λ (z : List Value). map view z) pushed
    ∙ map_push view old value
    ∙ ap (λ (z : List Data). z ++ view value ∷ []) before
    ∙ ap (λ (z : Data). map f (range_with_len first (n - first)) ++ z ∷ []) same
    ∙ sym (map-range_with_len_more f first (n - first) n (omega (arith, from)))
    ∙ sym (ap (λ (z : ℕ). map f (range_with_len first z)) more)

-- one more value after those of the first elements of a list
pub take_step : {A : Type 0} (f : A → Data) (xs : List A) (n : ℕ) (d : A) (old new : List Value) (value : Value) → n < length xs → new ≡ old ++ value ∷ []
    → view value ≡ f (get_or xs n d) → map view old ≡ map f (take n xs) → map view new ≡ map f (take (n + 1) xs)
take_step f xs n d old new value below pushed same before =
    ap (λ (z : List Value). map view z) pushed
    ∙ map_push view old value
    ∙ ap (λ (z : List Data). z ++ view value ∷ []) before
    ∙ ap (λ (z : Data). map f (take n xs) ++ z ∷ []) same
    ∙ sym (map_more f xs n d below)

-- from a place past the end on nothing is left
pub from_min : (size start many : ℕ) → many ≤ size - start → range_with_len (min start size) many ≡ range_with_len start many
from_min size start zero few = refl
from_min size start (suc many) few = let same : min start size ≡ start = omega (arith, few) in ap (λ (z : ℕ). range_with_len z (suc many)) same

-- ---- the requested frames

at_most : (all : Bool) (left count : ℕ) → cond all left (min count left) ≤ left
at_most true left count = omega arith
at_most false left count = omega arith

pub places_so : (first end total start count : ℕ) → first ≡ min start total → end ≡ first + cond (count == 0) (total - start) (min count (total - start))
    → range_with_len first (end - first) ≡ requested_index_range total start count
places_so first end total start count at size =
    let many : ℕ = cond (count == 0) (total - start) (min count (total - start)) in
    let few : many ≤ total - start = at_most (count == 0) (total - start) count in
    ap (range_with_len first) (let e : end - first ≡ many = omega (arith, size) in e)
    ∙ ap (λ (z : ℕ). range_with_len z many) at
    ∙ from_min total start many few

pub stack_so : (file : SourceFile) (notes : DebugInfo) (s : MachineState) (node : NodeId) (start count total : ℕ) (list : List Data) (range : List ℕ) → total ≡ length (open_calls s node) + 1
    → list ≡ map (λ (k : ℕ). frame_object file notes node k (frame_slot_address s node k)) range → range ≡ requested_index_range total start count
    → stack_frames_object (array (items_of list)) total ≡ stack_trace_body file notes s node start count
stack_so file notes s node start count total list range many are places =
    let of : ℕ → Data = λ k. frame_object file notes node k (frame_slot_address s node k) in
    ap (λ (z : List Data). stack_frames_object (array (items_of z)) total) (are ∙ ap (λ (z : List ℕ). map of z) places)
    ∙ ap (λ (z : ℕ). stack_frames_object (json_array_of_mapped_items of (requested_index_range z start count)) z) many
