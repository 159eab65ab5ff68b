-- The cell of a node's word, followed from step to step, is the one that is found by looking back.
use Rattle.std.proofs.Common.{◌≡◌, ◌≢◌, ℕ, zero, suc, ◌+◌, ◌-◌, ◌<◌, ◌≤◌, ◌==◌, Bool, true, false, not, ◌&&◌, cond, List, [], ◌∷◌, ◌++◌, length, take, length-append, Option, Some, None, Ok, Err, IsSome, inl, inr, refl, sym, subst, ◌∙◌, ap, arith, eq-eqb}
use Rattle.std.specs.Prelude.{Result, is_none, option_map, option_to_list, unwrap_or}
use Rattle.std.specs.List.{slice_get}
use Rattle.std.proofs.lemmas.Bool.{ne_eqb}
use Rattle.std.proofs.lemmas.Bool.Decides.{eqb_tells}
use Rattle.std.proofs.lemmas.List.{take-append-le}
use Rattle.std.proofs.lemmas.List.Sums.{sum_by-append, sum_by-cons}
use Rattle.ga_slots.specs.declared.op.Op.{Op}
use Rattle.ga_node.specs.Record.{NodeRecord}
use Rattle.ga_node.specs.declared.kind.OwnEventKind.{OwnEventKind}
use Rattle.ga_node.specs.declared.kind.OwnEventKind.TheVariants as kind
use Rattle.ga_node.specs.declared.wait.Wait.{Wait}
use Rattle.ga_node.specs.declared.wait.Wait.TheVariants as wait
use Rattle.ga_ports.specs.Address.{address_target}
use Rattle.ga_grid.specs.declared.node_id.NodeId.{NodeId}
use Rattle.ga_grid.specs.Chip.{node_record_at}
use Rattle.ga_event.specs.declared.event.Event.{Event}
use Rattle.ga_event.specs.declared.event.EventWithLook.{EventWithLook}
use Rattle.ga_event.specs.declared.made.MadeEvent.{MadeEvent}
use Rattle.ga_event.specs.declared.made.MadeEvent.TheVariants as made
use Rattle.ga_event.specs.Touches.{touches}
use Rattle.ga_event.specs.Apply.{MadeEventOutcome, apply, event_result, some_if_allowed, event_with_look_on_chip, event_refusal, replay}
use Rattle.ga_event.specs.Told.{count_steps, made_event_after, made_events_of_node}
use Rattle.ga_event.proofs.Nexts.{next_can}
use Rattle.ga_rollback.proofs.Rewinding.{run_snoc}
use Rattle.ga_event.specs.Next.{next_event_of_node}
use Rattle.ga_lab.specs.declared.fault.LabFault.{LabFault}
use Rattle.ga_lab.specs.Machine.{MachineState, chip_of_machine, history_of_node, run_events_with_outcomes, machine_events_with_outcomes, made_next_event, step_answer, machine_with_event, state_unless_refused, state_after_step}
use Rattle.ga_lab.specs.Calls.{step as call_step}
use Rattle.ga_lab.proofs.Called.{Runs, runs_of, runs_some, chip_is, told_is, call_runs}
use Rattle.ga_lab.proofs.Stepping.{told_after}
use Rattle.ga_event.specs.declared.flow.part.NodePart.{NodePart}
use Rattle.ga_event.specs.declared.flow.part.NodePart.TheVariants as part
use Rattle.ga_event.specs.Flow.{ValueFlow, flow_after_send, flow_after_take}
use Rattle.ga_provenance.specs.declared.value.PartValue.{PartValue}
use Rattle.ga_provenance.specs.Origins.{event_count_through_steps, node_after_steps, optional_event_part_flow, value_flow_at_step, moved_source_part, moved_source_part_at, part_to_list_for_value_flow, value_made_by_step, origin_after_steps}
use Rattle.ga_provenance.specs.Fetched.{cell_of_target, cell_of_fetch, fetched_cell}
use Rattle.ga_provenance.specs.inner.{source_part_by_event_kind}
use Rattle.ga_provenance.proofs.Made.{moved_on}
use Rattle.ga_provenance.proofs.Moves.{one_back}
use Rattle.ga_scheduler.specs.Conditions.{is_step_of_node}
use Rattle.ga_scheduler.specs.Running.{ScheduledMachine, run_after_step}
use Rattle.ga_scheduler.specs.Watched.{IsRunStep}
use Rattle.ga_scheduler.proofs.Newest.{of_made}
use Rattle.ga_scheduler.proofs.Stepping.{StepIs, step_is, stepped_is}
use Rattle.ga_scheduler.proofs.WordCounts.{last_of, history_behind, kept_told}
use Rattle.ga_debug_info.specs.declared.notes.DebugInfo.{DebugInfo}
use Rattle.ga_dap_views.specs.declared.spots.SlotAddress.{SlotAddress}
use Rattle.ga_dap_views.specs.Spots.{slot_address_of_node_record, slot_address_after_steps}
use Rattle.ga_dap_breakpoints.specs.declared.stepping.Granularity.{Granularity}
use Rattle.ga_dap_breakpoints.specs.declared.stepping.Granularity.TheVariants.{Instruction, Line}
use Rattle.ga_dap_breakpoints.specs.declared.stepping.StepMove.{StepMove}
use Rattle.ga_dap_breakpoints.specs.Stepping.{pending_call_after_step, reaches_move_end, completes_move}
use Rattle.ga_dap_breakpoints.specs.Lines.{op_of_step, previous_step_count_over_calls, line_of_slot_address, enters_line, begins_line_after_step}
use Rattle.ga_dap_breakpoints.specs.inner.Halting.{IsInstructionCell}
use Rattle.ga_dap_breakpoints.specs.inner.Words.{event_kind_keeps_instruction_word, is_wait_for_code, event_keeps_instruction_word, instruction_cell_after_step, instruction_cell_after_event, previous_slot_address_over_calls, begins_line_by_cells, reaches_move_end_by_cell, completes_move_by_cell}

-- ---- a step that leaves the word

kept_kind : (kind : OwnEventKind) → event_kind_keeps_instruction_word kind ≡ true → Some part.I ≡ source_part_by_event_kind kind part.I
kept_kind kind.Fetch h = absurd (cc)
kept_kind (kind.Run code) h = sym (ap (λ (b : Bool). cond b (Some part.I) None) h)
kept_kind kind.Wait h = refl
kept_kind (kind.Stop code) h = refl

kept_by_pass : (reads : Bool) (w : Wait) → cond reads (not (is_wait_for_code w)) true ≡ true → moved_source_part (cond reads (flow_after_take w part.I) (flow_after_send part.I)) part.I ≡ Some part.I
unfolding flow_after_take flow_after_send
kept_by_pass true (wait.Fetch sides) h = absurd (cc)
kept_by_pass true (wait.Read sides) h = refl
kept_by_pass true (wait.Write side) h = refl
kept_by_pass true wait.Nothing h = refl
kept_by_pass false w h = refl

kept_on : (s : MachineState) (node : NodeId) (k : ℕ) (told : Option MadeEvent) → slice_get (history_of_node s node.number) k ≡ told → event_keeps_instruction_word told (node_after_steps s node.number k) node.number ≡ true
    → origin_after_steps s node (k + 1) part.I ≡ origin_after_steps s node k part.I
kept_on s node k None at h = absurd (cc)
kept_on s node k (Some (made.Own who step kind)) at h =
    let before : k + 1 - 1 ≡ k = omega arith in
    sym (ap (λ (z : ℕ). origin_after_steps s node z part.I) (sym before)
    ∙ one_back s (value_made_by_step node (k + 1) part.I) (k + 1) part.I part.I (Some (made.Own who step kind)) (omega arith) (sym at ∙ ap (slice_get (history_of_node s node.number)) (sym before)) (kept_kind kind h) refl)
kept_on s node k (Some (made.Pass writer i reader j word)) at h =
    let more : k + 1 ≡ suc k = omega arith in
    ap (λ (z : ℕ). origin_after_steps s node z part.I) more
    ∙ moved_on s node k part.I part.I
    (ap (λ (o : Option MadeEvent). moved_source_part (optional_event_part_flow o (node_after_steps s node.number k) node.number part.I) part.I) at
    ∙ kept_by_pass (node.number == reader.number) (node_after_steps s node.number k).wait h)

pub word_kept : (s : MachineState) (node : NodeId) (k : ℕ) → event_keeps_instruction_word (slice_get (history_of_node s node.number) k) (node_after_steps s node.number k) node.number ≡ true
    → fetched_cell s node (k + 1) ≡ fetched_cell s node k
word_kept s node k h = ap (λ (z : PartValue). cell_of_fetch s node.number z.step) (kept_on s node k (slice_get (history_of_node s node.number) k) refl h)

pub word_right : (s : MachineState) (node : NodeId) (k : ℕ) (word : Option ℕ) → word ≡ fetched_cell s node k → instruction_cell_after_step s node k word ≡ fetched_cell s node (k + 1)
word_right s node k word is = go (event_keeps_instruction_word (slice_get (history_of_node s node.number) k) (node_after_steps s node.number k) node.number) refl
  where
    go : (b : Bool) → event_keeps_instruction_word (slice_get (history_of_node s node.number) k) (node_after_steps s node.number k) node.number ≡ b → cond b word (fetched_cell s node (k + 1)) ≡ fetched_cell s node (k + 1)
    go true keeps = is ∙ sym (word_kept s node k keeps)
    go false keeps = refl

-- as it is found
keeps_is : (s : MachineState) (node : NodeId) (k place : ℕ) (told : Option MadeEvent) (before : NodeRecord) (keeps : Bool) → place ≡ k → told ≡ slice_get (history_of_node s node.number) place → before ≡ node_after_steps s node.number k
    → keeps ≡ event_keeps_instruction_word told before node.number → event_keeps_instruction_word (slice_get (history_of_node s node.number) k) (node_after_steps s node.number k) node.number ≡ keeps
keeps_is s node k place told before keeps at told_is before_is is =
    sym (is ∙ ap (λ (z : Option MadeEvent). event_keeps_instruction_word z before node.number) (told_is ∙ ap (slice_get (history_of_node s node.number)) at)
    ∙ ap (λ (z : NodeRecord). event_keeps_instruction_word (slice_get (history_of_node s node.number) k) z node.number) before_is)

pub word_stays : (s : MachineState) (node : NodeId) (k place : ℕ) (word : Option ℕ) (told : Option MadeEvent) (before : NodeRecord) (keeps : Bool) → place ≡ k → told ≡ slice_get (history_of_node s node.number) place
    → before ≡ node_after_steps s node.number k → keeps ≡ event_keeps_instruction_word told before node.number → keeps ≡ true → word ≡ instruction_cell_after_step s node k word
word_stays s node k place word told before keeps at told_is before_is is kept =
    sym (ap (λ (b : Bool). cond b word (fetched_cell s node (k + 1))) (keeps_is s node k place told before keeps at told_is before_is is ∙ kept))

pub word_comes : (s : MachineState) (node : NodeId) (k place : ℕ) (word found : Option ℕ) (told : Option MadeEvent) (before : NodeRecord) (keeps : Bool) → place ≡ k → told ≡ slice_get (history_of_node s node.number) place
    → before ≡ node_after_steps s node.number k → keeps ≡ event_keeps_instruction_word told before node.number → keeps ≡ false → found ≡ fetched_cell s node (place + 1) → found ≡ instruction_cell_after_step s node k word
word_comes s node k place word found told before keeps at told_is before_is is other found_is =
    found_is ∙ ap (λ (z : ℕ). fetched_cell s node (z + 1)) at
    ∙ sym (ap (λ (b : Bool). cond b word (fetched_cell s node (k + 1))) (keeps_is s node k place told before keeps at told_is before_is is ∙ other))

-- ---- where a line begins

stood_before : (began : ℕ) (s : MachineState) (node : NodeId) (k : ℕ) (word : Option ℕ) → word ≡ fetched_cell s node k → previous_slot_address_over_calls began s node k word ≡ slot_address_after_steps s node (previous_step_count_over_calls began s node k)
stood_before began s node k word is =
    let p : ℕ = previous_step_count_over_calls began s node k in
    elim (eqb_tells p k) [
      | inl same ↦ ap (λ (b : Bool). cond b (slot_address_of_node_record (node_after_steps s node.number k) word) (slot_address_after_steps s node p)) same.0 ∙ ap (slot_address_of_node_record (node_after_steps s node.number k)) is ∙ ap (slot_address_after_steps s node) (sym same.1)
      | inr other ↦ ap (λ (b : Bool). cond b (slot_address_of_node_record (node_after_steps s node.number k) word) (slot_address_after_steps s node p)) other.0
    ]

pub begins_alike : (began : ℕ) (notes : DebugInfo) (s : MachineState) (node : NodeId) (k : ℕ) (before behind : Option ℕ) → before ≡ fetched_cell s node k → behind ≡ fetched_cell s node (k + 1)
    → begins_line_by_cells began notes s node k before behind ≡ begins_line_after_step began notes s node k
begins_alike began notes s node k before behind first then =
    ap (λ (z : Option SlotAddress). enters_line notes node z (slot_address_of_node_record (node_after_steps s node.number (k + 1)) behind) (op_of_step s node k) (line_of_slot_address notes node (slot_address_of_node_record (node_after_steps s node.number (k + 1)) behind))) (stood_before began s node k before first)
    ∙ ap (λ (z : Option ℕ). enters_line notes node (slot_address_after_steps s node (previous_step_count_over_calls began s node k)) (slot_address_of_node_record (node_after_steps s node.number (k + 1)) z) (op_of_step s node k) (line_of_slot_address notes node (slot_address_of_node_record (node_after_steps s node.number (k + 1)) z))) then

-- as it is found
pub stood_here : (began : ℕ) (s : MachineState) (node : NodeId) (k before : ℕ) (word : Option ℕ) (stands : NodeRecord) (found : Option SlotAddress) → before ≡ previous_step_count_over_calls began s node k → before ≡ k → stands ≡ node_after_steps s node.number k
    → found ≡ slot_address_of_node_record stands word → found ≡ previous_slot_address_over_calls began s node k word
stood_here began s node k before word stands found is here at found_is =
    found_is ∙ ap (λ (z : NodeRecord). slot_address_of_node_record z word) at
    ∙ sym (ap (λ (b : Bool). cond b (slot_address_of_node_record (node_after_steps s node.number k) word) (slot_address_after_steps s node (previous_step_count_over_calls began s node k))) (eq-eqb (previous_step_count_over_calls began s node k) k (sym is ∙ here)))

pub stood_back : (began : ℕ) (s : MachineState) (node : NodeId) (k before : ℕ) (word : Option ℕ) (found : Option SlotAddress) → before ≡ previous_step_count_over_calls began s node k → before ≢ k → found ≡ slot_address_after_steps s node before
    → found ≡ previous_slot_address_over_calls began s node k word
stood_back began s node k before word found is other found_is =
    found_is ∙ ap (slot_address_after_steps s node) is
    ∙ sym (ap (λ (b : Bool). cond b (slot_address_of_node_record (node_after_steps s node.number k) word) (slot_address_after_steps s node (previous_step_count_over_calls began s node k))) (ne_eqb (previous_step_count_over_calls began s node k) k (λ h. other (is ∙ h))))

pub begun_by : (began : ℕ) (notes : DebugInfo) (s : MachineState) (node : NodeId) (k : ℕ) (before behind : Option ℕ) (there spot : Option SlotAddress) (stands : NodeRecord) (op : Option Op) (begins : Bool) → there ≡ previous_slot_address_over_calls began s node k before
    → spot ≡ slot_address_of_node_record stands behind → stands ≡ node_after_steps s node.number (k + 1) → op ≡ op_of_step s node k → begins ≡ enters_line notes node there spot op (line_of_slot_address notes node spot)
    → begins ≡ begins_line_by_cells began notes s node k before behind
begun_by began notes s node k before behind there spot stands op begins there_is spot_is at op_is comes =
    comes
    ∙ ap (λ (z : Option SlotAddress). enters_line notes node z spot op (line_of_slot_address notes node spot)) there_is
    ∙ ap (λ (z : Option SlotAddress). enters_line notes node (previous_slot_address_over_calls began s node k before) z op (line_of_slot_address notes node z)) (spot_is ∙ ap (λ (z : NodeRecord). slot_address_of_node_record z behind) at)
    ∙ ap (λ (z : Option Op). enters_line notes node (previous_slot_address_over_calls began s node k before) (slot_address_of_node_record (node_after_steps s node.number (k + 1)) behind) z (line_of_slot_address notes node (slot_address_of_node_record (node_after_steps s node.number (k + 1)) behind))) op_is

-- ---- a machine with one event more: what its nodes did before stays

pub record More (s t : MachineState) : Type 0 where
  pub event : Event
  pub load : t.load ≡ s.load
  pub kept : t.kept ≡ s.kept ++ event ∷ []
  pub told : (n : ℕ) → history_of_node t n ≡ history_of_node s n ++ cond (touches event n) (made_next_event s event ∷ []) []

steps-cons : (n : ℕ) (e : Event) (es : List Event) → count_steps n (e ∷ es) ≡ cond (touches e n) 1 0 + count_steps n es
steps-cons n e es = sum_by-cons (λ (x : Event). cond (touches x n) 1 0) e es

place_stays : (es : List Event) (e : Event) (n k : ℕ) → k ≤ count_steps n es → (event_count_through_steps (es ++ e ∷ []) n k ≡ event_count_through_steps es n k) × (event_count_through_steps es n k ≤ length es)
place_stays [] e n zero l = (refl, omega arith)
place_stays [] e n (suc k) l = absurd (let none : count_steps n [] ≡ 0 = refl in omega (arith, l, none))
place_stays (x ∷ es) e n zero l = (refl, omega arith)
place_stays (x ∷ es) e n (suc k) l = go (touches x n) (λ j m. place_stays es e n j m) (steps-cons n x es) l
  where
    go : (b : Bool) → ((j : ℕ) → j ≤ count_steps n es → (event_count_through_steps (es ++ e ∷ []) n j ≡ event_count_through_steps es n j) × (event_count_through_steps es n j ≤ length es)) → count_steps n (x ∷ es) ≡ cond b 1 0 + count_steps n es
        → suc k ≤ count_steps n (x ∷ es)
        → (suc (event_count_through_steps (es ++ e ∷ []) n (cond b k (suc k))) ≡ suc (event_count_through_steps es n (cond b k (suc k)))) × (suc (event_count_through_steps es n (cond b k (suc k))) ≤ suc (length es))
    go true before all m = let stays = before k (omega (arith, all, m)) in (ap suc stays.0, omega (arith, stays.1))
    go false before all m = let stays = before (suc k) (omega (arith, all, m)) in (ap suc stays.0, omega (arith, stays.1))

abbrev node_by : List NodeRecord → List Event → ℕ → ℕ → NodeRecord
node_by load es n k = node_record_at (unwrap_or (replay load (take (event_count_through_steps es n k) es)) []) n

pub node_stays : (s t : MachineState) (more : More s t) (n k : ℕ) → k ≤ count_steps n s.kept → node_after_steps t n k ≡ node_after_steps s n k
node_stays s t more n k l =
    let stays = place_stays s.kept more.event n k l in
    ap (λ (z : List NodeRecord). node_by z t.kept n k) more.load
    ∙ ap (λ (z : List Event). node_by s.load z n k) more.kept
    ∙ ap (λ (z : ℕ). node_record_at (unwrap_or (replay s.load (take z (s.kept ++ more.event ∷ []))) []) n) stays.0
    ∙ ap (λ (z : List Event). node_record_at (unwrap_or (replay s.load z) []) n) (take-append-le (event_count_through_steps s.kept n k) s.kept (more.event ∷ []) stays.1)

pub told_stays : (xs ys : List MadeEvent) (k : ℕ) → k < length xs → slice_get (xs ++ ys) k ≡ slice_get xs k
told_stays [] ys k l = absurd (omega (arith, l))
told_stays (x ∷ xs) ys zero l = refl
told_stays (x ∷ xs) ys (suc k) l = told_stays xs ys k (omega (arith, l))

-- each of its steps has an event in the list
abbrev pub IsCounted : MachineState → ℕ → Type 0
IsCounted s n = count_steps n s.kept ≡ length (history_of_node s n)

flow_stays : (s t : MachineState) (more : More s t) (n k : ℕ) (at : NodePart) → IsCounted s n → k < count_steps n s.kept → value_flow_at_step t n k at ≡ value_flow_at_step s n k at
flow_stays s t more n k at counted l =
    ap (λ (z : NodeRecord). optional_event_part_flow (slice_get (history_of_node t n) k) z n at) (node_stays s t more n k (omega (arith, l)))
    ∙ ap (λ (o : Option MadeEvent). optional_event_part_flow o (node_after_steps s n k) n at)
    (ap (λ (z : List MadeEvent). slice_get z k) (more.told n) ∙ told_stays (history_of_node s n) (cond (touches more.event n) (made_next_event s more.event ∷ []) []) k (omega (arith, l, counted)))

same_moved : (f g : NodePart → PartValue) (o : Option NodePart) → ((at : NodePart) → f at ≡ g at) → option_map f o ≡ option_map g o
same_moved f g None same = refl
same_moved f g (Some at) same = ap Some (same at)

origin_stays : (s t : MachineState) (more : More s t) (node : NodeId) → IsCounted s node.number → (k : ℕ) → k ≤ count_steps node.number s.kept → (at : NodePart) → origin_after_steps t node k at ≡ origin_after_steps s node k at
origin_stays s t more node counted zero l at = refl
origin_stays s t more node counted (suc k) l at =
    ap (λ (z : ValueFlow). unwrap_or (option_map (origin_after_steps t node k) (moved_source_part z at)) (value_made_by_step node (suc k) (part_to_list_for_value_flow z at))) (flow_stays s t more node.number k at counted (omega (arith, l)))
    ∙ ap (λ (o : Option PartValue). unwrap_or o (value_made_by_step node (suc k) (part_to_list_for_value_flow (value_flow_at_step s node.number k at) at)))
    (same_moved (origin_after_steps t node k) (origin_after_steps s node k) (moved_source_part_at s node.number k at) (origin_stays s t more node counted k (omega (arith, l))))

origin_within : (s : MachineState) (node : NodeId) (k : ℕ) (at : NodePart) → (origin_after_steps s node k at).step ≤ k
origin_within s node zero at = omega arith
origin_within s node (suc k) at = go (moved_source_part_at s node.number k at) (origin_within s node k)
  where
    go : (o : Option NodePart) → ((from : NodePart) → (origin_after_steps s node k from).step ≤ k)
        → (unwrap_or (option_map (origin_after_steps s node k) o) (value_made_by_step node (suc k) (part_to_list_for_value_flow (value_flow_at_step s node.number k at) at))).step ≤ suc k
    go None before = omega arith
    go (Some from) before = omega (arith, before from)

cell_stays : (s t : MachineState) (more : More s t) (n k : ℕ) → k ≤ count_steps n s.kept → cell_of_fetch t n k ≡ cell_of_fetch s n k
cell_stays s t more n zero l = refl
cell_stays s t more n (suc k) l = ap (λ (z : NodeRecord). cell_of_target (address_target z.p)) (node_stays s t more n k (omega (arith, l)))

pub fetched_stays : (s t : MachineState) (more : More s t) (node : NodeId) → IsCounted s node.number → (k : ℕ) → k ≤ count_steps node.number s.kept → fetched_cell t node k ≡ fetched_cell s node k
fetched_stays s t more node counted k l =
    ap (λ (z : PartValue). cell_of_fetch t node.number z.step) (origin_stays s t more node counted k l part.I)
    ∙ cell_stays s t more node.number (origin_after_steps s node k part.I).step (omega (arith, l, origin_within s node k part.I))

-- ---- a step of the machine

told_behind : (s : MachineState) (e : Event) → IsSome (replay s.load s.kept) → event_refusal (chip_of_machine s) e ≡ None
    → machine_events_with_outcomes (machine_with_event s (Ok e)) ≡ machine_events_with_outcomes s ++ (event_with_look_on_chip (chip_of_machine s) e, (event_result (chip_of_machine s) e).1) ∷ []
told_behind s e some can =
    let r : Runs s = runs_of s some in
    let done : apply r.last e ≡ Some ((event_result r.last e).0, (event_result r.last e).1) = ap (λ o. some_if_allowed o (event_result r.last e)) (ap (λ z. event_refusal z e) (sym (chip_is s r)) ∙ can) in
    ap run_events_with_outcomes (run_snoc s.load r.last (event_result r.last e).0 s.kept r.told e (event_result r.last e).1 r.run_is done)
    ∙ ap (λ z. z ++ (event_with_look_on_chip r.last e, (event_result r.last e).1) ∷ []) (sym (told_is s r))
    ∙ ap (λ z. machine_events_with_outcomes s ++ (event_with_look_on_chip z e, (event_result z e).1) ∷ []) (sym (chip_is s r))

event_of : (c : List NodeRecord) (e : Event) → (event_with_look_on_chip c e).event ≡ e
event_of c e = refl

history_with : (s : MachineState) (e : Event) (n : ℕ) → IsSome (replay s.load s.kept) → event_refusal (chip_of_machine s) e ≡ None
    → history_of_node (machine_with_event s (Ok e)) n ≡ history_of_node s n ++ cond (touches e n) (made_next_event s e ∷ []) []
history_with s e n some can =
    let x : EventWithLook × MadeEventOutcome = (event_with_look_on_chip (chip_of_machine s) e, (event_result (chip_of_machine s) e).1) in
    ap (λ z. made_events_of_node z n) (told_behind s e some can)
    ∙ history_behind [] (machine_events_with_outcomes s) x n
    ∙ ap (λ (z : List Event). history_of_node s n ++ last_of z x n) (kept_told s some)
    ∙ ap (λ (z : Event). history_of_node s n ++ cond (touches z n) (option_to_list (made_event_after s.kept z (event_result (chip_of_machine s) e).1)) []) (event_of (chip_of_machine s) e)
    ∙ ap (λ (o : Option MadeEvent). history_of_node s n ++ cond (touches e n) (option_to_list o) []) (told_after s e)

-- a machine in which a node's steps can be followed
pub record IsWell (s : MachineState) (n : ℕ) : Type 0 where
  pub replays : IsSome (replay s.load s.kept)
  pub counted : IsCounted s n

-- and one after a step
pub record Step (s : MachineState) (m : NodeId) (told : MadeEvent) : Type 0 where
  pub more : More s (state_after_step s m)
  pub same : made_next_event s more.event ≡ told
  pub touch : (n : ℕ) → touches more.event n ≡ is_step_of_node n told

pub step_of : (s : MachineState) (m : NodeId) (told : MadeEvent) → IsSome (replay s.load s.kept) → step_answer s m ≡ Ok told → Step s m told
step_of s m told some h =
    let i : StepIs s m told = step_is s m told h in
    let is : state_after_step s m ≡ machine_with_event s (Ok i.what) = stepped_is s m told i.what h i.is in
    record {
      more = record {
        event = i.what;
        load = ap (λ (z : MachineState). z.load) is;
        kept = ap (λ (z : MachineState). z.kept) is;
        told = λ n. ap (λ (z : MachineState). history_of_node z n) is ∙ history_with s i.what n some (next_can (chip_of_machine s) m i.what i.is);
      };
      same = i.told;
      touch = λ n. of_made s.kept i.what (event_result (chip_of_machine s) i.what).1 told n (told_after s i.what ∙ ap Some i.told);
    }

pub steps_more : (s : MachineState) (m : NodeId) (told : MadeEvent) (by : Step s m told) (n : ℕ) → count_steps n (state_after_step s m).kept ≡ count_steps n s.kept + cond (is_step_of_node n told) 1 0
steps_more s m told by n =
    ap (count_steps n) by.more.kept
    ∙ sum_by-append (λ (e : Event). cond (touches e n) 1 0) s.kept (by.more.event ∷ [])
    ∙ ap (λ (b : Bool). count_steps n s.kept + (0 + cond b 1 0)) (by.touch n)
    ∙ (let e : count_steps n s.kept + (0 + cond (is_step_of_node n told) 1 0) ≡ count_steps n s.kept + cond (is_step_of_node n told) 1 0 = omega arith in e)

one_told : (b : Bool) (told : MadeEvent) → length (cond b (told ∷ []) []) ≡ cond b 1 0
one_told true told = refl
one_told false told = refl

counted_more : (s : MachineState) (m : NodeId) (told : MadeEvent) (by : Step s m told) (n : ℕ) → IsCounted s n → IsCounted (state_after_step s m) n
counted_more s m told by n counted =
    steps_more s m told by n
    ∙ ap (λ (z : ℕ). z + cond (is_step_of_node n told) 1 0) counted
    ∙ ap (λ (b : Bool). length (history_of_node s n) + cond b 1 0) (sym (by.touch n))
    ∙ sym (ap length (by.more.told n) ∙ length-append (history_of_node s n) (cond (touches by.more.event n) (made_next_event s by.more.event ∷ []) [])
    ∙ ap (λ (z : ℕ). length (history_of_node s n) + z) (one_told (touches by.more.event n) (made_next_event s by.more.event)))

pub well_more : (s : MachineState) (m : NodeId) (told : MadeEvent) (n : ℕ) → step_answer s m ≡ Ok told → IsWell s n → IsWell (state_after_step s m) n
well_more s m told n h well =
    record { replays = runs_some (state_after_step s m) (call_runs s (call_step m) (runs_of s well.replays)); counted = counted_more s m told (step_of s m told well.replays h) n well.counted }

before_more : (s : MachineState) (m : NodeId) (told : MadeEvent) (by : Step s m told) (node : NodeId) (word : Option ℕ) → IsCounted s node.number → IsInstructionCell s node word
    → word ≡ fetched_cell (state_after_step s m) node (count_steps node.number s.kept)
before_more s m told by node word counted is = is ∙ sym (fetched_stays s (state_after_step s m) by.more node counted (count_steps node.number s.kept) (omega arith))

pub word_more : (s : MachineState) (m : NodeId) (told : MadeEvent) (by : Step s m told) (node : NodeId) (word : Option ℕ) → IsCounted s node.number → IsInstructionCell s node word
    → IsInstructionCell (state_after_step s m) node (instruction_cell_after_event node word told (state_after_step s m))
word_more s m told by node word counted is = go (is_step_of_node node.number told) (steps_more s m told by node.number)
  where
    go : (b : Bool) → count_steps node.number (state_after_step s m).kept ≡ count_steps node.number s.kept + cond b 1 0
        → cond b (instruction_cell_after_step (state_after_step s m) node (count_steps node.number (state_after_step s m).kept - 1) word) word ≡ fetched_cell (state_after_step s m) node (count_steps node.number (state_after_step s m).kept)
    go true all =
        let k : ℕ = count_steps node.number s.kept in
        ap (λ (z : ℕ). instruction_cell_after_step (state_after_step s m) node z word) (let e : count_steps node.number (state_after_step s m).kept - 1 ≡ k = omega (arith, all) in e)
        ∙ word_right (state_after_step s m) node k word (before_more s m told by node word counted is)
        ∙ ap (fetched_cell (state_after_step s m) node) (sym all)
    go false all =
        before_more s m told by node word counted is
        ∙ ap (fetched_cell (state_after_step s m) node) (let e : count_steps node.number s.kept ≡ count_steps node.number (state_after_step s m).kept = omega (arith, all) in e)

-- ---- a move that is watched by the cell ends where it does by looking back

reach_alike : (notes : DebugInfo) (by : StepMove) (s : MachineState) (m : NodeId) (told : MadeEvent) (step : Step s m told) (word : Option ℕ) → IsCounted s by.node.number → (by.grain ≡ Line → IsInstructionCell s by.node word)
    → is_step_of_node by.node.number told ≡ true → (grain : Granularity) → by.grain ≡ grain
    → reaches_move_end_by_cell grain by.began notes by.node (state_after_step s m) (count_steps by.node.number (state_after_step s m).kept - 1) word (instruction_cell_after_event by.node word told (state_after_step s m))
    ≡ reaches_move_end grain by.began notes by.node (state_after_step s m) (count_steps by.node.number (state_after_step s m).kept - 1)
reach_alike notes by s m told step word counted right own Instruction is = refl
reach_alike notes by s m told step word counted right own Line is =
    let n : ℕ = by.node.number in
    let t : MachineState = state_after_step s m in
    let all : count_steps n t.kept ≡ count_steps n s.kept + 1 = steps_more s m told step n ∙ ap (λ (b : Bool). count_steps n s.kept + cond b 1 0) own in
    begins_alike by.began notes t by.node (count_steps n t.kept - 1) word (instruction_cell_after_event by.node word told t)
    (before_more s m told step by.node word counted (right is) ∙ ap (fetched_cell t by.node) (let e : count_steps n s.kept ≡ count_steps n t.kept - 1 = omega (arith, all) in e))
    (word_more s m told step by.node word counted (right is) ∙ ap (fetched_cell t by.node) (let e : count_steps n t.kept ≡ count_steps n t.kept - 1 + 1 = omega (arith, all) in e))

moved_step : (notes : DebugInfo) (by : StepMove) (s : MachineState) (m : NodeId) (told : MadeEvent) (step : Step s m told) (word : Option ℕ) → IsCounted s by.node.number → (by.grain ≡ Line → IsInstructionCell s by.node word)
    → completes_move_by_cell notes by word told (state_after_step s m) ≡ completes_move notes by told (state_after_step s m)
moved_step notes by s m told step word counted right = go (is_step_of_node by.node.number told) refl
  where
    go : (b : Bool) → is_step_of_node by.node.number told ≡ b
        → (b && (is_none (pending_call_after_step (state_after_step s m) by.node by.over by.call)
        && reaches_move_end_by_cell by.grain by.began notes by.node (state_after_step s m) (count_steps by.node.number (state_after_step s m).kept - 1) word (instruction_cell_after_event by.node word told (state_after_step s m))))
        ≡ (b && (is_none (pending_call_after_step (state_after_step s m) by.node by.over by.call) && reaches_move_end by.grain by.began notes by.node (state_after_step s m) (count_steps by.node.number (state_after_step s m).kept - 1)))
    go false own = refl
    go true own = ap (λ (z : Bool). is_none (pending_call_after_step (state_after_step s m) by.node by.over by.call) && z) (reach_alike notes by s m told step word counted right own by.grain refl)

-- ---- along a run

pub refused_stays : (s : MachineState) (m : NodeId) (why : LabFault) → step_answer s m ≡ Err why → s ≡ state_after_step s m
refused_stays s m why is = sym (ap (λ (a : Result MadeEvent LabFault). state_unless_refused s a (machine_with_event s (next_event_of_node (chip_of_machine s) m))) is)

pub well_next : (r : ScheduledMachine) (o : Option NodeId) (n : ℕ) → IsWell r.state n → IsWell (run_after_step r o).state n
well_next r None n well = well
well_next r (Some m) n well = go (step_answer r.state m) refl
  where
    go : (a : Result MadeEvent LabFault) → step_answer r.state m ≡ a → IsWell (state_after_step r.state m) n
    go (Ok told) is = well_more r.state m told n is well
    go (Err why) is = subst (λ (z : MachineState). IsWell z n) (refused_stays r.state m why is) well

-- ---- a step of a run

-- the move is complete by the cell where it is by looking back
pub completed_alike : (notes : DebugInfo) (by : StepMove) (word : Option ℕ) (s t : MachineState) (told : MadeEvent) → IsRunStep s t told → IsCounted s by.node.number → (by.grain ≡ Line → IsInstructionCell s by.node word)
    → completes_move_by_cell notes by word told t ≡ completes_move notes by told t
completed_alike notes by word s t told step counted right =
    subst (λ (z : MachineState). completes_move_by_cell notes by word told z ≡ completes_move notes by told z) (sym step.moved)
    (moved_step notes by s step.node told (step_of s step.node told step.replays step.told) word counted right)

-- the cell is that of the node's word after it
pub cell_after_step : (s t : MachineState) (told : MadeEvent) → IsRunStep s t told → (node : NodeId) (word : Option ℕ) → IsCounted s node.number → IsInstructionCell s node word
    → IsInstructionCell t node (instruction_cell_after_event node word told t)
cell_after_step s t told step node word counted is =
    subst (λ (z : MachineState). IsInstructionCell z node (instruction_cell_after_event node word told z)) (sym step.moved)
    (word_more s step.node told (step_of s step.node told step.replays step.told) node word counted is)
