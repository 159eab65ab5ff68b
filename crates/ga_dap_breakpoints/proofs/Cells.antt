-- The cells that are kept of words are those that looking back finds, so that the hits by them are the hits.
use Rattle.ga_event.specs.declared.event.Event.TheVariants as event
use Rattle.ga_event.specs.declared.made.MadeEvent.TheVariants as made
use Rattle.std.proofs.Common.{◌≡◌, ℕ, zero, suc, ◌+◌, ◌≤◌, Bool, true, false, ◌&&◌, cond, List, [], ◌∷◌, length, take, Option, Some, IsSome, refl, sym, ◌∙◌, ap, arith, ◌≢◌, ◌-◌, ◌==◌, not, ◌++◌, length-append, None, Ok, inl, inr, subst}
use Rattle.std.specs.Prelude.{option_and_then, unwrap_or, ◌⊎◌, option_to_list, slice_set, slice_index_or, replicate}
use Rattle.ga_event.specs.declared.made.MadeEvent.{MadeEvent}
use Rattle.std.proofs.lemmas.List.Sums.{sum_by-cons}
use Rattle.std.proofs.lemmas.Option.{same_Some}
use Rattle.ga_node.specs.Record.{NodeRecord}
use Rattle.ga_grid.specs.declared.node_id.NodeId.{NodeId}
use Rattle.ga_grid.specs.Chip.{node_record_at}
use Rattle.ga_event.specs.declared.event.Event.{Event}
use Rattle.ga_event.specs.declared.event.EventWithLook.{EventWithLook}
use Rattle.ga_event.specs.Touches.{touches}
use Rattle.ga_event.specs.Apply.{MadeEventOutcome, run_events, replay, apply, event_result, some_if_allowed, event_refusal}
use Rattle.ga_event.specs.Told.{count_steps, made_event_after, made_events_of_node_after, made_events_of_node}
use Rattle.ga_causal.proofs.Runs.{FirstOf, first_of_run, keeps_of, replay-cons}
use Rattle.ga_lab.specs.Machine.{MachineState, chip_of_machine, history_of_node, step_answer, state_after_step, made_next_event}
use Rattle.ga_provenance.proofs.Made.{none_past}
use Rattle.ga_lab.proofs.Called.{Runs, runs_of, chip_is, told_is}
use Rattle.ga_provenance.specs.Origins.{event_count_through_steps, node_after_steps}
use Rattle.ga_dap_views.specs.declared.spots.SlotAddress.{SlotAddress}
use Rattle.ga_dap_breakpoints.specs.Back.{is_at_slot_address, can_event_reach_slot, reaches_slot}
use Rattle.ga_dap_views.specs.Spots.{slot_address_after_steps, slot_address_of_node_record}
use Rattle.std.specs.List.{slice_get}
use Rattle.std.proofs.lemmas.Bool.{ne_eqb}
use Rattle.std.proofs.lemmas.Bool.Decides.{eqb_tells}
use Rattle.ga_node.specs.declared.kind.EventRefusal.{EventRefusal}
use Rattle.ga_grid.proofs.NodeIds.{NodeId-same}
use Rattle.ga_provenance.specs.Fetched.{fetched_cell}
use Rattle.ga_scheduler.specs.Conditions.{is_step_of_node}
use Rattle.ga_scheduler.specs.Running.{ScheduledMachine, run_after_step}
use Rattle.ga_scheduler.specs.Watched.{IsRunStep}
use Rattle.ga_dap_breakpoints.specs.declared.back.WatchedAction.{WatchedAction}
use Rattle.ga_dap_breakpoints.specs.declared.back.WatchedAction.TheVariants.{ArrivesAtSlot, WritesWatchedCell}
use Rattle.ga_dap_breakpoints.specs.declared.breakpoint.Breakpoint.{Breakpoint}
use Rattle.ga_dap_breakpoints.specs.declared.hits.HitTally.{HitTally}
use Rattle.ga_dap_breakpoints.specs.Breakpoints.{is_watched_event, tally_with_hit, tally_after_breakpoint, tally_after_breakpoints, tally_after_event}
use Rattle.ga_dap_breakpoints.specs.Conditions.{is_optional_value_test_passed}
use Rattle.ga_dap_breakpoints.specs.inner.Words.{event_kind_keeps_instruction_word, is_wait_for_code, event_keeps_instruction_word, instruction_cell_after_step, instruction_cell_after_event}
use Rattle.ga_dap_breakpoints.specs.inner.Cells.{InstructionCellsByNode, instruction_cells_kept_after_event, known_or_fetched_cell, instruction_cell_of_node, is_node_within_word_at_slot, instruction_cells_with_node_cell, instruction_cells_with_needed_cell, newest_step_arrives_at_slot, is_watched_event_by_cells, instruction_cells_after_watch, tally_after_breakpoints_by_cells, instruction_cells_after_breakpoints, tally_after_event_by_cells, instruction_cells_after_event}
use Rattle.ga_dap_breakpoints.specs.inner.Halting.{IsInstructionCell, AreInstructionCells}
use Rattle.ga_dap_breakpoints.proofs.Following.{IsCounted, IsWell, Step, step_of, steps_more, word_more, well_more, well_next}

-- ---- A node's present state is its state after all its steps

-- ---- events that are no steps of a node leave it

steps-cons : (n : ℕ) (e : Event) (es : List Event) → count_steps n (e ∷ es) ≡ cond (touches e n) 1 0 + count_steps n es
steps-cons n e es = sum_by-cons (λ (x : Event). cond (touches x n) 1 0) e es

none_of : (b : Bool) (x y : ℕ) → y ≡ cond b 1 0 + x → y ≡ 0 → (b ≡ false) × (x ≡ 0)
none_of true x y h none = absurd (omega arith)
none_of false x y h none = (refl, omega arith)

untouched : (es : List Event) (c last : List NodeRecord) (ts : List (EventWithLook × MadeEventOutcome)) (n : ℕ) → run_events c es ≡ Some (last, ts) → count_steps n es ≡ 0 → node_record_at c n ≡ node_record_at last n
untouched [] c last ts n is none = ap (λ (z : List NodeRecord × List (EventWithLook × MadeEventOutcome)). node_record_at z.0 n) (same_Some (c, []) (last, ts) is)
untouched (e ∷ es) c last ts n is none =
    let f : FirstOf c e es last ts = first_of_run c e es last ts is in
    let p : (touches e n ≡ false) × (count_steps n es ≡ 0) = none_of (touches e n) (count_steps n es) (count_steps n (e ∷ es)) (steps-cons n e es) none in
    (keeps_of c e f.mid f.told f.first).same n p.0 ∙ untouched es f.mid last f.others n f.then p.1

-- the node after the events that include all its steps
abbrev At : List NodeRecord → List NodeRecord → List Event → ℕ → ℕ → Type 0
At c last es n k = node_record_at (unwrap_or (replay c (take (event_count_through_steps es n k) es)) []) n ≡ node_record_at last n

one_less : (b : Bool) (x k : ℕ) → suc k ≡ cond b 1 0 + x → cond b k (suc k) ≡ x
one_less true x k h = omega (arith, h)
one_less false x k h = omega (arith, h)

stands_at : (es : List Event) (c last : List NodeRecord) (ts : List (EventWithLook × MadeEventOutcome)) (n k : ℕ) → run_events c es ≡ Some (last, ts) → k ≡ count_steps n es → At c last es n k
stands_at [] c last ts n k is all = ap (λ (z : List NodeRecord × List (EventWithLook × MadeEventOutcome)). node_record_at z.0 n) (same_Some (c, []) (last, ts) is)
stands_at (e ∷ es) c last ts n zero is all = untouched (e ∷ es) c last ts n is (sym all)
stands_at (e ∷ es) c last ts n (suc k) is all =
    let f : FirstOf c e es last ts = first_of_run c e es last ts is in
    let left : ℕ = cond (touches e n) k (suc k) in
    let front : List Event = take (event_count_through_steps es n left) es in
    ap (λ (o : Option (List NodeRecord)). node_record_at (unwrap_or o []) n)
    (replay-cons c e front ∙ ap (λ (o : Option (List NodeRecord × MadeEventOutcome)). option_and_then (λ first. replay first.0 front) o) f.first)
    ∙ stands_at es f.mid last f.others n left f.then (one_less (touches e n) (count_steps n es) k (all ∙ steps-cons n e es))

pub node_now : (s : MachineState) (n : ℕ) → IsSome (replay s.load s.kept) → node_after_steps s n (count_steps n s.kept) ≡ node_record_at (chip_of_machine s) n
node_now s n some =
    let r : Runs s = runs_of s some in
    stands_at s.kept s.load r.last r.told n (count_steps n s.kept) r.run_is refl ∙ sym (ap (λ (z : List NodeRecord). node_record_at z n) (chip_is s r))

-- it came to no slot before its first step
pub none_came : (s : MachineState) (node : NodeId) (at : SlotAddress) (k : ℕ) → length (history_of_node s node.number) ≤ k → false ≡ reaches_slot s node at k
none_came s node at k past =
    sym (ap (λ (o : Option MadeEvent). can_event_reach_slot o && is_at_slot_address at (slot_address_after_steps s node (k + 1))) (none_past (history_of_node s node.number) k past))

-- ---- as many events are listed for a node as it made steps

told_one : (before : List Event) (c : List NodeRecord) (e : Event) → length (option_to_list (made_event_after before e (event_result c e).1)) ≡ 1
told_one before c (event.Own n) = refl
told_one before c (event.Pass w r side) = refl

told_of : (c : List NodeRecord) (e : Event) (d : List NodeRecord) (t : MadeEventOutcome) → apply c e ≡ Some (d, t) → t ≡ (event_result c e).1
told_of c e d t h = go (event_refusal c e) h
  where
    go : (o : Option EventRefusal) → some_if_allowed o (event_result c e) ≡ Some (d, t) → t ≡ (event_result c e).1
    go None is = sym (ap (λ (z : List NodeRecord × MadeEventOutcome). z.1) (same_Some (event_result c e) (d, t) is))
    go (Some why) is = absurd (cc)

one_if_told : (b : Bool) (xs : List MadeEvent) → length xs ≡ 1 → length (cond b xs []) ≡ cond b 1 0
one_if_told true xs h = h
one_if_told false xs h = refl

counted_run : (es : List Event) (c last : List NodeRecord) (ts : List (EventWithLook × MadeEventOutcome)) (before : List Event) (n : ℕ) → run_events c es ≡ Some (last, ts) → count_steps n es ≡ length (made_events_of_node_after before ts n)
counted_run [] c last ts before n is = ap (λ (z : List NodeRecord × List (EventWithLook × MadeEventOutcome)). length (made_events_of_node_after before z.1 n)) (same_Some (c, []) (last, ts) is)
counted_run (e ∷ es) c last ts before n is =
    let f : FirstOf c e es last ts = first_of_run c e es last ts is in
    let here : List MadeEvent = option_to_list (made_event_after before e f.told) in
    let one : length here ≡ 1 = ap (λ (t : MadeEventOutcome). length (option_to_list (made_event_after before e t))) (told_of c e f.mid f.told f.first) ∙ told_one before c e in
    let rest : List MadeEvent = made_events_of_node_after (before ++ e ∷ []) f.others n in
    sum_by-cons (λ (x : Event). cond (touches x n) 1 0) e es
    ∙ ap (λ (z : ℕ). cond (touches e n) 1 0 + z) (counted_run es f.mid last f.others (before ++ e ∷ []) n f.then)
    ∙ sym (ap (λ (z : List (EventWithLook × MadeEventOutcome)). length (made_events_of_node_after before z n)) f.all
    ∙ length-append (cond (touches e n) here []) rest
    ∙ ap (λ (z : ℕ). z + length rest) (one_if_told (touches e n) here one))

pub well_of : (s : MachineState) → IsSome (replay s.load s.kept) → (n : ℕ) → IsWell s n
well_of s some n =
    let r : Runs s = runs_of s some in
    record { replays = some; counted = counted_run s.kept s.load r.last r.told [] n r.run_is ∙ ap (λ (z : List (EventWithLook × MadeEventOutcome)). length (made_events_of_node z n)) (sym (told_is s r)) }

-- ---- a cell that is known

-- the entry at a place after one was written
set_tells : (cells : InstructionCellsByNode) (i j : ℕ) (a : Option (Option ℕ)) (x : Option ℕ) → slice_index_or (slice_set cells i a) j None ≡ Some x
    → ((j ≡ i) × (a ≡ Some x)) ⊎ ((j ≢ i) × (slice_index_or cells j None ≡ Some x))
set_tells [] i j a x h = absurd (cc)
set_tells (y ∷ ys) zero zero a x h = inl (refl, h)
set_tells (y ∷ ys) zero (suc j) a x h = inr (λ e. omega (arith, e), h)
set_tells (y ∷ ys) (suc i) zero a x h = inr (λ e. omega (arith, e), h)
set_tells (y ∷ ys) (suc i) (suc j) a x h = elim (set_tells ys i j a x h) [
  | inl same ↦ inl (ap suc same.0, same.1)
  | inr other ↦ inr (λ e. other.0 (omega (arith, e)), other.1)
]

same_there : (k n : ℕ) (d : Option (Option ℕ)) → slice_index_or (replicate k d) n d ≡ d
same_there zero n d = refl
same_there (suc k) zero d = refl
same_there (suc k) (suc n) d = same_there k n d

pub none_known : (s : MachineState) → AreInstructionCells s (replicate 144 None)
none_known s node cell h = absurd (let none = same_there 144 node.number None in cc)

cell_is : (s : MachineState) (cells : InstructionCellsByNode) (node : NodeId) → AreInstructionCells s cells → IsInstructionCell s node (instruction_cell_of_node s cells node)
cell_is s cells node known = go (slice_index_or cells node.number None) refl
  where
    go : (o : Option (Option ℕ)) → slice_index_or cells node.number None ≡ o → IsInstructionCell s node (known_or_fetched_cell s node o)
    go None at = refl
    go (Some cell) at = known node cell at

known_with : (s : MachineState) (cells : InstructionCellsByNode) (n : NodeId) → AreInstructionCells s cells → AreInstructionCells s (instruction_cells_with_node_cell n.number (instruction_cell_of_node s cells n) cells)
known_with s cells n known node cell h = elim (set_tells cells n.number node.number (Some (instruction_cell_of_node s cells n)) cell h) [
  | inl same ↦ sym (same_Some (instruction_cell_of_node s cells n) cell same.1) ∙ cell_is s cells n known ∙ ap (λ (z : NodeId). fetched_cell s z (count_steps z.number s.kept)) (sym (NodeId-same node n same.0))
  | inr other ↦ known node cell other.1
]

known_asked : (asked : Bool) (s : MachineState) (cells : InstructionCellsByNode) (n : NodeId) → AreInstructionCells s cells → AreInstructionCells s (instruction_cells_with_needed_cell asked s n cells)
known_asked true s cells n known = known_with s cells n known
known_asked false s cells n known = known

known_done : (watched : WatchedAction) (n : NodeId) (told : MadeEvent) (s : MachineState) (cells : InstructionCellsByNode) → AreInstructionCells s cells → AreInstructionCells s (instruction_cells_after_watch watched n told s cells)
known_done (ArrivesAtSlot at) n told s cells known = known_asked (is_step_of_node n.number told && is_node_within_word_at_slot at (node_record_at (chip_of_machine s) n.number)) s cells n known
known_done (WritesWatchedCell address) n told s cells known = known

known_from : (told : MadeEvent) (s : MachineState) (breakpoints : List Breakpoint) (cells : InstructionCellsByNode) → AreInstructionCells s cells → AreInstructionCells s (instruction_cells_after_breakpoints told s breakpoints cells)
known_from told s [] cells known = known
known_from told s (one ∷ rest) cells known = known_from told s rest (instruction_cells_after_watch one.watched one.node told s cells) (known_done one.watched one.node told s cells known)

-- ---- the hits by the cells

comes_alike : (s : MachineState) (node : NodeId) (at : SlotAddress) (cell : Option ℕ) → IsSome (replay s.load s.kept) → IsInstructionCell s node cell → newest_step_arrives_at_slot s node at cell ≡ reaches_slot s node at (count_steps node.number s.kept - 1)
comes_alike s node at cell some is =
    let n : ℕ = count_steps node.number s.kept in
    let counted : n ≡ length (history_of_node s node.number) = (well_of s some node.number).counted in
    let here : NodeRecord = node_record_at (chip_of_machine s) node.number in
    let came : Bool = can_event_reach_slot (slice_get (history_of_node s node.number) (n - 1)) in
    elim (eqb_tells n 0) [
      | inl none ↦ (let past : length (history_of_node s node.number) ≤ n - 1 = omega (arith, counted, none.1) in
          ap (λ (o : Option MadeEvent). can_event_reach_slot o && is_at_slot_address at (slot_address_of_node_record here cell)) (none_past (history_of_node s node.number) (n - 1) past) ∙ none_came s node at (n - 1) past)
      | inr more ↦ (let e : n ≡ n - 1 + 1 = omega (arith, more.1) in
          ap (λ (z : Option ℕ). came && is_at_slot_address at (slot_address_of_node_record here z)) is
          ∙ ap (λ (z : NodeRecord). came && is_at_slot_address at (slot_address_of_node_record z (fetched_cell s node n))) (sym (node_now s node.number some))
          ∙ ap (λ (z : ℕ). came && is_at_slot_address at (slot_address_after_steps s node z)) e)
    ]

done_alike : (watched : WatchedAction) (node : NodeId) (told : MadeEvent) (s : MachineState) (cells : InstructionCellsByNode) → IsSome (replay s.load s.kept) → AreInstructionCells s cells → is_watched_event_by_cells watched node told s cells ≡ is_watched_event watched node told s
done_alike (ArrivesAtSlot at) node told s cells some known = ap (λ (b : Bool). is_step_of_node node.number told && b) (comes_alike s node at (instruction_cell_of_node s cells node) some (cell_is s cells node known))
done_alike (WritesWatchedCell address) node told s cells some known = refl

counted_alike : (told : MadeEvent) (s : MachineState) (place : ℕ) (breakpoints : List Breakpoint) (cells : InstructionCellsByNode) (tally : HitTally) → IsSome (replay s.load s.kept) → AreInstructionCells s cells
    → tally_after_breakpoints_by_cells told s place breakpoints cells tally ≡ tally_after_breakpoints told s place breakpoints tally
counted_alike told s place [] cells tally some known = refl
counted_alike told s place (one ∷ rest) cells tally some known =
    let then : InstructionCellsByNode = instruction_cells_after_watch one.watched one.node told s cells in
    ap (λ (b : Bool). tally_after_breakpoints_by_cells told s (place + 1) rest then (cond (b && is_optional_value_test_passed one.condition (node_record_at (chip_of_machine s) one.node.number) (count_steps one.node.number s.kept)) (tally_with_hit one place tally) tally))
    (done_alike one.watched one.node told s cells some known)
    ∙ counted_alike told s (place + 1) rest then (tally_after_breakpoint told s one place tally) some (known_done one.watched one.node told s cells known)

-- ---- after one more event

last_there : (xs : List MadeEvent) (x : MadeEvent) → slice_get (xs ++ x ∷ []) (length xs) ≡ Some x
last_there [] x = refl
last_there (y ∷ xs) x = last_there xs x

pub newest_own : (s : MachineState) (m : NodeId) (told : MadeEvent) (by : Step s m told) (n : ℕ) → IsCounted s n → is_step_of_node n told ≡ true → slice_get (history_of_node (state_after_step s m) n) (count_steps n (state_after_step s m).kept - 1) ≡ Some told
newest_own s m told by n counted own =
    let more : count_steps n (state_after_step s m).kept ≡ count_steps n s.kept + 1 = steps_more s m told by n ∙ ap (λ (b : Bool). count_steps n s.kept + cond b 1 0) own in
    let e : count_steps n (state_after_step s m).kept - 1 ≡ length (history_of_node s n) = omega (arith, more, counted) in
    ap (slice_get (history_of_node (state_after_step s m) n)) e
    ∙ ap (λ (z : List MadeEvent). slice_get z (length (history_of_node s n)))
    (by.more.told n ∙ ap (λ (b : Bool). history_of_node s n ++ cond b (made_next_event s by.more.event ∷ []) []) (by.touch n ∙ own))
    ∙ last_there (history_of_node s n) (made_next_event s by.more.event)
    ∙ ap Some by.same

-- a word stays where the event was no step of the node, or one that leaves it
abbrev IsLeft : MadeEvent → ℕ → Type 0
IsLeft told n = (before : NodeRecord) → is_step_of_node n told ≡ true → event_keeps_instruction_word (Some told) before n ≡ true

stays_so : (s : MachineState) (m : NodeId) (told : MadeEvent) (by : Step s m told) (node : NodeId) (cell : Option ℕ) → IsCounted s node.number → IsLeft told node.number → cell ≡ instruction_cell_after_event node cell told (state_after_step s m)
stays_so s m told by node cell counted left = go (is_step_of_node node.number told) refl
  where
    t : MachineState
    t = state_after_step s m

    k : ℕ
    k = count_steps node.number t.kept - 1

    go : (b : Bool) → is_step_of_node node.number told ≡ b → cell ≡ cond b (instruction_cell_after_step t node k cell) cell
    go false own = refl
    go true own =
        sym (ap (λ (o : Option MadeEvent). cond (event_keeps_instruction_word o (node_after_steps t node.number k) node.number) cell (fetched_cell t node (k + 1))) (newest_own s m told by node.number counted own)
        ∙ ap (λ (b : Bool). cond b cell (fetched_cell t node (k + 1))) (left (node_after_steps t node.number k) own))

left_stays : (s : MachineState) (m : NodeId) (told : MadeEvent) (by : Step s m told) (node : NodeId) (cell : Option ℕ) → IsCounted s node.number → IsLeft told node.number → IsInstructionCell s node cell → IsInstructionCell (state_after_step s m) node cell
left_stays s m told by node cell counted left is = stays_so s m told by node cell counted left ∙ word_more s m told by node cell counted is

not_read : (n reader : ℕ) (b : Bool) → (n ≡ reader → ⊥) → cond (n == reader) b true ≡ true
not_read n reader b other = ap (λ (z : Bool). cond z b true) (ne_eqb n reader other)

no_other : (b : Bool) → b ≡ false → b ≡ true → (c : Bool) → c ≡ true
no_other true none some c = absurd (cc)
no_other false none some c = absurd (cc)

known_left : (s : MachineState) (m : NodeId) (told : MadeEvent) (cells : InstructionCellsByNode) → IsSome (replay s.load s.kept) → step_answer s m ≡ Ok told → AreInstructionCells s cells → AreInstructionCells (state_after_step s m) (instruction_cells_kept_after_event told cells)
known_left s m (made.Own x step kind) cells some h known = go (event_kind_keeps_instruction_word kind) refl
  where
    told : MadeEvent
    told = made.Own x step kind

    by : Step s m told
    by = step_of s m told some h

    go : (b : Bool) → event_kind_keeps_instruction_word kind ≡ b → AreInstructionCells (state_after_step s m) (cond b cells (slice_set cells x.number None))
    go true keeps = λ node cell at. left_stays s m told by node cell (well_of s some node.number).counted (λ before own. keeps) (known node cell at)
    go false takes = λ node cell at. elim (set_tells cells x.number node.number None cell at) [
      | inl same ↦ absurd (let none = same.1 in cc)
      | inr other ↦ left_stays s m told by node cell (well_of s some node.number).counted
          (λ before own. no_other (x.number == node.number) (ne_eqb x.number node.number (λ e. other.0 (sym e))) own (event_keeps_instruction_word (Some told) before node.number)) (known node cell other.1)
    ]
known_left s m (made.Pass writer i reader j word) cells some h known =
    λ node cell at. elim (set_tells cells reader.number node.number None cell at) [
      | inl same ↦ absurd (let none = same.1 in cc)
      | inr other ↦ left_stays s m (made.Pass writer i reader j word) (step_of s m (made.Pass writer i reader j word) some h) node cell (well_of s some node.number).counted
          (λ before own. not_read node.number reader.number (not (is_wait_for_code before.wait)) other.0) (known node cell other.1)
    ]

-- ---- after a step of a run

-- the hits by the cells are the hits
pub tally_after_step : (s t : MachineState) (told : MadeEvent) → IsRunStep s t told → (breakpoints : List Breakpoint) (cells : InstructionCellsByNode) (tally : HitTally) → AreInstructionCells s cells
    → tally_after_event_by_cells breakpoints told t cells tally ≡ tally_after_event breakpoints told t tally
tally_after_step s t told step breakpoints cells tally known =
    subst (λ (z : MachineState). tally_after_event_by_cells breakpoints told z cells tally ≡ tally_after_event breakpoints told z tally) (sym step.moved)
    (counted_alike told (state_after_step s step.node) 0 breakpoints (instruction_cells_kept_after_event told cells) (record tally { hit = None }) (well_more s step.node told 0 step.told (well_of s step.replays 0)).replays
    (known_left s step.node told cells step.replays step.told known))

-- the cells are known after it
pub cells_after_step : (s t : MachineState) (told : MadeEvent) → IsRunStep s t told → (breakpoints : List Breakpoint) (cells : InstructionCellsByNode) → AreInstructionCells s cells
    → AreInstructionCells t (instruction_cells_after_event breakpoints told t cells)
cells_after_step s t told step breakpoints cells known =
    subst (λ (z : MachineState). AreInstructionCells z (instruction_cells_after_event breakpoints told z cells)) (sym step.moved)
    (known_from told (state_after_step s step.node) breakpoints (instruction_cells_kept_after_event told cells) (known_left s step.node told cells step.replays step.told known))

-- ---- along a run

pub replays_next : (r : ScheduledMachine) (o : Option NodeId) → IsSome (replay r.state.load r.state.kept) → IsSome (replay (run_after_step r o).state.load (run_after_step r o).state.kept)
replays_next r o some = (well_next r o 0 (well_of r.state some 0)).replays
