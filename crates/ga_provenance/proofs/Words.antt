-- A value that its node only moved from part to part keeps its word.
use Rattle.std.proofs.Common.{◌≡◌, ◌≢◌, ℕ, zero, suc, ◌+◌, ◌-◌, ◌<◌, ◌≤◌, ◌==◌, Bool, true, false, cond, List, [], ◌∷◌, ◌++◌, length, length-set, Some, None, refl, sym, subst, ap, ◌∙◌, arith, ◌⊎◌, inl, inr, ⊎_elim}
use Rattle.std.specs.Prelude.{Option, option_map, unwrap_or, slice_index}
use Rattle.std.specs.List.{slice_get}
use Rattle.std.proofs.lemmas.Option.{same_Some, none-some}
use Rattle.std.proofs.lemmas.Bool.{eqb-true, eq-eqb}
use Rattle.ga_stacks.specs.Ring.{words_after_push, words_after_pop, words_with_top}
use Rattle.ga_node.specs.Record.{NodeRecord, HasValidListSizes}
use Rattle.ga_node.specs.Changes.{NodeChange, PushData, PopData, SetTop, PopThenSetTop, PushReturn, PopReturn, SetTopReturn, SetRam, node_after_change, node_after_changes}
use Rattle.ga_node.specs.Table.{own_event, own, send_changes, sent, take_changes, taken}
use Rattle.ga_node.specs.Io.{io_word}
use Rattle.ga_node.specs.declared.kind.OwnEventKind.{OwnEventKind}
use Rattle.ga_node.specs.declared.seen.SeenNeighbours.{SeenNeighbours}
use Rattle.ga_event.specs.declared.made.MadeEvent.{MadeEvent}
use Rattle.ga_event.specs.declared.made.MadeEvent.TheVariants as made
use Rattle.ga_event.specs.declared.flow.part.NodePart.{NodePart}
use Rattle.ga_event.specs.declared.flow.part.NodePart.TheVariants.{A, Carry, OutsideWord}
use Rattle.ga_event.specs.Flow.{ValueFlow, CopiedFromPart, From, top_data_part, IsNodePartInRange, node_part_value, flow_of_own_event, flow_after_send, flow_after_take, AreBothValuesFromFlow}
use Rattle.ga_event.proofs.Flowing.{own_flows, sent_flows, taken_flows}
use Rattle.ga_grid.specs.declared.node_id.NodeId.{NodeId}
use Rattle.ga_lab.specs.Machine.{MachineState, history_of_node}
use Rattle.ga_provenance.specs.declared.value.PartValue.{PartValue}
use Rattle.ga_provenance.specs.Origins.{node_after_steps, optional_event_part_flow, value_flow_at_step, moved_source_part, moved_source_part_at, is_three_part_flow, part_to_list_for_value_flow, is_made_with_a_or_carry, value_made_by_step, origin_after_steps, origin_of_value}
use Rattle.ga_provenance.specs.inner.{HasMachineAllNodes}
use Rattle.ga_provenance.proofs.Ran.{became_so, passed_so}
use Rattle.ga_provenance.proofs.Parts.{moved_part, sums_a, sums_carry}

-- ---- the sizes of a node before its steps

pushed_size : (word : ℕ) (words : List ℕ) → length (words_after_push word words) ≡ length words
pushed_size word [] = refl
pushed_size word (x ∷ xs) = ap suc (pushed_size x xs)

popped_size : (copied size : ℕ) (words : List ℕ) → 1 < size → length (words_after_pop copied words) ≡ size → length words ≡ size
popped_size copied size [] some is = absurd (omega (arith, some, is))
popped_size copied size (x ∷ xs) some is = one_longer xs (slice_index (x ∷ xs) copied) ∙ is
  where
    one_longer : (xs : List ℕ) (last : ℕ) → suc (length xs) ≡ length (xs ++ last ∷ [])
    one_longer [] last = refl
    one_longer (y ∷ ys) last = ap suc (one_longer ys last)

topped_size : (word size : ℕ) (words : List ℕ) → 1 < size → length (words_with_top word words) ≡ size → length words ≡ size
topped_size word size [] some is = absurd (omega (arith, some, is))
topped_size word size (x ∷ xs) some is = is

change_sizes : (change : NodeChange) (n : NodeRecord) → HasValidListSizes (node_after_change change n) → HasValidListSizes n
change_sizes (PushData word) n h = record { d = sym (pushed_size word n.d) ∙ h.d; r = h.r; ram = h.ram; rom = h.rom }
change_sizes PopData n h = record { d = popped_size 2 10 n.d (omega arith) h.d; r = h.r; ram = h.ram; rom = h.rom }
change_sizes (SetTop word) n h = record { d = topped_size word 10 n.d (omega arith) h.d; r = h.r; ram = h.ram; rom = h.rom }
change_sizes (PopThenSetTop word) n h =
    record { d = popped_size 2 10 n.d (omega arith) (topped_size word 10 (words_after_pop 2 n.d) (omega arith) h.d); r = h.r; ram = h.ram; rom = h.rom }
change_sizes (PushReturn word) n h = record { d = h.d; r = sym (pushed_size word n.r) ∙ h.r; ram = h.ram; rom = h.rom }
change_sizes PopReturn n h = record { d = h.d; r = popped_size 1 9 n.r (omega arith) h.r; ram = h.ram; rom = h.rom }
change_sizes (SetTopReturn word) n h = record { d = h.d; r = topped_size word 9 n.r (omega arith) h.r; ram = h.ram; rom = h.rom }
change_sizes (SetRam cell word) n h = record { d = h.d; r = h.r; ram = sym (length-set n.ram cell word) ∙ h.ram; rom = h.rom }
change_sizes change n h = record { d = h.d; r = h.r; ram = h.ram; rom = h.rom }

changes_sizes : (changes : List NodeChange) (n : NodeRecord) → HasValidListSizes (node_after_changes changes n) → HasValidListSizes n
changes_sizes [] n h = h
changes_sizes (change ∷ rest) n h = change_sizes change n (changes_sizes rest (node_after_change change n) h)

own_before : (seen : SeenNeighbours) (n : NodeRecord) → HasValidListSizes (own seen n).1 → HasValidListSizes n
unfolding own
own_before seen n h = changes_sizes (own_event seen n).1 n h

sent_before : (n : NodeRecord) → HasValidListSizes (sent n) → HasValidListSizes n
unfolding sent
sent_before n h = changes_sizes send_changes n h

taken_before : (word : ℕ) (n : NodeRecord) → HasValidListSizes (taken word n) → HasValidListSizes n
unfolding taken
taken_before word n h = changes_sizes (take_changes n.wait word) n h

-- ---- a value of a part before

true_false : true ≡ false → ⊥
true_false h = cc

word_free : (word : ℕ) (n : NodeRecord) (at : NodePart) → IsNodePartInRange at → node_part_value word n at ≡ node_part_value 0 n at
word_free word n OutsideWord is = absurd is
word_free word n at is = refl

picked : (b : Bool) (from start : NodePart) → cond b None (Some from) ≡ Some start → from ≡ start
picked true from start h = absurd (none-some _ h)
picked false from start h = same_Some _ _ h

same_word : (word : ℕ) (n : NodeRecord) (flow : ValueFlow) (x y : ℕ) (at start : NodePart) → moved_source_part flow at ≡ Some start → AreBothValuesFromFlow word n word n flow x y → x ≡ node_part_value 0 n start
same_word word n (CopiedFromPart OutsideWord) x y at start h comes = absurd (none-some _ h)
same_word word n (CopiedFromPart from) x y at start h comes = comes.0 ∙ ap (node_part_value 0 n) (picked _ _ start h)
same_word word n (From parts) x y at start h comes = absurd (none-some _ h)

-- ---- a step

-- a node before a step has the sizes that it has after it, and a moved value has its word
record Moves (s : MachineState) (n k : ℕ) : Type 0 where
  sizes : HasValidListSizes (node_after_steps s n (suc k)) → HasValidListSizes (node_after_steps s n k)
  word : HasValidListSizes (node_after_steps s n k) → (at start : NodePart) → IsNodePartInRange at → moved_source_part_at s n k at ≡ Some start
      → node_part_value 0 (node_after_steps s n (suc k)) at ≡ node_part_value 0 (node_after_steps s n k) start

next_place : (s : MachineState) (n k : ℕ) → node_after_steps s n (suc k) ≡ node_after_steps s n (k + 1)
next_place s n k = ap (node_after_steps s n) (let e : suc k ≡ k + 1 = omega arith in e)

own_moves : (s : MachineState) (n k step : ℕ) (m : NodeId) (kind : OwnEventKind) → HasMachineAllNodes s → slice_get (history_of_node s n) k ≡ Some (made.Own m step kind) → Moves s n k
own_moves s n k step m kind whole h =
    let step_is = became_so s n k step m kind whole h in
    let before : NodeRecord = node_after_steps s n k in
    let next = next_place s n k ∙ step_is.next in
    record {
      sizes = λ has. own_before step_is.seen before (subst HasValidListSizes next has);
      word = λ has at start is moved.
          ap (λ (z : NodeRecord). node_part_value 0 z at) next
          ∙ sym (word_free (io_word step_is.seen) (own step_is.seen before).1 at is)
          ∙ same_word (io_word step_is.seen) before (flow_of_own_event before at) (node_part_value (io_word step_is.seen) (own step_is.seen before).1 at) (node_part_value (io_word step_is.seen) (own step_is.seen before).1 at) at start
          (ap (λ (o : Option MadeEvent). moved_source_part (optional_event_part_flow o before n at) at) (sym h) ∙ moved)
          (own_flows step_is.seen step_is.seen before before (record { due = refl; choice = refl }) has has at is);
    }

passed_moves : (s : MachineState) (n k : ℕ) (w r : NodeId) (i j word : ℕ) → HasMachineAllNodes s → slice_get (history_of_node s n) k ≡ Some (made.Pass w i r j word) → Moves s n k
passed_moves s n k w r i j word whole h = go (n == r.number) refl
  where
    go : (b : Bool) → (n == r.number) ≡ b → Moves s n k
    go true is =
        let step_is = passed_so s n k w r i j word whole h in
        let before : NodeRecord = node_after_steps s n k in
        let next = next_place s n k ∙ step_is.took (eqb-true n r.number is) in
        record {
          sizes = λ has. taken_before step_is.word before (subst HasValidListSizes next has);
          word = λ has at start part moved.
              ap (λ (z : NodeRecord). node_part_value 0 z at) next
              ∙ sym (word_free step_is.word (taken step_is.word before) at part)
              ∙ same_word step_is.word before (flow_after_take before.wait at) (node_part_value step_is.word (taken step_is.word before) at) (node_part_value step_is.word (taken step_is.word before) at) at start
              (ap (λ (b : Bool). moved_source_part (cond b (flow_after_take before.wait at) (flow_after_send at)) at) (sym is) ∙ ap (λ (o : Option MadeEvent). moved_source_part (optional_event_part_flow o before n at) at) (sym h) ∙ moved)
              (taken_flows step_is.word before step_is.word before has has refl at part);
        }
    go false is =
        let step_is = passed_so s n k w r i j word whole h in
        let before : NodeRecord = node_after_steps s n k in
        let other : n ≢ r.number = (λ e. absurd (true_false (sym (eq-eqb n r.number e) ∙ is))) in
        let next = next_place s n k ∙ step_is.gave other in
        record {
          sizes = λ has. sent_before before (subst HasValidListSizes next has);
          word = λ has at start part moved.
              ap (λ (z : NodeRecord). node_part_value 0 z at) next
              ∙ same_word 0 before (flow_after_send at) (node_part_value 0 (sent before) at) (node_part_value 0 (sent before) at) at start
              (ap (λ (b : Bool). moved_source_part (cond b (flow_after_take before.wait at) (flow_after_send at)) at) (sym is) ∙ ap (λ (o : Option MadeEvent). moved_source_part (optional_event_part_flow o before n at) at) (sym h) ∙ moved)
              (sent_flows 0 before 0 before has has at part);
        }

step_moves : (s : MachineState) (n k : ℕ) (x : MadeEvent) → HasMachineAllNodes s → slice_get (history_of_node s n) k ≡ Some x → Moves s n k
step_moves s n k (made.Own m step kind) whole h = own_moves s n k step m kind whole h
step_moves s n k (made.Pass w i r j word) whole h = passed_moves s n k w r i j word whole h

-- ---- the word of a value where it was made

some_within : (list : List MadeEvent) (i : ℕ) → i < length list → (x : MadeEvent) × (slice_get list i ≡ Some x)
some_within [] i l = absurd (omega (arith, l))
some_within (x ∷ xs) zero l = (x, refl)
some_within (x ∷ xs) (suc i) l = some_within xs i (omega (arith, l))

-- what an own event copied has its word
copied_word : (word : ℕ) (n : NodeRecord) (flow : ValueFlow) (x y : ℕ) (start : NodePart) → flow ≡ CopiedFromPart start → AreBothValuesFromFlow word n word n flow x y → x ≡ node_part_value word n start
copied_word word n flow x y start is comes = (subst (λ (f : ValueFlow). AreBothValuesFromFlow word n word n f x y) is comes).0

pub own_copied : (s : MachineState) (n k step : ℕ) (m : NodeId) (kind : OwnEventKind) → HasMachineAllNodes s → slice_get (history_of_node s n) k ≡ Some (made.Own m step kind)
    → HasValidListSizes (node_after_steps s n k) → (at start : NodePart) → IsNodePartInRange at → IsNodePartInRange start → flow_of_own_event (node_after_steps s n k) at ≡ CopiedFromPart start
    → node_part_value 0 (node_after_steps s n (k + 1)) at ≡ node_part_value 0 (node_after_steps s n k) start
own_copied s n k step m kind whole h has at start is there flow =
    let step_is = became_so s n k step m kind whole h in
    let before : NodeRecord = node_after_steps s n k in
    let word : ℕ = io_word step_is.seen in
    let after : ℕ = node_part_value word (own step_is.seen before).1 at in
    ap (λ (z : NodeRecord). node_part_value 0 z at) step_is.next
    ∙ sym (word_free word (own step_is.seen before).1 at is)
    ∙ copied_word word before (flow_of_own_event before at) after after start flow (own_flows step_is.seen step_is.seen before before (record { due = refl; choice = refl }) has has at is)
    ∙ word_free word before start there

-- a node after any of its steps has the sizes that it has after a later one
pub sizes_before : (s : MachineState) (n k more : ℕ) → HasMachineAllNodes s → k + more ≤ length (history_of_node s n) → HasValidListSizes (node_after_steps s n (k + more)) → HasValidListSizes (node_after_steps s n k)
sizes_before s n k zero whole l has = subst (λ (z : ℕ). HasValidListSizes (node_after_steps s n z)) (let e : k + zero ≡ k = omega arith in e) has
sizes_before s n k (suc more) whole l has =
    let made = some_within (history_of_node s n) (k + more) (omega (arith, l)) in
    let then = subst (λ (z : ℕ). HasValidListSizes (node_after_steps s n z)) (let e : k + suc more ≡ suc (k + more) = omega arith in e) has in
    sizes_before s n k more whole (omega (arith, l)) ((step_moves s n (k + more) made.0 whole made.1).sizes then)

-- a value was made with this word in a part, which it is listed as, or as the T that was made with it
record HasWord (s : MachineState) (node : NodeId) (held : ℕ) (value : PartValue) : Type 0 where
  part : NodePart
  word : held ≡ node_part_value 0 (node_after_steps s node.number value.step) part
  listed : (value.part ≡ part) ⊎ ((value.part ≡ top_data_part) × (is_made_with_a_or_carry (slice_get (history_of_node s node.number) (value.step - 1)) ≡ true))

listed_as : (s : MachineState) (n k : ℕ) (x : MadeEvent) (at : NodePart) → slice_get (history_of_node s n) k ≡ Some x
    → (part_to_list_for_value_flow (value_flow_at_step s n k at) at ≡ at) ⊎ ((part_to_list_for_value_flow (value_flow_at_step s n k at) at ≡ top_data_part) × (is_made_with_a_or_carry (slice_get (history_of_node s n) (suc k - 1)) ≡ true))
listed_as s n k x A h = go (is_three_part_flow (value_flow_at_step s n k A)) refl
  where
    go : (b : Bool) → is_three_part_flow (value_flow_at_step s n k A) ≡ b → (cond b top_data_part A ≡ A) ⊎ ((cond b top_data_part A ≡ top_data_part) × (is_made_with_a_or_carry (slice_get (history_of_node s n) (suc k - 1)) ≡ true))
    go true is = inr (refl, ap (λ (z : ℕ). is_made_with_a_or_carry (slice_get (history_of_node s n) z)) (let e : suc k - 1 ≡ k = omega arith in e) ∙ sums_a s n k x h is)
    go false is = inl refl
listed_as s n k x Carry h = go (is_three_part_flow (value_flow_at_step s n k Carry)) refl
  where
    go : (b : Bool) → is_three_part_flow (value_flow_at_step s n k Carry) ≡ b → (cond b top_data_part Carry ≡ Carry) ⊎ ((cond b top_data_part Carry ≡ top_data_part) × (is_made_with_a_or_carry (slice_get (history_of_node s n) (suc k - 1)) ≡ true))
    go true is = inr (refl, ap (λ (z : ℕ). is_made_with_a_or_carry (slice_get (history_of_node s n) z)) (let e : suc k - 1 ≡ k = omega arith in e) ∙ sums_carry s n k x h is)
    go false is = inl refl
listed_as s n k x at h = inl refl

has_word : (s : MachineState) (node : NodeId) → HasMachineAllNodes s → (step : ℕ) (at : NodePart) → step ≤ length (history_of_node s node.number) → IsNodePartInRange at → HasValidListSizes (node_after_steps s node.number step)
    → HasWord s node (node_part_value 0 (node_after_steps s node.number step) at) (origin_after_steps s node step at)
has_word s node whole zero at l is has = record { part = at; word = refl; listed = inl refl }
has_word s node whole (suc k) at l is has =
    let made = some_within (history_of_node s node.number) k (omega (arith, l)) in
    go made.0 made.1 (step_moves s node.number k made.0 whole made.1) (has_word s node whole k) (moved_source_part_at s node.number k at) refl
  where
    go : (x : MadeEvent) → slice_get (history_of_node s node.number) k ≡ Some x → Moves s node.number k
        → ((from : NodePart) → k ≤ length (history_of_node s node.number) → IsNodePartInRange from → HasValidListSizes (node_after_steps s node.number k) → HasWord s node (node_part_value 0 (node_after_steps s node.number k) from) (origin_after_steps s node k from))
        → (o : Option NodePart) → moved_source_part_at s node.number k at ≡ o
        → HasWord s node (node_part_value 0 (node_after_steps s node.number (suc k)) at)
        (unwrap_or (option_map (origin_after_steps s node k) o) (value_made_by_step node (suc k) (part_to_list_for_value_flow (value_flow_at_step s node.number k at) at)))
    go x told moves before None e = record { part = at; word = refl; listed = listed_as s node.number k x at told }
    go x told moves before (Some from) e =
        let sizes = moves.sizes has in
        let on = before from (omega (arith, l)) (moved_part s node.number k at from is e) sizes in
        record { part = on.part; word = moves.word sizes at from is e ∙ on.word; listed = on.listed }

-- so it keeps its word, unless its step made T with it
pub word_kept : (s : MachineState) (value : PartValue) → HasMachineAllNodes s → value.step ≤ length (history_of_node s value.node.number) → IsNodePartInRange value.part → HasValidListSizes (node_after_steps s value.node.number value.step)
    → ((origin_of_value s value).part ≡ top_data_part → is_made_with_a_or_carry (slice_get (history_of_node s value.node.number) ((origin_of_value s value).step - 1)) ≡ false)
    → node_part_value 0 (node_after_steps s value.node.number value.step) value.part ≡ node_part_value 0 (node_after_steps s value.node.number (origin_of_value s value).step) (origin_of_value s value).part
word_kept s value whole l is has other = go (has_word s value.node whole value.step value.part l is has)
  where
    go : HasWord s value.node (node_part_value 0 (node_after_steps s value.node.number value.step) value.part) (origin_of_value s value)
        → node_part_value 0 (node_after_steps s value.node.number value.step) value.part ≡ node_part_value 0 (node_after_steps s value.node.number (origin_of_value s value).step) (origin_of_value s value).part
    go here = ⊎_elim
        (λ same. here.word ∙ ap (node_part_value 0 (node_after_steps s value.node.number (origin_of_value s value).step)) (sym same))
        (λ with. absurd (true_false (sym with.1 ∙ other with.0)))
        here.listed
