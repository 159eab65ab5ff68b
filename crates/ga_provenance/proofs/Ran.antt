-- A step of a node's own, as made, is what its next event was.
use Rattle.std.proofs.Common.{◌≡◌, ℕ, zero, suc, ◌==◌, Bool, true, false, ◌||◌, cond, List, [], ◌∷◌, ◌++◌, ◌+◌, length, set, length-set, get_or-set_same, get_or-set_other, ◌≢◌, arith, take, Some, None, refl, sym, ◌∙◌, ap, subst}
use Rattle.std.specs.Prelude.{Option, option_map, option_and_then, option_to_list, unwrap_or, IfSome}
use Rattle.std.specs.List.{slice_get}
use Rattle.std.proofs.lemmas.Option.{same_Some, none-some}
use Rattle.std.proofs.lemmas.Bool.{eqb-true}
use Rattle.ga_node.specs.Record.{NodeRecord}
use Rattle.ga_node.specs.Table.{register_t, own, sent, taken, AddressAccess, Plain, Reads, Writes, target_read_result, target_write_result, access_with_following_changes, changes_or_event_of_access, opcode_effect, fetch_access, next_action_of_node, wait_effect, stop_effect, own_event_after_access, event_kind_and_changes_of_action, own_event}
use Rattle.ga_node.specs.declared.kind.OwnEventKind.{OwnEventKind}
use Rattle.ga_node.specs.declared.kind.EventRefusal.{EventRefusal}
use Rattle.ga_node.specs.declared.seen.SeenNeighbours.{SeenNeighbours}
use Rattle.ga_grid.specs.declared.node_id.NodeId.{NodeId}
use Rattle.ga_grid.specs.Chip.{node_record_at}
use Rattle.ga_event.specs.declared.event.Event.{Event}
use Rattle.ga_event.specs.declared.event.Event.TheVariants as event
use Rattle.ga_event.specs.declared.event.EventWithLook.{EventWithLook}
use Rattle.ga_event.specs.declared.made.MadeEvent.{MadeEvent}
use Rattle.ga_event.specs.declared.made.MadeEvent.TheVariants as made
use Rattle.ga_event.specs.Apply.{MadeEventOutcome, neighbour_states, event_result, event_refusal, event_with_look_on_chip, some_if_allowed, run_events, replay, AgreeOutsideMarks}
use Rattle.ga_event.specs.Touches.{touches}
use Rattle.ga_event.specs.Told.{made_event_after, made_events_of_node_after}
use Rattle.ga_event.proofs.Locality.{apply_keeps}
use Rattle.ga_lab.specs.Machine.{MachineState, run_events_with_outcomes, history_of_node}
use Rattle.ga_provenance.specs.Origins.{event_count_through_steps, node_after_steps}
use Rattle.ga_slots.specs.Codes.{code_of_opcode, opcode_of_code}
use Rattle.ga_slots.proofs.Encoding.{opcode_of_code-code_of}
use Rattle.ga_ports.specs.Address.{address_target, is_single_side_set, side_of_single_set}
use Rattle.ga_ports.specs.declared.side.Side.{Side}
use Rattle.ga_ports.specs.declared.address.AddressTarget.{AddressTarget}
use Rattle.ga_ports.specs.declared.address.AddressTarget.TheVariants as target
use Rattle.ga_node.specs.Changes.{NodeChange}
use Rattle.ga_node.specs.declared.kind.OwnEventKind.TheVariants as kind
use Rattle.ga_node.specs.declared.due.NextAction.{NextAction}
use Rattle.ga_node.specs.declared.due.NextAction.TheVariants as due
use Rattle.ga_node.specs.declared.wait.Wait.TheVariants as wait
use Rattle.ga_node.specs.declared.wait.ReadKind.{ReadKind}
use Rattle.ga_node.specs.declared.wait.ReadKind.TheVariants.{Instruction, Stack}
use Rattle.ga_event.specs.declared.flow.choice.DecidingTestOrTarget.{DecidingTestOrTarget}
use Rattle.ga_event.specs.declared.flow.part.NodePart.{NodePart}
use Rattle.ga_event.specs.Flow.{CopiedFromPart, deciding_test_or_target, flow_changes_by_test_or_target, action_flow_changes, flows_after_changes, flow_by_test_or_target, flow_of_own_event}
use Rattle.ga_provenance.specs.inner.{IsNextActionOfKind}

-- ---- a step of a node's own, as made, is what its next event was in the node before it

abbrev Ended : Type 0
Ended = List NodeRecord × List (EventWithLook × MadeEventOutcome)

-- the first of some events is enabled, and then the others
record Begins (chip : List NodeRecord) (e : Event) (es : List Event) (done : Ended) : Type 0 where
  rest : Ended
  can : event_refusal chip e ≡ None
  runs : run_events (event_result chip e).0 es ≡ Some rest
  is : done.1 ≡ (event_with_look_on_chip chip e, (event_result chip e).1) ∷ rest.1
  ends : done.0 ≡ rest.0

begins : (chip : List NodeRecord) (e : Event) (es : List Event) (done : Ended) → run_events chip (e ∷ es) ≡ Some done → Begins chip e es done
begins chip e es done h = at_first (event_refusal chip e) refl h
  where
    at_rest : (r : Option Ended) → event_refusal chip e ≡ None → run_events (event_result chip e).0 es ≡ r
        → option_map {U = Ended} (λ rest. (rest.0, (event_with_look_on_chip chip e, (event_result chip e).1) ∷ rest.1)) r ≡ Some done → Begins chip e es done
    at_rest None can runs is = absurd (cc)
    at_rest (Some rest) can runs is = record { rest = rest; can = can; runs = runs; is = sym (ap (λ (z : Ended). z.1) (same_Some _ _ is)); ends = sym (ap (λ (z : Ended). z.0) (same_Some _ _ is)) }

    at_first : (why : Option EventRefusal) → event_refusal chip e ≡ why
        → option_and_then {U = Ended} (λ first. option_map {U = Ended} (λ rest. (rest.0, (event_with_look_on_chip chip e, first.1) ∷ rest.1)) (run_events first.0 es)) (some_if_allowed why (event_result chip e)) ≡ Some done
        → Begins chip e es done
    at_first None can is = at_rest (run_events (event_result chip e).0 es) can refl is
    at_first (Some why) can is = absurd (cc)

-- what they lead to
front_of : (x : EventWithLook × MadeEventOutcome) (r : Option Ended) → option_map (λ (z : Ended). z.0) (option_map {U = Ended} (λ rest. (rest.0, x ∷ rest.1)) r) ≡ option_map (λ (z : Ended). z.0) r
front_of x None = refl
front_of x (Some rest) = refl

replay_on : (chip : List NodeRecord) (e : Event) (xs : List Event) → event_refusal chip e ≡ None → replay chip (e ∷ xs) ≡ replay (event_result chip e).0 xs
replay_on chip e xs can =
    ap (λ (why : Option EventRefusal). option_map (λ (z : Ended). z.0)
    (option_and_then {U = Ended} (λ first. option_map {U = Ended} (λ rest. (rest.0, (event_with_look_on_chip chip e, first.1) ∷ rest.1)) (run_events first.0 xs)) (some_if_allowed why (event_result chip e)))) can
    ∙ front_of (event_with_look_on_chip chip e, (event_result chip e).1) (run_events (event_result chip e).0 xs)

-- a node that an event doesn't touch stays
stays : (chip : List NodeRecord) (e : Event) (n : ℕ) → event_refusal chip e ≡ None → touches e n ≡ false → node_record_at chip n ≡ node_record_at (event_result chip e).0 n
stays chip e n can other =
    let keeps : AgreeOutsideMarks (touches e) chip (event_result chip e).0 =
    subst (λ (why : Option EventRefusal). IfSome (some_if_allowed why (event_result chip e)) (λ (done : List NodeRecord × MadeEventOutcome). AgreeOutsideMarks (touches e) chip done.0)) can (apply_keeps chip e) in
    keeps.same n other

none_first : (es : List Event) (n : ℕ) → event_count_through_steps es n zero ≡ zero
none_first [] n = refl
none_first (e ∷ es) n = refl

pub empty_some : (i : ℕ) (x : MadeEvent) → slice_get [] i ≡ Some x → ⊥
empty_some zero x h = none-some _ h
empty_some (suc i) x h = none-some _ h

-- a node that held this made an event of its own of this kind, and then held that, on a chip of all nodes
record WentOwn (nodes : ℕ) (before behind : NodeRecord) (kind : OwnEventKind) : Type 0 where
  seen : SeenNeighbours
  ran : (own seen before).0 ≡ kind
  next : nodes ≡ 144 → behind ≡ (own seen before).1

-- a node that held this made its half of a transfer to this reader, and then held that
record WentPassing (nodes n : ℕ) (before behind : NodeRecord) (reader : NodeId) : Type 0 where
  word : ℕ
  took : nodes ≡ 144 → n ≡ reader.number → behind ≡ taken word before
  gave : nodes ≡ 144 → n ≢ reader.number → behind ≡ sent before

-- a node that held this made this event, and then held that
abbrev Went : ℕ → ℕ → NodeRecord → NodeRecord → MadeEvent → Type 0
Went nodes n before behind (made.Own m step kind) = WentOwn nodes before behind kind
Went nodes n before behind (made.Pass w i r j word) = WentPassing nodes n before behind r

-- an event that touches the node
touched_own : (chip : List NodeRecord) (node : NodeId) (n : ℕ) → touches (event.Own node) n ≡ true
    → WentOwn (length chip) (node_record_at chip n) (node_record_at (event_result chip (event.Own node)).0 n) (own (neighbour_states chip node.number) (node_record_at chip node.number)).0
touched_own chip node n touched =
    let at : node.number ≡ n = number (node.number == n) refl touched in
    let seen : SeenNeighbours = neighbour_states chip node.number in
    record {
      seen = seen;
      ran = ap (λ (k : ℕ). (own seen (node_record_at chip k)).0) (sym at);
      next = λ size.
          ap (node_record_at (set chip node.number (own seen (node_record_at chip node.number)).1)) (sym at)
          ∙ get_or-set_same chip node.number (own seen (node_record_at chip node.number)).1 _ (rw size node.in_range)
          ∙ ap (λ (k : ℕ). (own seen (node_record_at chip k)).1) at;
    }
  where
    number : (b : Bool) → (node.number == n) ≡ b → (b || false) ≡ true → node.number ≡ n
    number true is some = eqb-true node.number n is
    number false is some = absurd (cc)

touched_pass : (chip : List NodeRecord) (from to : NodeId) (side : Side) (n : ℕ) → touches (event.Pass from to side) n ≡ true
    → WentPassing (length chip) n (node_record_at chip n) (node_record_at (event_result chip (event.Pass from to side)).0 n) to
touched_pass chip from to side n touched =
    let word : ℕ = register_t (node_record_at chip from.number) in
    let first : List NodeRecord = set chip from.number (sent (node_record_at chip from.number)) in
    let last : NodeRecord = taken word (node_record_at chip to.number) in
    record {
      word = word;
      took = λ size is.
          ap (node_record_at (set first to.number last)) is
          ∙ get_or-set_same first to.number last _ (rw (length-set chip from.number (sent (node_record_at chip from.number)) ∙ size) to.in_range)
          ∙ ap (λ (k : ℕ). taken word (node_record_at chip k)) (sym is);
      gave = λ size other.
          let at : from.number ≡ n = writer (from.number == n) (to.number == n) refl refl touched other in
          get_or-set_other first to.number n last _ other
          ∙ ap (node_record_at first) (sym at)
          ∙ get_or-set_same chip from.number (sent (node_record_at chip from.number)) _ (rw size from.in_range)
          ∙ ap (λ (k : ℕ). sent (node_record_at chip k)) at;
    }
  where
    writer : (b c : Bool) → (from.number == n) ≡ b → (to.number == n) ≡ c → (b || (c || false)) ≡ true → n ≢ to.number → from.number ≡ n
    writer true c is at some other = eqb-true from.number n is
    writer false true is at some other = absurd (other (sym (eqb-true to.number n at)))
    writer false false is at some other = absurd (cc)

touched_first : (chip : List NodeRecord) (e : Event) (before : List Event) (rest : List MadeEvent) (n : ℕ) (x : MadeEvent) → touches e n ≡ true
    → slice_get (option_to_list (made_event_after before e (event_result chip e).1) ++ rest) zero ≡ Some x → Went (length chip) n (node_record_at chip n) (node_record_at (event_result chip e).0 n) x
touched_first chip (event.Own node) before rest n x touched h =
    subst (Went (length chip) n (node_record_at chip n) (node_record_at (event_result chip (event.Own node)).0 n)) (same_Some _ _ h) (touched_own chip node n touched)
touched_first chip (event.Pass from to side) before rest n x touched h =
    subst (Went (length chip) n (node_record_at chip n) (node_record_at (event_result chip (event.Pass from to side)).0 n)) (same_Some _ _ h) (touched_pass chip from to side n touched)

touched_next : (chip : List NodeRecord) (e : Event) (before : List Event) (rest : List MadeEvent) (k : ℕ) (x : MadeEvent)
    → slice_get (option_to_list (made_event_after before e (event_result chip e).1) ++ rest) (suc k) ≡ Some x → slice_get rest k ≡ Some x
touched_next chip (event.Own node) before rest k x h = h
touched_next chip (event.Pass from to side) before rest k x h = h

length_after : (chip : List NodeRecord) (e : Event) → length (event_result chip e).0 ≡ length chip
length_after chip (event.Own node) = length-set chip node.number _
length_after chip (event.Pass from to side) = length-set (set chip from.number _) to.number _ ∙ length-set chip from.number _

abbrev chip_at : List NodeRecord → List Event → ℕ → List NodeRecord
chip_at chip events place = unwrap_or (replay chip (take place events)) []

-- a node's step after k of its steps, in a list of events
abbrev WentAt : List NodeRecord → List Event → ℕ → ℕ → MadeEvent → Type 0
WentAt chip events n k x = Went (length chip) n (node_record_at (chip_at chip events (event_count_through_steps events n k)) n) (node_record_at (chip_at chip events (event_count_through_steps events n (suc k))) n) x

-- a place of a list, with an event more in front
moved_on : (chip : List NodeRecord) (e : Event) (es : List Event) (n place : ℕ) → event_refusal chip e ≡ None
    → node_record_at (chip_at (event_result chip e).0 es place) n ≡ node_record_at (chip_at chip (e ∷ es) (suc place)) n
moved_on chip e es n place can = ap (λ (z : Option (List NodeRecord)). node_record_at (unwrap_or z []) n) (sym (replay_on chip e (take place es) can))

went_on : (chip : List NodeRecord) (e : Event) (es : List Event) (n first last : ℕ) (x : MadeEvent) → event_refusal chip e ≡ None
    → Went (length (event_result chip e).0) n (node_record_at (chip_at (event_result chip e).0 es first) n) (node_record_at (chip_at (event_result chip e).0 es last) n) x
    → Went (length chip) n (node_record_at (chip_at chip (e ∷ es) (suc first)) n) (node_record_at (chip_at chip (e ∷ es) (suc last)) n) x
went_on chip e es n first last x can went =
    subst (λ (many : ℕ). Went many n (node_record_at (chip_at chip (e ∷ es) (suc first)) n) (node_record_at (chip_at chip (e ∷ es) (suc last)) n) x) (length_after chip e)
    (subst (λ (z : NodeRecord). Went (length (event_result chip e).0) n z (node_record_at (chip_at chip (e ∷ es) (suc last)) n) x) (moved_on chip e es n first can)
    (subst (λ (z : NodeRecord). Went (length (event_result chip e).0) n (node_record_at (chip_at (event_result chip e).0 es first) n) z x) (moved_on chip e es n last can) went))

-- if the step is the first event, or a later one
at_first : (chip : List NodeRecord) (e : Event) (es before : List Event) (told : List MadeEvent) (n : ℕ) (x : MadeEvent) → event_refusal chip e ≡ None
    → (slice_get told zero ≡ Some x → WentAt (event_result chip e).0 es n zero x)
    → (b : Bool) → touches e n ≡ b → slice_get (cond b (option_to_list (made_event_after before e (event_result chip e).1)) [] ++ told) zero ≡ Some x
    → Went (length chip) n (node_record_at chip n) (node_record_at (chip_at chip (e ∷ es) (suc (event_count_through_steps es n (cond b zero (suc zero))))) n) x
at_first chip e es before told n x can next true touched at =
    subst (λ (z : NodeRecord). Went (length chip) n (node_record_at chip n) z x)
    (moved_on chip e es n zero can ∙ ap (λ (p : ℕ). node_record_at (chip_at chip (e ∷ es) (suc p)) n) (sym (none_first es n)))
    (touched_first chip e before told n x touched at)
at_first chip e es before told n x can next false other at =
    let there = went_on chip e es n (event_count_through_steps es n zero) (event_count_through_steps es n (suc zero)) x can (next at) in
    subst (λ (z : NodeRecord). Went (length chip) n z (node_record_at (chip_at chip (e ∷ es) (suc (event_count_through_steps es n (suc zero)))) n) x)
    (sym (moved_on chip e es n (event_count_through_steps es n zero) can) ∙ ap (λ (p : ℕ). node_record_at (chip_at (event_result chip e).0 es p) n) (none_first es n) ∙ sym (stays chip e n can other))
    there

at_later : (chip : List NodeRecord) (e : Event) (es before : List Event) (told : List MadeEvent) (n k : ℕ) (x : MadeEvent) → event_refusal chip e ≡ None
    → ((j : ℕ) → slice_get told j ≡ Some x → WentAt (event_result chip e).0 es n j x)
    → (b : Bool) → slice_get (cond b (option_to_list (made_event_after before e (event_result chip e).1)) [] ++ told) (suc k) ≡ Some x
    → Went (length chip) n (node_record_at (chip_at chip (e ∷ es) (suc (event_count_through_steps es n (cond b k (suc k))))) n)
    (node_record_at (chip_at chip (e ∷ es) (suc (event_count_through_steps es n (cond b (suc k) (suc (suc k)))))) n) x
at_later chip e es before told n k x can next true at =
    went_on chip e es n (event_count_through_steps es n k) (event_count_through_steps es n (suc k)) x can (next k (touched_next chip e before told k x at))
at_later chip e es before told n k x can next false at =
    went_on chip e es n (event_count_through_steps es n (suc k)) (event_count_through_steps es n (suc (suc k))) x can (next (suc k) at)

went : (chip : List NodeRecord) (events before : List Event) (done : Ended) (n k : ℕ) (x : MadeEvent) → run_events chip events ≡ Some done
    → slice_get (made_events_of_node_after before done.1 n) k ≡ Some x → WentAt chip events n k x
went chip [] before done n k x is h =
    absurd (empty_some k x (subst (λ (z : Ended). slice_get (made_events_of_node_after before z.1 n) k ≡ Some x) (sym (same_Some _ _ is)) h))
went chip (e ∷ es) before done n zero x is h =
    let first = begins chip e es done is in
    at_first chip e es before (made_events_of_node_after (before ++ e ∷ []) first.rest.1 n) n x first.can
    (λ at. went (event_result chip e).0 es (before ++ e ∷ []) first.rest n zero x first.runs at)
    (touches e n) refl (subst (λ z. slice_get (made_events_of_node_after before z n) zero ≡ Some x) first.is h)
went chip (e ∷ es) before done n (suc k) x is h =
    let first = begins chip e es done is in
    at_later chip e es before (made_events_of_node_after (before ++ e ∷ []) first.rest.1 n) n k x first.can
    (λ j at. went (event_result chip e).0 es (before ++ e ∷ []) first.rest n j x first.runs at)
    (touches e n) (subst (λ z. slice_get (made_events_of_node_after before z n) (suc k) ≡ Some x) first.is h)

went_so : (s : MachineState) (n k : ℕ) (x : MadeEvent) → slice_get (history_of_node s n) k ≡ Some x
    → Went (length s.load) n (node_after_steps s n k) (node_after_steps s n (suc k)) x
went_so s n k x h = go (run_events s.load s.kept) refl h
  where
    go : (o : Option Ended) → run_events s.load s.kept ≡ o → slice_get (made_events_of_node_after [] (run_events_with_outcomes o) n) k ≡ Some x
        → Went (length s.load) n (node_after_steps s n k) (node_after_steps s n (suc k)) x
    go None is at = absurd (empty_some k x at)
    go (Some done) is at = went s.load s.kept [] done n k x is at

-- a machine to whose chip its history leads has as many nodes from the load on
length_run : (chip : List NodeRecord) (events : List Event) (done : Ended) → run_events chip events ≡ Some done → length done.0 ≡ length chip
length_run chip [] done is = ap (λ (z : Ended). length z.0) (sym (same_Some _ _ is))
length_run chip (e ∷ es) done is =
    let first = begins chip e es done is in
    ap length first.ends ∙ length_run (event_result chip e).0 es first.rest first.runs ∙ length_after chip e

pub whole_machine : (s : MachineState) (chip : List NodeRecord) → replay s.load s.kept ≡ Some chip → length chip ≡ 144 → length s.load ≡ 144
whole_machine s chip leads size = go (run_events s.load s.kept) refl leads
  where
    go : (o : Option Ended) → run_events s.load s.kept ≡ o → option_map (λ (z : Ended). z.0) o ≡ Some chip → length s.load ≡ 144
    go None is h = absurd (none-some _ h)
    go (Some done) is h = sym (length_run s.load s.kept done is) ∙ ap length (same_Some _ _ h) ∙ size

-- the next event of a node that held this was of this kind
pub record WasNext (node : NodeRecord) (kind : OwnEventKind) : Type 0 where
  pub seen : SeenNeighbours
  pub is : (own seen node).0 ≡ kind

-- the kind of a node's step, as made
pub ran_so : (s : MachineState) (n k step : ℕ) (m : NodeId) (kind : OwnEventKind) → slice_get (history_of_node s n) k ≡ Some (made.Own m step kind) → WasNext (node_after_steps s n k) kind
ran_so s n k step m kind h = let step_is : WentOwn (length s.load) (node_after_steps s n k) (node_after_steps s n (suc k)) kind = went_so s n k (made.Own m step kind) h in record { seen = step_is.seen; is = step_is.ran }

-- and the node after it
pub record Became (before behind : NodeRecord) (kind : OwnEventKind) : Type 0 where
  pub seen : SeenNeighbours
  pub ran : (own seen before).0 ≡ kind
  pub next : behind ≡ (own seen before).1

pub became_so : (s : MachineState) (n k step : ℕ) (m : NodeId) (kind : OwnEventKind) → length s.load ≡ 144 → slice_get (history_of_node s n) k ≡ Some (made.Own m step kind)
    → Became (node_after_steps s n k) (node_after_steps s n (k + 1)) kind
became_so s n k step m kind whole h =
    let step_is : WentOwn (length s.load) (node_after_steps s n k) (node_after_steps s n (suc k)) kind = went_so s n k (made.Own m step kind) h in
    record {
      seen = step_is.seen;
      ran = step_is.ran;
      next = ap (node_after_steps s n) (let e : k + 1 ≡ suc k = omega arith in e) ∙ step_is.next whole;
    }

-- a node after its half of a transfer to this reader
pub record Passed (n : ℕ) (before behind : NodeRecord) (reader : NodeId) : Type 0 where
  pub word : ℕ
  pub took : n ≡ reader.number → behind ≡ taken word before
  pub gave : n ≢ reader.number → behind ≡ sent before

pub passed_so : (s : MachineState) (n k : ℕ) (w r : NodeId) (i j word : ℕ) → length s.load ≡ 144 → slice_get (history_of_node s n) k ≡ Some (made.Pass w i r j word) → Passed n (node_after_steps s n k) (node_after_steps s n (k + 1)) r
passed_so s n k w r i j word whole h =
    let step_is : WentPassing (length s.load) n (node_after_steps s n k) (node_after_steps s n (suc k)) r = went_so s n k (made.Pass w i r j word) h in
    let there = ap (node_after_steps s n) (let e : k + 1 ≡ suc k = omega arith in e) in
    record { word = step_is.word; took = λ is. there ∙ step_is.took whole is; gave = λ other. there ∙ step_is.gave whole other }

-- ---- what came next in a node, by the kind of its event

-- an event that neither waits nor stops its node did what it was for
is_done : OwnEventKind → Bool
is_done kind.Fetch = true
is_done (kind.Run code) = true
is_done kind.Wait = false
is_done (kind.Stop code) = false

read_done : (ran did : OwnEventKind) (at : AddressTarget) (reader : ReadKind) (seen : SeenNeighbours) (n : NodeRecord) (more : ℕ → List NodeChange) → is_done did ≡ true
    → (own_event_after_access ran (access_with_following_changes (target_read_result at reader seen n) more)).0 ≡ did → ran ≡ did
unfolding is_done target_read_result access_with_following_changes
read_done ran did (target.Ram c) reader seen n more done h = h
read_done ran did (target.Rom c) reader seen n more done h = h
read_done ran did target.Io reader seen n more done h = h
read_done ran did (target.Ports sides) reader seen n more done h = absurd (cc)
read_done ran did target.Bad reader seen n more done h = absurd (cc)

write_done : (ran did : OwnEventKind) (at : AddressTarget) (n : NodeRecord) (more : List NodeChange) → is_done did ≡ true
    → (own_event_after_access ran (access_with_following_changes (target_write_result at n) (λ changes. changes ++ more))).0 ≡ did → ran ≡ did
unfolding is_done target_write_result access_with_following_changes
write_done ran did (target.Ram c) n more done h = h
write_done ran did (target.Rom c) n more done h = h
write_done ran did target.Io n more done h = h
write_done ran did (target.Ports sides) n more done h = absurd (at_port (is_single_side_set sides) h)
  where
    at_port : (single : Bool) → (cond single (wait_effect (wait.Write (side_of_single_set sides))) (stop_effect 1)).0 ≡ did → ⊥
    at_port true g = cc
    at_port false g = cc
write_done ran did target.Bad n more done h = absurd (cc)

all_done : (ran did : OwnEventKind) (reader : ReadKind) (access : AddressAccess) (seen : SeenNeighbours) (n : NodeRecord) → is_done did ≡ true → (own_event_after_access ran (changes_or_event_of_access reader access seen n)).0 ≡ did → ran ≡ did
all_done ran did reader (Plain changes) seen n done h = h
all_done ran did reader (Reads address more) seen n done h = read_done ran did (address_target address) reader seen n more done h
all_done ran did reader (Writes address more) seen n done h = write_done ran did (address_target address) n more done h

-- what came next is what an event of this kind is for
code_in : OwnEventKind → ℕ
code_in (kind.Run code) = code
code_in kind.Fetch = 32
code_in kind.Wait = 32
code_in (kind.Stop code) = 32

run_is : (what : NextAction) (seen : SeenNeighbours) (n : NodeRecord) (code : ℕ) → (event_kind_and_changes_of_action what seen n).0 ≡ kind.Run code → what ≡ due.Run (opcode_of_code code)
unfolding is_done code_in
run_is due.Fetch seen n code h = let is = all_done kind.Fetch (kind.Run code) Instruction (fetch_access n) seen n refl h in absurd (cc)
run_is (due.Run o) seen n code h =
    ap due.Run (sym (opcode_of_code-code_of o) ∙ ap opcode_of_code (ap code_in (all_done (kind.Run (code_of_opcode o)) (kind.Run code) Stack (opcode_effect o n) seen n refl h)))

fetch_is : (what : NextAction) (seen : SeenNeighbours) (n : NodeRecord) → (event_kind_and_changes_of_action what seen n).0 ≡ kind.Fetch → what ≡ due.Fetch
unfolding is_done
fetch_is due.Fetch seen n h = refl
fetch_is (due.Run o) seen n h = let is = all_done (kind.Run (code_of_opcode o)) kind.Fetch Stack (opcode_effect o n) seen n refl h in absurd (cc)

ran_op : (n : NodeRecord) (code : ℕ) → WasNext n (kind.Run code) → next_action_of_node n ≡ due.Run (opcode_of_code code)
unfolding own own_event
ran_op n code was = run_is (next_action_of_node n) was.seen n code was.is

ran_fetch : (n : NodeRecord) → WasNext n kind.Fetch → next_action_of_node n ≡ due.Fetch
unfolding own own_event
ran_fetch n was = fetch_is (next_action_of_node n) was.seen n was.is

due_was : (n : NodeRecord) (ran : OwnEventKind) (what : NextAction) → WasNext n ran → IsNextActionOfKind ran what → next_action_of_node n ≡ what
due_was n kind.Fetch what was is = ran_fetch n was ∙ sym is
due_was n (kind.Run code) what was is = ran_op n code was ∙ sym is
due_was n kind.Wait what was is = absurd is
due_was n (kind.Stop code) what was is = absurd is

-- of a step of a node
pub due_told : (s : MachineState) (n k step : ℕ) (m : NodeId) (ran : OwnEventKind) (what : NextAction) → slice_get (history_of_node s n) k ≡ Some (made.Own m step ran) → IsNextActionOfKind ran what → next_action_of_node (node_after_steps s n k) ≡ what
due_told s n k step m ran what told is = due_was (node_after_steps s n k) ran what (ran_so s n k step m ran told) is

-- what decides what came next determines from where its values come
by_due : (what : NextAction) (n : NodeRecord) (at : NodePart) → flows_after_changes (flow_changes_by_test_or_target what (deciding_test_or_target what n)) CopiedFromPart at ≡ flows_after_changes (action_flow_changes what n) CopiedFromPart at
by_due due.Fetch n at = refl
by_due (due.Run o) n at = refl

pub own_where : (n : NodeRecord) (what : NextAction) (known : DecidingTestOrTarget) (at : NodePart) → next_action_of_node n ≡ what → known ≡ deciding_test_or_target what n → flow_by_test_or_target what known at ≡ flow_of_own_event n at
unfolding flow_by_test_or_target flow_of_own_event
own_where n what known at next is =
    ap (λ (z : DecidingTestOrTarget). flows_after_changes (flow_changes_by_test_or_target what z) CopiedFromPart at) is ∙ by_due what n at ∙ ap (λ (d : NextAction). flows_after_changes (action_flow_changes d n) CopiedFromPart at) (sym next)
