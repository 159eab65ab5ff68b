-- Where an own event lacks what the conditions of a run need, none holds.
use Rattle.ga_node.specs.declared.kind.OwnEventKind.TheVariants as kind
use Rattle.ga_event.specs.declared.made.MadeEvent.TheVariants as made
use Rattle.std.proofs.Common.{◌≡◌, ℕ, zero, suc, ◌+◌, ◌<◌, Bool, true, false, cond, List, [], ◌∷◌, length, take, Some, None, inl, inr, refl, sym, ◌∙◌, ap, arith, ◌%◌, ◌≤◌, ◌==◌, subst, eqb-true}
use Rattle.std.specs.Prelude.{option_map, slice_get, ◌&&◌, ◌||◌, not, nat_lt, is_none}
use Rattle.std.proofs.lemmas.Bool.{cases_lt, and_right, or_from, lt-ltb, ltb-true, false_from_ne_true, true≢false, not-true}
use Rattle.std.proofs.lemmas.Option.{same_Some}
use Rattle.ga_event.specs.declared.made.MadeEvent.{MadeEvent}
use Rattle.ga_lab.specs.Machine.{MachineState, chip_of_machine, memory_word_at_address}
use Rattle.ga_scheduler.specs.declared.condition.Condition.{Condition}
use Rattle.ga_scheduler.specs.Conditions.{holds_after_made_event, first_holding_condition, never_holds, conditions_before_never, is_node_own_event_of_kind, is_stop_event_kind, is_wait_event_kind, is_about_to_fetch_at, store_address_of_opcode, is_address_of_ram_cell, stores_in_cell, node_before_newest_event, is_requested_word}
use Rattle.ga_node.specs.Record.{NodeRecord}
use Rattle.ga_node.specs.Table.{refusal_of_own_event}
use Rattle.ga_node.specs.declared.kind.OwnEventKind.{OwnEventKind}
use Rattle.ga_grid.specs.declared.node_id.NodeId.{NodeId}
use Rattle.ga_grid.specs.Chip.{node_record_at}
use Rattle.ga_scheduler.specs.declared.condition.Condition.TheVariants.{Never, PassesWord, PassesNthWord, MakesNumberedStep, AnyNodeStops, GivenNodeStops, GivenNodeWaits, HoldsPlaceValue, ReachesAddress, WritesRamCell, Broken}
use Rattle.ga_scheduler.specs.declared.watching.Needs.{Needs}
use Rattle.ga_scheduler.specs.inner.{AreLinkCountsKnown, is_needed_opcode, is_needed_slot_next, event_lacks_needs, NeedsCoverCondition, NeedsCoverConditions}

-- ---- which of some conditions holds first, and which are active

-- if none of the first `n` passes a test, nor the next one, none of one more does
pub none_more : (test : Condition → Bool) (until : List Condition) (n : ℕ) (next : Condition) → slice_get until n ≡ Some next → test next ≡ false
    → ((k : ℕ) (one : Condition) → slice_get until k ≡ Some one → k < n → test one ≡ false)
    → (k : ℕ) (one : Condition) → slice_get until k ≡ Some one → k < n + 1 → test one ≡ false
none_more test until n next is fails before k one at l = elim (cases_lt k n) [
  | inl less ↦ before k one at less
  | inr more ↦ (
      let e : k ≡ n = omega arith in
      let same : next ≡ one = same_Some next one (sym is ∙ ap (slice_get until) (sym e) ∙ at) in
      ap test (sym same) ∙ fails)
]

-- none of the first `n` holds
abbrev pub NoneOf : List Condition → MadeEvent → MachineState → ℕ → Type 0
NoneOf until m s n = (k : ℕ) (one : Condition) → slice_get until k ≡ Some one → k < n → holds_after_made_event one m s ≡ false

pub held_first : (until : List Condition) (i : ℕ) (one : Condition) (m : MadeEvent) (s : MachineState) → slice_get until i ≡ Some one → NoneOf until m s i
    → holds_after_made_event one m s ≡ true → first_holding_condition until m s ≡ Some i
unfolding first_holding_condition
held_first [] i one m s is before h = absurd (cc)
held_first (c ∷ cs) zero one m s is before h =
    ap (λ (b : Bool). cond b (Some 0) (option_map suc (first_holding_condition cs m s))) (ap (λ z. holds_after_made_event z m s) (same_Some c one is) ∙ h)
held_first (c ∷ cs) (suc i) one m s is before h =
    ap (λ (b : Bool). cond b (Some 0) (option_map suc (first_holding_condition cs m s))) (before 0 c refl (omega arith))
    ∙ ap (option_map suc) (held_first cs i one m s is (λ k other at l. before (suc k) other at (omega arith)) h)

pub none_held : (until : List Condition) (m : MadeEvent) (s : MachineState) → NoneOf until m s (length until) → first_holding_condition until m s ≡ None
unfolding first_holding_condition
none_held [] m s h = refl
none_held (c ∷ cs) m s h =
    ap (λ (b : Bool). cond b (Some 0) (option_map suc (first_holding_condition cs m s))) (h 0 c refl (omega arith))
    ∙ ap (option_map suc) (none_held cs m s (λ k other at l. h (suc k) other at (omega arith)))

-- Those before the first one that holds never.

abbrev pub AreAsked : List Condition → ℕ → Type 0
AreAsked until n = (k : ℕ) (one : Condition) → slice_get until k ≡ Some one → k < n → never_holds one ≡ false

pub asked_before : (until : List Condition) (i : ℕ) (one : Condition) → slice_get until i ≡ Some one → AreAsked until i → never_holds one ≡ true → take i until ≡ conditions_before_never until
unfolding conditions_before_never
asked_before [] i one is before never = absurd (cc)
asked_before (c ∷ cs) zero one is before never = sym (ap (λ (b : Bool). cond b [] (c ∷ conditions_before_never cs)) (ap never_holds (same_Some c one is) ∙ never))
asked_before (c ∷ cs) (suc i) one is before never =
    ap (λ z. c ∷ z) (asked_before cs i one is (λ k other at l. before (suc k) other at (omega arith)) never)
    ∙ sym (ap (λ (b : Bool). cond b [] (c ∷ conditions_before_never cs)) (before 0 c refl (omega arith)))

pub all_asked : (until : List Condition) → AreAsked until (length until) → until ≡ conditions_before_never until
unfolding conditions_before_never
all_asked [] before = refl
all_asked (c ∷ cs) before =
    ap (λ z. c ∷ z) (all_asked cs (λ k other at l. before (suc k) other at (omega arith)))
    ∙ sym (ap (λ (b : Bool). cond b [] (c ∷ conditions_before_never cs)) (before 0 c refl (omega arith)))

both : (a b : Bool) → (a && b) ≡ true → (a ≡ true) × (b ≡ true)
both true true h = (refl, refl)
both true false h = absurd (true≢false (sym h))
both false b h = absurd (true≢false (sym h))

guarded : (b x : Bool) → (b ≡ true → x ≡ false) → (b && x) ≡ false
guarded true x h = h refl
guarded false x h = refl

-- Where more is needed, what was needed is.
pub covers_more : (a b : Needs) (one : Condition) → NeedsCoverCondition a one → a.opcodes ≤ b.opcodes → (a.slot ≡ 4 → b.slot ≡ 4) → NeedsCoverCondition b one
covers_more a b Never h more fetches = tt
covers_more a b Broken h more fetches = tt
covers_more a b (PassesWord writer reader comparison word) h more fetches = tt
covers_more a b (PassesNthWord writer reader number) h more fetches = tt
covers_more a b (MakesNumberedStep node step) h more fetches = omega (arith, h, more)
covers_more a b AnyNodeStops h more fetches = tt
covers_more a b (GivenNodeStops node) h more fetches = tt
covers_more a b (GivenNodeWaits node) h more fetches = tt
covers_more a b (HoldsPlaceValue node test) h more fetches = omega (arith, h, more)
covers_more a b (ReachesAddress node address) h more fetches = fetches h
covers_more a b (WritesRamCell node address word) h more fetches = omega (arith, h, more)

pub needed_more : (a b : Needs) (until : List Condition) (n : ℕ) (next : Condition) → slice_get until n ≡ Some next → NeedsCoverCondition b next
    → a.opcodes ≤ b.opcodes → (a.slot ≡ 4 → b.slot ≡ 4)
    → ((k : ℕ) (one : Condition) → slice_get until k ≡ Some one → k < n → NeedsCoverCondition a one)
    → (k : ℕ) (one : Condition) → slice_get until k ≡ Some one → k < n + 1 → NeedsCoverCondition b one
needed_more a b until n next is here more fetches before k one at l = elim (cases_lt k n) [
  | inl less ↦ covers_more a b one (before k one at less) more fetches
  | inr least ↦ (
      let e : k ≡ n = omega arith in
      let same : next ≡ one = same_Some next one (sym is ∙ ap (slice_get until) (sym e) ∙ at) in
      subst (NeedsCoverCondition b) same here)
]

-- What lacks it: no opcode that stores, no fetch after it, no wait and no stop.

is_other : (opcodes code c : ℕ) → is_needed_opcode opcodes code ≡ false → 4 ≤ opcodes → 0x0b < c → c < 0x10 → (code == c) ≡ false
is_other opcodes code c off many above below = false_from_ne_true (code == c) (λ same.
    let is : code ≡ c = eqb-true code c same in
    let few : (code + 244) % 256 < opcodes = omega (arith, is, above, below, many) in
    true≢false (sym (lt-ltb ((code + 244) % 256) opcodes few) ∙ off))

stores_nowhere : (opcodes code : ℕ) (n : NodeRecord) → is_needed_opcode opcodes code ≡ false → 4 ≤ opcodes → store_address_of_opcode code n ≡ None
stores_nowhere opcodes code n off many =
    ap (λ (b : Bool). cond b (Some n.p) (cond ((code == 0x0d) || (code == 0x0f)) (Some n.a) (cond (code == 0x0e) (Some n.b) None))) (is_other opcodes code 0x0c off many (omega arith) (omega arith))
    ∙ ap (λ (b : Bool). cond b (Some n.a) (cond (code == 0x0e) (Some n.b) None))
    (or_from (code == 0x0d) (code == 0x0f) (is_other opcodes code 0x0d off many (omega arith) (omega arith)) (is_other opcodes code 0x0f off many (omega arith) (omega arith)))
    ∙ ap (λ (b : Bool). cond b (Some n.b) None) (is_other opcodes code 0x0e off many (omega arith) (omega arith))

stores_none : (needs : Needs) (cell : ℕ) (before n : NodeRecord) (what : OwnEventKind) → 4 ≤ needs.opcodes → event_lacks_needs needs n what ≡ true → stores_in_cell cell before what ≡ false
stores_none needs cell before n kind.Fetch many off = refl
stores_none needs cell before n (kind.Run code) many off =
    ap (is_address_of_ram_cell cell) (stores_nowhere needs.opcodes code before (not-true (is_needed_opcode needs.opcodes code) (both (not (is_needed_opcode needs.opcodes code)) (not (is_needed_slot_next needs n)) off).0) many)
stores_none needs cell before n kind.Wait many off = refl
stores_none needs cell before n (kind.Stop code) many off = refl

not_due : (needs : Needs) (n : NodeRecord) → needs.slot ≡ 4 → not (is_needed_slot_next needs n) ≡ true → (n.slot == 4) ≡ false
not_due needs n h off = subst (λ (z : ℕ). (n.slot == z) ≡ false) h (not-true (n.slot == needs.slot) off)

fetches_not : (needs : Needs) (n : NodeRecord) (what : OwnEventKind) → needs.slot ≡ 4 → event_lacks_needs needs n what ≡ true → (n.slot == 4) ≡ false
fetches_not needs n kind.Fetch h off = not_due needs n h (both (nat_lt needs.opcodes 256) (not (is_needed_slot_next needs n)) off).1
fetches_not needs n (kind.Run code) h off = not_due needs n h (both (not (is_needed_opcode needs.opcodes code)) (not (is_needed_slot_next needs n)) off).1
fetches_not needs n kind.Wait h off = absurd (true≢false (sym off))
fetches_not needs n (kind.Stop code) h off = absurd (true≢false (sym off))

stops_not : (needs : Needs) (n : NodeRecord) (what : OwnEventKind) → event_lacks_needs needs n what ≡ true → is_stop_event_kind what ≡ false
stops_not needs n kind.Fetch off = refl
stops_not needs n (kind.Run code) off = refl
stops_not needs n kind.Wait off = refl
stops_not needs n (kind.Stop code) off = absurd (true≢false (sym off))

waits_not : (needs : Needs) (n : NodeRecord) (what : OwnEventKind) → event_lacks_needs needs n what ≡ true → is_wait_event_kind what ≡ false
waits_not needs n kind.Fetch off = refl
waits_not needs n (kind.Run code) off = refl
waits_not needs n kind.Wait off = absurd (true≢false (sym off))
waits_not needs n (kind.Stop code) off = refl

-- of all opcodes none lacks it, and no fetch
none_lacks : (needs : Needs) (n : NodeRecord) (what : OwnEventKind) → 256 ≤ needs.opcodes → event_lacks_needs needs n what ≡ true → ⊥
none_lacks needs n kind.Fetch all off =
    let less : nat_lt needs.opcodes 256 ≡ true = (both (nat_lt needs.opcodes 256) (not (is_needed_slot_next needs n)) off).0 in
    omega (arith, all, ltb-true needs.opcodes 256 less)
none_lacks needs n (kind.Run code) all off =
    let few : (code + 244) % 256 < needs.opcodes = omega (arith, all) in
    true≢false (sym (lt-ltb ((code + 244) % 256) needs.opcodes few) ∙ not-true (is_needed_opcode needs.opcodes code) (both (not (is_needed_opcode needs.opcodes code)) (not (is_needed_slot_next needs n)) off).0)
none_lacks needs n kind.Wait all off = true≢false (sym off)
none_lacks needs n (kind.Stop code) all off = true≢false (sym off)

first_not : (s p r : Bool) → s ≡ false → (s && p && r) ≡ false
first_not true p r off = absurd (true≢false off)
first_not false p r off = refl

writes_not : (a s w : Bool) → s ≡ false → (a && s && w) ≡ false
writes_not true true w off = absurd (true≢false off)
writes_not true false w off = refl
writes_not false s w off = refl

held_own : (needs : Needs) (one : Condition) (s : MachineState) (node : NodeId) (step : ℕ) (what : OwnEventKind) → NeedsCoverCondition needs one → event_lacks_needs needs (node_record_at (chip_of_machine s) node.number) what ≡ true
    → holds_after_made_event one (made.Own node step what) s ≡ false
held_own needs Never s node step what h off = refl
held_own needs Broken s node step what h off = refl
held_own needs (PassesWord writer reader comparison word) s node step what h off = refl
held_own needs (PassesNthWord writer reader number) s node step what h off = refl
held_own needs (MakesNumberedStep at k) s node step what h off = absurd (none_lacks needs (node_record_at (chip_of_machine s) node.number) what h off)
held_own needs AnyNodeStops s node step what h off = stops_not needs (node_record_at (chip_of_machine s) node.number) what off
held_own needs (GivenNodeStops at) s node step what h off = and_right (node.number == at.number) (is_stop_event_kind what) (stops_not needs (node_record_at (chip_of_machine s) node.number) what off)
held_own needs (GivenNodeWaits at) s node step what h off = and_right (node.number == at.number) (is_wait_event_kind what) (waits_not needs (node_record_at (chip_of_machine s) node.number) what off)
held_own needs (HoldsPlaceValue at test) s node step what h off = absurd (none_lacks needs (node_record_at (chip_of_machine s) node.number) what h off)
held_own needs (ReachesAddress at address) s node step what h off = guarded (node.number == at.number) (is_about_to_fetch_at address (node_record_at (chip_of_machine s) at.number)) (λ same.
    let is : node.number ≡ at.number = eqb-true node.number at.number same in
    subst (λ (z : ℕ). is_about_to_fetch_at address (node_record_at (chip_of_machine s) z) ≡ false) is
    (first_not ((node_record_at (chip_of_machine s) node.number).slot == 4) ((node_record_at (chip_of_machine s) node.number).p == address) (is_none (refusal_of_own_event (node_record_at (chip_of_machine s) node.number)))
    (fetches_not needs (node_record_at (chip_of_machine s) node.number) what h off)))
held_own needs (WritesRamCell at address word) s node step what h off =
    writes_not (nat_lt address 128) (is_node_own_event_of_kind at.number (stores_in_cell (address % 64) (node_before_newest_event s at.number)) (made.Own node step what)) (is_requested_word word (memory_word_at_address (node_record_at (chip_of_machine s) at.number) address))
    (and_right (node.number == at.number) (stores_in_cell (address % 64) (node_before_newest_event s at.number) what)
    (stores_none needs (address % 64) (node_before_newest_event s at.number) (node_record_at (chip_of_machine s) node.number) what h off))

pub none_held_lacking : (needs : Needs) (until : List Condition) (m : MadeEvent) (s : MachineState) (node : NodeId) (step : ℕ) (what : OwnEventKind) → m ≡ made.Own node step what
    → NeedsCoverConditions needs until → event_lacks_needs needs (node_record_at (chip_of_machine s) node.number) what ≡ true → first_holding_condition until m s ≡ None
none_held_lacking needs until m s node step what own needed off =
    none_held until m s (λ k one is l. ap (λ z. holds_after_made_event one z s) own ∙ held_own needs one s node step what (needed k one is) off)

-- Where there are no conditions.

pub none_of_none : (until : List Condition) (m : MadeEvent) (s : MachineState) → (length until == 0) ≡ true → first_holding_condition until m s ≡ None
unfolding first_holding_condition
none_of_none [] m s is = refl
none_of_none (one ∷ others) m s is = absurd (let e : suc (length others) ≡ 0 = eqb-true (suc (length others)) 0 is in omega (arith, e))

pub counted_of_none : (until : List Condition) (s : MachineState) (words : List ℕ) → (length until == 0) ≡ true → AreLinkCountsKnown until s words
counted_of_none [] s words is k one at = absurd (cc)
counted_of_none (one ∷ others) s words is k other at = absurd (let e : suc (length others) ≡ 0 = eqb-true (suc (length others)) 0 is in omega (arith, e))
