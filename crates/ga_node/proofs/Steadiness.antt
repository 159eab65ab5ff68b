-- What a node does keeps it steady.
use Rattle.std.proofs.Common.{◌≡◌, ◌≢◌, ℕ, ◌/◌, ◌^◌, ◌==◌, Bool, true, false, cond, List, [], ◌∷◌, ◌++◌, None, Some, Result, Ok, Err, ◌⊎◌, inl, inr, refl, sym, ◌∙◌, subst}
use Rattle.std.proofs.lemmas.Bool.{cases_eq, eqb-true}
use Rattle.ga_slots.specs.Slots.{opcode}
use Rattle.ga_slots.specs.Codes.{code_of_opcode}
use Rattle.ga_slots.specs.declared.op.Op.{Op}
use Rattle.ga_slots.specs.declared.op.Op.TheVariants as op
use Rattle.ga_ports.specs.Address.{address_target, is_single_side_set, side_of_single_set}
use Rattle.ga_ports.specs.declared.side.Side.{Side}
use Rattle.ga_ports.specs.declared.address.AddressTarget.{AddressTarget}
use Rattle.ga_ports.specs.declared.address.AddressTarget.TheVariants.{Ram, Rom, Io, Ports, Bad}
use Rattle.ga_node.specs.Record.{NodeRecord, IsWaitFittingSlotAndStop, HasWaitFittingSlotAndStop}
use Rattle.ga_node.specs.Changes.{NodeChange, PushData, PopData, SetTop, PopThenSetTop, PushReturn, PopReturn, SetTopReturn, SetP, SetA, SetB, SetI, SetIo, SetCarry, SetRam, AdvanceSlot, SkipRestOfWord, ReturnToFirstSlot, SetWait, SetStop, node_after_change, node_after_changes}
use Rattle.ga_node.specs.Table.{register_t, register_r, target_read_result, target_write_result, access_with_following_changes, changes_or_event_of_opcode, changes_or_event_of_fetch, own_event_after_access, wait_effect, stop_effect, has_extended_arithmetic, own_event, own, wait_refusal, refusal_of_own_event, sent, taken, take_changes}
use Rattle.ga_node.specs.declared.seen.SeenNeighbours.{SeenNeighbours}
use Rattle.ga_node.specs.declared.wait.Wait.{Wait}
use Rattle.ga_node.specs.declared.wait.Wait.TheVariants as wait
use Rattle.ga_node.specs.declared.wait.ReadKind.{ReadKind}
use Rattle.ga_node.specs.declared.wait.ReadKind.TheVariants.{Instruction, Stack}
use Rattle.ga_node.specs.declared.kind.OwnEventKind.{OwnEventKind}
use Rattle.ga_node.specs.declared.kind.OwnEventKind.TheVariants as kind
use Rattle.ga_node.specs.declared.kind.EventRefusal.TheVariants.{Stopped}
use Rattle.ga_node.proofs.Saving.{own_fetched, own_ran}

-- a node that doesn't wait
steady_without : (n : NodeRecord) → n.wait ≡ wait.Nothing → HasWaitFittingSlotAndStop n
steady_without n e = subst (λ w. IsWaitFittingSlotAndStop w n.slot n.stop) (sym e) tt

-- a change of neither the wait nor the stop
abbrev IsPlain : NodeChange → Type 0
IsPlain (SetWait wait) = ⊥
IsPlain (SetStop code) = ⊥
IsPlain _ = Unit {0}

abbrev ArePlain : List NodeChange → Type 0
ArePlain [] = Unit {0}
ArePlain (change ∷ rest) = IsPlain change × ArePlain rest

plain_change : (change : NodeChange) (n : NodeRecord) → IsPlain change → (node_after_change change n).wait ≡ n.wait
plain_change (PushData word) n plain = refl
plain_change PopData n plain = refl
plain_change (SetTop word) n plain = refl
plain_change (PopThenSetTop word) n plain = refl
plain_change (PushReturn word) n plain = refl
plain_change PopReturn n plain = refl
plain_change (SetTopReturn word) n plain = refl
plain_change (SetP address) n plain = refl
plain_change (SetA word) n plain = refl
plain_change (SetB address) n plain = refl
plain_change (SetI word) n plain = refl
plain_change (SetIo word) n plain = refl
plain_change (SetCarry bit) n plain = refl
plain_change (SetRam cell word) n plain = refl
plain_change AdvanceSlot n plain = refl
plain_change SkipRestOfWord n plain = refl
plain_change ReturnToFirstSlot n plain = refl
plain_change (SetWait wait) n plain = absurd plain
plain_change (SetStop code) n plain = absurd plain

after_plain : (changes : List NodeChange) (n : NodeRecord) → ArePlain changes → (node_after_changes changes n).wait ≡ n.wait
after_plain [] n plain = refl
after_plain (change ∷ rest) n plain = after_plain rest (node_after_change change n) plain.1 ∙ plain_change change n plain.0

-- a wait that fits the slot, or a stop, and nothing else
abbrev Ends : ℕ → List NodeChange → Type 0
Ends slot changes = ((w : Wait) × (changes ≡ SetWait w ∷ []) × IsWaitFittingSlotAndStop w slot 0) ⊎ ((code : ℕ) × (changes ≡ SetStop code ∷ []))

-- whether the outcome of an access, an opcode or a fetch has plain changes, or is a fitting wait or a stop
abbrev Lands : ℕ → Result (List NodeChange) (OwnEventKind × List NodeChange) → Type 0
Lands slot (Ok changes) = ArePlain changes
Lands slot (Err event) = Ends slot event.1

-- who reads in this slot
abbrev Reads : ReadKind → ℕ → Type 0
Reads Instruction slot = slot ≡ 4
Reads Stack slot = slot ≢ 4

read_lands : (target : AddressTarget) (reader : ReadKind) (seen : SeenNeighbours) (n : NodeRecord) (more : ℕ → List NodeChange) → Reads reader n.slot
    → ((word : ℕ) → ArePlain (more word)) → Lands n.slot (access_with_following_changes (target_read_result target reader seen n) more)
unfolding target_read_result access_with_following_changes
read_lands (Ram k) reader seen n more reads plain = plain _
read_lands (Rom k) reader seen n more reads plain = plain _
read_lands Io reader seen n more reads plain = plain _
read_lands (Ports sides) Instruction seen n more reads plain = inl (wait.Fetch sides, refl, (reads, refl))
read_lands (Ports sides) Stack seen n more reads plain = inl (wait.Read sides, refl, (reads, refl))
read_lands Bad reader seen n more reads plain = inr (2, refl)

post_lands : (single : Bool) (side : Side) (slot : ℕ) → slot ≢ 4 → Ends slot (cond single (wait_effect (wait.Write side)) (stop_effect 1)).1
post_lands true side slot other = inl (wait.Write side, refl, (other, refl))
post_lands false side slot other = inr (1, refl)

write_lands : (target : AddressTarget) (n : NodeRecord) (more : List NodeChange) → n.slot ≢ 4 → ArePlain more
    → Lands n.slot (access_with_following_changes (target_write_result target n) (λ changes. changes ++ more))
unfolding target_write_result access_with_following_changes
write_lands (Ram k) n more other plain = (tt, plain)
write_lands (Rom k) n more other plain = plain
write_lands Io n more other plain = (tt, plain)
write_lands (Ports sides) n more other plain = post_lands (is_single_side_set sides) (side_of_single_set sides) n.slot other
write_lands Bad n more other plain = inr (2, refl)

plain_either : (b : Bool) (x y : List NodeChange) → ArePlain x → ArePlain y → ArePlain (cond b x y)
plain_either true x y p q = p
plain_either false x y p q = q

effect_lands : (op : Op) (seen : SeenNeighbours) (n : NodeRecord) → n.slot ≢ 4 → Lands n.slot (changes_or_event_of_opcode op seen n)
effect_lands op.Return seen n other = (tt, (tt, (tt, tt)))
effect_lands op.Execute seen n other = (tt, (tt, (tt, tt)))
effect_lands op.Jump seen n other = (tt, (tt, tt))
effect_lands op.Call seen n other = (tt, (tt, (tt, tt)))
effect_lands op.Unext seen n other = plain_either (register_r n == 0) _ _ (tt, (tt, tt)) (tt, (tt, tt))
effect_lands op.Next seen n other = plain_either (register_r n == 0) _ _ (tt, (tt, tt)) (tt, (tt, (tt, tt)))
effect_lands op.If seen n other = plain_either (register_t n == 0) _ _ (tt, (tt, tt)) (tt, tt)
effect_lands op.MinusIf seen n other = plain_either (register_t n / 2 ^ 17 == 0) _ _ (tt, (tt, tt)) (tt, tt)
effect_lands op.FetchP seen n other = read_lands (address_target n.p) Stack seen n _ other (λ word. (tt, (tt, (tt, tt))))
effect_lands op.FetchPlus seen n other = read_lands (address_target n.a) Stack seen n _ other (λ word. (tt, (tt, (tt, tt))))
effect_lands op.FetchB seen n other = read_lands (address_target n.b) Stack seen n _ other (λ word. (tt, (tt, tt)))
effect_lands op.Fetch seen n other = read_lands (address_target n.a) Stack seen n _ other (λ word. (tt, (tt, tt)))
effect_lands op.StoreP seen n other = write_lands (address_target n.p) n _ other (tt, (tt, (tt, tt)))
effect_lands op.StorePlus seen n other = write_lands (address_target n.a) n _ other (tt, (tt, (tt, tt)))
effect_lands op.StoreB seen n other = write_lands (address_target n.b) n _ other (tt, (tt, tt))
effect_lands op.Store seen n other = write_lands (address_target n.a) n _ other (tt, (tt, tt))
effect_lands op.MultiplyStep seen n other = (tt, (tt, (tt, tt)))
effect_lands op.TwoStar seen n other = (tt, (tt, tt))
effect_lands op.TwoSlash seen n other = (tt, (tt, tt))
effect_lands op.Invert seen n other = (tt, (tt, tt))
effect_lands op.Plus seen n other = plain_either (has_extended_arithmetic n) _ _ (tt, (tt, (tt, tt))) (tt, (tt, tt))
effect_lands op.And seen n other = (tt, (tt, tt))
effect_lands op.Or seen n other = (tt, (tt, tt))
effect_lands op.Drop seen n other = (tt, (tt, tt))
effect_lands op.Dup seen n other = (tt, (tt, tt))
effect_lands op.Pop seen n other = (tt, (tt, (tt, tt)))
effect_lands op.Over seen n other = (tt, (tt, tt))
effect_lands op.A seen n other = (tt, (tt, tt))
effect_lands op.Nop seen n other = (tt, tt)
effect_lands op.Push seen n other = (tt, (tt, (tt, tt)))
effect_lands op.BStore seen n other = (tt, (tt, (tt, tt)))
effect_lands op.AStore seen n other = (tt, (tt, (tt, tt)))

named_steady : (n : NodeRecord) (kind : OwnEventKind) (outcome : Result (List NodeChange) (OwnEventKind × List NodeChange)) → n.wait ≡ wait.Nothing → n.stop ≡ 0 → Lands n.slot outcome
    → HasWaitFittingSlotAndStop (node_after_changes (own_event_after_access kind outcome).1 n)
named_steady n kind (Ok changes) idle going plain = steady_without (node_after_changes changes n) (after_plain changes n plain ∙ idle)
named_steady n kind (Err event) idle going (inl (w, is, fits)) = subst (λ changes. HasWaitFittingSlotAndStop (node_after_changes changes n)) (sym is) (subst (λ stop. IsWaitFittingSlotAndStop w n.slot stop) (sym going) fits)
named_steady n kind (Err event) idle going (inr (code, is)) =
    subst (λ changes. HasWaitFittingSlotAndStop (node_after_changes changes n)) (sym is) (steady_without (node_after_change (SetStop code) n) idle)

-- an event of a node that runs
run_steady : (seen : SeenNeighbours) (n : NodeRecord) → n.wait ≡ wait.Nothing → n.stop ≡ 0 → HasWaitFittingSlotAndStop (own seen n).1
unfolding own
run_steady seen n idle going = elim (cases_eq n.slot 4) [ inl due ↦ fetch_access due | inr other ↦ runs other ]
  where
    fetch_access : n.slot ≡ 4 → HasWaitFittingSlotAndStop (node_after_changes (own_event seen n).1 n)
    fetch_access due =
        subst (λ event. HasWaitFittingSlotAndStop (node_after_changes event.1 n)) (sym (own_fetched seen n due))
        (named_steady n kind.Fetch (changes_or_event_of_fetch seen n) idle going (read_lands (address_target n.p) Instruction seen n _ due (λ word. (tt, (tt, (tt, tt))))))

    runs : n.slot ≢ 4 → HasWaitFittingSlotAndStop (node_after_changes (own_event seen n).1 n)
    runs other =
        let op = opcode n.i n.slot in
        subst (λ event. HasWaitFittingSlotAndStop (node_after_changes event.1 n)) (sym (own_ran seen n other))
        (named_steady n (kind.Run (code_of_opcode op)) (changes_or_event_of_opcode op seen n) idle going (effect_lands op seen n other))

pub idle_when : (w : Wait) (stop : ℕ) → wait_refusal w stop ≡ None → (w ≡ wait.Nothing) × (stop ≡ 0)
idle_when wait.Nothing stop e = (refl, by_test (stop == 0) (eqb-true stop 0) e)
  where
    by_test : (b : Bool) → (b ≡ true → stop ≡ 0) → cond b None (Some Stopped) ≡ None → stop ≡ 0
    by_test true is e = is refl
    by_test false is e = cc
idle_when (wait.Fetch sides) stop e = cc
idle_when (wait.Read sides) stop e = cc
idle_when (wait.Write side) stop e = cc

pub own_steady : (seen : SeenNeighbours) (n : NodeRecord) → refusal_of_own_event n ≡ None → HasWaitFittingSlotAndStop (own seen n).1
own_steady seen n ready = let runs = idle_when n.wait n.stop ready in run_steady seen n runs.0 runs.1

-- the two sides of a transfer
pub sent_steady : (n : NodeRecord) → HasWaitFittingSlotAndStop (sent n)
unfolding sent
sent_steady n = tt

taken_by : (w : Wait) (word : ℕ) (n : NodeRecord) → n.wait ≡ w → HasWaitFittingSlotAndStop n → HasWaitFittingSlotAndStop (node_after_changes (take_changes w word) n)
taken_by wait.Nothing word n e steady = steady
taken_by (wait.Fetch sides) word n e steady = tt
taken_by (wait.Read sides) word n e steady = tt
taken_by (wait.Write side) word n e steady = steady

pub taken_steady : (word : ℕ) (n : NodeRecord) → HasWaitFittingSlotAndStop n → HasWaitFittingSlotAndStop (taken word n)
unfolding taken
taken_steady word n steady = taken_by n.wait word n refl steady
