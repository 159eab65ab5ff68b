-- A neighbour that never waited to write gives no word after any rollback.
use Rattle.std.proofs.Common.{◌≡◌, ℕ, Bool, true, false, ◌&&◌, cond, List, Option, Some, None, IsSome, zero, suc, ◌+◌, ◌-◌, ◌≤◌, [], ◌∷◌, inl, inr, subst, arith, refl, sym, ◌∙◌, ap}
use Rattle.std.specs.Prelude.{take}
use Rattle.ga_ports.specs.declared.side.Side.{Side}
use Rattle.ga_node.specs.Record.{NodeRecord}
use Rattle.ga_node.specs.Table.{register_t}
use Rattle.ga_grid.specs.Grid.{neighbour_number}
use Rattle.ga_grid.specs.Chip.{node_record_at}
use Rattle.ga_event.specs.Apply.{waits_to_write_side, waits_to_read_side, replay}
use Rattle.ga_event.specs.declared.event.Event.{Event}
use Rattle.std.proofs.lemmas.Bool.{cases_eq}
use Rattle.ga_event.specs.Told.{count_steps}
use Rattle.ga_lab.specs.Machine.{MachineState, NodeAtStep, node_at_step, chip_of_machine, earlier_state, state_after_rewind, has_step}
use Rattle.ga_race_detector.specs.Races.{word_offered_by_neighbour, alternative_word, race_with_offer, races_on_side}
use Rattle.ga_node.specs.State.{wait_of_code}
use Rattle.ga_grid.specs.declared.node_id.NodeId.{NodeId}
use Rattle.ga_lab.proofs.Called.{Runs}
use Rattle.ga_lab.proofs.Explaining.{stands_counted}
use Rattle.ga_race_detector.proofs.Standing.{stands_somewhere, steps-cons}
use Rattle.ga_race_detector.proofs.Behind.{TakenBack, taken_back, stands_many}

-- it didn't wait to write after j of its steps
abbrev pub IsSilentAt : MachineState → ℕ → Side → ℕ → Type 0
IsSilentAt s m side j = (place : ℕ) → count_steps m (take place s.kept) ≡ j → waits_to_write_side (node_record_at (chip_of_machine (earlier_state s place)) m).wait side ≡ false

pub silent : (s : MachineState) (m : ℕ) (side : Side) → IsSome (replay s.load s.kept) → ((j : ℕ) → IsSilentAt s m side j)
    → (n k : ℕ) → neighbour_number n side ≡ Some m → alternative_word (chip_of_machine (state_after_rewind s n k)) n side ≡ None
silent s m side some never n k near =
    let a = stands_somewhere s n k m some in
    let chip = chip_of_machine (state_after_rewind s n k) in
    let not : waits_to_write_side (node_record_at chip m).wait side ≡ false = ap (λ (z : NodeRecord). waits_to_write_side z.wait side) a.same ∙ never (count_steps m (take a.place s.kept)) a.place refl in
    ap (λ (o : Option ℕ). word_offered_by_neighbour chip n side o) near
    ∙ ap (λ (b : Bool). cond {A = Option ℕ} (b && waits_to_read_side (node_record_at chip n).wait side) (Some (register_t (node_record_at chip m))) None) not

both_none : (b c : Bool) (o : Option ℕ) → c ≡ false → cond {A = Option ℕ} (b && c) o None ≡ None
both_none true true o h = absurd (cc)
both_none true false o h = refl
both_none false c o h = refl

-- nor is one offered over a side over which the node doesn't wait to read
pub unread : (chip : List NodeRecord) (n : ℕ) (side : Side) → waits_to_read_side (node_record_at chip n).wait side ≡ false → alternative_word chip n side ≡ None
unread chip n side free = go (neighbour_number n side)
  where
    go : (o : Option ℕ) → word_offered_by_neighbour chip n side o ≡ None
    go None = refl
    go (Some w) = both_none (waits_to_write_side (node_record_at chip w).wait side) (waits_to_read_side (node_record_at chip n).wait side) (Some (register_t (node_record_at chip w))) free

-- what the node waits for after a rollback of its step is what it waited for before the step
pub waited : (s : MachineState) → Runs s → (n k code : ℕ) → has_step s n k ≡ true → ((place : ℕ) → count_steps n (take place s.kept) ≡ k - 1 → (node_record_at (chip_of_machine (earlier_state s place)) n).wait ≡ wait_of_code code)
    → (node_record_at (chip_of_machine (state_after_rewind s n k)) n).wait ≡ wait_of_code code
waited s runs n zero code on held = absurd (let q = stands_counted s n 0 on in omega (arith, q))
waited s runs n (suc p) code on held =
    let b : TakenBack s n p = taken_back s runs n p (let q = stands_many s n (suc p) on in omega (arith, q)) in
    ap (λ (z : NodeRecord). z.wait) (sym b.same ∙ sym b.stood) ∙ held b.place (b.count ∙ (let q : p ≡ suc p - 1 = omega arith in q))

pub stood_then : (s : MachineState) → Runs s → (n k : ℕ) (then : NodeRecord) → has_step s n k ≡ true → ((place : ℕ) → count_steps n (take place s.kept) ≡ k - 1 → then ≡ node_record_at (chip_of_machine (earlier_state s place)) n)
    → then ≡ node_record_at (chip_of_machine (state_after_rewind s n k)) n
stood_then s runs n zero then on held = absurd (let q = stands_counted s n 0 on in omega (arith, q))
stood_then s runs n (suc p) then on held =
    let b : TakenBack s n p = taken_back s runs n p (let q = stands_many s n (suc p) on in omega (arith, q)) in
    held b.place (b.count ∙ (let q : p ≡ suc p - 1 = omega arith in q)) ∙ b.stood ∙ b.same

pub none_over : (s : MachineState) (r : NodeId) (k : ℕ) (w : NodeId) (word : ℕ) (side : Side) → alternative_word (chip_of_machine (state_after_rewind s r.number k)) r.number side ≡ None → races_on_side s r k w word side ≡ []
none_over s r k w word side h = ap (race_with_offer r k w word (neighbour_number r.number side)) h ∙ go (neighbour_number r.number side)
  where
    go : (o : Option ℕ) → race_with_offer r k w word o None ≡ []
    go None = refl
    go (Some other) = refl

-- ---- on the walk back

pub steps_take : (n : ℕ) (es : List Event) (p : ℕ) → count_steps n (take p es) ≤ count_steps n es
steps_take n es zero = omega arith
steps_take n [] (suc p) = omega arith
steps_take n (e ∷ es) (suc p) =
    let x = steps-cons n e (take p es) in
    let y = steps-cons n e es in
    let z = steps_take n es p in
    omega (arith, x, y, z)

pub at_walk : (w : NodeAtStep) (s : MachineState) (node : NodeId) (held : NodeRecord) → w ≡ node_at_step s node w.step
    → ((place : ℕ) → count_steps w.node.number (take place w.machine.kept) ≡ w.step → held ≡ node_record_at (chip_of_machine (earlier_state w.machine place)) w.node.number)
    → (place : ℕ) → count_steps node.number (take place s.kept) ≡ w.step → held ≡ node_record_at (chip_of_machine (earlier_state s place)) node.number
at_walk w s node held is h =
    subst (λ (z : NodeAtStep). (place : ℕ) → count_steps z.node.number (take place z.machine.kept) ≡ w.step → held ≡ node_record_at (chip_of_machine (earlier_state z.machine place)) z.node.number) is h

pub silent_here : (s : MachineState) (m : ℕ) (side : Side) (step : ℕ) (held : NodeRecord) (waits : Bool)
    → ((place : ℕ) → count_steps m (take place s.kept) ≡ step → held ≡ node_record_at (chip_of_machine (earlier_state s place)) m) → waits ≡ waits_to_write_side held.wait side → waits ≡ false → IsSilentAt s m side step
silent_here s m side step held waits h w free place is = ap (λ (z : NodeRecord). waits_to_write_side z.wait side) (sym (h place is)) ∙ sym w ∙ free

pub silent_last : (s : MachineState) (m : ℕ) (side : Side) (step : ℕ) → step ≡ count_steps m s.kept → IsSilentAt s m side step → (j : ℕ) → step ≤ j → IsSilentAt s m side j
silent_last s m side step all here j l place is = here place (let q = steps_take m s.kept place in omega (arith, all, l, is, q))

pub silent_more : (s : MachineState) (m : ℕ) (side : Side) (old new : ℕ) → new + 1 ≡ old → ((j : ℕ) → old ≤ j → IsSilentAt s m side j) → IsSilentAt s m side new → (j : ℕ) → new ≤ j → IsSilentAt s m side j
silent_more s m side old new e later here j l = elim (cases_eq j new) [
  | inl q ↦ subst (IsSilentAt s m side) (sym q) here
  | inr ne ↦ later j (omega (arith, e, l, ne))
]

pub walked : (old new : NodeAtStep) (s : MachineState) (node : NodeId) → old ≡ node_at_step s node old.step → new ≡ record old { step = old.step - 1 } → new ≡ node_at_step s node new.step
walked old new s node is e =
    e ∙ ap (λ (z : NodeAtStep). record z { step = old.step - 1 }) is ∙ ap (node_at_step s node) (sym (ap (λ (z : NodeAtStep). z.step) e))
