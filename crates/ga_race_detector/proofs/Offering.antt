-- A session without looks of which no step could have taken another word has no race.
use Rattle.ga_lab.proofs.Called as Called
use Rattle.std.proofs.Common.{◌≡◌, ℕ, List, [], ◌++◌, Option, Some, None, IsSome, true≢false, ◌↔◌, Ok, refl, sym, subst, ◌≢◌, Bool, ◌&&◌, cond, ◌∙◌, ap}
use Rattle.std.specs.Prelude.{unwrap_or}
use Rattle.ga_node.specs.Record.{NodeRecord}
use Rattle.ga_event.specs.declared.event.Event.{Event}
use Rattle.ga_event.specs.Apply.{replay, waits_to_write_side, waits_to_read_side}
use Rattle.ga_grid.specs.declared.node_id.NodeId.{NodeId}
use Rattle.ga_event.specs.Next.{next_event_of_node}
use Rattle.ga_event.proofs.Nexts.{next_can}
use Rattle.ga_lab.proofs.Forward.{made_is_next}
use Rattle.ga_lab.specs.Machine.{own_or_writing_node, MachineState, initial_state, chip_of_machine, machine_events_with_looks, run_events_with_outcomes, state_after_rewind}
use Rattle.ga_lab.specs.Calls.{MachineCall, state_after_machine_calls, IsReachableState}
use Rattle.ga_races.specs.Orders.{AreReorderings, IsTerminalChip, HasNoRace, IsEnabled}
use Rattle.ga_races.proofs.Orders.{beginning_quiet, end_quiet}
use Rattle.ga_ports.specs.declared.side.Side.{Side}
use Rattle.ga_node.specs.Table.{register_t}
use Rattle.ga_grid.specs.Chip.{node_record_at}
use Rattle.ga_event.specs.declared.event.Event.TheVariants.{Pass}
use Rattle.ga_causal.specs.Dependence.{events_after_rewind, HasNoLooks}
use Rattle.ga_event.specs.Told.{events_of_causes}
use Rattle.ga_causal.proofs.Runs.{causes}
use Rattle.ga_lab.proofs.Called.{Runs, chip_is}
use Rattle.ga_lab.proofs.Again.{runs_reached}
use Rattle.ga_races.proofs.Conflicts.{Open, open_of, back}
use Rattle.ga_races.proofs.Blind.{NoneShows, none_races, end_blind}
use Rattle.ga_race_detector.specs.Races.{word_offered_by_neighbour, alternative_word}

-- ---- sessions from one load, one of which has no race

-- a list that can be made leads to the chip that is read off it
leads : (o : Option (List NodeRecord)) → IsSome o → o ≡ Some (unwrap_or o [])
leads None h = absurd (true≢false (sym h))
leads (Some c) h = refl

-- what calls lead to, from one load
record Stands (load : List NodeRecord) (s : MachineState) : Type 0 where
  same : s.load ≡ load
  led : replay load s.kept ≡ Some (chip_of_machine s)

stands_of : (load : List NodeRecord) (s : MachineState) → s.load ≡ load → IsSome (replay s.load s.kept) → Stands load s
stands_of load s is some = record { same = is; led = subst (λ (z : List NodeRecord). replay z s.kept ≡ Some (chip_of_machine s)) is (leads (replay s.load s.kept) some) }

stands : (load : List NodeRecord) (limit : ℕ) (calls : List MachineCall) → Stands load (state_after_machine_calls (initial_state load limit) calls)
stands load limit calls = let r = Called.history_is_replayable load limit calls in stands_of load (state_after_machine_calls (initial_state load limit) calls) r.0 r.1

some_led : (load last : List NodeRecord) (es : List Event) → replay load es ≡ Some last → IsSome (replay load es)
some_led load last es h = subst (λ (o : Option (List NodeRecord)). IsSome o) (sym h) refl

pub on_the_way : (load : List NodeRecord) (limit bound : ℕ) (calls others : List MachineCall) → HasNoRace load (state_after_machine_calls (initial_state load limit) calls).kept → IsTerminalChip (chip_of_machine (state_after_machine_calls (initial_state load limit) calls))
    → (later : List Event) × AreReorderings load (state_after_machine_calls (initial_state load limit) calls).kept ((state_after_machine_calls (initial_state load bound) others).kept ++ later)
on_the_way load limit bound calls others calm end =
    let s = state_after_machine_calls (initial_state load limit) calls in
    let z = state_after_machine_calls (initial_state load bound) others in
    beginning_quiet load (chip_of_machine s) s.kept z.kept (stands load limit calls).led calm end (some_led load (chip_of_machine z) z.kept (stands load bound others).led)

pub same_end : (load : List NodeRecord) (limit bound : ℕ) (calls others : List MachineCall) → HasNoRace load (state_after_machine_calls (initial_state load limit) calls).kept → IsTerminalChip (chip_of_machine (state_after_machine_calls (initial_state load limit) calls))
    → IsTerminalChip (chip_of_machine (state_after_machine_calls (initial_state load bound) others)) → chip_of_machine (state_after_machine_calls (initial_state load bound) others) ≡ chip_of_machine (state_after_machine_calls (initial_state load limit) calls)
same_end load limit bound calls others calm end stop =
    let s = state_after_machine_calls (initial_state load limit) calls in
    let z = state_after_machine_calls (initial_state load bound) others in
    (end_quiet load (chip_of_machine s) (chip_of_machine z) s.kept z.kept (stands load limit calls).led calm end (stands load bound others).led stop).1

pub no_next : (chip : List NodeRecord) → IsTerminalChip chip ↔ ((n : NodeId) (event : Event) → next_event_of_node chip n ≡ Ok event → ⊥)
no_next chip = (λ end n event h. end event (next_can chip n event h), λ none event can. none (own_or_writing_node event) event (made_is_next chip event can))

-- an enabled pass is offered
pub is_offered : (c : List NodeRecord) (w r : NodeId) (side : Side) → IsEnabled c (Pass w r side) → IsSome (alternative_word c r.number side)
is_offered c w r side can =
    let o : Open c w r side = open_of c w r side can in
    let writes : Bool = waits_to_write_side (node_record_at c w.number).wait side in
    let reads : Bool = waits_to_read_side (node_record_at c r.number).wait side in
    let is : alternative_word c r.number side ≡ Some (register_t (node_record_at c w.number)) =
    ap (λ (z : Option ℕ). word_offered_by_neighbour c r.number side z) (back c w r side o)
    ∙ ap (λ (z : Bool). cond {A = Option ℕ} (z && reads) (Some (register_t (node_record_at c w.number))) None) o.writes
    ∙ ap (λ (z : Bool). cond {A = Option ℕ} z (Some (register_t (node_record_at c w.number))) None) o.reads in
    subst (λ (z : Option ℕ). IsSome z) (sym is) refl

-- no step could have taken a word over another side
abbrev pub NoneOffered : MachineState → Type 0
NoneOffered s = (r : NodeId) (k : ℕ) (side other : Side) → side ≢ other
    → IsSome (alternative_word (chip_of_machine (state_after_rewind s r.number k)) r.number side) → IsSome (alternative_word (chip_of_machine (state_after_rewind s r.number k)) r.number other) → ⊥

pub no_race_kept : (s : MachineState) → IsReachableState s → HasNoLooks (machine_events_with_looks s) → IsTerminalChip (chip_of_machine s) → NoneOffered s → HasNoRace s.load s.kept
no_race_kept s reached none end free =
    none_races s.load r.last s.kept r.told r.run_is (subst (λ z. HasNoLooks z) told none) (end_blind r.last (subst (λ z. IsTerminalChip z) (chip_is s r) end)) shown_state
  where
    r : Runs s
    r = runs_reached s reached

    told : machine_events_with_looks s ≡ causes r.told
    told = ap (λ o. causes (run_events_with_outcomes o)) r.run_is

    shown_state : NoneShows s.load (causes r.told)
    shown_state k now w x reader side other led canp canq ne =
        let here : replay s.load (state_after_rewind s reader.number k).kept ≡ Some now = ap (λ z. replay s.load (events_of_causes (events_after_rewind z reader.number k))) told ∙ led in
        let at : now ≡ chip_of_machine (state_after_rewind s reader.number k) = sym (ap (λ (o : Option (List NodeRecord)). unwrap_or o []) here) in
        free reader k side other ne
        (subst (λ z. IsSome (alternative_word z reader.number side)) at (is_offered now w reader side canp))
        (subst (λ z. IsSome (alternative_word z reader.number other)) at (is_offered now x reader other canq))
