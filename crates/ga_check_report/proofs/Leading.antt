-- Events that lead a machine to an end.
use Rattle.std.proofs.Common.{◌≡◌, ◌⊎◌, inl, inr, ℕ, ◌+◌, ◌-◌, ◌^◌, ◌<◌, Bool, true, false, cond, List, [], ◌∷◌, ◌++◌, Option, Some, None, Ok, Err, Result, length, get_or, take, drop, refl, sym, ap, ◌∙◌, subst, append_assoc, append-nil, arith}
use Rattle.std.specs.Prelude.{slice_get, nat_le, unwrap_or, IsSome, IsOk, OnOk}
use Rattle.std.proofs.lemmas.Option.{slice_get-get_or}
use Rattle.std.proofs.lemmas.List.{drop_more, take_more}
use Rattle.ga_node.specs.Record.{NodeRecord}
use Rattle.ga_grid.specs.declared.node_id.NodeId.{NodeId}
use Rattle.ga_event.specs.declared.event.Event.{Event}
use Rattle.ga_event.specs.declared.made.MadeEvent.{MadeEvent}
use Rattle.ga_event.specs.Apply.{event_refusal, event_result, replay}
use Rattle.ga_event.specs.Next.{next_event_of_node}
use Rattle.ga_races.proofs.Exact.{replay_into}
use Rattle.ga_races.proofs.Independence.{replay_more}
use Rattle.ga_lab.specs.declared.fault.LabFault.{LabFault}
use Rattle.ga_lab.specs.Machine.{MachineState, chip_of_machine, answer_to_event, made_next_event, step_answer, state_after_step, machine_with_event, state_unless_refused}
use Rattle.ga_lab.specs.declared.fault.LabFault.TheVariants.{Memory, Full, EventNumbersSpent}
use Rattle.ga_lab.proofs.Forward.{applied}
use Rattle.ga_state_ends.specs.Ends.{EndSearchResult, AreEndsOfChip}
use Rattle.ga_state_ends.specs.declared.end_kind.EndKind.{EndKind}
use Rattle.ga_check_report.specs.Checking.{HasAppendedEvents, HasReachedEndOfNumberedKind}

-- ---- one event

pub stepped_is : (s : MachineState) (n : NodeId) (m : MadeEvent) (e : Event) → step_answer s n ≡ Ok m → next_event_of_node (chip_of_machine s) n ≡ Ok e → state_after_step s n ≡ machine_with_event s (Ok e)
stepped_is s n m e answer is =
    ap (λ (a : Result MadeEvent LabFault). state_unless_refused s a (machine_with_event s (next_event_of_node (chip_of_machine s) n))) answer ∙ ap (machine_with_event s) is

abbrev ok_or : MadeEvent → Result MadeEvent LabFault → MadeEvent
ok_or default (Ok made) = made
ok_or default (Err why) = default

answered : (full spent : Bool) (m told : MadeEvent) → cond full (Err Full) (cond spent (Err EventNumbersSpent) (Ok told)) ≡ Ok m → m ≡ told
answered true spent m told is = absurd (cc)
answered false true m told is = absurd (cc)
answered false false m told is = sym (ap (ok_or m) is)

pub told_is : (s : MachineState) (n : NodeId) (m : MadeEvent) (e : Event) → step_answer s n ≡ Ok m → next_event_of_node (chip_of_machine s) n ≡ Ok e → m ≡ made_next_event s e
told_is s n m e answer is =
    answered (nat_le s.limit (length s.kept)) (nat_le (2 ^ 64 - 1) s.made) m (made_next_event s e) (sym (ap (answer_to_event s) is) ∙ answer)

pub answer_of : (s : MachineState) (n : NodeId) (m : MadeEvent) → (Ok m ≡ step_answer s n) ⊎ ((Ok m ≡ Err Memory) × IsOk (step_answer s n)) → step_answer s n ≡ Ok m
answer_of s n m (inl q) = sym q
answer_of s n m (inr (q, k)) = absurd (cc)

pub chip_after : (s : MachineState) (e : Event) → replay s.load s.kept ≡ Some (chip_of_machine s) → event_refusal (chip_of_machine s) e ≡ None
    → chip_of_machine (machine_with_event s (Ok e)) ≡ (event_result (chip_of_machine s) e).0
chip_after s e runs can =
    ap (λ (o : Option (List NodeRecord)). unwrap_or o []) (replay_into s.kept (e ∷ []) s.load (chip_of_machine s) runs ∙ replay_more (chip_of_machine s) e [] can)

-- ---- several events

pub made_none : (s : MachineState) → HasAppendedEvents s [] s
made_none s = record { load = refl; limit = refl; kept = sym (append-nil s.kept) }

pub made_more : (s t u : MachineState) (events : List Event) (e : Event) → HasAppendedEvents s events t → u ≡ machine_with_event t (Ok e) → HasAppendedEvents s (events ++ e ∷ []) u
made_more s t u events e p is = record {
  load = ap (λ (z : MachineState). z.load) is ∙ p.load;
  limit = ap (λ (z : MachineState). z.limit) is ∙ p.limit;
  kept = ap (λ (z : MachineState). z.kept) is ∙ ap (λ (z : List Event). z ++ e ∷ []) p.kept ∙ append_assoc s.kept events (e ∷ []);
}

-- the next event of a list of which the first ones were made can be made
pub next_can : (s : MachineState) (chip : List NodeRecord) (events : List Event) (place : ℕ) (default : Event) → place < length events
    → IsSome (replay chip events) → replay (chip_of_machine s) (drop place events) ≡ replay chip events → event_refusal (chip_of_machine s) (get_or events place default) ≡ None
next_can s chip events place default within some rest =
    let here : replay chip events ≡ replay (chip_of_machine s) (get_or events place default ∷ drop (place + 1) events) =
    sym rest ∙ ap (replay (chip_of_machine s)) (drop_more events place default within) in
    (applied (chip_of_machine s) (get_or events place default) (drop (place + 1) events) (subst (λ (o : Option (List NodeRecord)). IsSome o) here some)).can

pub next_rest : (s t : MachineState) (chip : List NodeRecord) (events : List Event) (place : ℕ) (default : Event) → place < length events
    → event_refusal (chip_of_machine s) (get_or events place default) ≡ None → chip_of_machine t ≡ (event_result (chip_of_machine s) (get_or events place default)).0
    → replay (chip_of_machine s) (drop place events) ≡ replay chip events → replay (chip_of_machine t) (drop (place + 1) events) ≡ replay chip events
next_rest s t chip events place default within can is rest =
    ap (λ (c : List NodeRecord). replay c (drop (place + 1) events)) is
    ∙ sym (replay_more (chip_of_machine s) (get_or events place default) (drop (place + 1) events) can)
    ∙ sym (ap (replay (chip_of_machine s)) (drop_more events place default within))
    ∙ rest

pub next_made : (s t u : MachineState) (events : List Event) (place : ℕ) (default : Event) → place < length events → HasAppendedEvents s (take place events) t
    → u ≡ machine_with_event t (Ok (get_or events place default)) → HasAppendedEvents s (take (place + 1) events) u
next_made s t u events place default within made is =
    subst (λ (z : List Event). HasAppendedEvents s z u) (sym (take_more events place default within))
    (made_more s t u (take place events) (get_or events place default) made is)

-- ---- the state of a kind of end

pub state_within : (load : List NodeRecord) (found : EndSearchResult) (number : ℕ) (kind : EndKind) → AreEndsOfChip load found → slice_get found.kinds number ≡ Some kind
    → kind.state < length found.searched.chips
state_within load found number kind ends listed =
    let first = ends.are_kinds.first number kind listed in
    let within = (ends.stored first.0 _ first.1).within in
    let size = ends.is_search.explored_size in omega (arith, within, size)

pub led_to : (s t : MachineState) (found : EndSearchResult) (asked : ℕ) (kind : EndKind) (events : List Event) → AreEndsOfChip (chip_of_machine s) found
    → slice_get found.kinds (asked - 1) ≡ Some kind
    → ((load chip : List NodeRecord) → slice_get found.searched.chips 0 ≡ Some load → slice_get found.searched.chips kind.state ≡ Some chip → replay load events ≡ Some chip)
    → HasAppendedEvents s events t → replay (chip_of_machine s) events ≡ Some (chip_of_machine t) → HasReachedEndOfNumberedKind found asked s t
led_to s t found asked kind events ends numbered leads made there =
    let chip : List NodeRecord = get_or found.searched.chips kind.state [] in
    let at : slice_get found.searched.chips kind.state ≡ Some chip =
    slice_get-get_or found.searched.chips kind.state [] (state_within (chip_of_machine s) found (asked - 1) kind ends numbered) in record {
      kind = kind;
      numbered = numbered;
      events = events;
      made = made;
      there = at ∙ sym (leads (chip_of_machine s) chip ends.initial at) ∙ there;
    }

-- the events to the state of a kind of end can be made
pub path_can : (s : MachineState) (found : EndSearchResult) (number : ℕ) (kind : EndKind) (events : List Event) → AreEndsOfChip (chip_of_machine s) found
    → slice_get found.kinds number ≡ Some kind
    → ((load chip : List NodeRecord) → slice_get found.searched.chips 0 ≡ Some load → slice_get found.searched.chips kind.state ≡ Some chip → replay load events ≡ Some chip)
    → replay (chip_of_machine s) events ≡ Some (get_or found.searched.chips kind.state [])
path_can s found number kind events ends numbered leads =
    leads (chip_of_machine s) (get_or found.searched.chips kind.state []) ends.initial
    (slice_get-get_or found.searched.chips kind.state [] (state_within (chip_of_machine s) found number kind ends numbered))

pub on_both : {T E A B C : Type 0} (r : Result T E) → (A → B → C) → OnOk r A → OnOk r B → OnOk r C
on_both (Ok x) f a b = f a b
on_both (Err e) f a b = tt
