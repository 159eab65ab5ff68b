-- The words that went over a link: how they are read, and how many they are.
use Rattle.std.proofs.Common.{◌≡◌, ℕ, zero, suc, ◌+◌, ◌≤◌, Bool, true, false, ◌&&◌, ◌==◌, if◌then◌else◌, List, [], ◌∷◌, ◌++◌, length, drop, Some, None, refl, sym, ◌∙◌, ap, arith, ◌||◌, Ok, subst, append_assoc, length-append}
use Rattle.std.specs.Prelude.{slice_get, option_to_list, Option, IsSome, slice_index}
use Rattle.ga_event.specs.declared.made.MadeEvent.{MadeEvent}
use Rattle.ga_event.specs.declared.made.MadeEvent.TheVariants as made
use Rattle.ga_scheduler.specs.declared.words.Transfer.{Transfer}
use Rattle.ga_scheduler.specs.Words.{transfer_of_event, transfers_over_link_by_event, numbered_transfers, is_transfer_over_link, scanned_link_end, link_transfer_count}
use Rattle.ga_scheduler.specs.Watched.{IsRunStep}
use Rattle.std.proofs.lemmas.Option.{none-some}
use Rattle.ga_grid.specs.declared.node_id.NodeId.{NodeId}
use Rattle.ga_event.specs.declared.event.Event.{Event}
use Rattle.ga_event.specs.declared.event.Event.TheVariants as event
use Rattle.ga_event.specs.declared.event.EventWithLook.{EventWithLook}
use Rattle.ga_event.specs.Touches.{touches}
use Rattle.ga_event.specs.Apply.{MadeEventOutcome, ExecutedOwn, PassedWord, apply, event_result, some_if_allowed, event_with_look_on_chip, event_refusal, replay}
use Rattle.ga_event.specs.Told.{made_event_after, made_events_of_node_after, made_events_of_node, events_without_outcomes}
use Rattle.ga_lab.specs.Machine.{MachineState, machine_events_with_outcomes, history_of_node, chip_of_machine, made_next_event, step_answer, machine_with_event, state_after_step, run_events_with_outcomes}
use Rattle.std.proofs.lemmas.List.{append-nil}
use Rattle.ga_node.specs.declared.kind.OwnEventKind.{OwnEventKind}
use Rattle.ga_event.proofs.Nexts.{next_can}
use Rattle.ga_causal.proofs.Consistent.{made_of}
use Rattle.ga_rollback.proofs.Rewinding.{run_snoc}
use Rattle.ga_lab.proofs.Called.{Runs, runs_of, chip_is, told_is}
use Rattle.ga_scheduler.specs.inner.{counted_link, optional_link_transfer_count, condition_transfer_count, transfers_added_by_event, condition_transfers_added, AreLinkCountsKnown, WereLinkCountsKnownBeforeEvent}
use Rattle.ga_scheduler.specs.declared.condition.Condition.{Condition}
use Rattle.ga_scheduler.proofs.Stepping.{StepIs, step_is, stepped_is}
use Rattle.ga_lab.proofs.Stepping.{told_after as told_last}

-- ---- reading the words that went over a link

same_Some : {A : Type 0} (x y : A) → Some x ≡ Some y → x ≡ y
same_Some x y h = cc

-- one event read, and none left
pub read_on : (list : List MadeEvent) (i : ℕ) (told : MadeEvent) → Some told ≡ slice_get list i → drop i list ≡ told ∷ drop (i + 1) list
read_on [] i told h = absurd (none-some _ (sym h))
read_on (x ∷ xs) zero told h = ap (λ (z : MadeEvent). z ∷ xs) (sym (same_Some told x h))
read_on (x ∷ xs) (suc i) told h =
    read_on xs i told h ∙ ap (λ (z : ℕ). told ∷ drop z (x ∷ xs)) (let q : suc (i + 1) ≡ suc i + 1 = omega arith in q)

pub read_all : (list : List MadeEvent) (i : ℕ) → None ≡ slice_get list i → drop i list ≡ []
read_all [] zero h = refl
read_all [] (suc i) h = refl
read_all (x ∷ xs) zero h = absurd (none-some _ h)
read_all (x ∷ xs) (suc i) h = read_all xs i h

pub read_past : (list : List MadeEvent) (i : ℕ) → length list ≤ i → drop i list ≡ []
read_past [] zero l = refl
read_past [] (suc i) l = refl
read_past (x ∷ xs) zero l = absurd (omega arith)
read_past (x ∷ xs) (suc i) l = read_past xs i (omega arith)

-- an event that carried no word over the link, and one that did
abbrev pub one_if : Bool → ℕ
one_if b = if b then 1 else 0

over_none : (b : Bool) (sent : Transfer) → [] ≡ (if b then sent ∷ [] else []) → one_if b ≡ 0
over_none true sent h = absurd (cc)
over_none false sent h = refl

not_over : (writer reader number : ℕ) (told : MadeEvent) → [] ≡ transfer_of_event writer reader number told → transfers_over_link_by_event writer reader told ≡ 0
not_over writer reader number (made.Own n k kind) h = refl
not_over writer reader number (made.Pass w k r j carried) h = over_none ((w.number == writer) && (r.number == reader)) _ h

over_some : (b : Bool) (sent other : Transfer) → other ∷ [] ≡ (if b then sent ∷ [] else []) → one_if b ≡ 1
over_some true sent other h = refl
over_some false sent other h = absurd (cc)

carries_one : (writer reader number : ℕ) (told : MadeEvent) (sent : Transfer) → sent ∷ [] ≡ transfer_of_event writer reader number told → transfers_over_link_by_event writer reader told ≡ 1
carries_one writer reader number (made.Own n k kind) sent h = absurd (cc)
carries_one writer reader number (made.Pass w k r j carried) sent h = over_some ((w.number == writer) && (r.number == reader)) _ sent h

pub passed_over : (writer reader before : ℕ) (told : MadeEvent) (rest : List MadeEvent) → [] ≡ transfer_of_event writer reader (before + 1) told → numbered_transfers writer reader before (told ∷ rest) ≡ numbered_transfers writer reader before rest
passed_over writer reader before told rest h =
    ap (λ z. z ++ numbered_transfers writer reader (before + transfers_over_link_by_event writer reader told) rest) (sym h)
    ∙ ap (λ (z : ℕ). numbered_transfers writer reader z rest) (let q : before + transfers_over_link_by_event writer reader told ≡ before = omega (arith, not_over writer reader (before + 1) told h) in q)

pub told_word : (writer reader before : ℕ) (told : MadeEvent) (rest : List MadeEvent) (sent : Transfer) → sent ∷ [] ≡ transfer_of_event writer reader (before + 1) told → numbered_transfers writer reader before (told ∷ rest) ≡ sent ∷ numbered_transfers writer reader (before + 1) rest
told_word writer reader before told rest sent h =
    ap (λ z. z ++ numbered_transfers writer reader (before + transfers_over_link_by_event writer reader told) rest) (sym h)
    ∙ ap (λ (z : ℕ). sent ∷ numbered_transfers writer reader z rest) (let q : before + transfers_over_link_by_event writer reader told ≡ before + 1 = omega (arith, carries_one writer reader (before + 1) told sent h) in q)

-- ---- the steps of both ends list the same words of a link

-- an event that carried no word over the link adds none, whether a history has it or not
none_if : (b : Bool) (sent : Transfer) → b ≡ false → [] ≡ (if b then sent ∷ [] else [])
none_if true sent h = absurd (cc)
none_if false sent h = refl

carried_none : (w r n : ℕ) (x : MadeEvent) → is_transfer_over_link w r x ≡ false → [] ≡ transfer_of_event w r n x
carried_none w r n (made.Own m k kind) h = refl
carried_none w r n (made.Pass a k b j carried) h = none_if ((a.number == w) && (b.number == r)) _ h

left_out : (w r n : ℕ) (has : Bool) (x : MadeEvent) (xs : List MadeEvent) → is_transfer_over_link w r x ≡ false
    → numbered_transfers w r n ((if has then x ∷ [] else []) ++ xs) ≡ numbered_transfers w r n xs
left_out w r n true x xs h = passed_over w r n x xs (carried_none w r (n + 1) x h)
left_out w r n false x xs h = refl

not_told : (w r n : ℕ) (has : Bool) (xs : List MadeEvent) → numbered_transfers w r n ((if has then [] else []) ++ xs) ≡ numbered_transfers w r n xs
not_told w r n true xs = refl
not_told w r n false xs = refl

-- one that did is in both
in_writer : (p q x : Bool) → (p && q) ≡ true → (p || x) ≡ true
in_writer true q x h = refl
in_writer false q x h = absurd (cc)

in_reader : (p q x y : Bool) → (p && q) ≡ true → (x || (q || y)) ≡ true
in_reader true true true y h = refl
in_reader true true false y h = refl
in_reader true false x y h = absurd (cc)
in_reader false q x y h = absurd (cc)

had : (has : Bool) (x : MadeEvent) (xs : List MadeEvent) → has ≡ true → (if has then x ∷ [] else []) ++ xs ≡ x ∷ xs
had true x xs h = refl
had false x xs h = absurd (cc)

one_pass : (w r n : ℕ) (x : MadeEvent) (xs ys : List MadeEvent) (at_w at_r over : Bool) → is_transfer_over_link w r x ≡ over → (over ≡ true → (at_w ≡ true) × (at_r ≡ true))
    → ((m : ℕ) → numbered_transfers w r m xs ≡ numbered_transfers w r m ys)
    → numbered_transfers w r n ((if at_r then x ∷ [] else []) ++ xs) ≡ numbered_transfers w r n ((if at_w then x ∷ [] else []) ++ ys)
one_pass w r n x xs ys at_w at_r false is at same = left_out w r n at_r x xs is ∙ same n ∙ sym (left_out w r n at_w x ys is)
one_pass w r n x xs ys at_w at_r true is at same =
    ap (numbered_transfers w r n) (had at_r x xs (at refl).1)
    ∙ ap (λ z. transfer_of_event w r (n + 1) x ++ z) (same (n + transfers_over_link_by_event w r x))
    ∙ sym (ap (numbered_transfers w r n) (had at_w x ys (at refl).0))

one_event : (w r n : ℕ) (before : List Event) (e : Event) (what : MadeEventOutcome) (xs ys : List MadeEvent) → ((m : ℕ) → numbered_transfers w r m xs ≡ numbered_transfers w r m ys)
    → numbered_transfers w r n ((if touches e r then option_to_list (made_event_after before e what) else []) ++ xs)
    ≡ numbered_transfers w r n ((if touches e w then option_to_list (made_event_after before e what) else []) ++ ys)
one_event w r n before (event.Own node) (ExecutedOwn kind) xs ys same =
    left_out w r n (touches (event.Own node) r) _ xs refl ∙ same n ∙ sym (left_out w r n (touches (event.Own node) w) _ ys refl)
one_event w r n before (event.Own node) (PassedWord word) xs ys same =
    not_told w r n (touches (event.Own node) r) xs ∙ same n ∙ sym (not_told w r n (touches (event.Own node) w) ys)
one_event w r n before (event.Pass a b side) (ExecutedOwn kind) xs ys same =
    not_told w r n (touches (event.Pass a b side) r) xs ∙ same n ∙ sym (not_told w r n (touches (event.Pass a b side) w) ys)
one_event w r n before (event.Pass a b side) (PassedWord word) xs ys same =
    one_pass w r n _ xs ys (touches (event.Pass a b side) w) (touches (event.Pass a b side) r) ((a.number == w) && (b.number == r)) refl
    (λ h. (in_writer (a.number == w) (b.number == r) _ h, in_reader (a.number == w) (b.number == r) (a.number == r) _ h)) same

both_ends : (w r n : ℕ) (before : List Event) (told : List (EventWithLook × MadeEventOutcome)) → numbered_transfers w r n (made_events_of_node_after before told r) ≡ numbered_transfers w r n (made_events_of_node_after before told w)
both_ends w r n before [] = refl
both_ends w r n before (x ∷ xs) =
    one_event w r n before x.0.event x.1 (made_events_of_node_after (before ++ x.0.event ∷ []) xs r) (made_events_of_node_after (before ++ x.0.event ∷ []) xs w)
    (λ m. both_ends w r m (before ++ x.0.event ∷ []) xs)

-- whichever end is read
pub by_either : (s : MachineState) (w r : NodeId) (n : ℕ) (by_reader : Bool)
    → numbered_transfers w.number r.number n (history_of_node s (scanned_link_end by_reader w r)) ≡ numbered_transfers w.number r.number n (history_of_node s w.number)
by_either s w r n true = both_ends w.number r.number n [] (machine_events_with_outcomes s)
by_either s w r n false = refl

-- while none was read
pub at_first : (s : MachineState) (w r : NodeId) (n place : ℕ) (a b : Bool) → place ≡ 0
    → numbered_transfers w.number r.number n (drop place (history_of_node s (scanned_link_end a w r))) ≡ numbered_transfers w.number r.number n (drop place (history_of_node s (scanned_link_end b w r)))
at_first s w r n zero a b h = by_either s w r n a ∙ sym (by_either s w r n b)
at_first s w r n (suc place) a b h = absurd (omega (arith, h))

-- ---- how many words went over a link, from one event to the next

-- one event more in front
carried_one : (b : Bool) (sent : Transfer) → length (if b then sent ∷ [] else []) ≡ (if b then 1 else 0)
carried_one true sent = refl
carried_one false sent = refl

carried_many : (w r n : ℕ) (x : MadeEvent) → length (transfer_of_event w r n x) ≡ transfers_over_link_by_event w r x
carried_many w r n (made.Own m k kind) = refl
carried_many w r n (made.Pass a k b j carried) = carried_one ((a.number == w) && (b.number == r)) _

in_front : (w r n : ℕ) (x : MadeEvent) (xs : List MadeEvent) → length (numbered_transfers w r n (x ∷ xs)) ≡ transfers_over_link_by_event w r x + length (numbered_transfers w r (n + transfers_over_link_by_event w r x) xs)
in_front w r n x xs =
    length-append (transfer_of_event w r (n + 1) x) (numbered_transfers w r (n + transfers_over_link_by_event w r x) xs)
    ∙ ap (λ (z : ℕ). z + length (numbered_transfers w r (n + transfers_over_link_by_event w r x) xs)) (carried_many w r (n + 1) x)

-- how many they are doesn't hang on the number of the first
same_many : (w r a b : ℕ) (xs : List MadeEvent) → length (numbered_transfers w r a xs) ≡ length (numbered_transfers w r b xs)
same_many w r a b [] = refl
same_many w r a b (x ∷ xs) =
    in_front w r a x xs ∙ ap (λ (z : ℕ). transfers_over_link_by_event w r x + z) (same_many w r (a + transfers_over_link_by_event w r x) (b + transfers_over_link_by_event w r x) xs) ∙ sym (in_front w r b x xs)

one_counted : (w r : ℕ) (x : MadeEvent) (xs : List MadeEvent) → length (numbered_transfers w r 0 (x ∷ xs)) ≡ transfers_over_link_by_event w r x + length (numbered_transfers w r 0 xs)
one_counted w r x xs = in_front w r 0 x xs ∙ ap (λ (z : ℕ). transfers_over_link_by_event w r x + z) (same_many w r (0 + transfers_over_link_by_event w r x) 0 xs)

pub one_more : (w r : ℕ) (list : List MadeEvent) (i : ℕ) (x : MadeEvent) → Some x ≡ slice_get list i
    → length (numbered_transfers w r 0 (drop i list)) ≡ transfers_over_link_by_event w r x + length (numbered_transfers w r 0 (drop (i + 1) list))
one_more w r list i x h = ap (λ z. length (numbered_transfers w r 0 z)) (read_on list i x h) ∙ one_counted w r x (drop (i + 1) list)

at_most_one : (b : Bool) → one_if b ≤ 1
at_most_one true = omega arith
at_most_one false = omega arith

-- they are no more than the events
pub few_words : (w r : ℕ) (xs : List MadeEvent) → length (numbered_transfers w r 0 xs) ≤ length xs
few_words w r [] = omega arith
few_words w r (x ∷ xs) = omega (arith, one_counted w r x xs, few_words w r xs, at_most_one (is_transfer_over_link w r x))

-- one more event at the end
pub behind : (w r : ℕ) (xs : List MadeEvent) (x : MadeEvent) → length (numbered_transfers w r 0 (xs ++ x ∷ [])) ≡ length (numbered_transfers w r 0 xs) + transfers_over_link_by_event w r x
behind w r [] x = one_counted w r x [] ∙ (let q : transfers_over_link_by_event w r x + 0 ≡ 0 + transfers_over_link_by_event w r x = omega arith in q)
behind w r (y ∷ xs) x =
    one_counted w r y (xs ++ x ∷ []) ∙ ap (λ (z : ℕ). transfers_over_link_by_event w r y + z) (behind w r xs x)
    ∙ (let q : transfers_over_link_by_event w r y + (length (numbered_transfers w r 0 xs) + transfers_over_link_by_event w r x) ≡ (transfers_over_link_by_event w r y + length (numbered_transfers w r 0 xs)) + transfers_over_link_by_event w r x = omega arith in q)
    ∙ ap (λ (z : ℕ). z + transfers_over_link_by_event w r x) (sym (one_counted w r y xs))

-- what a node's history has of the last of a list
abbrev pub last_of : List Event → EventWithLook × MadeEventOutcome → ℕ → List MadeEvent
last_of before x n = if touches x.0.event n then option_to_list (made_event_after before x.0.event x.1) else []

pub history_behind : (before : List Event) (xs : List (EventWithLook × MadeEventOutcome)) (x : EventWithLook × MadeEventOutcome) (n : ℕ)
    → made_events_of_node_after before (xs ++ x ∷ []) n ≡ made_events_of_node_after before xs n ++ last_of (before ++ events_without_outcomes xs) x n
history_behind before [] x n = append-nil (last_of before x n) ∙ ap (λ (z : List Event). last_of z x n) (sym (append-nil before))
history_behind before (y ∷ xs) x n =
    ap (λ (z : List MadeEvent). last_of before y n ++ z) (history_behind (before ++ y.0.event ∷ []) xs x n)
    ∙ ap (λ (z : List Event). last_of before y n ++ (made_events_of_node_after (before ++ y.0.event ∷ []) xs n ++ last_of z x n)) (append_assoc before (y.0.event ∷ []) (events_without_outcomes xs))
    ∙ sym (append_assoc (last_of before y n) (made_events_of_node_after (before ++ y.0.event ∷ []) xs n) (last_of (before ++ events_without_outcomes (y ∷ xs)) x n))

-- an event that doesn't touch the writer carried no word of it
pub other_writer : (p q x : Bool) → (p || q) ≡ false → one_if (p && x) ≡ 0
other_writer true q x h = absurd (cc)
other_writer false q x h = refl

none_over : (s : MachineState) (e : Event) (w r : ℕ) → touches e w ≡ false → transfers_over_link_by_event w r (made_next_event s e) ≡ 0
none_over s (event.Own n) w r h = refl
none_over s (event.Pass a b side) w r h = other_writer (a.number == w) _ (b.number == r) h

pub told_behind : (s : MachineState) (e : Event) → IsSome (replay s.load s.kept) → event_refusal (chip_of_machine s) e ≡ None
    → machine_events_with_outcomes (machine_with_event s (Ok e)) ≡ machine_events_with_outcomes s ++ (event_with_look_on_chip (chip_of_machine s) e, (event_result (chip_of_machine s) e).1) ∷ []
told_behind s e some can =
    let r : Runs s = runs_of s some in
    let done : apply r.last e ≡ Some ((event_result r.last e).0, (event_result r.last e).1) = ap (λ o. some_if_allowed o (event_result r.last e)) (ap (λ z. event_refusal z e) (sym (chip_is s r)) ∙ can) in
    ap run_events_with_outcomes (run_snoc s.load r.last (event_result r.last e).0 s.kept r.told e (event_result r.last e).1 r.run_is done)
    ∙ ap (λ z. z ++ (event_with_look_on_chip r.last e, (event_result r.last e).1) ∷ []) (sym (told_is s r))
    ∙ ap (λ z. machine_events_with_outcomes s ++ (event_with_look_on_chip z e, (event_result z e).1) ∷ []) (sym (chip_is s r))

pub kept_told : (s : MachineState) → IsSome (replay s.load s.kept) → events_without_outcomes (machine_events_with_outcomes s) ≡ s.kept
kept_told s some =
    let r : Runs s = runs_of s some in
    ap events_without_outcomes (told_is s r) ∙ (made_of s.load r.last s.kept r.told r.run_is).1

last_is : (s : MachineState) (e : Event) (n : ℕ) (c : EventWithLook) → c.event ≡ e → last_of s.kept (c, (event_result (chip_of_machine s) e).1) n ≡ (if touches e n then made_next_event s e ∷ [] else [])
last_is s e n c is =
    ap (λ (z : Event). if touches z n then option_to_list (made_event_after s.kept z (event_result (chip_of_machine s) e).1) else []) is
    ∙ ap (λ (o : Option MadeEvent). if touches e n then option_to_list o else []) (told_last s e)

history_with : (s : MachineState) (e : Event) (n : ℕ) → IsSome (replay s.load s.kept) → event_refusal (chip_of_machine s) e ≡ None
    → history_of_node (machine_with_event s (Ok e)) n ≡ history_of_node s n ++ (if touches e n then made_next_event s e ∷ [] else [])
history_with s e n some can =
    ap (λ z. made_events_of_node z n) (told_behind s e some can)
    ∙ history_behind [] (machine_events_with_outcomes s) (event_with_look_on_chip (chip_of_machine s) e, (event_result (chip_of_machine s) e).1) n
    ∙ ap (λ (z : List Event). history_of_node s n ++ last_of z (event_with_look_on_chip (chip_of_machine s) e, (event_result (chip_of_machine s) e).1) n) (kept_told s some)
    ∙ ap (λ (z : List MadeEvent). history_of_node s n ++ z) (last_is s e n (event_with_look_on_chip (chip_of_machine s) e) refl)

counted_with : (s : MachineState) (e : Event) (w r : ℕ) (b : Bool) → touches e w ≡ b
    → length (numbered_transfers w r 0 (history_of_node s w ++ (if b then made_next_event s e ∷ [] else []))) ≡ link_transfer_count s w r + transfers_over_link_by_event w r (made_next_event s e)
counted_with s e w r true is = behind w r (history_of_node s w) (made_next_event s e)
counted_with s e w r false is =
    ap (λ z. length (numbered_transfers w r 0 z)) (append-nil (history_of_node s w))
    ∙ (let q : link_transfer_count s w r ≡ link_transfer_count s w r + transfers_over_link_by_event w r (made_next_event s e) = omega (arith, none_over s e w r is) in q)

-- how many words of a link are kept after a step
pub counted_step : (s : MachineState) (n : NodeId) (m : MadeEvent) → IsSome (replay s.load s.kept) → step_answer s n ≡ Ok m
    → (w r : ℕ) → link_transfer_count (state_after_step s n) w r ≡ link_transfer_count s w r + transfers_over_link_by_event w r m
counted_step s n m some h w r =
    let i : StepIs s n m = step_is s n m h in
    let can : event_refusal (chip_of_machine s) i.what ≡ None = next_can (chip_of_machine s) n i.what i.is in
    ap (λ z. link_transfer_count z w r) (stepped_is s n m i.what h i.is)
    ∙ ap (λ z. length (numbered_transfers w r 0 z)) (history_with s i.what w some can)
    ∙ counted_with s i.what w r (touches i.what w) refl
    ∙ ap (λ z. link_transfer_count s w r + transfers_over_link_by_event w r z) i.told

-- the same of the words that a condition counts
over_on : (link : Option (NodeId × NodeId)) (s t : MachineState) (m : MadeEvent) → ((w r : ℕ) → link_transfer_count t w r ≡ link_transfer_count s w r + transfers_over_link_by_event w r m)
    → optional_link_transfer_count link t ≡ optional_link_transfer_count link s + transfers_added_by_event link m
over_on None s t m h = omega arith
over_on (Some link) s t m h = h link.0.number link.1.number

pub counted_on : (until : Condition) (s t : MachineState) (m : MadeEvent) → ((w r : ℕ) → link_transfer_count t w r ≡ link_transfer_count s w r + transfers_over_link_by_event w r m)
    → condition_transfer_count until t ≡ condition_transfer_count until s + condition_transfers_added until m
counted_on until s t m h = over_on (counted_link until) s t m h

pub all_counted_on : (until : List Condition) (s t : MachineState) (m : MadeEvent) (words : List ℕ) → ((w r : ℕ) → link_transfer_count t w r ≡ link_transfer_count s w r + transfers_over_link_by_event w r m)
    → AreLinkCountsKnown until s words → WereLinkCountsKnownBeforeEvent until t m words
all_counted_on until s t m words h before k one is = counted_on one s t m h ∙ ap (λ (z : ℕ). z + condition_transfers_added one m) (before k one is)

-- an own event carries none
own_over : (link : Option (NodeId × NodeId)) (node : NodeId) (step : ℕ) (kind : OwnEventKind) → transfers_added_by_event link (made.Own node step kind) ≡ 0
own_over None node step kind = refl
own_over (Some link) node step kind = refl

pub none_counted : (until : List Condition) (s : MachineState) (m : MadeEvent) (words : List ℕ) (node : NodeId) (step : ℕ) (kind : OwnEventKind) → m ≡ made.Own node step kind
    → WereLinkCountsKnownBeforeEvent until s m words → AreLinkCountsKnown until s words
none_counted until s m words node step kind own h k one is =
    let none : condition_transfers_added one m ≡ 0 = ap (condition_transfers_added one) own ∙ own_over (counted_link one) node step kind in
    h k one is ∙ (let q : slice_index words k + condition_transfers_added one m ≡ slice_index words k = omega (arith, none) in q)

-- how many they are is no more than the writer's steps
pub few_more : (until : Condition) (link : NodeId × NodeId) (s : MachineState) (m : MadeEvent) (words : ℕ) → Some link ≡ counted_link until → condition_transfer_count until s ≡ words + condition_transfers_added until m
    → words + transfers_over_link_by_event link.0.number link.1.number m ≤ length (history_of_node s link.0.number)
few_more until link s m words is h =
    let here : link_transfer_count s link.0.number link.1.number ≡ words + transfers_over_link_by_event link.0.number link.1.number m = subst (λ o. optional_link_transfer_count o s ≡ words + transfers_added_by_event o m) (sym is) h in
    omega (arith, here, few_words link.0.number link.1.number (history_of_node s link.0.number))

-- a step of a run
pub run_step_counts : (old new : MachineState) (made : MadeEvent) → IsRunStep old new made → (writer reader : ℕ)
    → link_transfer_count new writer reader ≡ link_transfer_count old writer reader + transfers_over_link_by_event writer reader made
run_step_counts old new made h writer reader =
    ap (λ (z : MachineState). link_transfer_count z writer reader) h.moved ∙ counted_step old h.node made h.replays h.told writer reader
