-- What a log implies for the machine, the seats and the lists of calls.
use Rattle.ga_shared.specs.declared.call.CallAnswer.TheVariants as answer
use Rattle.std.proofs.Common.{◌≡◌, ◌+◌, ℕ, cond, refl, arith, ◌≢◌, List, [], ◌∷◌, ◌++◌, length, length-append, sym, ap, ◌∙◌, subst, zero-add, ◌<◌, take, get_or, zero, suc, map, sum_by, Some, Bool, true, false}
use Rattle.std.specs.Prelude.{Result, Ok, Err, All, slice_get, ◌==◌, if◌then◌else◌}
use Rattle.ga_node.specs.declared.kind.EventRefusal.{EventRefusal}
use Rattle.ga_event.specs.declared.event.Event.{Event}
use Rattle.ga_event.specs.Next.{next_event_of_node}
use Rattle.ga_event.specs.declared.made.MadeEvent.{MadeEvent}
use Rattle.ga_lab.specs.declared.fault.LabFault.{LabFault}
use Rattle.ga_lab.specs.Machine.{MachineState, chip_of_machine, step_answer, machine_with_event, state_unless_refused, answer_to_event as lab_answer_to, rewind_answer, initial_state}
use Rattle.ga_shared.specs.declared.call.Call.{Call}
use Rattle.ga_shared.specs.declared.call.Call.TheVariants.{Step, Rewind}
use Rattle.ga_shared.specs.declared.call.CallAnswer.{CallAnswer}
use Rattle.ga_shared.specs.Log.{call_answer, step_call_answer, rewind_call_answer, state_after_call, has_made_event, IsLegalLog, LockedState, HasConsistentLog, count_made_events, Worker, fresh_worker, IsConcurrentCallsResult, calls_of_worker, AreAllWorkerSeats, HasMatchingReceipts, receipts_of_worker}
use Rattle.std.proofs.lemmas.List.Sums.{sum_by-append, sum_by-cons}
use Rattle.ga_shared.specs.declared.call.LogEntry.{LogEntry}
use Rattle.std.proofs.lemmas.List.{take_more}
use Rattle.std.proofs.lemmas.List.Elements.{All-append}
use Rattle.std.proofs.lemmas.Option.{slice_get-get_or, slice_get_within, get_or_from_slice_get}
use Rattle.ga_shared.specs.declared.call.CallReceipt.{CallReceipt}
use Rattle.ga_shared.specs.declared.closing.UnsharedLab.{UnsharedLab}
use Rattle.ga_node.specs.Record.{NodeRecord}
use Rattle.ga_shared.specs.Close.{IsSoundLog, IsLabOpenedWith}
use Rattle.ga_shared.specs.inner.{HasWorkerMadeListedCalls}

-- ---- What a call leaves of the machine: its load, its limit, and how many events were made

-- the number of events that the call of an answer made: 1 or 0
abbrev pub added_by : CallAnswer → ℕ
added_by a = cond (has_made_event a) 1 0

-- what a field of the machine is after a call, where the call leaves it
unless : {X : Type 0} {Y : Type 0} (f : MachineState → Y) (r : Result X LabFault) (old new : MachineState) → f new ≡ f old → f (state_unless_refused old r new) ≡ f old
unless f (Ok x) old new same = same
unless f (Err fault) old new same = refl

pub machine_with_event-load : (s : MachineState) (r : Result Event EventRefusal) → (machine_with_event s r).load ≡ s.load
machine_with_event-load s (Ok e) = refl
machine_with_event-load s (Err why) = refl

machine_with_event-limit : (s : MachineState) (r : Result Event EventRefusal) → (machine_with_event s r).limit ≡ s.limit
machine_with_event-limit s (Ok e) = refl
machine_with_event-limit s (Err why) = refl

-- no call changes the load and the limit
pub state_after_call-load : (s : MachineState) (call : Call) → (state_after_call s call).load ≡ s.load
state_after_call-load s (Step node) = unless (λ t. t.load) (step_answer s node) s (machine_with_event s (next_event_of_node (chip_of_machine s) node)) (machine_with_event-load s (next_event_of_node (chip_of_machine s) node))
state_after_call-load s (Rewind node step) = refl

pub state_after_call-limit : (s : MachineState) (call : Call) → (state_after_call s call).limit ≡ s.limit
state_after_call-limit s (Step node) = unless (λ t. t.limit) (step_answer s node) s (machine_with_event s (next_event_of_node (chip_of_machine s) node)) (machine_with_event-limit s (next_event_of_node (chip_of_machine s) node))
state_after_call-limit s (Rewind node step) = refl

-- a step that made an event counts it, and a refused one doesn't
made_by_step : (s : MachineState) (r : Result Event EventRefusal) (a : Result MadeEvent LabFault) → a ≡ lab_answer_to s r → (state_unless_refused s a (machine_with_event s r)).made ≡ s.made + added_by (step_call_answer a)
made_by_step s (Ok e) (Ok made) is = refl
made_by_step s (Err why) (Ok made) is = cc
made_by_step s r (Err fault) is = omega arith

added_by-rewind : (r : Result ℕ LabFault) → added_by (rewind_call_answer r) ≡ 0
added_by-rewind (Ok removed) = refl
added_by-rewind (Err fault) = refl

-- the lab counts the events that are answered
pub state_after_call-made : (s : MachineState) (call : Call) → (state_after_call s call).made ≡ s.made + added_by (call_answer s call)
state_after_call-made s (Step node) = made_by_step s (next_event_of_node (chip_of_machine s) node) (step_answer s node) refl
state_after_call-made s (Rewind node step) = omega (arith, added_by-rewind (rewind_answer s node.number step))

-- ---- A history with one call more

pub IsLegalLog-push : (s t : MachineState) (es : List LogEntry) (e : LogEntry) → IsLegalLog s es t → e.answer ≡ call_answer t e.call → e.answer ≢ answer.Refused 4 → IsLegalLog s (es ++ e ∷ []) (state_after_call t e.call)
IsLegalLog-push s t [] e is answers given = (answers ∙ ap (λ u. call_answer u e.call) (sym is), given, ap (λ u. state_after_call u e.call) is)
IsLegalLog-push s t (x ∷ es) e legal answers given = (legal.0, legal.1, IsLegalLog-push (state_after_call s x.call) t es e legal.2 answers given)

count_made_events-push : (es : List LogEntry) (e : LogEntry) → count_made_events (es ++ e ∷ []) ≡ count_made_events es + added_by e.answer
count_made_events-push es e = sum_by-append (λ (x : LogEntry). added_by x.answer) es (e ∷ []) ∙ ap (λ n. count_made_events es + n) (zero-add (added_by e.answer))

-- a call more, answered as the machine does
pub HasConsistentLog-push : (d : LockedState) (lab : MachineState) (log : List LogEntry) (calls : ℕ) (e : LogEntry) → HasConsistentLog d → e.answer ≡ call_answer d.lab e.call → e.answer ≢ answer.Refused 4 → lab ≡ state_after_call d.lab e.call → log ≡ d.log ++ e ∷ [] → calls ≡ d.calls + 1 → HasConsistentLog (record { load = d.load; lab = lab; log = log; calls = calls })
HasConsistentLog-push d lab log calls e history answers given is grew counted =
    let same = state_after_call-load d.lab e.call in
    let limit : lab.limit ≡ d.lab.limit = ap (λ s. s.limit) is ∙ state_after_call-limit d.lab e.call in
    let legal = IsLegalLog-push (initial_state d.load d.lab.limit) d.lab d.log e history.legal answers given in
    let P : ℕ → List LogEntry → MachineState → Type 0 = λ n l t. IsLegalLog (initial_state d.load n) l t in
    record {
      load = history.load ∙ sym same ∙ ap (λ s. s.load) (sym is);
      legal = subst (λ n. P n log lab) (sym limit) (subst (λ l. P d.lab.limit l lab) (sym grew) (subst (P d.lab.limit (d.log ++ e ∷ [])) (sym is) legal));
      calls = omega (arith, history.calls, ap length grew, length-append d.log (e ∷ []), counted);
      made = ap (λ s. s.made) is ∙ state_after_call-made d.lab e.call ∙ ap (λ a. d.lab.made + added_by a) (sym answers) ∙ ap (λ n. n + added_by e.answer) history.made ∙ sym (count_made_events-push d.log e) ∙ ap count_made_events (sym grew);
    }

-- ---- What closing implies for the log, the lab and the seats

pub AreAllWorkerSeats-along : (n m : ℕ) (xs ys : List Worker) → n ≡ m → xs ≡ ys → AreAllWorkerSeats n xs → AreAllWorkerSeats m ys
AreAllWorkerSeats-along n m xs ys e f h = subst (λ (p : ℕ × List Worker). AreAllWorkerSeats p.0 p.1) (λ i. (e i, f i)) h

pub HasMatchingReceipts-along : (l m : List LogEntry) (xs ys : List Worker) (w : ℕ) → l ≡ m → xs ≡ ys → HasMatchingReceipts l xs w → HasMatchingReceipts m ys w
HasMatchingReceipts-along l m xs ys w e f h = subst (λ (p : List LogEntry × List Worker). HasMatchingReceipts p.0 p.1 w) (λ i. (e i, f i)) h

-- a history is legal from the load and the limit of its lab
pub HasConsistentLog-legal : (d : LockedState) → HasConsistentLog d → IsLegalLog (initial_state d.lab.load d.lab.limit) d.log d.lab
HasConsistentLog-legal d h = subst (λ load. IsLegalLog (initial_state load d.lab.limit) d.log d.lab) h.load h.legal

-- ---- Receipts of one seat more

All-one : {X : Type 0} (P : X → Type 0) (x : X) → P x → All P (x ∷ [])
All-one P x here zero d below = here
All-one P x here (suc k) d below = absurd (omega (arith, below))

All-take-more : {X : Type 0} (P : X → Type 0) (xs : List X) (i : ℕ) (x : X) → i < length xs → x ≡ get_or xs i x → All P (take i xs) → P x → All P (take (i + 1) xs)
All-take-more P xs i x within is before here =
    subst (All P) (sym (take_more xs i x within ∙ ap (λ y. take i xs ++ y ∷ []) (sym is))) (All-append P (take i xs) (x ∷ []) before (All-one P x here))

pub HasMatchingReceipts-more : (log : List LogEntry) (seats : List Worker) (w i : ℕ) (s : Worker) → i < length seats → s ≡ get_or seats i s → HasMatchingReceipts log (take i seats) w → (s.number ≡ w → s.receipts ≡ receipts_of_worker w 0 log) → HasMatchingReceipts log (take (i + 1) seats) w
HasMatchingReceipts-more log seats w i s within is before here = All-take-more (λ (t : Worker). t.number ≡ w → t.receipts ≡ receipts_of_worker w 0 log) seats i s within is before here

-- ---- What a race leads to

branch : (b : Bool) (r : CallReceipt) (rs : List CallReceipt) (cs : List Call) → map (λ (r : CallReceipt). r.call) rs ≡ cs → map (λ (r : CallReceipt). r.call) (if b then r ∷ rs else rs) ≡ (if b then r.call ∷ cs else cs)
branch true r rs cs same = ap (λ l. r.call ∷ l) same
branch false r rs cs same = same

-- the calls of a worker's receipts are its calls in the log
pub map-receipts_of_worker : (w place : ℕ) (log : List LogEntry) → map (λ (r : CallReceipt). r.call) (receipts_of_worker w place log) ≡ calls_of_worker w log
map-receipts_of_worker w place [] = refl
map-receipts_of_worker w place (e ∷ es) = branch (e.worker == w) (record { place = place; call = e.call; answer = e.answer }) (receipts_of_worker w (place + 1) es) (calls_of_worker w es) (map-receipts_of_worker w (place + 1) es)

-- sums over two lists that agree place by place
pub sum_by-pairs : {X Y : Type 0} (f : X → ℕ) (h : Y → ℕ) (xs : List X) (ys : List Y) → length xs ≡ length ys → ((k : ℕ) (x : X) (y : Y) → slice_get xs k ≡ Some x → slice_get ys k ≡ Some y → f x ≡ h y) → sum_by f xs ≡ sum_by h ys
sum_by-pairs f h [] [] size same = refl
sum_by-pairs f h [] (y ∷ ys) size same = absurd (omega (arith, size))
sum_by-pairs f h (x ∷ xs) [] size same = absurd (omega (arith, size))
sum_by-pairs f h (x ∷ xs) (y ∷ ys) size same =
    sum_by-cons f x xs ∙ (λ i. same zero x y refl refl i + sum_by-pairs f h xs ys (omega (arith, size)) (λ k a b p q. same (suc k) a b p q) i) ∙ sym (sum_by-cons h y ys)

-- a worker that is done, whose receipts are the log's
done_calls : (lists : List (List Call)) (log : List LogEntry) (w : ℕ) (s : Worker) (list : List Call) → s.number ≡ w → HasWorkerMadeListedCalls lists s → slice_get lists w ≡ Some list → s.receipts ≡ receipts_of_worker w 0 log → (calls_of_worker w log ≡ list) × (s.calls ≡ length list)
done_calls lists log w s list is done at agrees =
    let works = done list (ap (slice_get lists) is ∙ at) in
    let receipts : s.receipts ≡ works.0 = ap (λ x. x.receipts) works.2 in (
      sym (map-receipts_of_worker w 0 log) ∙ ap (λ l. map (λ (r : CallReceipt). r.call) l) (sym agrees ∙ receipts) ∙ works.1,
      ap (λ x. x.calls) works.2 ∙ zero-add (length list),
    )

pub raced : (load : List NodeRecord) (limit n : ℕ) (lists : List (List Call)) (seats : List Worker) (closed : UnsharedLab) → length lists ≡ n → length seats ≡ n → ((w : ℕ) (s : Worker) → slice_get seats w ≡ Some s → (s.number ≡ w) × HasWorkerMadeListedCalls lists s) → IsSoundLog seats closed → IsLabOpenedWith (record { load = load; limit = limit; workers = n }) closed.lab → ((w : ℕ) → w < n → HasMatchingReceipts closed.log.items seats w) → IsConcurrentCallsResult load limit lists closed
raced load limit n lists seats closed many size done sound opened agrees =
    let log = closed.log.items in
    record {
      opened = opened;
      legal = subst (λ (p : List NodeRecord × ℕ). IsLegalLog (initial_state p.0 p.1) log closed.lab) (λ i. (opened.0 i, opened.1 i)) sound.legal;
      calls = λ w list at. (at_place w list at (fresh_worker w)).0;
      made = sound.made;
      count = sound.calls ∙ sum_by-pairs (λ (s : Worker). s.calls) length seats lists (size ∙ sym many) (λ k s list s_at list_at. known k s list s_at list_at);
    }
  where
    known : (w : ℕ) (s : Worker) (list : List Call) → slice_get seats w ≡ Some s → slice_get lists w ≡ Some list → s.calls ≡ length list
    known w s list s_at at =
        let in_seats = slice_get_within seats w s s_at in
        let d = done w s s_at in
        let same : get_or seats w s ≡ s = get_or_from_slice_get seats w s s s_at in
        (done_calls lists closed.log.items w s list d.0 d.1 at (subst (λ (x : Worker). x.number ≡ w → x.receipts ≡ receipts_of_worker w 0 closed.log.items) same (agrees w (omega (arith, size)) w s in_seats) d.0)).1

    at_place : (w : ℕ) (list : List Call) → slice_get lists w ≡ Some list → (d : Worker) → (calls_of_worker w closed.log.items ≡ list) × Unit {0}
    at_place w list at d =
        let in_lists = slice_get_within lists w list at in
        let in_seats : w < length seats = omega (arith, size, many) in
        let s = get_or seats w d in
        let s_at : slice_get seats w ≡ Some s = slice_get-get_or seats w d in_seats in
        let found = done w s s_at in
        ((done_calls lists closed.log.items w s list found.0 found.1 at (agrees w (omega (arith, size)) w d in_seats found.0)).0, tt)
