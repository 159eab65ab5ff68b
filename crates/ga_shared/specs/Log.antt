-- Calls of workers and their logs, what is under the lock and at a seat, and what a shared chip was opened on.
use Rattle.ga_shared.specs.declared.call.CallAnswer.TheVariants as answer
use Rattle.std.specs.Prelude.{ℕ, Result, Ok, Err, ◌≡◌, ◌≢◌, ◌+◌, ◌≤◌, Bool, true, false, count_by, List, [], ◌∷◌, ◌++◌, length, ◌==◌, map, sum_by, if◌then◌else◌, slice_get, Some, ◌<◌, All}
use Rattle.ga_lab.specs.declared.fault.LabFault.{LabFault}
use Rattle.ga_lab.specs.declared.fault.LabFault.TheVariants.{Waiting, Stopped, Full, Memory, Empty, NoStep, EventNumbersSpent}
use Rattle.ga_event.specs.declared.made.MadeEvent.{MadeEvent}
use Rattle.ga_lab.specs.Machine.{MachineState, step_answer, state_after_step, rewind_answer, state_after_rewind, initial_state}
use Rattle.ga_shared.specs.declared.call.Call.{Call}
use Rattle.ga_shared.specs.declared.call.Call.TheVariants.{Step, Rewind}
use Rattle.ga_shared.specs.declared.call.CallAnswer.{CallAnswer}
use Rattle.ga_node.specs.Record.{NodeRecord}
use Rattle.ga_shared.specs.declared.call.LogEntry.{LogEntry}
use Rattle.ga_shared.specs.declared.call.CallReceipt.{CallReceipt}
use Rattle.ga_shared.specs.declared.closing.UnsharedLab.{UnsharedLab}

-- ---- What the machine that replays a list of events answers to a worker's call, and where it is then

-- the number of a refusal
abbrev pub refusal_number : LabFault → ℕ
refusal_number Waiting = 1
refusal_number Stopped = 2
refusal_number Full = 3
refusal_number Memory = 4
refusal_number Empty = 5
refusal_number NoStep = 6
refusal_number EventNumbersSpent = 7

abbrev pub step_call_answer : Result MadeEvent LabFault → CallAnswer
step_call_answer (Ok made) = answer.Made made
step_call_answer (Err fault) = answer.Refused (refusal_number fault)

abbrev pub rewind_call_answer : Result ℕ LabFault → CallAnswer
rewind_call_answer (Ok removed) = answer.Removed removed
rewind_call_answer (Err fault) = answer.Refused (refusal_number fault)

-- what the machine answers to a call
abbrev pub call_answer : MachineState → Call → CallAnswer
call_answer s (Step node) = step_call_answer (step_answer s node)
call_answer s (Rewind node step) = rewind_call_answer (rewind_answer s node.number step)

-- the machine after a call
abbrev pub state_after_call : MachineState → Call → MachineState
state_after_call s (Step node) = state_after_step s node
state_after_call s (Rewind node step) = state_after_rewind s node.number step

-- ---- Logs of calls that the machine could have answered, and what is under the lock and at a seat

-- The log is legal from one state of the machine to another: run over its calls, the machine gives its answers and ends in the
-- other state. No answer in it is out of memory
abbrev pub IsLegalLog : MachineState → List LogEntry → MachineState → Type 0
IsLegalLog s [] t = s ≡ t
IsLegalLog s (e ∷ es) t =
    (e.answer ≡ call_answer s e.call) × (e.answer ≢ answer.Refused 4) × IsLegalLog (state_after_call s e.call) es t

-- whether a call made an event
abbrev pub has_made_event : CallAnswer → Bool
has_made_event (answer.Made made) = true
has_made_event (answer.Removed removed) = false
has_made_event (answer.Refused number) = false

-- how many events the calls of a log made
abbrev pub count_made_events : List LogEntry → ℕ
count_made_events log = count_by (λ e. has_made_event e.answer) log

-- What is under the lock: a copy of the lab's load, the lab, the log of its calls, and the total of the book
pub record LockedState : Type 0 where
  pub load : List NodeRecord
  pub lab : MachineState
  pub log : List LogEntry
  pub calls : ℕ

-- the lab is where the log leads from its first state; the book counts the log, and the lab its events
pub record HasConsistentLog (d : LockedState) : Type 0 where
  pub load : d.load ≡ d.lab.load
  pub legal : IsLegalLog (initial_state d.load d.lab.limit) d.log d.lab
  pub calls : d.calls ≡ length d.log
  pub made : d.lab.made ≡ count_made_events d.log

-- What a worker has: its number, its receipts, and how many calls it made
pub record Worker : Type 0 where
  pub number : ℕ
  pub receipts : List CallReceipt
  pub calls : ℕ

-- a worker that made no call yet
abbrev pub fresh_worker : ℕ → Worker
fresh_worker number = record { number = number; receipts = []; calls = 0 }

-- the worker after a call: one receipt and one call more
abbrev pub worker_with_receipt : Worker → CallReceipt → Worker
worker_with_receipt worker receipt = record worker { receipts = worker.receipts ++ receipt ∷ []; calls = worker.calls + 1 }

-- what the log keeps of a worker's call
abbrev pub receipt_as_log_entry : Worker → CallReceipt → LogEntry
receipt_as_log_entry worker receipt = record { worker = worker.number; call = receipt.call; answer = receipt.answer }

-- One locked call: the answer and the new lab are the machine's, load and limit stay, and log, book, receipts and share grew
-- by this call
pub record MakesLoggedCall (old new : LockedState) (was now : Worker) (call : Call) (receipt : CallReceipt) : Type 0 where
  pub receipt_is : receipt ≡ record { place = length old.log; call = call; answer = call_answer old.lab call }
  pub lab : new.lab ≡ state_after_call old.lab call
  pub limit : new.lab.limit ≡ old.lab.limit
  pub load : new.load ≡ old.load
  pub log : new.log ≡ old.log ++ receipt_as_log_entry was receipt ∷ []
  pub book : new.calls ≡ old.calls + 1
  pub worker : now ≡ worker_with_receipt was receipt

-- One call counted: the receipt names the call, its place is no less than the number of calls that the worker made before,
-- and the worker has one receipt and one call more
pub record CountsCall (was now : Worker) (call : Call) (receipt : CallReceipt) : Type 0 where
  pub asked : receipt.call ≡ call
  pub place : was.calls ≤ receipt.place
  pub worker : now ≡ worker_with_receipt was receipt

-- ---- what workers do, each with a list of calls

-- a worker made these calls: it has one receipt more for each, in order
abbrev pub HasMadeCalls : Worker → Worker → List Call → Type 0
HasMadeCalls was now calls =
    (added : List CallReceipt) × (map (λ r. r.call) added ≡ calls)
    × (now ≡ record { number = was.number; receipts = was.receipts ++ added; calls = was.calls + length calls })

-- the calls that a log has of a worker, in order
abbrev pub calls_of_worker : ℕ → List LogEntry → List Call
calls_of_worker worker [] = []
calls_of_worker worker (e ∷ es) = if e.worker == worker then e.call ∷ calls_of_worker worker es else calls_of_worker worker es

-- The lab was opened on this chip and limit, the log leads there, its calls are those of the lists, each in order, and the
-- lab counts the events that they made
pub record IsConcurrentCallsResult (load : List NodeRecord) (limit : ℕ) (lists : List (List Call)) (closed : UnsharedLab) : Type 0 where
  pub opened : (closed.lab.load ≡ load) × (closed.lab.limit ≡ limit)
  pub legal : IsLegalLog (initial_state load limit) closed.log.items closed.lab
  pub calls : (w : ℕ) (list : List Call) → slice_get lists w ≡ Some list → calls_of_worker w closed.log.items ≡ list
  pub count : length closed.log.items ≡ sum_by length lists
  pub made : closed.lab.made ≡ count_made_events closed.log.items

-- ---- What a shared chip was opened on, the seats of its workers, and whether their receipts are the log's

-- the load, the limit and the number of workers with which a shared chip was opened
pub record OpeningParameters : Type 0 where
  pub load : List NodeRecord
  pub limit : ℕ
  pub workers : ℕ

-- the receipts that a log has for a worker, in order, where `place` entries came before the log
abbrev pub receipts_of_worker : ℕ → ℕ → List LogEntry → List CallReceipt
receipts_of_worker worker place [] = []
receipts_of_worker worker place (e ∷ es) =
    if e.worker == worker then record { place = place; call = e.call; answer = e.answer } ∷ receipts_of_worker worker (place + 1) es
    else receipts_of_worker worker (place + 1) es

-- the seats are those of the workers 0 to n - 1, each once
abbrev pub AreAllWorkerSeats : ℕ → List Worker → Type 0
AreAllWorkerSeats n seats = (length seats ≡ n) × ((w : ℕ) → w < n → count_by (λ s. s.number == w) seats ≡ 1)

-- the receipts of this worker are the log's entries of it, in order and with their places
abbrev pub HasMatchingReceipts : List LogEntry → List Worker → ℕ → Type 0
HasMatchingReceipts log seats w = All (λ s. s.number ≡ w → s.receipts ≡ receipts_of_worker w 0 log) seats

-- this worker's receipts are not the log's, and those of all workers before it are
abbrev pub IsFirstWorkerNotMatchingLog : List LogEntry → List Worker → ℕ → Type 0
IsFirstWorkerNotMatchingLog log seats w = (¬ HasMatchingReceipts log seats w) × ((v : ℕ) → v < w → HasMatchingReceipts log seats v)
