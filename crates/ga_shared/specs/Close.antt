-- What closing a shared chip answers.
use Rattle.std.specs.Prelude.{◌≡◌, ◌<◌, ℕ, List, length, sum_by, Some, None, Result, Ok, Err}
use Rattle.ga_lab.specs.Machine.{MachineState, initial_state}
use Rattle.ga_shared.specs.declared.closing.UnsharedLab.{UnsharedLab}
use Rattle.ga_shared.specs.declared.closing.CloseFault.{CloseFault}
use Rattle.ga_shared.specs.declared.closing.CloseFault.TheVariants.{SeatsMissing, LogDisagrees}
use Rattle.ga_shared.specs.Log.{Worker, IsLegalLog, count_made_events, OpeningParameters, AreAllWorkerSeats, HasMatchingReceipts, IsFirstWorkerNotMatchingLog}

-- the log leads the machine from its first state to the lab; its length is the number of calls of all workers together, and the
-- lab counts the events that the log's calls made
pub record IsSoundLog (seats : List Worker) (closed : UnsharedLab) : Type 0 where
  pub legal : IsLegalLog (initial_state closed.lab.load closed.lab.limit) closed.log.items closed.lab
  pub calls : length closed.log.items ≡ sum_by (λ s. s.calls) seats
  pub made : closed.lab.made ≡ count_made_events closed.log.items

-- the lab is one over the chip and the limit with which it was opened
abbrev pub IsLabOpenedWith : OpeningParameters → MachineState → Type 0
IsLabOpenedWith o lab = (lab.load ≡ o.load) × (lab.limit ≡ o.limit)

-- What closing returns: the lab and the log, if load and limit are those given at opening and the receipts of each worker are
-- its entries; or that seats are missing; or the first disagreement, with the same lab and log
abbrev pub IsCloseResult : {L : Type 0} → OpeningParameters → List Worker → Result UnsharedLab (CloseFault L) → Type 0
IsCloseResult o seats (Ok closed) =
    AreAllWorkerSeats o.workers seats × IsSoundLog seats closed × IsLabOpenedWith o closed.lab
    × ((w : ℕ) → w < o.workers → HasMatchingReceipts closed.log.items seats w)
IsCloseResult o seats (Err (SeatsMissing shared back)) = (¬ AreAllWorkerSeats o.workers seats) × (shared ≡ o) × (back.items ≡ seats)
IsCloseResult o seats (Err (LogDisagrees None closed)) =
    AreAllWorkerSeats o.workers seats × IsSoundLog seats closed × (¬ IsLabOpenedWith o closed.lab)
IsCloseResult o seats (Err (LogDisagrees (Some w) closed)) =
    AreAllWorkerSeats o.workers seats × IsSoundLog seats closed × IsLabOpenedWith o closed.lab
    × (w < o.workers) × IsFirstWorkerNotMatchingLog closed.log.items seats w
