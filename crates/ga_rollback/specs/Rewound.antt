-- The result of a rollback. A step is removed with all that it caused and nothing else, whatever else came later: an action may
-- be undone once all its consequences are (Danos and Krivine, "Reversible Communicating Systems", 2004).
use Rattle.std.specs.Prelude.{ℕ, List, ◌≡◌, [], ◌∷◌, length, ◌+◌, ◌*◌, ◌<◌, ◌≤◌, Some, slice_index}
use Rattle.std.specs.List.{sum_by, count_by}
use Rattle.ga_journal.specs.Histories.{EntryRecord, JournalState}
use Rattle.ga_journal.specs.Events.{entry_role_has_looked, journal_events_with_looks, journal_events}
use Rattle.ga_node.specs.Record.{NodeState}
use Rattle.ga_event.specs.Undo.{chip_after_undo, IsEventApplied}
use Rattle.ga_journal.specs.Logs.{StampedEvent, AreHistoriesOfLog}
use Rattle.ga_grid.specs.Chip.{records_of_chip}
use Rattle.ga_event.specs.Apply.{replay}
use Rattle.ga_causal.specs.Dependence.{events_after_rewind}
use Rattle.ga_event.specs.Told.{events_of_causes, count_steps}
use Rattle.ga_journal.specs.Walked.{chip_before_histories}
use Rattle.ga_journal.specs.Marks.{count_entries, HasNoRollbackUnderWay}

-- ---- which entries the marks of a rollback take, while they are being lowered

-- how many entries of a history are looks, and in `count_all_look_entries` of all histories
abbrev pub count_look_entries : List EntryRecord → ℕ
count_look_entries count_entries = count_by (λ (e : EntryRecord). entry_role_has_looked e.act) count_entries

abbrev pub count_all_look_entries : List (List EntryRecord) → ℕ
count_all_look_entries hs = sum_by count_look_entries hs

-- ---- the chip and the journal belong together

-- Each event of the log, undone one after another from the chip on, led from the chip without it to the chip with it.
abbrev pub IsLogLeadingToChip : List NodeState → List StampedEvent → Type 0
IsLogLeadingToChip chip [] = Unit {0}
IsLogLeadingToChip chip (x ∷ older) =
    IsEventApplied (chip_after_undo chip x.event x.effect) x.event x.effect chip × IsLogLeadingToChip (chip_after_undo chip x.event x.effect) older

-- The histories are those of events that led to the chip.
pub record AreHistoriesOfChip (chip : List NodeState) (book : JournalState) : Type 0 where
  pub size : length chip ≡ 144
  pub log : List StampedEvent
  pub records : AreHistoriesOfLog log book.histories book.made
  pub leads : IsLogLeadingToChip chip log

-- Node n was rolled back to its step k, which removed `removed` events. The events that remain are those that do not depend on
-- the step, in their order, and those of them that looked still do; replaying them from the load, which is unchanged, leads to
-- the new chip.
pub record IsRolledBack (old : JournalState) (chip : List NodeState) (n k : ℕ) (new : JournalState) (now : List NodeState) (removed : ℕ) : Type 0 where
  pub stands : (0 < k) × (k ≤ count_steps n (journal_events old))
  pub left : journal_events_with_looks new ≡ events_after_rewind (journal_events_with_looks old) n k
  pub load : chip_before_histories now new.histories ≡ chip_before_histories chip old.histories
  pub replays : replay (records_of_chip (chip_before_histories chip old.histories)) (journal_events new) ≡ Some (records_of_chip now)
  pub number : removed + length (journal_events new) ≡ length (journal_events old)
  pub made : new.made ≡ old.made
  pub limit : new.limit ≡ old.limit
  pub tied : AreHistoriesOfChip now new
  pub settled : HasNoRollbackUnderWay new

-- What a rollback of node n to its step k would remove: `events` events, and of each node m `steps[m]` steps. Those that would
-- remain are the events that do not depend on the step.
pub record IsRollbackForecast (old : JournalState) (n k : ℕ) (events : ℕ) (steps : List ℕ) : Type 0 where
  pub stands : (0 < k) × (k ≤ count_steps n (journal_events old))
  pub number : events + length (events_after_rewind (journal_events_with_looks old) n k) ≡ length (journal_events old)
  pub each : (m : ℕ)
      → slice_index steps m + count_steps m (events_of_causes (events_after_rewind (journal_events_with_looks old) n k)) ≡ count_steps m (journal_events old)

-- The work of a rollback, whatever the rest of the history is: at most four searches in vain for each entry that it removed,
-- and none if no entry was a look; besides them at least two ticks for each removed entry and two more, and at most four for
-- each and one for each look among them.
pub record HasBoundedRollbackWork (old new : JournalState) : Type 0 where
  pub gone : ℕ
  pub looks_gone : ℕ
  pub vain : ℕ
  pub entries_left : count_entries new + gone ≡ count_entries old
  pub looks_left : count_all_look_entries new.histories + looks_gone ≡ count_all_look_entries old.histories
  pub among : looks_gone ≤ gone
  pub apart : new.ticks.vain ≡ old.ticks.vain + vain
  pub few : vain ≤ 4 * gone
  pub blind : count_all_look_entries old.histories ≡ 0 → vain ≡ 0
  pub least : old.ticks.count + 2 * gone + 2 + vain ≤ new.ticks.count
  pub most : new.ticks.count ≤ old.ticks.count + 4 * gone + looks_gone + vain
