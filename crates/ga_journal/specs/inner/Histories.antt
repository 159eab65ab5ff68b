-- Histories as they are stored, with room to grow, and how their stamps rise.
use Rattle.std.specs.Prelude.{◌≡◌, ℕ, ◌+◌, ◌≤◌, List, [], ◌∷◌, ◌++◌, length, take, Some, slice_index, slice_set, ◌-◌, drop, zero, suc, ◌<◌, Bool, true, false, slice_index_or, map, ◌^◌}
use Rattle.ga_event.specs.declared.event.Event.{Event}
use Rattle.ga_event.specs.declared.event.EventWithLook.{EventWithLook}
use Rattle.ga_event.specs.Undo.{outcome_of_effect, event_with_look_from_effect, chip_after_undo}
use Rattle.ga_journal.specs.declared.entry.Head.{Head}
use Rattle.ga_event.specs.declared.made.MadeEvent.{MadeEvent}
use Rattle.ga_journal.specs.Histories.{EntryRecord, history, JournalState, new_entry_record, ReservedCapacity, no_capacity}
use Rattle.ga_event.specs.Told.{made_event_after}
use Rattle.ga_journal.specs.Logs.{StampedEvent, AreHistoriesOfLog}
use Rattle.ga_journal.specs.Looks.{IsNewestLookBeforeMark, HasNoLookEntry}
use Rattle.ga_node.specs.Record.{NodeState}
use Rattle.ga_event.specs.declared.event.Effect.{Effect}
use Rattle.ga_journal.specs.Popped.{IsNewestLogEvent}
use Rattle.ga_journal.specs.declared.entry.Taken.{Taken}
use Rattle.ga_journal.specs.Events.{kept_events_before_stamp}
use Rattle.ga_journal.specs.Marks.{AreEntriesToRemoveInRange, ArePassEntriesPaired}

-- ---- histories cut to their first entries, and walking back over the log without taking anything out

-- each history cut to its first entries, as many as its number in the list
abbrev pub cut : List (List EntryRecord) → List ℕ → List (List EntryRecord)
cut [] ns = []
cut (h ∷ hs) [] = h ∷ cut hs []
cut (h ∷ hs) (n ∷ ns) = take n h ∷ cut hs ns

-- no history is shorter than its cut
abbrev pub AreCutsWithinHistories : List (List EntryRecord) → List ℕ → Type 0
AreCutsWithinHistories hs lengths = (n : ℕ) → slice_index lengths n ≤ length (history hs n)

-- the cut of node n is one entry less, and the entry that is cut off has this head
pub record IsCutOneEntryShorter (hs : List (List EntryRecord)) (lengths : List ℕ) (n : ℕ) (fewer : List ℕ) (head : Head) : Type 0 where
  pub entry : EntryRecord
  pub stamp : entry.stamp ≡ head.stamp
  pub act : entry.act ≡ head.act
  pub last : history (cut hs lengths) n ≡ history (cut hs fewer) n ++ entry ∷ []
  pub others : cut hs fewer ≡ slice_set (cut hs lengths) n (history (cut hs fewer) n)
  pub fits : AreCutsWithinHistories hs fewer
  pub count : slice_index fewer n ≡ length (history (cut hs fewer) n)
  pub less : slice_index fewer n + 1 ≡ slice_index lengths n
  pub size : length fewer ≡ length lengths

-- the events of a log, the oldest first, each with whether it looked
abbrev pub events_with_looks_oldest_first : List StampedEvent → List EventWithLook
events_with_looks_oldest_first [] = []
events_with_looks_oldest_first (x ∷ older) = events_with_looks_oldest_first older ++ event_with_look_from_effect x.event x.effect ∷ []

-- the events of a log, the oldest first
abbrev pub events_oldest_first : List StampedEvent → List Event
events_oldest_first [] = []
events_oldest_first (x ∷ older) = events_oldest_first older ++ x.event ∷ []

-- the histories, cut to these lengths, are those of these events
pub record AreCutHistoriesOfLog (hs : List (List EntryRecord)) (lengths : List ℕ) (top : ℕ) (log : List StampedEvent) : Type 0 where
  pub fits : AreCutsWithinHistories hs lengths
  pub records : AreHistoriesOfLog log (cut hs lengths) top

-- the event is the first of the log, with whether it looked and its outcome
abbrev pub IsNewestLogEventAsMade : List StampedEvent → EventWithLook → MadeEvent → Type 0
IsNewestLogEventAsMade [] cause told = ⊥
IsNewestLogEventAsMade (x ∷ older) cause told =
    (event_with_look_from_effect x.event x.effect ≡ cause) × (made_event_after (events_oldest_first older) x.event (outcome_of_effect x.effect) ≡ Some told)

-- the histories, cut to these lengths, are those of the events of a log but for the first
abbrev pub AreCutHistoriesOfOlderEvents : List (List EntryRecord) → List ℕ → ℕ → List StampedEvent → Type 0
AreCutHistoriesOfOlderEvents hs lengths top [] = ⊥
AreCutHistoriesOfOlderEvents hs lengths top (x ∷ older) = AreCutHistoriesOfLog hs lengths top older

-- ---- the state of a reading of the history from the newest event back

-- the first entries, as many of each node as `lengths` has, are those of the events that are not read yet
pub record AreUnreadEntries (book : JournalState) (lengths : List ℕ) (top place : ℕ) : Type 0 where
  pub log : List StampedEvent
  pub records : AreHistoriesOfLog log book.histories book.made
  pub within : place ≤ length log
  pub walks : AreCutHistoriesOfLog book.histories lengths top (drop (length log - place) log)
  pub size : length lengths ≡ 144

-- ---- the events of a log, as made, at places of their list, in which the oldest is at place 0

abbrev pub IsMadeEventAtPlace : List StampedEvent → ℕ → MadeEvent → Type 0
IsMadeEventAtPlace log place told = (cause : EventWithLook) × IsNewestLogEventAsMade (drop (length log - place - 1) log) cause told

-- each of these is the event at its place
abbrev pub AreMadeEventsAtPlaces : List StampedEvent → List ℕ → List MadeEvent → Type 0
AreMadeEventsAtPlaces log [] [] = Unit {0}
AreMadeEventsAtPlaces log [] (told ∷ more) = ⊥
AreMadeEventsAtPlaces log (place ∷ places) [] = ⊥
AreMadeEventsAtPlaces log (place ∷ places) (told ∷ more) = IsMadeEventAtPlace log place told × AreMadeEventsAtPlaces log places more

-- ---- one past the newest look, as a history stores it

-- one past the position of the newest look among the first `mark` entries, or 0 if none is a look
abbrev pub IsPastNewestLook : List EntryRecord → ℕ → ℕ → Type 0
IsPastNewestLook entries mark zero = HasNoLookEntry entries mark
IsPastNewestLook entries mark (suc at) = IsNewestLookBeforeMark entries mark at

-- ---- the range of the pending nodes

-- each set flag is from the first place on and below the end
pub record AreSetFlagsInWindow (flags : List Bool) (first past : ℕ) : Type 0 where
  pub size : length flags ≡ 144
  pub fits : past ≤ 144
  pub from_first : (n : ℕ) → slice_index_or flags n false ≡ true → first ≤ n
  pub below_past : (n : ℕ) → slice_index_or flags n false ≡ true → n < past

-- ---- the newest event taken out, by the histories alone

-- the event is the newest of whatever log the histories are of, it was undone on the chip, and the remaining histories are
-- those of the others
pub record IsNewestEventUndoneInHistories
    (hs : List (List EntryRecord)) (chip : List NodeState) (e : Event) (left : List (List EntryRecord)) (now : List NodeState)
    : Type 0 where
  pub effect : Effect
  pub newest : (log : List StampedEvent) (made : ℕ) → AreHistoriesOfLog log hs made → IsNewestLogEvent log e effect left
  pub chip_is : now ≡ chip_after_undo chip e effect

-- what an entry that was taken out kept
abbrev pub entry_record_of_taken : Taken → EntryRecord
entry_record_of_taken e = new_entry_record e.stamp e.act e.saved

-- the history of one node
pub record HeldNodeHistory : Type 0 where
  pub items : List EntryRecord
  pub room : ReservedCapacity

abbrev pub entry_records_of_held : HeldNodeHistory → List EntryRecord
entry_records_of_held h = h.items

abbrev pub capacity_of_history : HeldNodeHistory → ReservedCapacity
capacity_of_history h = h.room

-- the history at a number, in the list of the histories
abbrev pub held_history_of_node : List HeldNodeHistory → ℕ → HeldNodeHistory
held_history_of_node hs n = slice_index_or hs n (record { items = []; room = no_capacity })

-- the list of the histories with one of them changed
abbrev pub with_changed_history : List HeldNodeHistory → ℕ → HeldNodeHistory → List HeldNodeHistory
with_changed_history hs n h = slice_set hs n h

-- the entries of the histories, and their room
abbrev pub entry_lists_of_histories : List HeldNodeHistory → List (List EntryRecord)
entry_lists_of_histories hs = map entry_records_of_held hs

abbrev pub capacities_of_histories : List HeldNodeHistory → List ReservedCapacity
capacities_of_histories hs = map capacity_of_history hs

-- a history's stamps rise, from `low` on and below `high`
abbrev pub HasRisingStamps : ℕ → List EntryRecord → ℕ → Type 0
HasRisingStamps low [] high = low ≤ high
HasRisingStamps low (e ∷ es) high = (low ≤ e.stamp) × HasRisingStamps (e.stamp + 1) es high

abbrev pub HaveRisingStamps : List (List EntryRecord) → ℕ → Type 0
HaveRisingStamps hs high = (n : ℕ) → HasRisingStamps 0 (history hs n) high

-- the least number above a history's stamps
abbrev pub stamp_bound_or_default : ℕ → List EntryRecord → ℕ
stamp_bound_or_default low [] = low
stamp_bound_or_default low (e ∷ es) = stamp_bound_or_default (e.stamp + 1) es

abbrev pub stamp_bound_of_history : List EntryRecord → ℕ
stamp_bound_of_history h = stamp_bound_or_default 0 h

-- ---- the node whose last entry is the newest of all

-- no node's stamps go past those of node n
abbrev pub IsNodeWithLatestStamp : List (List EntryRecord) → ℕ → Type 0
IsNodeWithLatestStamp hs n = (m : ℕ) → stamp_bound_of_history (history hs m) ≤ stamp_bound_of_history (history hs n)

-- the node has an entry, and no stamp of another is above all of its own
pub record IsNodeOfNewestEntry (hs : List (List EntryRecord)) (n : ℕ) : Type 0 where
  pub some : 0 < stamp_bound_of_history (history hs n)
  pub greatest : IsNodeWithLatestStamp hs n

-- ---- what each journal keeps at every moment, in a rollback too

-- There is a history for each node, its stamps rise below the top, and `kept` events have an entry left.
pub record AreStoredHistoriesSound (histories : List HeldNodeHistory) (top made kept limit : ℕ) : Type 0 where
  pub size : length histories ≡ 144
  pub rise : HaveRisingStamps (entry_lists_of_histories histories) top
  pub below : top ≤ made
  pub count : kept ≡ length (kept_events_before_stamp (entry_lists_of_histories histories) made)
  pub within : kept ≤ limit
  pub fits : limit < 2 ^ 32

-- `AreStoredHistoriesSound` holds; no more entries are to be removed than there are, and the entries of passes name each other.
pub record IsJournal
    (histories : List HeldNodeHistory) (top made kept limit : ℕ) (going : List ℕ) (waiting : List Bool)
    : Type 0 where
  pub keeps : AreStoredHistoriesSound histories top made kept limit
  pub go_within : AreEntriesToRemoveInRange (entry_lists_of_histories histories) going
  pub going_size : length going ≡ 144
  pub waiting_size : length waiting ≡ 144
  pub matched : ArePassEntriesPaired (entry_lists_of_histories histories)
