-- What only private contracts and proofs name.
use Rattle.std.specs.Prelude.{◌≡◌, ℕ, ◌+◌, List, ◌∷◌, ◌++◌, length, drop, ◌==◌, nat_lt, Bool, false, ◌&&◌, Option, Some, None, ◌-◌, ◌*◌, ◌<◌, ◌≤◌, true, [], take, slice_index, if◌then◌else◌}
use Rattle.ga_node.specs.Record.{NodeState}
use Rattle.ga_grid.specs.Chip.{node_at}
use Rattle.ga_event.specs.Undo.{CanRestoreNode}
use Rattle.ga_journal.specs.Histories.{EntryRecord, JournalState, history}
use Rattle.ga_journal.specs.Walked.{node_before_entries}
use Rattle.ga_journal.specs.Marks.{mark_of_node, count_entries, pass_partner_of_entry, pass_partner_at_position, entry_at_position, entries_to_remove, is_node_pending, journal_with_tick, journal_with_failed_search, journal_with_lowered_mark, HasValidMarks, entry_counts_event}
use Rattle.ga_journal.specs.inner.Marks.{to_go, count_pending_nodes}
use Rattle.ga_ports.specs.declared.side.Side.{Side}
use Rattle.ga_ports.specs.declared.side.Side.TheVariants.{Right, Down, Left, Up}
use Rattle.ga_grid.specs.Grid.{neighbour_number}
use Rattle.std.specs.List.{sum_by, count_by}
use Rattle.ga_journal.specs.Events.{entry_role_has_looked}
use Rattle.ga_journal.specs.Looks.{HasLookEntry, IsLookToRemove, HasNoLookToRemove}
use Rattle.ga_rollback.specs.Rewound.{count_all_look_entries}

-- ---- the ends of histories, restored

-- what a history lost of its end
abbrev pub removed_entries_of_node : List (List EntryRecord) → List (List EntryRecord) → ℕ → List EntryRecord
removed_entries_of_node hs gs n = drop (length (history gs n)) (history hs n)

-- each node can be walked back over each end of its history
abbrev pub CanWalkNodesBack : List NodeState → List (List EntryRecord) → Type 0
CanWalkNodesBack chip hs =
    (n : ℕ) (front end : List EntryRecord) (e : EntryRecord) → history hs n ≡ front ++ e ∷ end
    → CanRestoreNode (node_before_entries (node_at chip n) end) e.saved

-- some of the entries that are to be removed are removed, and the nodes restored by them; each of them was a tick
pub record AreSomeEntriesRemoved (chip : List NodeState) (first : JournalState) (now : List NodeState) (book : JournalState) : Type 0 where
  pub nodes : length now ≡ length chip
  pub size : length book.histories ≡ length first.histories
  pub ends : (m : ℕ) → history first.histories m ≡ history book.histories m ++ removed_entries_of_node first.histories book.histories m
  pub node_with_restored_values : (m : ℕ) → node_at now m ≡ node_before_entries (node_at chip m) (removed_entries_of_node first.histories book.histories m)
  pub marks : (m : ℕ) → mark_of_node book m ≡ mark_of_node first m
  pub sized : length book.going ≡ 144
  pub others : book ≡ record first { histories = book.histories; ready = book.ready; going = book.going; ticks = book.ticks }
  pub count : book.ticks.count + to_go book ≡ first.ticks.count + to_go first
  pub vain : book.ticks.vain ≡ first.ticks.vain
  pub falls : count_entries book + to_go first ≡ count_entries first + to_go book

-- ---- A table of links

-- the place of the neighbour on this side among the four of a node in the table
abbrev pub table_place_of_side : Side → ℕ
table_place_of_side Right = 0
table_place_of_side Down = 1
table_place_of_side Left = 2
table_place_of_side Up = 3

abbrev pub equals_node_number : ℕ → Option ℕ → Bool
equals_node_number n None = false
equals_node_number n (Some k) = k == n

-- a number of the table is that of the node on this side, whose node on this side is the first one; where there is none it is 144
abbrev pub is_table_link : ℕ → Side → ℕ → Option ℕ → Bool
is_table_link n side number None = number == 144
is_table_link n side number (Some k) = (number == k) && (nat_lt number 144 && equals_node_number n (neighbour_number number side))

-- ---- why an entry is to go, and the marks while they are lowered

-- from where on a node's entries were visited
abbrev pub first_visited_entry : JournalState → List ℕ → ℕ → ℕ
first_visited_entry book visited m = length (history book.histories m) - slice_index visited m

abbrev pub stamp_of_optional_entry : Option EntryRecord → ℕ
stamp_of_optional_entry None = 0
stamp_of_optional_entry (Some e) = e.stamp

-- the stamp of a node's entry at a position
abbrev pub stamp_of_journal_entry : JournalState → ℕ → ℕ → ℕ
stamp_of_journal_entry book n p = stamp_of_optional_entry (entry_at_position book.histories n p)

-- why an entry is to go: it is of the event with stamp s, or an earlier entry is to go, of one of its event's nodes or of a
-- neighbour at which it looked
pub data IsEntryToRemove (book : JournalState) (s m p : ℕ) (e : EntryRecord) : Type 0 where
  Start : e.stamp ≡ s → IsEntryToRemove book s m p e
  Later : mark_of_node book m < p → IsEntryToRemove book s m p e
  Other : (j q : ℕ) → pass_partner_of_entry e.act ≡ Some (j, q) → mark_of_node book j < q → IsEntryToRemove book s m p e
  Saw : (j q : ℕ) (side : Side) (f : EntryRecord) → entry_role_has_looked e.act ≡ true → neighbour_number m side ≡ Some j
      → entry_at_position book.histories j q ≡ Some f → mark_of_node book j ≤ q → f.stamp < e.stamp → IsEntryToRemove book s m p e

-- the marks of a rollback of node n from its entry at k on: each entry to go has a cause, and what an entry that was visited
-- names is to go with it
pub record AreRollbackMarks (book : JournalState) (visited : List ℕ) (n k : ℕ) : Type 0 where
  pub sound : HasValidMarks book
  pub start : mark_of_node book n ≤ k
  pub caused : (m p : ℕ) (e : EntryRecord) → entry_at_position book.histories m p ≡ Some e → mark_of_node book m ≤ p
      → IsEntryToRemove book (stamp_of_journal_entry book n k) m p e
  pub whole : (m p j q : ℕ) → first_visited_entry book visited m ≤ p → pass_partner_at_position book.histories m p ≡ Some (j, q) → mark_of_node book j ≤ q

-- an entry visited: the mark of the node that it names is low enough, or is lowered
pub data IsPassPartnerMarkLowered (old : JournalState) (m p : ℕ) (new : JournalState) : Type 0 where
  Passed : ((j q : ℕ) → pass_partner_at_position old.histories m p ≡ Some (j, q) → mark_of_node old j ≤ q)
      → new ≡ journal_with_tick old → IsPassPartnerMarkLowered old m p new
  Lowered : (j q : ℕ) → pass_partner_at_position old.histories m p ≡ Some (j, q) → q < mark_of_node old j
      → new ≡ journal_with_lowered_mark (journal_with_tick old) j q → IsPassPartnerMarkLowered old m p new

-- no look of a neighbour that is to stay came after an entry of node j that is to go
abbrev pub IsUnseenByLooks : JournalState → ℕ → Type 0
IsUnseenByLooks book j = (m : ℕ) (side : Side) → neighbour_number j side ≡ Some m → HasNoLookToRemove book j m

-- marks of a node's neighbours lowered one after another, each to a look that came after an entry of the node that is to be
-- removed, in two ticks; and `failed_searches` searches that found none, each of a node that has a look, in one tick
pub data AreNeighbourMarksLowered (old : JournalState) (node : ℕ) : ℕ → JournalState → Type 0 where
  Same : {vain : ℕ} {new : JournalState} → vain ≡ 0 → new ≡ old → AreNeighbourMarksLowered old node vain new
  Further : {vain : ℕ} {new : JournalState} (book : JournalState) (m p : ℕ) (side : Side) → AreNeighbourMarksLowered old node vain book
      → neighbour_number m side ≡ Some node → IsLookToRemove book node m p → new ≡ journal_with_lowered_mark (journal_with_tick book) m p
      → AreNeighbourMarksLowered old node vain new
  Vain : {vain : ℕ} {new : JournalState} (book : JournalState) (before m : ℕ) → AreNeighbourMarksLowered old node before book
      → HasLookEntry (history book.histories m) → vain ≡ before + 1 → new ≡ journal_with_failed_search book → AreNeighbourMarksLowered old node vain new

-- marks of a node's neighbours were lowered as in `AreNeighbourMarksLowered`, with at most `most` searches that found none
pub record AreMarksLoweredWithinSearches (most : ℕ) (old : JournalState) (node : ℕ) (new : JournalState) : Type 0 where
  pub vain : ℕ
  pub few : vain ≤ most
  pub chain : AreNeighbourMarksLowered old node vain new

-- the entries that are to stay, where `going` has how many at the end of each history are to be removed
abbrev pub histories_to_stay : List (List EntryRecord) → List ℕ → List (List EntryRecord)
histories_to_stay [] going = []
histories_to_stay (h ∷ hs) [] = h ∷ histories_to_stay hs []
histories_to_stay (h ∷ hs) (k ∷ going) = take (length h - k) h ∷ histories_to_stay hs going

-- the marks while they are lowered: no entry that stays was visited, and each tick was a pending node processed, an entry
-- visited, a search for a look to be removed or a mark lowered; at most four more searches in vain can come for each pending
-- node, and `more` besides
pub record AreMarksWhileLowered (first : JournalState) (n k : ℕ) (book : JournalState) (visited : List ℕ) (more : ℕ) : Type 0 where
  pub marked_nodes : AreRollbackMarks book visited n k
  pub others : book ≡ record first { going = book.going; waiting = book.waiting; ticks = book.ticks }
  pub size : length visited ≡ 144
  pub fits : (m : ℕ) → slice_index visited m ≤ entries_to_remove book m
  pub found : ℕ
  pub vain : ℕ
  pub apart : book.ticks.vain ≡ first.ticks.vain + vain
  pub looks : count_all_look_entries (histories_to_stay book.histories book.going) + found ≤ count_all_look_entries book.histories
  pub searches : vain + 4 * count_pending_nodes book + more ≤ 4 * to_go book
  pub blind : count_all_look_entries book.histories ≡ 0 → vain ≡ 0
  pub least : first.ticks.count + 2 + sum_by (λ (x : ℕ). x) visited + vain ≤ book.ticks.count + count_pending_nodes book
  pub bound : book.ticks.count + count_pending_nodes book ≤ first.ticks.count + 2 * to_go book + sum_by (λ (x : ℕ). x) visited + found + vain

-- where a node does not wait, all its entries to go were visited, and no look that is to stay saw one of them
abbrev pub IsVisitedUnlessPending : JournalState → List ℕ → ℕ → Type 0
IsVisitedUnlessPending book visited m = is_node_pending book m ≡ false → (entries_to_remove book m ≤ slice_index visited m) × IsUnseenByLooks book m

-- ---- marks raised again, entry by entry, and how many events the entries are of

-- how many events are counted by these entries
abbrev pub count_events_of_entries : List EntryRecord → ℕ
count_events_of_entries count_entries = count_by (λ (e : EntryRecord). entry_counts_event e.act) count_entries

abbrev pub count_events_of_histories : List (List EntryRecord) → ℕ
count_events_of_histories hs = sum_by count_events_of_entries hs

-- how many events are counted by the entries that are to stay
abbrev pub count_events_to_keep : JournalState → ℕ
count_events_to_keep book = count_events_of_histories (histories_to_stay book.histories book.going)

-- how many events are counted by one entry
abbrev pub count_events_of_entry : Option Bool → ℕ
count_events_of_entry None = 0
count_events_of_entry (Some b) = if b then 1 else 0

-- some marks were raised, an entry in a tick, and `events` events are counted by these entries
pub record AreSomeMarksRaised (first book : JournalState) (events : ℕ) : Type 0 where
  pub others : book ≡ record first { going = book.going; ticks = book.ticks }
  pub sized : length book.going ≡ 144
  pub tick_counted : book.ticks.count + to_go book ≡ first.ticks.count + to_go first
  pub number : events + count_events_to_keep first ≡ count_events_to_keep book

-- ---- the ticks of lowering the marks, counted

-- How much lowering the marks did, where the entries that are to go are known.
pub record AreLoweringTicksBounded (old new : JournalState) : Type 0 where
  pub found : ℕ
  pub vain : ℕ
  pub apart : new.ticks.vain ≡ old.ticks.vain + vain
  pub looks : count_all_look_entries (histories_to_stay new.histories new.going) + found ≤ count_all_look_entries new.histories
  pub searches : vain ≤ 4 * to_go new
  pub blind : count_all_look_entries new.histories ≡ 0 → vain ≡ 0
  pub least : old.ticks.count + to_go new + 2 + vain ≤ new.ticks.count
  pub most : new.ticks.count ≤ old.ticks.count + 3 * to_go new + found + vain

-- ---- the range of the nodes of which entries were visited

-- each count that is not 0 is from the first place on and below the end
pub record AreNonzeroCountsInWindow (counts : List ℕ) (first past : ℕ) : Type 0 where
  pub size : length counts ≡ 144
  pub fits : past ≤ 144
  pub from_first : (n : ℕ) → 0 < slice_index counts n → first ≤ n
  pub below_past : (n : ℕ) → 0 < slice_index counts n → n < past
