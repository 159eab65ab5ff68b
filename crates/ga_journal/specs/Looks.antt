-- Looks that observed what is to be removed: an own event that looked observed of each neighbour exactly the entries with
-- stamps below its own.
use Rattle.std.specs.Prelude.{◌≡◌, ℕ, ◌<◌, ◌≤◌, true, false, List, length, Some, slice_get}
use Rattle.ga_journal.specs.Histories.{EntryRecord, JournalState, history}
use Rattle.ga_journal.specs.Events.{entry_role_has_looked}
use Rattle.ga_journal.specs.Marks.{mark_of_node, journal_with_failed_search}

-- the newest look among the first `mark` entries of a history
pub record IsNewestLookBeforeMark (entries : List EntryRecord) (mark at : ℕ) : Type 0 where
  pub entry : EntryRecord
  pub below : at < mark
  pub found : slice_get entries at ≡ Some entry
  pub looked : entry_role_has_looked entry.act ≡ true
  pub newest : (p : ℕ) (e : EntryRecord) → at < p → p < mark → slice_get entries p ≡ Some e → entry_role_has_looked e.act ≡ false

-- none of the first `mark` entries of a history is a look
abbrev pub HasNoLookEntry : List EntryRecord → ℕ → Type 0
HasNoLookEntry entries mark = (p : ℕ) (e : EntryRecord) → p < mark → slice_get entries p ≡ Some e → entry_role_has_looked e.act ≡ false

-- some entry of a history is a look
abbrev pub HasLookEntry : List EntryRecord → Type 0
HasLookEntry entries = (p : ℕ) × (e : EntryRecord) × (slice_get entries p ≡ Some e) × (entry_role_has_looked e.act ≡ true)

-- the newest look among the first entries of a history came after the entry at a position of another history
pub record IsLookAfterEntry (entries : List EntryRecord) (mark : ℕ) (others : List EntryRecord) (place at : ℕ) : Type 0 where
  pub look : IsNewestLookBeforeMark entries mark at
  pub gone : EntryRecord
  pub first : slice_get others place ≡ Some gone
  pub after : gone.stamp < look.entry.stamp

-- no look among the first entries of a history came after the entry at a position of another history
abbrev pub HasNoLaterLook : List EntryRecord → ℕ → List EntryRecord → ℕ → Type 0
HasNoLaterLook entries mark others place =
    (p : ℕ) (e f : EntryRecord) → p < mark → slice_get entries p ≡ Some e → entry_role_has_looked e.act ≡ true
    → slice_get others place ≡ Some f → e.stamp ≤ f.stamp

-- the newest look of the looker that is to stay so far came after an entry of the node that is to go
abbrev pub IsLookToRemove : JournalState → ℕ → ℕ → ℕ → Type 0
IsLookToRemove book node looker at =
    IsLookAfterEntry (history book.histories looker) (mark_of_node book looker) (history book.histories node) (mark_of_node book node) at

-- no look of the looker that is to stay so far came after an entry of the node that is to go
abbrev pub HasNoLookToRemove : JournalState → ℕ → ℕ → Type 0
HasNoLookToRemove book node looker =
    HasNoLaterLook (history book.histories looker) (mark_of_node book looker) (history book.histories node) (mark_of_node book node)

-- looking in vain for a look of the looker reads entries, and so is a tick, where the looker has a look at all
pub data IsFailedLookSearch (old : JournalState) (looker : ℕ) (new : JournalState) : Type 0 where
  Never : HasNoLookEntry (history old.histories looker) (length (history old.histories looker)) → new ≡ old → IsFailedLookSearch old looker new
  Once : HasLookEntry (history old.histories looker) → new ≡ journal_with_failed_search old → IsFailedLookSearch old looker new
