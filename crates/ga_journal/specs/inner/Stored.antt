-- How a history is stored: entries, the passes among them in a list of their own, and the position of the newest look.
use Rattle.std.specs.Prelude.{◌≡◌, ℕ, ◌+◌, ◌<◌, true, false, nat_lt, if◌then◌else◌, List, [], ◌∷◌, ◌++◌, length, map, slice_index_or, Vec, vec_len, vec_capacity}
use Rattle.std.specs.Global.{Global}
use Rattle.ga_ports.specs.declared.side.Side.TheVariants.{Right}
use Rattle.ga_grid.specs.Grid.{node_id}
use Rattle.ga_event.specs.declared.event.OwnEventKindWithLook.{OwnEventKindWithLook}
use Rattle.ga_journal.specs.declared.entry.EntryRole.{EntryRole}
use Rattle.ga_journal.specs.declared.entry.EntryRole.TheVariants.{SentWord, TookWord}
use Rattle.ga_journal.specs.declared.entry.EntryRole.TheVariants as act
use Rattle.ga_journal.specs.declared.entry.Role.{Role}
use Rattle.ga_journal.specs.declared.entry.Role.TheVariants.{Writer, Reader}
use Rattle.ga_journal.specs.declared.entry.Part.{Part}
use Rattle.ga_journal.specs.declared.entry.Part.TheVariants.{Own, Look, Passed}
use Rattle.ga_journal.specs.declared.entry.Pass.{Pass}
use Rattle.ga_journal.specs.declared.entry.Entry.{Entry}
use Rattle.ga_journal.specs.Histories.{EntryRecord, new_entry_record, outcome_of_own_event}
use Rattle.ga_journal.specs.inner.Histories.{HeldNodeHistory}

-- an end of a pass as the part of its node
abbrev pub entry_role_of_pass_end : Role → Pass → EntryRole
entry_role_of_pass_end Writer p = SentWord p.partner p.side p.at p.word
entry_role_of_pass_end Reader p = TookWord p.partner p.side p.at p.word

-- the part of a node in its own event, which looked or didn't
abbrev pub part_of_own_outcome : OwnEventKindWithLook → Part
part_of_own_outcome deed = if deed.look then Look deed.kind else Own deed.kind

-- the pass that is read past the end of a list of passes: no entry names such a place
abbrev pub default_pass : Pass
default_pass = record { partner = node_id 0; side = Right; at = 0; looked = 0; word = 0 }

-- a node's part in an event; if it is an end of a pass, the pass is at this place of a list
abbrev pub entry_role_of_part : List Pass → Part → ℕ → EntryRole
entry_role_of_part passes (Own kind) place = act.Own (outcome_of_own_event kind false)
entry_role_of_part passes (Look kind) place = act.Own (outcome_of_own_event kind true)
entry_role_of_part passes (Passed role) place = entry_role_of_pass_end role (slice_index_or passes place default_pass)

-- an entry with its pass
abbrev pub entry_record_of_entry : List Pass → Entry → EntryRecord
entry_record_of_entry passes e = new_entry_record e.stamp (entry_role_of_part passes e.part e.place) e.saved

-- what a history holds
abbrev pub held_history_of_vecs : Vec Entry Global → Vec Pass Global → HeldNodeHistory
held_history_of_vecs entries passes = record {
  items = map (entry_record_of_entry passes.items) entries.items;
  room = record {
    entry = nat_lt (vec_len entries) (vec_capacity entries);
    pass = nat_lt (vec_len passes) (vec_capacity passes);
  };
}

-- how many passes an entry is of
abbrev pub count_passes_of_part : Part → ℕ
count_passes_of_part (Own kind) = 0
count_passes_of_part (Look kind) = 0
count_passes_of_part (Passed role) = 1

-- the last pass is removed, if the part is an end of one
abbrev pub IsPassOfPartDropped : Part → List Pass → List Pass → Type 0
IsPassOfPartDropped (Own kind) old new = new ≡ old
IsPassOfPartDropped (Look kind) old new = new ≡ old
IsPassOfPartDropped (Passed role) old new = (last : Pass) × (old ≡ new ++ last ∷ [])

-- the entry of a pass names this place, or in `NamesPassBelow` one below it
abbrev pub NamesPassPlace : Part → ℕ → ℕ → Type 0
NamesPassPlace (Own kind) place n = Unit {0}
NamesPassPlace (Look kind) place n = Unit {0}
NamesPassPlace (Passed role) place n = place ≡ n

abbrev pub NamesPassBelow : Part → ℕ → ℕ → Type 0
NamesPassBelow (Own kind) place n = Unit {0}
NamesPassBelow (Look kind) place n = Unit {0}
NamesPassBelow (Passed role) place n = place < n

-- the entries of passes name the places from n to m, each once and in order
abbrev pub ArePassPlacesNamedInOrder : ℕ → List Entry → ℕ → Type 0
ArePassPlacesNamedInOrder n [] m = n ≡ m
ArePassPlacesNamedInOrder n (e ∷ es) m = NamesPassPlace e.part e.place n × ArePassPlacesNamedInOrder (n + count_passes_of_part e.part) es m

-- one past the newest look before an entry, as it is stored with it: in the entry itself, or with its pass
abbrev pub newest_look_end_before : List Pass → Part → ℕ → ℕ
newest_look_end_before passes (Own kind) place = place
newest_look_end_before passes (Look kind) place = place
newest_look_end_before passes (Passed role) place = (slice_index_or passes place default_pass).looked

-- one past the newest look, after the entry at a position
abbrev pub newest_look_end_after : ℕ → ℕ → Part → ℕ
newest_look_end_after n at (Own kind) = n
newest_look_end_after n at (Look kind) = at + 1
newest_look_end_after n at (Passed role) = n

-- entries from a position on keep one past the newest look before them, which is n at first and m at last
abbrev pub StoresNewestLookPositions : List Pass → ℕ → ℕ → List Entry → ℕ → Type 0
StoresNewestLookPositions passes at n [] m = n ≡ m
StoresNewestLookPositions passes at n (e ∷ es) m =
    (newest_look_end_before passes e.part e.place ≡ n) × StoresNewestLookPositions passes (at + 1) (newest_look_end_after n at e.part) es m

-- what holds of a stored history
pub record IsStoredNodeHistory (entries : List Entry) (passes : List Pass) (looked : ℕ) : Type 0 where
  pub numbered : ArePassPlacesNamedInOrder 0 entries (length passes)
  pub looks : StoresNewestLookPositions passes 0 0 entries looked
