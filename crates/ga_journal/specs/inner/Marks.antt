-- Sums over all marks, and whether the other entry of a pass is still there.
use Rattle.ga_event.specs.declared.made.MadeEvent.TheVariants as made
use Rattle.std.specs.Prelude.{ℕ, ◌+◌, ◌≤◌, List, [], ◌∷◌, Bool, false, length, Option, Some, None, nat_lt}
use Rattle.ga_grid.specs.declared.node_id.NodeId.{NodeId}
use Rattle.ga_journal.specs.declared.entry.EntryRole.{EntryRole}
use Rattle.ga_journal.specs.declared.entry.EntryRole.TheVariants.{Own, SentWord, TookWord}
use Rattle.ga_event.specs.declared.made.MadeEvent.{MadeEvent}
use Rattle.ga_journal.specs.Histories.{EntryRecord, JournalState, history}
use Rattle.std.specs.List.{sum_by, count_by}
use Rattle.ga_journal.specs.Marks.{pass_partner_of_entry}

-- ---- the events of a node's entries, read from these alone

-- an entry at a place of a node's history, as the event that was made
abbrev pub made_event_of_entry : NodeId → ℕ → EntryRole → MadeEvent
made_event_of_entry node i (Own deed) = made.Own node (i + 1) deed.kind
made_event_of_entry node i (SentWord to side at word) = made.Pass node (i + 1) to (at + 1) word
made_event_of_entry node i (TookWord from side at word) = made.Pass from (at + 1) node (i + 1) word

abbrev pub made_events_of_entries : NodeId → ℕ → List EntryRecord → List MadeEvent
made_events_of_entries node i [] = []
made_events_of_entries node i (e ∷ es) = made_event_of_entry node i e.act ∷ made_events_of_entries node (i + 1) es

-- the position that a part names, 0 for an own event; in `ArePartnerPositionsAtMost` no position that a history names is above a number
abbrev pub partner_position_of_role : EntryRole → ℕ
partner_position_of_role (Own deed) = 0
partner_position_of_role (SentWord to side at word) = at
partner_position_of_role (TookWord from side at word) = at

abbrev pub ArePartnerPositionsAtMost : ℕ → List EntryRecord → Type 0
ArePartnerPositionsAtMost most [] = Unit {0}
ArePartnerPositionsAtMost most (e ∷ es) = (partner_position_of_role e.act ≤ most) × ArePartnerPositionsAtMost most es

abbrev pub to_go : JournalState → ℕ
to_go book = sum_by (λ (k : ℕ). k) book.going

abbrev pub count_pending_nodes : JournalState → ℕ
count_pending_nodes book = count_by (λ (b : Bool). b) book.waiting

-- whether the other entry of an entry's pass is there
abbrev pub has_entry_at_position : List (List EntryRecord) → Option (ℕ × ℕ) → Bool
has_entry_at_position hs None = false
has_entry_at_position hs (Some x) = nat_lt x.1 (length (history hs x.0))

abbrev pub has_pass_partner : List (List EntryRecord) → EntryRole → Bool
has_pass_partner hs act = has_entry_at_position hs (pass_partner_of_entry act)
