-- The marks of a node's neighbours, as they are lowered from look to look.
use Rattle.std.proofs.Common.{◌≡◌, ◌≢◌, ℕ, ◌+◌, ◌*◌, ◌<◌, ◌≤◌, true, List, get_or, Some, refl, sym, ◌∙◌, ap, subst, arith, ⊎_elim}
use Rattle.std.proofs.lemmas.Bool.{cases_eq}
use Rattle.std.proofs.lemmas.Option.{same_Some}
use Rattle.ga_ports.specs.declared.side.Side.{Side}
use Rattle.ga_ports.specs.declared.side.Side.TheVariants.{Right, Down, Left, Up}
use Rattle.ga_grid.specs.Grid.{neighbour_number}
use Rattle.ga_grid.proofs.NodeIds.{neighbour_number-other}
use Rattle.ga_journal.specs.Histories.{work_with_tick, work_with_failed_search, EntryRecord, JournalState}
use Rattle.ga_journal.specs.Events.{entry_role_has_looked}
use Rattle.ga_journal.specs.Marks.{entry_at_position, mark_of_node, entries_to_remove, count_entries, journal_with_tick, journal_with_failed_search, journal_with_lowered_mark, HasValidMarks}
use Rattle.ga_journal.specs.inner.Marks.{to_go}
use Rattle.ga_journal.specs.Looks.{IsLookToRemove, HasNoLookToRemove, IsFailedLookSearch, Never, Once}
use Rattle.ga_rollback.specs.inner.{stamp_of_journal_entry, IsEntryToRemove, Saw, AreNeighbourMarksLowered, Same, Further, Vain, AreMarksLoweredWithinSearches, AreMarksWhileLowered, IsUnseenByLooks, IsVisitedUnlessPending}
use Rattle.ga_rollback.proofs.Lowering.{lowered_sound, lowered_other, lowered_go, lowered_line, line_grows, one_lowered, sound_with, marked_with, saw_lowered}
use Rattle.ga_rollback.proofs.Marking.{go_under, marking_fewer, marking_vain, marking_lowered, done_lowered}

-- what such marks leave as it was
pub record AreAfter (old : JournalState) (node vain : ℕ) (new : JournalState) : Type 0 where
  pub sound : HasValidMarks new
  pub rise : old.ticks.count ≤ new.ticks.count
  pub bound : new.ticks.count + 2 * to_go old ≤ old.ticks.count + 2 * to_go new + vain
  pub size : count_entries new ≡ count_entries old
  pub going : entries_to_remove new node ≡ entries_to_remove old node

further : (old : JournalState) (node vain : ℕ) (book : JournalState) (m p : ℕ) → AreAfter old node vain book → p < mark_of_node book m → node ≢ m → AreAfter old node vain (journal_with_lowered_mark (journal_with_tick book) m p)
further old node vain book m p after below apart = record {
  sound = lowered_sound (journal_with_tick book) m p (sound_with book (work_with_tick book.ticks) after.sound) below;
  rise = let a = after.rise in omega arith;
  bound = let a = after.bound in let b = lowered_go book m p after.sound below in omega arith;
  size = after.size;
  going = (lowered_other book m p node apart).0 ∙ after.going;
}

one_vain : (old : JournalState) (node before : ℕ) (book : JournalState) → AreAfter old node before book → AreAfter old node (before + 1) (journal_with_failed_search book)
one_vain old node before book after = record {
  sound = sound_with book (work_with_failed_search book.ticks) after.sound;
  rise = let a = after.rise in omega arith;
  bound = let a = after.bound in omega arith;
  size = after.size;
  going = after.going;
}

pub after_lowered : (old : JournalState) (node vain : ℕ) (new : JournalState) → HasValidMarks old → AreNeighbourMarksLowered old node vain new → AreAfter old node vain new
after_lowered old node vain new sound (Same none same) =
    subst (λ z. AreAfter old node vain z) (sym same) (record { sound = sound; rise = omega arith; bound = omega arith; size = refl; going = refl })
after_lowered old node vain new sound (Further book m p side chain beside look same) =
    subst (λ z. AreAfter old node vain z) (sym same)
    (further old node vain book m p (after_lowered old node vain book sound chain) look.look.below (neighbour_number-other m node side beside))
after_lowered old node vain new sound (Vain book before m chain look more same) =
    subst (λ z. AreAfter old node vain z) (sym same)
    (subst (λ z. AreAfter old node z (journal_with_failed_search book)) (sym more) (one_vain old node before book (after_lowered old node before book sound chain)))

-- one after the other
then_chain : (old : JournalState) (node first : ℕ) (mid : JournalState) (then all : ℕ) (new : JournalState) → AreNeighbourMarksLowered old node first mid → AreNeighbourMarksLowered mid node then new → all ≡ first + then → AreNeighbourMarksLowered old node all new
then_chain old node first mid then all new chain (Same none same) sum =
    subst (λ z. AreNeighbourMarksLowered old node all z) (sym same) (subst (λ z. AreNeighbourMarksLowered old node z mid) (let q : first ≡ all = omega arith in q) chain)
then_chain old node first mid then all new chain (Further book m p side more beside look same) sum =
    Further book m p side (then_chain old node first mid then all book chain more sum) beside look same
then_chain old node first mid then all new chain (Vain book before m more look one same) sum =
    Vain book (first + before) m (then_chain old node first mid before (first + before) book chain more refl) look (omega arith) same

pub then_lowered : (first : ℕ) (old : JournalState) (node : ℕ) (mid new : JournalState) → AreMarksLoweredWithinSearches first old node mid → AreMarksLoweredWithinSearches 1 mid node new → AreMarksLoweredWithinSearches (first + 1) old node new
then_lowered first old node mid new a b = record {
  vain = a.vain + b.vain;
  few = let x = a.few in let y = b.few in omega arith;
  chain = then_chain old node a.vain mid b.vain (a.vain + b.vain) new a.chain b.chain refl;
}

-- a last search
pub searched : (old : JournalState) (node looker : ℕ) (book new : JournalState) → AreNeighbourMarksLowered old node 0 book → IsFailedLookSearch book looker new → AreMarksLoweredWithinSearches 1 old node new
searched old node looker book new chain (Never none same) = record { vain = 0; few = omega arith; chain = subst (λ z. AreNeighbourMarksLowered old node 0 z) (sym same) chain }
searched old node looker book new chain (Once look same) = record { vain = 1; few = omega arith; chain = Vain book 0 looker chain look refl same }

pub still_saw : (looker : ℕ) (book new : JournalState) (node m : ℕ) → IsFailedLookSearch book looker new → HasNoLookToRemove book node m → HasNoLookToRemove new node m
still_saw looker book new node m (Never none same) saw = subst (λ z. HasNoLookToRemove z node m) (sym same) saw
still_saw looker book new node m (Once look same) saw = subst (λ z. HasNoLookToRemove z node m) (sym same) saw

-- what saw nothing still did
saw_chain : (old : JournalState) (node vain : ℕ) (new : JournalState) (m : ℕ) → HasValidMarks old → AreNeighbourMarksLowered old node vain new → HasNoLookToRemove old node m → HasNoLookToRemove new node m
saw_chain old node vain new m sound (Same none same) saw = subst (λ z. HasNoLookToRemove z node m) (sym same) saw
saw_chain old node vain new m sound (Further book j p side chain beside look same) saw =
    subst (λ z. HasNoLookToRemove z node m) (sym same)
    (saw_lowered book j p node m ((after_lowered old node vain book sound chain).sound) look.look.below (neighbour_number-other j node side beside) (saw_chain old node vain book m sound chain saw))
saw_chain old node vain new m sound (Vain book before j chain look more same) saw = subst (λ z. HasNoLookToRemove z node m) (sym same) (saw_chain old node before book m sound chain saw)

pub saw_after : (most : ℕ) (old : JournalState) (node : ℕ) (new : JournalState) (m : ℕ) → HasValidMarks old → AreMarksLoweredWithinSearches most old node new → HasNoLookToRemove old node m → HasNoLookToRemove new node m
saw_after most old node new m sound by saw = saw_chain old node by.vain new m sound by.chain saw

-- the neighbours on all sides
pub all_sides : (book : JournalState) (node : ℕ) → ((m : ℕ) → neighbour_number node Right ≡ Some m → HasNoLookToRemove book node m) → ((m : ℕ) → neighbour_number node Down ≡ Some m → HasNoLookToRemove book node m)
    → ((m : ℕ) → neighbour_number node Left ≡ Some m → HasNoLookToRemove book node m) → ((m : ℕ) → neighbour_number node Up ≡ Some m → HasNoLookToRemove book node m) → IsUnseenByLooks book node
all_sides book node right down left up m Right beside = right m beside
all_sides book node right down left up m Down beside = down m beside
all_sides book node right down left up m Left beside = left m beside
all_sides book node right down left up m Up beside = up m beside

-- a look that is to go
due_look : (book : JournalState) (s node m p : ℕ) (side : Side) (f : EntryRecord) → neighbour_number m side ≡ Some node → IsLookToRemove book node m p → entry_at_position book.histories m p ≡ Some f → IsEntryToRemove (journal_with_lowered_mark book m p) s m p f
due_look book s node m p side f beside look found =
    let same : look.look.entry ≡ f = same_Some look.look.entry f (sym look.look.found ∙ found) in
    let mark = (lowered_other book m p node (neighbour_number-other m node side beside)).1 in
    Saw node (mark_of_node book node) side look.gone (subst (λ (z : EntryRecord). entry_role_has_looked z.act ≡ true) same look.look.looked) beside look.first (omega arith)
    (subst (λ (z : EntryRecord). look.gone.stamp < z.stamp) same look.after)

look_found : (first : JournalState) (n k : ℕ) (book : JournalState) (visited : List ℕ) (more node m p : ℕ) (side : Side) → AreMarksWhileLowered first n k book visited more → neighbour_number m side ≡ Some node → IsLookToRemove book node m p
    → AreMarksWhileLowered first n k (journal_with_lowered_mark (journal_with_tick book) m p) visited more
look_found first n k book visited more node m p side marking beside look =
    let sound : HasValidMarks book = marking.marked_nodes.sound in
    let low : p < mark_of_node book m = look.look.below in
    let next : AreMarksWhileLowered first n k (journal_with_lowered_mark book m p) visited more =
    marking_lowered first n k book visited more m p marking low (λ f found. due_look book (stamp_of_journal_entry book n k) node m p side f beside look found) in
    let line = lowered_line book m p sound low in
    let grows = line_grows book m p sound low in
    let go = lowered_go book m p sound low in
    record {
      marked_nodes = marked_with (journal_with_lowered_mark book m p) (work_with_tick (work_with_tick book.ticks)) visited n k next.marked_nodes;
      others = ap (λ (b : JournalState). record b { ticks = work_with_tick (work_with_tick book.ticks) }) next.others;
      size = next.size;
      fits = next.fits;
      found = marking.found + 1;
      vain = marking.vain;
      apart = marking.apart;
      looks = let a = marking.looks in let b = one_lowered book m p look.look.entry sound low look.look.found look.look.looked in omega arith;
      searches = let a = marking.searches in omega arith;
      blind = marking.blind;
      least = let a = marking.least in omega arith;
      bound = let a = marking.bound in omega arith;
    }

marking_chain : (first : JournalState) (n k : ℕ) (old : JournalState) (visited : List ℕ) (node more all vain : ℕ) (new : JournalState) → all ≡ more + vain → AreMarksWhileLowered first n k old visited all → AreNeighbourMarksLowered old node vain new → AreMarksWhileLowered first n k new visited more
marking_chain first n k old visited node more all vain new sum marking (Same none same) =
    subst (λ z. AreMarksWhileLowered first n k z visited more) (sym same) (marking_fewer first n k old visited all more (omega arith) marking)
marking_chain first n k old visited node more all vain new sum marking (Further book m p side chain beside look same) =
    subst (λ z. AreMarksWhileLowered first n k z visited more) (sym same)
    (look_found first n k book visited more node m p side (marking_chain first n k old visited node more all vain book sum marking chain) beside look)
marking_chain first n k old visited node more all vain new sum marking (Vain book before m chain look one same) =
    subst (λ z. AreMarksWhileLowered first n k z visited more) (sym same)
    (marking_vain first n k book visited more m (marking_chain first n k old visited node (more + 1) all before book (omega arith) marking chain) look)

pub marking_after : (first : JournalState) (n k : ℕ) (old : JournalState) (visited : List ℕ) (node : ℕ) (new : JournalState) → AreMarksWhileLowered first n k old visited 4 → AreMarksLoweredWithinSearches 4 old node new → AreMarksWhileLowered first n k new visited 0
marking_after first n k old visited node new marking by =
    marking_chain first n k old visited node 0 by.vain by.vain new (omega arith) (marking_fewer first n k old visited 4 by.vain by.few marking) by.chain

-- the nodes that do not wait are done
still_done : (old : JournalState) (node vain : ℕ) (new : JournalState) (visited : List ℕ) (x : ℕ) → HasValidMarks old → AreNeighbourMarksLowered old node vain new → IsVisitedUnlessPending old visited x → IsVisitedUnlessPending new visited x
still_done old node vain new visited x sound (Same none same) done = subst (λ z. IsVisitedUnlessPending z visited x) (sym same) done
still_done old node vain new visited x sound (Further book m p side chain beside look same) done =
    subst (λ z. IsVisitedUnlessPending z visited x) (sym same)
    (done_lowered book visited m p x ((after_lowered old node vain book sound chain).sound) look.look.below (still_done old node vain book visited x sound chain done))
still_done old node vain new visited x sound (Vain book before m chain look one same) done = subst (λ z. IsVisitedUnlessPending z visited x) (sym same) (still_done old node before book visited x sound chain done)

pub all_done : (most : ℕ) (old : JournalState) (node : ℕ) (new : JournalState) (visited : List ℕ) → HasValidMarks old → AreMarksLoweredWithinSearches most old node new → entries_to_remove old node ≤ get_or visited node 0 → IsUnseenByLooks new node → ((x : ℕ) → x ≢ node → IsVisitedUnlessPending old visited x)
    → (x : ℕ) → IsVisitedUnlessPending new visited x
all_done most old node new visited sound by all unseen done x = ⊎_elim
    (λ same. subst (λ z. IsVisitedUnlessPending new visited z) (sym same) (λ idle. ((let a = (after_lowered old node by.vain new sound by.chain).going in omega arith), unseen)))
    (λ ne. still_done old node by.vain new visited x sound by.chain (done x ne))
    (cases_eq x node)

-- and the ticks fit, for more of them too
pub rise_after : (most : ℕ) (old : JournalState) (node : ℕ) (new : JournalState) → HasValidMarks old → AreMarksLoweredWithinSearches most old node new → old.ticks.count ≤ new.ticks.count
rise_after most old node new sound by = (after_lowered old node by.vain new sound by.chain).rise

pub sound_after : (most : ℕ) (old : JournalState) (node : ℕ) (new : JournalState) → HasValidMarks old → AreMarksLoweredWithinSearches most old node new → HasValidMarks new
sound_after most old node new sound by = (after_lowered old node by.vain new sound by.chain).sound

pub room_after : (most slack : ℕ) (old : JournalState) (node : ℕ) (new : JournalState) (room : ℕ) → HasValidMarks old → AreMarksLoweredWithinSearches most old node new → old.ticks.count + 2 * count_entries old + (slack + most) < room + 2 * to_go old → new.ticks.count + 2 * count_entries new + slack < room + 2 * to_go new
room_after most slack old node new room sound by fits =
    let after = after_lowered old node by.vain new sound by.chain in let a = after.bound in let b = after.size in let c = by.few in omega arith

pub ticks_fit : (old : JournalState) (node : ℕ) (new : JournalState) → HasValidMarks old → AreNeighbourMarksLowered old node 0 new → new.ticks.count + 2 * to_go old ≤ old.ticks.count + 2 * count_entries old
ticks_fit old node new sound chain =
    let after = after_lowered old node 0 new sound chain in
    let a = after.bound in
    let b = go_under new after.sound in
    let c = after.size in
    omega arith
