-- An event that doesn't look is the same whatever its neighbours wait for, and one that looks is not.
use Rattle.std.proofs.Common.{◌≡◌, ◌≢◌, ◌∙◌, ◌∷◌, ◌/◌, ℕ, Bool, true, false, List, slice_index, length, refl, sym, ap, arith, get_or-take}
use Rattle.std.proofs.lemmas.Bool.{both_ways}
use Rattle.ga_slots.specs.Codes.{code_of_opcode}
use Rattle.ga_slots.specs.declared.op.Op.{Op}
use Rattle.ga_slots.specs.declared.op.Op.TheVariants as op
use Rattle.ga_stacks.specs.Ring.{words_after_push}
use Rattle.ga_ports.specs.Address.{address_target}
use Rattle.ga_ports.specs.declared.address.AddressTarget.{AddressTarget}
use Rattle.ga_ports.specs.declared.address.AddressTarget.TheVariants.{Ram, Rom, Io, Ports, Bad}
use Rattle.ga_node.specs.declared.wait.ReadKind.{ReadKind}
use Rattle.ga_node.specs.declared.wait.ReadKind.TheVariants.{Instruction, Stack}
use Rattle.ga_node.specs.declared.seen.SeenNeighbours.{SeenNeighbours}
use Rattle.ga_node.specs.declared.due.NextAction.{NextAction}
use Rattle.ga_node.specs.declared.due.NextAction.TheVariants as due
use Rattle.ga_node.specs.declared.kind.OwnEventKind.{OwnEventKind}
use Rattle.ga_node.specs.declared.kind.OwnEventKind.TheVariants as kind
use Rattle.ga_node.specs.Io.{io_word}
use Rattle.ga_node.specs.Record.{NodeRecord, HasValidListSizes}
use Rattle.ga_node.specs.Changes.{NodeChange, node_after_changes}
use Rattle.ga_node.specs.Table.{AddressAccess, Plain, Reads, Writes, own_event_after_access, target_read_result, access_with_following_changes, changes_or_event_of_access, opcode_effect, fetch_access, access_reads_io, opcode_reads_io, next_action_of_node, event_kind_and_changes_of_action, own_event, own, is_io_target, is_look_action, reads_io_next}

found_blind : (target : AddressTarget) (reader : ReadKind) (seen other : SeenNeighbours) (n : NodeRecord) → is_io_target target ≡ false → target_read_result target reader seen n ≡ target_read_result target reader other n
unfolding target_read_result
found_blind (Ram k) reader seen other n blind = refl
found_blind (Rom k) reader seen other n blind = refl
found_blind Io reader seen other n blind = absurd (both_ways true blind refl)
found_blind (Ports sides) reader seen other n blind = refl
found_blind Bad reader seen other n blind = refl

access_blind : (reader : ReadKind) (access : AddressAccess) (seen other : SeenNeighbours) (n : NodeRecord) → access_reads_io access ≡ false → changes_or_event_of_access reader access seen n ≡ changes_or_event_of_access reader access other n
access_blind reader (Plain changes) seen other n blind = refl
access_blind reader (Reads address more) seen other n blind = ap (λ target_read_result. access_with_following_changes target_read_result more) (found_blind (address_target address) reader seen other n blind)
access_blind reader (Writes address more) seen other n blind = refl

done_blind : (due : NextAction) (seen other : SeenNeighbours) (n : NodeRecord) → is_look_action due n ≡ false → event_kind_and_changes_of_action due seen n ≡ event_kind_and_changes_of_action due other n
done_blind due.Fetch seen other n blind = ap (own_event_after_access kind.Fetch) (access_blind Instruction (fetch_access n) seen other n blind)
done_blind (due.Run op) seen other n blind = ap (own_event_after_access (kind.Run (code_of_opcode op))) (access_blind Stack (opcode_effect op n) seen other n blind)

pub event_blind : (seen other : SeenNeighbours) (n : NodeRecord) → reads_io_next n ≡ false → own_event seen n ≡ own_event other n
unfolding own_event reads_io_next
event_blind seen other n = done_blind (next_action_of_node n) seen other n

pub own_blind : (seen other : SeenNeighbours) (n : NodeRecord) → reads_io_next n ≡ false → own seen n ≡ own other n
unfolding own
own_blind seen other n blind = ap (λ event. (event.0, node_after_changes event.1 n)) (event_blind seen other n blind)

-- whether it looks, by what it carries out
pub looks_due : (due : NextAction) (n : NodeRecord) (look : Bool) → due ≡ next_action_of_node n → is_look_action due n ≡ look → reads_io_next n ≡ look
unfolding reads_io_next
looks_due due n look is by = rw (← is) by

-- ---- a look sees

-- the node after the access determines the word that was read
abbrev IsTelling : AddressAccess → NodeRecord → Type 0
IsTelling (Plain changes) n = Unit {0}
IsTelling (Reads address more) n = (word other : ℕ) → node_after_changes (more word) n ≡ node_after_changes (more other) n → word ≡ other
IsTelling (Writes address more) n = Unit {0}

-- a word that was pushed is the top
top_tells : (word other : ℕ) (xs : List ℕ) → length xs ≡ 10 → words_after_push word xs ≡ words_after_push other xs → word ≡ other
top_tells word other xs size same = sym (top word) ∙ ap (λ ys. slice_index ys 0) same ∙ top other
  where
    top : (w : ℕ) → slice_index (words_after_push w xs) 0 ≡ w
    top w = get_or-take (length xs) (w ∷ xs) 0 0 (omega (arith, size))

op_tells : (op : Op) (n : NodeRecord) → HasValidListSizes n → IsTelling (opcode_effect op n) n
op_tells op.Return n sizes = tt
op_tells op.Execute n sizes = tt
op_tells op.Jump n sizes = tt
op_tells op.Call n sizes = tt
op_tells op.Unext n sizes = tt
op_tells op.Next n sizes = tt
op_tells op.If n sizes = tt
op_tells op.MinusIf n sizes = tt
op_tells op.FetchP n sizes = λ word other same. top_tells word other n.d sizes.d (ap (λ (m : NodeRecord). m.d) same)
op_tells op.FetchPlus n sizes = λ word other same. top_tells word other n.d sizes.d (ap (λ (m : NodeRecord). m.d) same)
op_tells op.FetchB n sizes = λ word other same. top_tells word other n.d sizes.d (ap (λ (m : NodeRecord). m.d) same)
op_tells op.Fetch n sizes = λ word other same. top_tells word other n.d sizes.d (ap (λ (m : NodeRecord). m.d) same)
op_tells op.StoreP n sizes = tt
op_tells op.StorePlus n sizes = tt
op_tells op.StoreB n sizes = tt
op_tells op.Store n sizes = tt
op_tells op.MultiplyStep n sizes = tt
op_tells op.TwoStar n sizes = tt
op_tells op.TwoSlash n sizes = tt
op_tells op.Invert n sizes = tt
op_tells op.Plus n sizes = tt
op_tells op.And n sizes = tt
op_tells op.Or n sizes = tt
op_tells op.Drop n sizes = tt
op_tells op.Dup n sizes = tt
op_tells op.Pop n sizes = tt
op_tells op.Over n sizes = tt
op_tells op.A n sizes = tt
op_tells op.Nop n sizes = tt
op_tells op.Push n sizes = tt
op_tells op.BStore n sizes = tt
op_tells op.AStore n sizes = tt

read_tells : (target : AddressTarget) (reader : ReadKind) (more : ℕ → List NodeChange) (k : OwnEventKind) (seen other : SeenNeighbours) (n : NodeRecord) → is_io_target target ≡ true
    → ((word else_word : ℕ) → node_after_changes (more word) n ≡ node_after_changes (more else_word) n → word ≡ else_word)
    → node_after_changes (own_event_after_access k (access_with_following_changes (target_read_result target reader seen n) more)).1 n ≡ node_after_changes (own_event_after_access k (access_with_following_changes (target_read_result target reader other n) more)).1 n → io_word seen ≡ io_word other
unfolding target_read_result access_with_following_changes
read_tells (Ram k) reader more kind seen other n look tells same = cc
read_tells (Rom k) reader more kind seen other n look tells same = cc
read_tells Io reader more kind seen other n look tells same = tells (io_word seen) (io_word other) same
read_tells (Ports sides) reader more kind seen other n look tells same = cc
read_tells Bad reader more kind seen other n look tells same = cc

access_tells : (reader : ReadKind) (access : AddressAccess) (k : OwnEventKind) (seen other : SeenNeighbours) (n : NodeRecord) → access_reads_io access ≡ true → IsTelling access n
    → node_after_changes (own_event_after_access k (changes_or_event_of_access reader access seen n)).1 n ≡ node_after_changes (own_event_after_access k (changes_or_event_of_access reader access other n)).1 n → io_word seen ≡ io_word other
access_tells reader (Plain changes) kind seen other n look tells same = cc
access_tells reader (Reads address more) kind seen other n look tells same = read_tells (address_target address) reader more kind seen other n look tells same
access_tells reader (Writes address more) kind seen other n look tells same = cc

done_tells : (due : NextAction) (seen other : SeenNeighbours) (n : NodeRecord) → HasValidListSizes n → is_look_action due n ≡ true → node_after_changes (event_kind_and_changes_of_action due seen n).1 n ≡ node_after_changes (event_kind_and_changes_of_action due other n).1 n → io_word seen ≡ io_word other
done_tells due.Fetch seen other n sizes look same = access_tells Instruction (fetch_access n) kind.Fetch seen other n look (λ word else_word e. ap (λ (m : NodeRecord). m.i) e) same
done_tells (due.Run op) seen other n sizes look same = access_tells Stack (opcode_effect op n) (kind.Run (code_of_opcode op)) seen other n look (op_tells op n sizes) same

pub look_sees : (seen other : SeenNeighbours) (n : NodeRecord) → HasValidListSizes n → reads_io_next n ≡ true → own seen n ≡ own other n → io_word seen ≡ io_word other
unfolding own own_event reads_io_next
look_sees seen other n sizes look same = done_tells (next_action_of_node n) seen other n sizes look (ap (λ (z : OwnEventKind × NodeRecord). z.1) same)

-- ---- the opcodes that read

-- all opcodes that read have a code from 08 to 0b
pub reads_not : (op : Op) (n : NodeRecord) → code_of_opcode op / 4 ≢ 2 → opcode_reads_io op n ≡ false
reads_not op.Return n other = refl
reads_not op.Execute n other = refl
reads_not op.Jump n other = refl
reads_not op.Call n other = refl
reads_not op.Unext n other = refl
reads_not op.Next n other = refl
reads_not op.If n other = refl
reads_not op.MinusIf n other = refl
reads_not op.FetchP n other = absurd (other refl)
reads_not op.FetchPlus n other = absurd (other refl)
reads_not op.FetchB n other = absurd (other refl)
reads_not op.Fetch n other = absurd (other refl)
reads_not op.StoreP n other = refl
reads_not op.StorePlus n other = refl
reads_not op.StoreB n other = refl
reads_not op.Store n other = refl
reads_not op.MultiplyStep n other = refl
reads_not op.TwoStar n other = refl
reads_not op.TwoSlash n other = refl
reads_not op.Invert n other = refl
reads_not op.Plus n other = refl
reads_not op.And n other = refl
reads_not op.Or n other = refl
reads_not op.Drop n other = refl
reads_not op.Dup n other = refl
reads_not op.Pop n other = refl
reads_not op.Over n other = refl
reads_not op.A n other = refl
reads_not op.Nop n other = refl
reads_not op.Push n other = refl
reads_not op.BStore n other = refl
reads_not op.AStore n other = refl
