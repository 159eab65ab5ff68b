-- The event that a node has next is enabled.
use Rattle.std.proofs.Common.{◌≡◌, ℕ, ◌<◌, ◌==◌, true, ◌&&◌, List, [], ◌∷◌, refl, sym, ◌∙◌, ap, subst, arith, ⊎_elim, eq-eqb, ◌+◌, length, get_or, drop, drop-cons, add-one, suc}
use Rattle.std.specs.Prelude.{Option, Some, None, Result, Ok, Err, option_map}
use Rattle.std.proofs.lemmas.Bool.{cases_Bool, cond-true, cond-false, and_from}
use Rattle.std.proofs.lemmas.Option.{same_Some}
use Rattle.std.proofs.Math.Nat.{mod-eq_of_lt}
use Rattle.ga_ports.specs.declared.side.Side.{Side}
use Rattle.ga_ports.specs.declared.side.Side.TheVariants.{Right, Down, Left, Up}
use Rattle.ga_ports.specs.Address.{has_side, are_same_side}
use Rattle.ga_node.specs.Record.{NodeRecord}
use Rattle.ga_node.specs.Table.{wait_refusal}
use Rattle.ga_node.specs.declared.kind.EventRefusal.{EventRefusal}
use Rattle.ga_node.specs.declared.kind.EventRefusal.TheVariants.{Stopped}
use Rattle.ga_node.specs.declared.wait.Wait.{Wait}
use Rattle.ga_node.specs.declared.wait.Wait.TheVariants.{Nothing, Fetch, Read, Write}
use Rattle.ga_grid.specs.declared.node_id.NodeId.{NodeId}
use Rattle.ga_grid.specs.Grid.{node_id, neighbour_number}
use Rattle.ga_grid.specs.Chip.{node_record_at}
use Rattle.ga_grid.proofs.NodeIds.{neighbour_number-back}
use Rattle.ga_event.specs.declared.event.Event.{Event}
use Rattle.ga_event.specs.declared.event.Event.TheVariants.{Own, Pass}
use Rattle.ga_event.specs.Apply.{waits_to_write_side, waits_to_read_side, equals_optional_number, refusal_unless_matched, event_refusal}
use Rattle.ga_event.specs.Next.{writer_pass, reader_pass, reader_pass_over_set, or_else, first_pass_over_sides, first_reader_pass, ok_or_waiting, next_event_by_wait, next_event_of_node}

pub neighbour_number-within : (n m : ℕ) (side : Side) → n < 144 → neighbour_number n side ≡ Some m → m < 144
neighbour_number-within n m Right l h = grind arith
neighbour_number-within n m Down l h = grind arith
neighbour_number-within n m Left l h = grind arith
neighbour_number-within n m Up l h = grind arith

side_self : (side : Side) → are_same_side side side ≡ true
side_self Right = refl
side_self Down = refl
side_self Left = refl
side_self Up = refl

-- an answer that is there
same_Ok : (e f : Event) → (let a : Result Event EventRefusal = Ok e in a) ≡ Ok f → e ≡ f
same_Ok e f h = cc

some_next : (o : Option Event) (e : Event) → ok_or_waiting o ≡ Ok e → o ≡ Some e
some_next None e h = absurd (cc)
some_next (Some f) e h = ap Some (same_Ok f e h)

-- the number of a node
number_is : (m : ℕ) → m < 144 → (node_id m).number ≡ m
number_is m l = mod-eq_of_lt l

-- two ends that match
opens : (chip : List NodeRecord) (w r : NodeId) (side : Side) → neighbour_number w.number side ≡ Some r.number → waits_to_write_side (node_record_at chip w.number).wait side ≡ true → waits_to_read_side (node_record_at chip r.number).wait side ≡ true → event_refusal chip (Pass w r side) ≡ None
opens chip w r side near out in_ =
    ap refusal_unless_matched (and_from (equals_optional_number (neighbour_number w.number side) r.number && waits_to_write_side (node_record_at chip w.number).wait side) (waits_to_read_side (node_record_at chip r.number).wait side)
    (and_from (equals_optional_number (neighbour_number w.number side) r.number) (waits_to_write_side (node_record_at chip w.number).wait side) (ap (λ (o : Option ℕ). equals_optional_number o r.number) near ∙ eq-eqb r.number r.number refl) out)
    in_)

-- the pass of a writer
to_reader : (chip : List NodeRecord) (w : NodeId) (side : Side) (e : Event) (o : Option ℕ) → neighbour_number w.number side ≡ o → waits_to_write_side (node_record_at chip w.number).wait side ≡ true → writer_pass chip w side (option_map node_id o) ≡ Some e → event_refusal chip e ≡ None
to_reader chip w side e None near out h = absurd (cc)
to_reader chip w side e (Some m) near out h =
    let r : NodeId = node_id m in
    let same : r.number ≡ m = number_is m (neighbour_number-within w.number m side w.in_range near) in
    ⊎_elim
    (λ t. subst (λ z. event_refusal chip z ≡ None) (same_Some (Pass w r side) e (sym (cond-true (waits_to_read_side (node_record_at chip r.number).wait side) (Some (Pass w r side)) None t) ∙ h))
    (opens chip w r side (near ∙ ap Some (sym same)) out t))
    (λ f. let q : None ≡ Some e = sym (cond-false (waits_to_read_side (node_record_at chip r.number).wait side) (Some (Pass w r side)) None f) ∙ h in absurd (cc))
    (cases_Bool (waits_to_read_side (node_record_at chip r.number).wait side))

-- the pass to a reader over one side
from_writer : (chip : List NodeRecord) (r : NodeId) (side : Side) (e : Event) (o : Option ℕ) → neighbour_number r.number side ≡ o → waits_to_read_side (node_record_at chip r.number).wait side ≡ true → reader_pass chip r side (option_map node_id o) ≡ Some e → event_refusal chip e ≡ None
from_writer chip r side e None near out h = absurd (cc)
from_writer chip r side e (Some m) near out h =
    let w : NodeId = node_id m in
    let same : w.number ≡ m = number_is m (neighbour_number-within r.number m side r.in_range near) in
    ⊎_elim
    (λ t. subst (λ z. event_refusal chip z ≡ None) (same_Some (Pass w r side) e (sym (cond-true (waits_to_write_side (node_record_at chip w.number).wait side) (Some (Pass w r side)) None t) ∙ h))
    (opens chip w r side (ap (λ z. neighbour_number z side) same ∙ neighbour_number-back r.number m side r.in_range near) t out))
    (λ f. let q : None ≡ Some e = sym (cond-false (waits_to_write_side (node_record_at chip w.number).wait side) (Some (Pass w r side)) None f) ∙ h in absurd (cc))
    (cases_Bool (waits_to_write_side (node_record_at chip w.number).wait side))

over_side : (chip : List NodeRecord) (r : NodeId) (sides : ℕ) (side : Side) (e : Event) → (has_side sides side ≡ true → waits_to_read_side (node_record_at chip r.number).wait side ≡ true) → reader_pass_over_set chip r sides side ≡ Some e → event_refusal chip e ≡ None
over_side chip r sides side e reads h = ⊎_elim
    (λ t. from_writer chip r side e (neighbour_number r.number side) refl (reads t) (sym (cond-true (has_side sides side) (reader_pass chip r side (option_map node_id (neighbour_number r.number side))) None t) ∙ h))
    (λ f. let q : None ≡ Some e = sym (cond-false (has_side sides side) (reader_pass chip r side (option_map node_id (neighbour_number r.number side))) None f) ∙ h in absurd (cc))
    (cases_Bool (has_side sides side))

-- the first of some sides
over_first : (chip : List NodeRecord) (r : NodeId) (sides : ℕ) (order : List Side) (e : Event) → ((side : Side) → has_side sides side ≡ true → waits_to_read_side (node_record_at chip r.number).wait side ≡ true) → first_pass_over_sides chip r sides order ≡ Some e → event_refusal chip e ≡ None
over_first chip r sides [] e reads h = absurd (cc)
over_first chip r sides (side ∷ others) e reads h = go (reader_pass_over_set chip r sides side) refl h (over_first chip r sides others e reads)
  where
    go : (o : Option Event) → reader_pass_over_set chip r sides side ≡ o → or_else o (first_pass_over_sides chip r sides others) ≡ Some e → (first_pass_over_sides chip r sides others ≡ Some e → event_refusal chip e ≡ None) → event_refusal chip e ≡ None
    go None is k later = later k
    go (Some f) is k later = over_side chip r sides side e (reads side) (is ∙ k)

by_wait : (chip : List NodeRecord) (n : NodeId) (e : Event) (w : Wait) → (node_record_at chip n.number).wait ≡ w → next_event_by_wait chip n (node_record_at chip n.number).stop w ≡ Ok e → event_refusal chip e ≡ None
by_wait chip n e Nothing is h = ⊎_elim
    (λ t. subst (λ z. event_refusal chip z ≡ None) (same_Ok (Own n) e (sym (cond-true ((node_record_at chip n.number).stop == 0) (Ok (Own n)) (Err Stopped) t) ∙ h))
    (ap (λ z. wait_refusal z (node_record_at chip n.number).stop) is ∙ cond-true ((node_record_at chip n.number).stop == 0) None (Some Stopped) t))
    (λ f. let q : Err Stopped ≡ Ok e = sym (cond-false ((node_record_at chip n.number).stop == 0) (Ok (Own n)) (Err Stopped) f) ∙ h in absurd (cc))
    (cases_Bool ((node_record_at chip n.number).stop == 0))
by_wait chip n e (Fetch sides) is h = over_first chip n sides (Right ∷ Down ∷ Left ∷ Up ∷ []) e (λ side t. ap (λ z. waits_to_read_side z side) is ∙ t) (some_next (first_reader_pass chip n sides) e h)
by_wait chip n e (Read sides) is h = over_first chip n sides (Right ∷ Down ∷ Left ∷ Up ∷ []) e (λ side t. ap (λ z. waits_to_read_side z side) is ∙ t) (some_next (first_reader_pass chip n sides) e h)
by_wait chip n e (Write side) is h =
    to_reader chip n side e (neighbour_number n.number side) refl (ap (λ z. waits_to_write_side z side) is ∙ side_self side) (some_next (writer_pass chip n side (option_map node_id (neighbour_number n.number side))) e h)

pub next_can : (chip : List NodeRecord) (n : NodeId) (e : Event) → next_event_of_node chip n ≡ Ok e → event_refusal chip e ≡ None
next_can chip n e h = by_wait chip n e (node_record_at chip n.number).wait refl h

-- ---- the sides that a reader tries in turn

-- a side over which no pass is ready is left out
pub first_pass_over_sides-skip : (chip : List NodeRecord) (reader : NodeId) (sides : ℕ) (order : List Side) (i : ℕ) → i < length order → reader_pass_over_set chip reader sides (get_or order i Right) ≡ None
    → first_pass_over_sides chip reader sides (drop i order) ≡ first_pass_over_sides chip reader sides (drop (i + 1) order)
first_pass_over_sides-skip chip reader sides order i l none =
    ap (λ z. first_pass_over_sides chip reader sides z) (drop-cons order i Right l)
    ∙ ap (λ z. or_else z (first_pass_over_sides chip reader sides (drop (suc i) order))) none
    ∙ ap (λ z. first_pass_over_sides chip reader sides (drop z order)) (sym (add-one i))
