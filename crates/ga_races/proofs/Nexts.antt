-- What the next event of a node depends on.
use Rattle.std.proofs.Common.{◌≡◌, ℕ, ◌==◌, Bool, false, cond, List, [], ◌∷◌, ◌⊎◌, inl, inr, ⊎_elim, Some, None, refl, sym, ◌∙◌, ap, subst, IfSome}
use Rattle.std.specs.Prelude.{Option, option_map}
use Rattle.std.proofs.lemmas.Bool.{cases_Bool, cases_eq, ne_eqb, or_from}
use Rattle.std.proofs.lemmas.Option.{same_Some}
use Rattle.std.proofs.Math.Nat.{mod-eq_of_lt}
use Rattle.ga_ports.specs.declared.side.Side.{Side}
use Rattle.ga_ports.specs.declared.side.Side.TheVariants.{Right, Down, Left, Up}
use Rattle.ga_ports.specs.Address.{has_side}
use Rattle.ga_node.specs.Record.{NodeRecord}
use Rattle.ga_node.specs.Table.{wait_refusal, refusal_of_own_event}
use Rattle.ga_node.specs.declared.kind.EventRefusal.TheVariants.{Stopped}
use Rattle.ga_node.specs.declared.wait.Wait.{Wait}
use Rattle.ga_node.specs.declared.wait.Wait.TheVariants.{Nothing, Fetch, Read, Write}
use Rattle.ga_grid.specs.declared.node_id.NodeId.{NodeId}
use Rattle.ga_grid.specs.Grid.{node_id, neighbour_number}
use Rattle.ga_grid.specs.Chip.{node_record_at}
use Rattle.ga_grid.proofs.NodeIds.{neighbour_number-back}
use Rattle.ga_event.specs.declared.event.Event.{Event}
use Rattle.ga_event.specs.declared.event.Event.TheVariants.{Own, Pass}
use Rattle.ga_event.specs.Apply.{MadeEventOutcome, waits_to_write_side, waits_to_read_side, apply, AgreeOutsideMarks}
use Rattle.ga_event.specs.Next.{neighbour_on_side, writer_pass, reader_pass, reader_pass_over_set, or_else, first_pass_over_sides, ok_or_waiting, next_event_by_wait, next_event_of_node}
use Rattle.ga_event.specs.Touches.{touches}
use Rattle.ga_event.proofs.Locality.{apply_keeps}
use Rattle.ga_races.specs.HappensBefore.{IsMarkedOrNeighbour}
use Rattle.ga_event.proofs.Nexts.{neighbour_number-within as neighbour_within}

abbrev wait_at : List NodeRecord → ℕ → Wait
wait_at chip n = (node_record_at chip n).wait

abbrev stop_at : List NodeRecord → ℕ → ℕ
stop_at chip n = (node_record_at chip n).stop

-- the neighbours of a node have the same waits on two chips
abbrev SameBeside : List NodeRecord → List NodeRecord → NodeId → Side → Type 0
SameBeside c d node side = (m : NodeId) → neighbour_on_side node side ≡ Some m → wait_at c m.number ≡ wait_at d m.number

-- and the same at the node
record SameAround (c d : List NodeRecord) (node : NodeId) : Type 0 where
  wait : wait_at c node.number ≡ wait_at d node.number
  stop : stop_at c node.number ≡ stop_at d node.number
  near : (side : Side) → SameBeside c d node side

pass_to_same : (c d : List NodeRecord) (w : NodeId) (side : Side) (o : Option NodeId) → ((m : NodeId) → o ≡ Some m → wait_at c m.number ≡ wait_at d m.number) → writer_pass c w side o ≡ writer_pass d w side o
pass_to_same c d w side None h = refl
pass_to_same c d w side (Some m) h = ap (λ (z : Wait). cond (waits_to_read_side z side) (Some (Pass w m side)) None) (h m refl)

pass_from_same : (c d : List NodeRecord) (r : NodeId) (side : Side) (o : Option NodeId) → ((m : NodeId) → o ≡ Some m → wait_at c m.number ≡ wait_at d m.number) → reader_pass c r side o ≡ reader_pass d r side o
pass_from_same c d r side None h = refl
pass_from_same c d r side (Some m) h = ap (λ (z : Wait). cond (waits_to_write_side z side) (Some (Pass m r side)) None) (h m refl)

first_over_same : (c d : List NodeRecord) (r : NodeId) (sides : ℕ) (order : List Side) → ((side : Side) → SameBeside c d r side) → first_pass_over_sides c r sides order ≡ first_pass_over_sides d r sides order
first_over_same c d r sides [] h = refl
first_over_same c d r sides (side ∷ others) h =
    ap (λ (z : Option Event). or_else (cond (has_side sides side) z None) (first_pass_over_sides c r sides others)) (pass_from_same c d r side (neighbour_on_side r side) (h side))
    ∙ ap (or_else (reader_pass_over_set d r sides side)) (first_over_same c d r sides others h)

by_wait_same : (c d : List NodeRecord) (n : NodeId) (stop : ℕ) (w : Wait) → ((side : Side) → SameBeside c d n side) → next_event_by_wait c n stop w ≡ next_event_by_wait d n stop w
by_wait_same c d n stop Nothing h = refl
by_wait_same c d n stop (Fetch sides) h = ap ok_or_waiting (first_over_same c d n sides (Right ∷ Down ∷ Left ∷ Up ∷ []) h)
by_wait_same c d n stop (Read sides) h = ap ok_or_waiting (first_over_same c d n sides (Right ∷ Down ∷ Left ∷ Up ∷ []) h)
by_wait_same c d n stop (Write side) h = ap ok_or_waiting (pass_to_same c d n side (neighbour_on_side n side) (h side))

next_same : (c d : List NodeRecord) (n : NodeId) → SameAround c d n → next_event_of_node c n ≡ next_event_of_node d n
next_same c d n s =
    ap (λ z. next_event_by_wait c n z (wait_at c n.number)) s.stop
    ∙ ap (next_event_by_wait c n (stop_at d n.number)) s.wait
    ∙ by_wait_same c d n (stop_at d n.number) (wait_at d n.number) s.near

-- A neighbour is marked, or waits for the same on both.

marked_beside : (marks : ℕ → Bool) (c d : List NodeRecord) (n : NodeId) (side : Side) (o : Option ℕ) → AgreeOutsideMarks marks c d → neighbour_number n.number side ≡ o
    → IsMarkedOrNeighbour marks n.number ⊎ ((m : NodeId) → option_map node_id o ≡ Some m → wait_at c m.number ≡ wait_at d m.number)
marked_beside marks c d n side None a is = inr (λ m h. absurd (cc))
marked_beside marks c d n side (Some k) a is = ⊎_elim
    (λ t. inl (k, t, inr (side, neighbour_number-back n.number k side n.in_range is)))
    (λ f. inr (λ m h. ap (λ (z : NodeRecord). z.wait)
    (a.same m.number (ap marks (sym (ap (λ (z : NodeId). z.number) (same_Some (node_id k) m h)) ∙ mod-eq_of_lt (neighbour_within n.number k side n.in_range is)) ∙ f))))
    (cases_Bool (marks k))

pub near_or_same : (marks : ℕ → Bool) (c d : List NodeRecord) (n : NodeId) → AgreeOutsideMarks marks c d → IsMarkedOrNeighbour marks n.number ⊎ (next_event_of_node c n ≡ next_event_of_node d n)
near_or_same marks c d n a = ⊎_elim
    (λ t. inl (n.number, t, inl refl))
    (λ f. ⊎_elim inl (λ right. ⊎_elim inl (λ down. ⊎_elim inl (λ left. ⊎_elim inl (λ up. inr (next_same c d n (around f right down left up)))
    (side_of Up)) (side_of Left)) (side_of Down)) (side_of Right))
    (cases_Bool (marks n.number))
  where
    side_of : (side : Side) → IsMarkedOrNeighbour marks n.number ⊎ SameBeside c d n side
    side_of side = marked_beside marks c d n side (neighbour_number n.number side) a refl

    by_side : SameBeside c d n Right → SameBeside c d n Down → SameBeside c d n Left → SameBeside c d n Up → (side : Side) → SameBeside c d n side
    by_side right down left up Right = right
    by_side right down left up Down = down
    by_side right down left up Left = left
    by_side right down left up Up = up

    around : marks n.number ≡ false → SameBeside c d n Right → SameBeside c d n Down → SameBeside c d n Left → SameBeside c d n Up → SameAround c d n
    around f right down left up = record {
      wait = ap (λ (z : NodeRecord). z.wait) (a.same n.number f);
      stop = ap (λ (z : NodeRecord). z.stop) (a.same n.number f);
      near = by_side right down left up;
    }

pub changes_near : (c : List NodeRecord) (e : Event) → IfSome (apply c e) (λ done. (n : NodeId) → IsMarkedOrNeighbour (touches e) n.number ⊎ (next_event_of_node c n ≡ next_event_of_node done.0 n))
changes_near c e = go (apply c e) (apply_keeps c e)
  where
    go : (o : Option (List NodeRecord × MadeEventOutcome)) → IfSome o (λ done. AgreeOutsideMarks (touches e) c done.0) → IfSome o (λ done. (n : NodeId) → IsMarkedOrNeighbour (touches e) n.number ⊎ (next_event_of_node c n ≡ next_event_of_node done.0 n))
    go None h = tt
    go (Some done) h = λ n. near_or_same (touches e) c done.0 n h

-- A node that ran and runs on changes no wait and no stop.

record Runs (wait : Wait) (stop : ℕ) : Type 0 where
  waits : wait ≡ Nothing
  stops : stop ≡ 0

not_stopped : (stop : ℕ) → wait_refusal Nothing stop ≡ None → (stop ≡ 0 → ⊥) → ⊥
not_stopped stop h ne = let q : Some Stopped ≡ None = sym (ap (λ b. cond b None (Some Stopped)) (ne_eqb stop 0 ne)) ∙ h in cc

runs : (w : Wait) (stop : ℕ) → wait_refusal w stop ≡ None → Runs w stop
runs Nothing stop h = ⊎_elim (λ e. record { waits = refl; stops = e }) (λ ne. absurd (not_stopped stop h ne)) (cases_eq stop 0)
runs (Fetch sides) stop h = absurd (cc)
runs (Read sides) stop h = absurd (cc)
runs (Write side) stop h = absurd (cc)

pub runs_on : (c d : List NodeRecord) (at m : NodeId) → AgreeOutsideMarks (touches (Own at)) c d → refusal_of_own_event (node_record_at c at.number) ≡ None → refusal_of_own_event (node_record_at d at.number) ≡ None → next_event_of_node c m ≡ next_event_of_node d m
runs_on c d at m a before now = next_same c d m (record { wait = (same m.number).0; stop = (same m.number).1; near = λ side k h. (same k.number).0 })
  where
    was : Runs (wait_at c at.number) (stop_at c at.number)
    was = runs _ _ before

    is : Runs (wait_at d at.number) (stop_at d at.number)
    is = runs _ _ now

    here : (k : ℕ) → k ≡ at.number → (wait_at c k ≡ wait_at d k) × (stop_at c k ≡ stop_at d k)
    here k e = subst (λ z. (wait_at c z ≡ wait_at d z) × (stop_at c z ≡ stop_at d z)) (sym e) (was.waits ∙ sym is.waits, was.stops ∙ sym is.stops)

    apart : (k : ℕ) → (k ≡ at.number → ⊥) → touches (Own at) k ≡ false
    apart k ne = or_from (at.number == k) false (ne_eqb at.number k (λ e. ne (sym e))) refl

    same : (k : ℕ) → (wait_at c k ≡ wait_at d k) × (stop_at c k ≡ stop_at d k)
    same k = ⊎_elim (here k)
        (λ ne. (ap (λ (z : NodeRecord). z.wait) (a.same k (apart k ne)), ap (λ (z : NodeRecord). z.stop) (a.same k (apart k ne))))
        (cases_eq k at.number)
