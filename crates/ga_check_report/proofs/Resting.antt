-- A machine that has come to rest keeps some events more.
use Rattle.std.proofs.Common.{◌≡◌, ◌∙◌, ℕ, zero, suc, Bool, true, false, cond, List, [], ◌∷◌, ◌++◌, Option, Some, None, Result, Ok, Err, refl, sym, ap, ap₂, append_assoc, append-nil}
use Rattle.std.specs.Prelude.{unwrap_or}
use Rattle.ga_node.specs.Record.{NodeRecord}
use Rattle.ga_node.specs.declared.kind.EventRefusal.{EventRefusal}
use Rattle.ga_grid.specs.declared.node_id.NodeId.{NodeId}
use Rattle.ga_grid.specs.Grid.{node_id}
use Rattle.ga_grid.specs.Chip.{node_record_at}
use Rattle.ga_event.specs.declared.event.Event.{Event}
use Rattle.ga_event.specs.declared.made.MadeEvent.{MadeEvent}
use Rattle.ga_event.specs.Apply.{event_refusal, event_result, replay}
use Rattle.ga_event.specs.Next.{next_event_of_node}
use Rattle.ga_event.proofs.Nexts.{next_can}
use Rattle.ga_races.proofs.Exact.{replay_into}
use Rattle.ga_races.proofs.Independence.{replay_more}
use Rattle.ga_lab.specs.declared.fault.LabFault.{LabFault}
use Rattle.ga_lab.specs.Machine.{MachineState, chip_of_machine, step_answer, state_after_step, machine_with_event, state_unless_refused}
use Rattle.ga_check_report.specs.Checking.{HasAppendedEvents}
use Rattle.ga_check_report.specs.Settled.{fetches_from_ports_next, state_after_settling_node, state_after_settling_lower_nodes, state_after_settling}

record IsLater (s t : MachineState) : Type 0 where
  events : List Event
  made : HasAppendedEvents s events t
  runs : replay t.load t.kept ≡ Some (chip_of_machine t)

itself : (s : MachineState) → replay s.load s.kept ≡ Some (chip_of_machine s) → IsLater s s
itself s runs = record { events = []; made = record { load = refl; limit = refl; kept = sym (append-nil s.kept) }; runs = runs }

after_event : (s t : MachineState) (e : Event) → IsLater s t → event_refusal (chip_of_machine t) e ≡ None → IsLater s (machine_with_event t (Ok e))
after_event s t e l can =
    let more : replay t.load (t.kept ++ e ∷ []) ≡ Some (event_result (chip_of_machine t) e).0 =
    replay_into t.kept (e ∷ []) t.load (chip_of_machine t) l.runs ∙ replay_more (chip_of_machine t) e [] can in
    record {
      events = l.events ++ e ∷ [];
      made = record {
        load = l.made.load;
        limit = l.made.limit;
        kept = ap (λ (es : List Event). es ++ e ∷ []) l.made.kept ∙ append_assoc s.kept l.events (e ∷ []);
      };
      runs = more ∙ ap Some (sym (ap (λ (o : Option (List NodeRecord)). unwrap_or o []) more));
    }

after_step : (s t : MachineState) (n : NodeId) → IsLater s t → IsLater s (state_after_step t n)
after_step s t n l = go (next_event_of_node (chip_of_machine t) n) refl (step_answer t n)
  where
    go : (x : Result Event EventRefusal) → next_event_of_node (chip_of_machine t) n ≡ x → (a : Result MadeEvent LabFault) → IsLater s (state_unless_refused t a (machine_with_event t x))
    go x is (Err why) = l
    go (Err why) is (Ok m) = l
    go (Ok e) is (Ok m) = after_event s t e l (next_can (chip_of_machine t) n e is)

after_settling : (s t : MachineState) (n : NodeId) → IsLater s t → IsLater s (state_after_settling_node t n)
after_settling s t n l = go (fetches_from_ports_next (node_record_at (chip_of_machine t) n.number))
  where
    go : (b : Bool) → IsLater s (cond b (state_after_step t n) t)
    go true = after_step s t n l
    go false = l

after_all_below : (s : MachineState) (n : ℕ) → replay s.load s.kept ≡ Some (chip_of_machine s) → IsLater s (state_after_settling_lower_nodes s n)
after_all_below s zero runs = itself s runs
after_all_below s (suc n) runs = after_settling s (state_after_settling_lower_nodes s n) (node_id n) (after_all_below s n runs)

later : (s : MachineState) → replay s.load s.kept ≡ Some (chip_of_machine s) → IsLater s (state_after_settling s)
unfolding state_after_settling
later s runs = after_all_below s 144 runs

pub behind_waits : (s : MachineState) → replay s.load s.kept ≡ Some (chip_of_machine s) → (waits : List Event) × HasAppendedEvents s waits (state_after_settling s)
    × ((events : List Event) → replay (chip_of_machine (state_after_settling s)) events ≡ replay (chip_of_machine s) (waits ++ events))
behind_waits s runs =
    let l = later s runs in
    let led : replay (chip_of_machine s) l.events ≡ Some (chip_of_machine (state_after_settling s)) =
    sym (replay_into s.kept l.events s.load (chip_of_machine s) runs) ∙ ap₂ replay (sym l.made.load) (sym l.made.kept) ∙ l.runs in
    (l.events, l.made, λ events. sym (replay_into l.events events (chip_of_machine s) (chip_of_machine (state_after_settling s)) led))
