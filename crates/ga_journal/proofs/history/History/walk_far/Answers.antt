use Rattle.std.proofs.Common.{◌≡◌, ℕ, ◌+◌, ◌-◌, ◌∙◌, Some, take, drop, length, length-take, sym, ap, subst, arith, List}
use Rattle.std.specs.Prelude.{slice_get}
use Rattle.std.proofs.lemmas.List.{drop_all, take_all}
use Rattle.ga_node.specs.Record.{NodeState}
use Rattle.ga_node.specs.State.{node_with_restored_values, ArePlaceValuesValid, HasAtMostOneStatus}
use Rattle.ga_event.specs.Undo.{CanRestoreNode}
use Rattle.ga_journal.specs.declared.entry.Entry.{Entry}
use Rattle.ga_journal.specs.Histories.{EntryRecord}
use Rattle.ga_journal.specs.inner.Histories.{HeldNodeHistory}
use Rattle.ga_journal.specs.inner.Stored.{entry_record_of_entry}
use Rattle.ga_journal.specs.Walked.{node_before_entries}
use Rattle.ga_journal.proofs.Storing.{slice_length, longer, left_before, read_last_left}
use Rattle.ga_journal.proofs.Walks.{walked_one, can_one, can_later, walked_apart}
use Rattle.ga_journal.proofs.history.History.walk_far.Goals.{After-into_iter-entry-iterator, In-Some, In-None}
use Rattle.ga_journal.proofs.history.History.walk_far.Goals as goal

-- the entries that are read
slice_is : (c : After-into_iter-entry-iterator) → c.into_iter-entry-iterator.result.iter.rest.now ≡ take (c.args.from - c.args.to) (drop c.args.to c.self.inside.entries.items)
slice_is c =
    ap (λ z. z.iter.rest.now) c.into_iter-entry-iterator.ensures.into_iter_gives
    ∙ ap (λ z. z.rest.now) c.rev-entry-items.ensures.source
    ∙ c.iter.ensures.rest
    ∙ ap (λ (z : List Entry). take (c.args.from - c.args.to) (drop c.args.to z)) c.deref.ensures.value

-- the entry of a turn
found : (c : In-Some) → slice_get (take c.args.from c.args.self.now.items) (c.args.to + length c.next.new.self.iter.rest.now) ≡ Some (entry_record_of_entry c.self.inside.passes.items c.in-Some.entry.now)
found c =
    read_last_left c.self.inside.passes.items c.self.inside.entries.items c.into_iter-entry-iterator.result.iter.rest.now c.loop-entry.entry-iterator.iter.rest.now c.next.new.self.iter.rest.now c.args.self.now.items c.args.from c.args.to c.in-Some.entry.now
    (sym (ap (λ (held : HeldNodeHistory). held.items) c.self.view_is)) c.requires.order c.requires.within (slice_is (goal.at.In-Some c).After-into_iter-entry-iterator) c.loop-entry.invariant.rest c.in-Some.ensures.steps

pub loop-entry-init : goal.loop-entry-init
unfolding node_with_restored_values ArePlaceValuesValid
loop-entry-init c =
    let slice : List Entry = c.into_iter-entry-iterator.result.iter.rest.now in
    let some : length slice ≡ c.args.from - c.args.to = slice_length c.self.inside.passes.items c.self.inside.entries.items slice c.args.self.now.items c.args.from c.args.to (sym (ap (λ (held : HeldNodeHistory). held.items) c.self.view_is)) c.requires.within (slice_is c) in
    record {
      rest = sym (take_all (length slice) slice (omega arith));
      back = λ n. ap (node_with_restored_values n) c.new-gathered.ensures ∙ sym (ap (node_before_entries n) (drop_all (c.args.to + length slice) (take c.args.from c.args.self.now.items) (let long = length-take c.args.from c.args.self.now.items in omega (arith, long, some, c.requires.order))));
      fit = rw c.new-gathered.ensures tt;
    }

pub loop-entry-preserved : goal.loop-entry-preserved
loop-entry-preserved c =
    let h = take c.args.from c.args.self.now.items in
    let slice : List Entry = c.into_iter-entry-iterator.result.iter.rest.now in
    let left : List Entry = c.loop-entry.entry-iterator.iter.rest.now in
    let rest : List Entry = c.next.new.self.iter.rest.now in
    let at : ℕ = c.args.to + length rest in
    let e : EntryRecord = entry_record_of_entry c.self.inside.passes.items c.in-Some.entry.now in
    let long : length left ≡ length rest + 1 = longer left rest c.in-Some.entry.now c.in-Some.ensures.steps in
    let one = found (goal.at.loop-entry-preserved c).In-Some in
    let next : c.args.to + length left ≡ at + 1 = omega (arith, long) in
    let can : CanRestoreNode (node_before_entries c.args.node.now (drop (at + 1) h)) e.saved = can_one c.args.node.now h at e one (can_later c.args.node.now h c.args.to at (omega arith) c.requires.can) in
    record {
      rest = left_before slice left rest c.in-Some.entry.now c.loop-entry.invariant.rest c.in-Some.ensures.steps;
      back = λ n. c.add.ensures.back n ∙ ap (λ (z : NodeState). node_with_restored_values z e.saved) (c.loop-entry.invariant.back n ∙ ap (λ k. node_before_entries n (drop k h)) next) ∙ sym (walked_one n h at e one);
      fit = c.add.ensures.fit c.loop-entry.invariant.fit can.fit;
    }

pub resume_status-requires-clause-apart : goal.resume_status-requires-clause-apart
resume_status-requires-clause-apart c =
    let none = c.in-None.ensures.steps.0 in
    let h = take c.args.from c.args.self.now.items in
    let end : c.args.to + length c.loop-entry.entry-iterator.iter.rest.now ≡ c.args.to = omega (arith, none) in
    subst HasAtMostOneStatus (sym (c.write_back.ensures.back
    ∙ ap (λ (n : NodeState). node_with_restored_values n c.loop-entry.gathered) c.suspend_status-aside.ensures.same
    ∙ c.loop-entry.invariant.back c.args.node.now ∙ ap (λ k. node_before_entries c.args.node.now (drop k h)) end))
    (walked_apart c.args.node.now (drop c.args.to h) c.suspend_status-aside.ensures.apart c.requires.can)
