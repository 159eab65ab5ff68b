use Rattle.std.proofs.Common.{refl, rules}
use Rattle.ga_node.specs.Record.{record_of_node}
use Rattle.ga_node.specs.Table.{changes_or_event_of_opcode}
use Rattle.ga_node.specs.inner.Saving.{IsReplacementEventMade}
use Rattle.ga_slots.specs.declared.op.Op.TheVariants.{Fetch}
use Rattle.ga_node.specs.State.{node_with_restored_values}
use Rattle.ga_node.proofs.Saving.{made, saves_then, saves_from, ended_followed, done_followed}
use Rattle.ga_node.proofs.node.Node.run_fetch.Goals as goal

pub returns-in_err-word-clause-ended : goal.returns-in_err-word-clause-ended
returns-in_err-word-clause-ended c =
    let ended : IsReplacementEventMade (changes_or_event_of_opcode Fetch c.args.seen (record_of_node c.args.self.now)) c.in_err-word.field-0.0 c.args.self.now c.read.new.self c.read.new.saved =
    ended_followed _ _ _ _ _ _ (rw (c.get.ensures.value, c.a-a.ensures) at c.in_err-word.ensures.ended) in
    search (rules, ended)

pub returns-clause-done : goal.returns-clause-done
unfolding node_with_restored_values
returns-clause-done c =
    done_followed _ _ _ _ _ _ (rw (c.get.ensures.value, c.a-a.ensures) at c.in_ok-word.ensures.word)
    (made c.in_ok-word.ensures.unsaved (saves_then (saves_from c.in_ok-word.ensures.same c.push_data.ensures.saves) c.go_on.ensures.saves (λ n m. refl)) refl (search rules)
    (rw (c.go_on.ensures.change, c.push_data.ensures.change, c.in_ok-word.ensures.same) refl))
