use Rattle.std.proofs.Common.{refl, rules}
use Rattle.ga_node.specs.Record.{record_of_node}
use Rattle.ga_node.specs.Table.{opcode_effect}
use Rattle.ga_node.specs.inner.Saving.{IsWriteReplacedByEvent}
use Rattle.ga_slots.specs.declared.op.Op.TheVariants.{StoreB}
use Rattle.ga_node.specs.State.{node_with_restored_values}
use Rattle.ga_node.proofs.Saving.{saves_as, saves_then, ended_followed, done_stored}
use Rattle.ga_node.proofs.node.Node.run_store_b.Goals as goal

pub returns-in_err-write-clause-ended : goal.returns-in_err-write-clause-ended
returns-in_err-write-clause-ended c =
    let ended : IsWriteReplacedByEvent (opcode_effect StoreB (record_of_node c.args.self.now)) c.in_err-write.field-0.0 c.args.self.now c.write.new.self c.write.new.saved =
    ended_followed _ _ _ _ _ _ (rw (c.b-b.ensures.value) at c.in_err-write.ensures.ended) in
    search (rules, ended)

pub returns-clause-done : goal.returns-clause-done
unfolding node_with_restored_values
returns-clause-done c =
    done_stored _ _ _ _ _ _ _ _ (rw (c.b-b.ensures.value) at c.in_ok-write.ensures.done)
    (saves_as refl (saves_then c.pop_data.ensures.saves c.go_on.ensures.saves (λ n m. refl)))
    (rw (c.go_on.ensures.change, c.pop_data.ensures.change) refl)
    (λ k w n m. refl) (λ w n m. refl) (λ n m. refl) (λ k w. search rules) (λ w. search rules) (search rules)
