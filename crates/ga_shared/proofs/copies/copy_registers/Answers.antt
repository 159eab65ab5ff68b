use Rattle.std.proofs.Common.{◌≡◌, ℕ, ◌∙◌, ap, sym, subst}
use Rattle.std.specs.Prelude.{IsTrue, ◌==◌, ◌||◌}
use Rattle.ga_node.specs.declared.place.NodePlace.TheVariants as place
use Rattle.ga_node.specs.declared.wait.Wait.{Wait}
use Rattle.ga_node.specs.Record.{NodeState, record_of_node}
use Rattle.ga_node.specs.State.{node_with_value, wait_code}
use Rattle.ga_shared.proofs.NodeCopies.{carry_back}
use Rattle.ga_shared.proofs.copies.copy_registers.Goals as goal

pub set-requires-9-clause-apart : goal.set-requires-9-clause-apart
unfolding record_of_node
set-requires-9-clause-apart c =
    let from = c.args.from.now in
    let wait : c.set-8.new.self.wait ≡ from.wait = ap (λ (n : NodeState). n.wait) c.set-8.ensures ∙ c.code.ensures.back ∙ c.wait.ensures.value in
    let stop : c.get-8.result ≡ from.stop = c.get-8.ensures.value in
    subst (λ (p : Wait × ℕ). IsTrue (wait_code p.0 == 0 || p.1 == 0)) (λ i. (sym wait i, sym stop i)) c.wait.ensures.apart

pub returns : goal.returns
unfolding record_of_node
returns c =
    let from = c.args.from.now in
    let wait = c.code.ensures.back ∙ c.wait.ensures.value in
    let carry = ap (λ n. n == 1) c.get-7.ensures.value ∙ carry_back from.carry in
    c.set-9.ensures
    ∙ ap (λ n. node_with_value n place.Stop c.get-8.result) (c.set-8.ensures
    ∙ ap (λ n. node_with_value n place.Wait c.code.result) (c.set-7.ensures
    ∙ ap (λ n. node_with_value n place.Carry c.get-7.result) (c.set-6.ensures
    ∙ ap (λ n. node_with_value n place.Io c.get-6.result) (c.set-5.ensures
    ∙ ap (λ n. node_with_value n place.Slot c.get-5.result) (c.set-4.ensures
    ∙ ap (λ n. node_with_value n place.I c.get-4.result) (c.set-3.ensures
    ∙ ap (λ n. node_with_value n place.P c.get-3.result) (c.set-2.ensures
    ∙ ap (λ n. node_with_value n place.B c.get-2.result) c.set.ensures)))))))
    ∙ (λ k. record c.args.to.now {
      a = c.get.ensures.value k;
      b = c.get-2.ensures.value k;
      p = c.get-3.ensures.value k;
      i = c.get-4.ensures.value k;
      slot = c.get-5.ensures.value k;
      io = c.get-6.ensures.value k;
      carry = carry k;
      wait = wait k;
      stop = c.get-8.ensures.value k;
    })
