use Rattle.std.proofs.Common.{◌≡◌, ◌↔◌, ℕ, ◌+◌, ◌<◌, Bool, true, false, List, length, length-set, set, IsTrue, sym, ◌∙◌, subst, inl, inr, arith, get_or-set_other}
use Rattle.std.proofs.lemmas.Bool.{cases_eq}
use Rattle.std.proofs.lemmas.Grind.{get_or-set_at}
use Rattle.ga_causal.specs.Dependence.{is_node_flagged}
use Rattle.ga_scheduler.specs.Idle.{IsIdleNode}
use Rattle.ga_scheduler.proofs.idle.find_idle_nodes.Goals as goal

-- the nodes below a number are marked where this holds of them, and so is one more
marked_more : (marks : List Bool) (number at : ℕ) (b : Bool) (P : ℕ → Type 0) → length marks ≡ 144 → number < 144 → at ≡ number
    → ((n : ℕ) → n < number → (is_node_flagged marks n ≡ true) ↔ P n) → IsTrue b ↔ P at
    → (n : ℕ) → n < number + 1 → (is_node_flagged (set marks number b) n ≡ true) ↔ P n
marked_more marks number at b P size l e h is n k = elim (cases_eq n number) [
  | inl q ↦ (let here : is_node_flagged (set marks number b) n ≡ b = get_or-set_at marks number n b false q (omega arith) in
      let same : at ≡ n = e ∙ sym q in (λ t. subst P same (is.0 (sym here ∙ t)), λ p. here ∙ is.1 (subst P (sym same) p)))
  | inr ne ↦ (let here : is_node_flagged (set marks number b) n ≡ is_node_flagged marks n = get_or-set_other marks number n b false ne in
      let old = h n (omega (arith, k, ne)) in (λ t. old.0 (sym here ∙ t), λ p. here ∙ old.1 p))
]

pub nodes-preserved : goal.nodes-preserved
nodes-preserved c = record {
  size = length-set c.nodes.marks c.nodes.number c.is_idle.result ∙ c.nodes.invariant.size;
  marked = marked_more c.nodes.marks c.nodes.number c.new.result.number c.is_idle.result (IsIdleNode c.args.lab.now) c.nodes.invariant.size (omega arith) c.new.ensures
      c.nodes.invariant.marked c.is_idle.ensures;
}

pub returns : goal.returns
returns c = λ n k. c.nodes.invariant.marked n (omega (arith, k))
