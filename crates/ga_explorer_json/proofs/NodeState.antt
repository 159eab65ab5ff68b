-- The words of the stacks, one after another.
use Rattle.std.proofs.Common.{◌≡◌, ◌<◌, ◌≤◌, ℕ, zero, suc, ◌+◌, ◌-◌, ap, ◌∙◌, refl, arith}
use Rattle.ga_node.specs.Record.{NodeRecord}
use Rattle.ga_json.specs.Values.{no_items, item}
use Rattle.ga_explorer_json.specs.NodeState.{stack_word_json, stack_rows}

none_more : (node : NodeRecord) (k : ℕ) → stack_rows node k zero ≡ no_items
unfolding stack_rows
none_more node k = refl

one_more : (node : NodeRecord) (k more : ℕ) → stack_rows node k (suc more) ≡ item (stack_word_json node k) (stack_rows node (k + 1) more)
unfolding stack_rows
one_more node k more = refl

pub no_word : (node : NodeRecord) (k : ℕ) → 19 ≤ k → stack_rows node k (19 - k) ≡ no_items
no_word node k past = ap (stack_rows node k) (let e : 19 - k ≡ zero = omega (arith, past) in e) ∙ none_more node k

pub next_word : (node : NodeRecord) (k : ℕ) → k < 19 → stack_rows node k (19 - k) ≡ item (stack_word_json node k) (stack_rows node (k + 1) (19 - (k + 1)))
next_word node k below = ap (stack_rows node k) (let e : 19 - k ≡ suc (19 - (k + 1)) = omega (arith, below) in e) ∙ one_more node k (19 - (k + 1))
