use Rattle.std.proofs.Common.{◌≡◌, ℕ, ◌-◌, ◌+◌, ◌≤◌, ◌∙◌, ap, sym, length, arith}
use Rattle.ga_node.specs.Record.{NodeState}
use Rattle.ga_node.specs.State.{node_with_restored_values, node_with_value}
use Rattle.ga_node.specs.inner.Packed.{unpacked_place_value}
use Rattle.ga_node.proofs.Restoring.{restored_past, restored_one, fit_at}
use Rattle.ga_node.proofs.gathered.GatheredOldValues.add.Goals as goal

pub loop-k-init : goal.loop-k-init
loop-k-init c =
    let past : length c.args.saved.now ≤ c.len-count.result - 0 = omega (arith, c.len-count.ensures.value) in
    record {
      back = λ node. sym (restored_past (node_with_restored_values node c.args.self.now) c.args.saved.now (c.len-count.result - 0) past);
      fit = λ fit more. fit;
    }

pub loop-k-preserved : goal.loop-k-preserved
loop-k-preserved c =
    let saved = c.args.saved.now in
    let i : ℕ = c.len-count.result - 1 - c.loop-k.k in
    let here : c.len-count.result - (c.loop-k.k + 1) ≡ i = omega arith in
    let after : c.len-count.result - c.loop-k.k ≡ i + 1 = omega arith in
    record {
      back = λ (node : NodeState). rw here (c.put.ensures.back node
          ∙ ap (λ (m : NodeState). node_with_value m (unpacked_place_value c.word.result).0 (unpacked_place_value c.word.result).1) (rw after at (c.loop-k.invariant.back node))
          ∙ sym (restored_one (node_with_restored_values node c.args.self.now) saved i (unpacked_place_value c.word.result) c.word.ensures.pair));
      fit = λ fit more. c.put.ensures.fit (c.loop-k.invariant.fit fit more) (fit_at saved i (unpacked_place_value c.word.result) more c.word.ensures.pair);
    }
