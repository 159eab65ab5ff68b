use Rattle.std.proofs.Common.{◌≡◌, ℕ, ◌-◌, ◌+◌, ◌≤◌, ◌∙◌, ap, sym, length, take, arith}
use Rattle.ga_node.specs.declared.place.NodePlace.{NodePlace}
use Rattle.ga_node.specs.Record.{NodeState}
use Rattle.ga_node.specs.State.{node_with_value, node_with_resumed_status}
use Rattle.ga_node.proofs.Restoring.{restored_past, restored_one, fit_at, fit_take}
use Rattle.ga_node.proofs.node.Node.write_six_back.Goals as goal

pub loop-k-init : goal.loop-k-init
loop-k-init c =
    let past : length (take 6 c.args.saved.now) ≤ c.six-count.result - 0 = omega (arith, c.six-count.ensures) in
    record {
      back = sym (restored_past (node_with_resumed_status c.args.self.now c.args.aside.now) (take 6 c.args.saved.now) (c.six-count.result - 0) past);
      cleared = c.requires.cleared;
      in_range = c.requires.in_range;
    }

pub put_back-requires-clause-fit : goal.put_back-requires-clause-fit
put_back-requires-clause-fit c =
    fit_at (take 6 c.args.saved.now) (c.six-count.result - 1 - c.loop-k.k) c.six_at-place.result (fit_take c.args.saved.now 6 c.requires.fit) c.six_at-place.ensures

pub loop-k-preserved : goal.loop-k-preserved
loop-k-preserved c =
    let saved = take 6 c.args.saved.now in
    let i : ℕ = c.six-count.result - 1 - c.loop-k.k in
    let value : NodePlace × ℕ = c.six_at-place.result in
    let here : c.six-count.result - (c.loop-k.k + 1) ≡ i = omega arith in
    let after : c.six-count.result - c.loop-k.k ≡ i + 1 = omega arith in
    let rest = rw after at c.loop-k.invariant.back in
    record {
      back = rw here (c.put_back.ensures.back ∙ ap (λ (m : NodeState). node_with_value m value.0 value.1) rest ∙ sym (restored_one (node_with_resumed_status c.args.self.now c.args.aside.now) saved i value c.six_at-place.ensures));
      cleared = c.put_back.ensures.cleared;
      in_range = c.put_back.ensures.in_range;
    }
