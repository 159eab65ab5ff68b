use Rattle.std.proofs.Common.{ℕ, Bool, ◌&&◌, ◌∙◌, ap, arith}
use Rattle.std.specs.Prelude.{if◌then◌else◌}
use Rattle.ga_causal.specs.Dependence.{is_node_flagged}
use Rattle.ga_explorer_text.proofs.Saying.{counted_none, counted_on, counted_whole}
use Rattle.ga_explorer_text.proofs.who_text.count_idle_marked_nodes.Goals as goal

pub nodes-init : goal.nodes-init
nodes-init c = record { few = omega arith; all = counted_none (λ n. is_node_flagged c.args.marks.now n && is_node_flagged c.args.idle.now n) }

pub nodes-preserved : goal.nodes-preserved
nodes-preserved c =
    let marks : ℕ → Bool = is_node_flagged c.args.marks.now in
    let idle : ℕ → Bool = is_node_flagged c.args.idle.now in
    record {
      few = omega (arith, c.one_if-count.ensures.few, c.nodes.invariant.few);
      all = counted_on (λ n. marks n && idle n) c.nodes.number c.new.result.number c.nodes.count c.one_if-count.result c.nodes.invariant.all c.new.ensures
          (c.one_if-count.ensures.one ∙ ap (λ (b : Bool). if b then 1 else 0) c.is_both.ensures);
    }

pub returns : goal.returns
returns c =
    let marks : ℕ → Bool = is_node_flagged c.args.marks.now in
    let idle : ℕ → Bool = is_node_flagged c.args.idle.now in
    counted_whole (λ n. marks n && idle n) c.nodes.number 144 c.nodes.count c.nodes.invariant.all (omega arith)
