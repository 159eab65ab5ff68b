use Rattle.std.proofs.Common.{ℕ, Bool, ◌-◌, ◌&&◌, ◌++◌, ◌∙◌, ap, arith}
use Rattle.std.specs.Prelude.{not}
use Rattle.ga_causal.specs.Dependence.{is_node_flagged}
use Rattle.ga_explorer_text.specs.Waiting.{space_and_node_name_if_marked}
use Rattle.ga_explorer_text.proofs.Saying.{next_added, all_added}
use Rattle.ga_explorer_text.proofs.who_text.non_idle_node_names.Goals as goal

pub nodes-preserved : goal.nodes-preserved
nodes-preserved c =
    let marks : ℕ → Bool = is_node_flagged c.args.marks.now in
    let idle : ℕ → Bool = is_node_flagged c.args.idle.now in
    record {
      len = omega (arith, c.push_name_if.ensures.len, c.nodes.invariant.len);
      text = next_added (λ n. space_and_node_name_if_marked (marks n && not (idle n)) n) c.nodes.number c.new-node.result.number c.nodes.out.items c.push_name_if.new.out.items _
          (omega arith) c.new-node.ensures
          (c.push_name_if.ensures.text ∙ ap (λ (b : Bool). c.nodes.out.items ++ space_and_node_name_if_marked b c.new-node.result.number) c.is_busy.ensures) c.nodes.invariant.text;
    }

pub returns : goal.returns
returns c =
    let marks : ℕ → Bool = is_node_flagged c.args.marks.now in
    let idle : ℕ → Bool = is_node_flagged c.args.idle.now in
    all_added (λ n. space_and_node_name_if_marked (marks n && not (idle n)) n) c.nodes.number (144 - c.nodes.number) c.nodes.out.items _ (omega arith) c.nodes.invariant.text
