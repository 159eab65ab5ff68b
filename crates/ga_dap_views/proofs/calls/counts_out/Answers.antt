use Rattle.std.proofs.Common.{◌≡◌, ◌==◌, ℕ, ap, ◌∙◌, arith}
use Rattle.ga_node.specs.Record.{record_of_node}
use Rattle.ga_node.specs.Table.{register_r}
use Rattle.ga_lab.specs.Machine.{node_at_step}
use Rattle.ga_provenance.proofs.Made.{stood_of}
use Rattle.ga_dap_views.proofs.calls.counts_out.Goals as goal

pub returns-clause-value : goal.returns-clause-value
returns-clause-value c =
    let walk = c.args.walk.now in
    let back : c.walk_back_to.new.self ≡ node_at_step walk.machine walk.node c.args.at = c.walk_back_to.ensures in
    let there = stood_of walk.machine walk.node c.walk_back_to.new.self c.args.at (record_of_node c.node.result.now) back (omega (arith, c.step.ensures.within, c.step.ensures.value)) c.node.ensures in
    ap (λ (z : ℕ). z == 0) (c.word_of_return_stack.ensures.value ∙ ap register_r there)
