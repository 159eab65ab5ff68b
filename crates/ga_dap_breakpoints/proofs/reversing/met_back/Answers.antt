use Rattle.std.proofs.Common.{◌≡◌, ◌∙◌, ℕ, ap}
use Rattle.ga_node.specs.Record.{NodeRecord, record_of_node}
use Rattle.ga_lab.specs.Machine.{NodeAtStep, node_at_step}
use Rattle.ga_provenance.specs.Origins.{node_after_steps}
use Rattle.ga_dap_breakpoints.specs.Conditions.{is_optional_value_test_passed}
use Rattle.ga_dap_breakpoints.proofs.Reversals.{stands_so}
use Rattle.ga_dap_breakpoints.proofs.reversing.met_back.Goals as goal

pub returns-clause-met : goal.returns-clause-met
returns-clause-met c =
    let s = c.args.lab.now in
    let node = c.args.node in
    let step : ℕ = c.args.step in
    let at : c.walk_back_to.new.self ≡ node_at_step s node step = c.walk_back_to.ensures ∙ ap (λ (z : NodeAtStep). record z { step = step }) c.requires.walk in
    let there : record_of_node c.node.result.now ≡ node_after_steps s node.number step =
    stands_so s node c.walk_back_to.new.self step c.step-reached.result (record_of_node c.node.result.now) at c.step-reached.ensures.value c.step-reached.ensures.within c.node.ensures in
    c.is_optional_value_test_passed.ensures
    ∙ ap (λ (z : ℕ). is_optional_value_test_passed c.args.condition (record_of_node c.node.result.now) z) (c.step-reached.ensures.value ∙ ap (λ (z : NodeAtStep). z.step) at)
    ∙ ap (λ (z : NodeRecord). is_optional_value_test_passed c.args.condition z step) there
