use Rattle.std.proofs.Common.{Option, subst}
use Rattle.ga_text.specs.Lines.{Text}
use Rattle.ga_dap.specs.Evaluating.{EvaluatesExpressionIfPresent}
use Rattle.ga_dap.proofs.Known.{carries_so}
use Rattle.ga_dap.proofs.console.evaluate.Goals as goal

pub returns : goal.returns
returns c =
    carries_so c.evaluate_in.result _ _ _ _ _ _ c.evaluate_in.ensures
    (λ messages does. subst (λ (given : Option Text). EvaluatesExpressionIfPresent c.args.program.now c.args.request.now given messages c.evaluate_in.new.program) c.in-Some.ensures
    (c.node_of_expression-node.result, c.trim_ascii.result.now, c.node_of_expression-node.ensures, c.trim_ascii.ensures.value, does))
    (λ stays. stays)
