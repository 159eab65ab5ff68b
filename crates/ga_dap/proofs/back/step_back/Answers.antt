use Rattle.std.proofs.Common.{Some, None, codes, refl, subst}
use Rattle.ga_causal.specs.Dependence.{is_node_flagged}
use Rattle.ga_grid.specs.declared.node_id.NodeId.{NodeId}
use Rattle.ga_dap_control.specs.Back.{rollback_summary_text}
use Rattle.ga_dap.specs.Telling.{AreMoveBackMessages}
use Rattle.ga_dap.proofs.Known.{carries_so, shown_so}
use Rattle.ga_dap.proofs.back.step_back.Goals as goal

pub returns-in_default : goal.returns-in_default
returns-in_default c = carries_so c.refuse.result _ _ _ _ _ _ c.refuse.ensures (λ messages told. (None, c.in_default.ensures, (told, refl))) (λ stays. refl)

pub returns : goal.returns
returns c =
    let before = is_node_flagged c.thread_flags_by_node-before.result in
    let shown = shown_so c.args.program.now c.as_slice.result.now before c.as_slice.ensures.value c.thread_flags_by_node-before.ensures.marks in
    carries_so c.emit_rollback_with_retry.result _ _ _ _ _ _ c.emit_rollback_with_retry.ensures
    (λ messages told. (
      Some c.in-Some.node,
      c.in-Some.ensures,
      (
        c.step_back_node-gone.ensures.program,
        (
          before,
          c.step_back_node-gone.result.before,
          c.step_back_node-gone.result.removed,
          shown,
          c.step_back_node-gone.ensures.went,
          subst (λ (n : NodeId). AreMoveBackMessages before c.step_back_node-gone.new.program c.args.request.now n
              (rollback_summary_text n c.step_back_node-gone.result.before c.step_back_node-gone.result.removed c.step_back_node-gone.new.program.lab) (codes "step") messages)
              c.step_back_node-gone.ensures.node told,
        ),
      ),
    ))
    (λ stays. absurd stays)
