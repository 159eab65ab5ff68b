use Rattle.std.proofs.Common.{◌≡◌, ◌∙◌, Bool, List, ℕ, Some, ap, subst}
use Rattle.std.specs.Prelude.{Option}
use Rattle.ga_causal.specs.Dependence.{is_node_flagged}
use Rattle.ga_text.specs.Lines.{Text}
use Rattle.ga_explorer.specs.Classes.{command_class_of_line}
use Rattle.ga_explorer.specs.declared.forms.CommandClass.{CommandClass}
use Rattle.ga_dap.specs.Evaluating.{ExecutesConsoleCommand, AreCommandAnswerAndChangeMessages}
use Rattle.ga_dap.specs.Telling.{is_change_command_done}
use Rattle.ga_dap.proofs.Known.{carries_so, shown_so}
use Rattle.ga_dap.proofs.console.obey.Goals as goal

pub returns-in-Ok-Some : goal.returns-in-Ok-Some
returns-in-Ok-Some c =
    let before = is_node_flagged c.thread_flags_by_node-before.result in
    let shown = shown_so c.args.program.now c.as_slice.result.now before c.as_slice.ensures.value c.thread_flags_by_node-before.ensures.marks in
    let told = rw c.in-Ok-Some.field-0-is at c.in-Ok-Some.ensures.told in
    let answer : List ℕ = c.in-Ok-Some.answer.items in
    let line : List ℕ = c.args.line.now in
    let moved : c.is_change_command_done-moved.result ≡ is_change_command_done (command_class_of_line line) answer =
    c.is_change_command_done-moved.ensures
    ∙ ap (λ (z : Option CommandClass). is_change_command_done z c.as_slice-text.result.now) (c.command_class_of_line-class.ensures ∙ ap command_class_of_line c.as_bytes-bytes.ensures.value)
    ∙ ap (is_change_command_done (command_class_of_line line)) c.as_slice-text.ensures.value in
    carries_so c.emit_command_with_retry.result _ _ _ _ _ _ c.emit_command_with_retry.ensures
    (λ messages success_response. (
      Some answer,
      subst (λ (z : Text). ExecutesConsoleCommand c.args.program.now z c.command_text.new.program (Some answer)) c.as_bytes-bytes.ensures.value told,
      (
        before,
        shown,
        subst (λ (z : Bool). AreCommandAnswerAndChangeMessages c.args.request.now answer z before c.command_text.new.program c.args.node messages) moved
            (subst (λ (z : Text). AreCommandAnswerAndChangeMessages c.args.request.now z c.is_change_command_done-moved.result before c.command_text.new.program c.args.node messages) c.as_slice-text.ensures.value success_response),
      ),
    ))
    (λ stays. absurd stays)
