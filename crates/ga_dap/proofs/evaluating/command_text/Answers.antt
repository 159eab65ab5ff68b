use Rattle.std.proofs.Common.{rules, ◌≡◌, ◌≢◌, ◌∙◌, ℕ, List, [], ◌++◌, Option, Some, refl, sym, ap, subst}
use Rattle.std.proofs.lemmas.List.{append-nil}
use Rattle.ga_text.specs.Lines.{Text}
use Rattle.ga_text.specs.Output.{IsTextWrittenOrPending}
use Rattle.ga_console.proofs.AheadLemmas.{quit_part}
use Rattle.ga_explorer.specs.Answers.{AnswersExplorerLine}
use Rattle.ga_explorer.specs.Classes.{command_class_of_line}
use Rattle.ga_explorer.specs.Opening.{ExplorerState, explorer_state}
use Rattle.ga_explorer.specs.declared.forms.CommandClass.{CommandClass}
use Rattle.ga_explorer.specs.declared.forms.CommandClass.TheVariants.{Change}
use Rattle.ga_explorer.proofs.Classes.{no_change_same}
use Rattle.ga_lab.specs.Machine.{MachineState}
use Rattle.ga_dap_queries.specs.declared.debuggee.Debuggee.{Debuggee}
use Rattle.ga_dap.specs.declared.unanswered.NoResponse.{NoResponse}
use Rattle.ga_dap.specs.declared.unanswered.NoResponse.TheVariants.{Memory, Untold}
use Rattle.ga_dap.specs.inner.Carrying.{no_response_reason_of_command_class}
use Rattle.ga_dap.proofs.evaluating.command_text.Goals as goal

-- nothing was said before
nothing_said : (items output : List ℕ) → items ≡ [] → output ≡ [] → IsTextWrittenOrPending (Some items) [] [] output
nothing_said items output i o = record { sent = []; held = ap (λ (z : List ℕ). Some z) i; splits = sym o }

-- a command without an answer for want of memory is no change
no_change : (class : Option CommandClass) (why : NoResponse) → why ≡ no_response_reason_of_command_class class → why ≡ Memory → class ≢ Some Change
no_change class why e memory = λ is. let untold : why ≡ Untold = e ∙ ap no_response_reason_of_command_class is in absurd (let no : ⊥ = cc in no)

unmoved : (p : Debuggee) (line answer : List ℕ) (lab : MachineState) → AnswersExplorerLine (explorer_state p.lab p.source) line answer (explorer_state lab p.source)
    → command_class_of_line line ≢ Some Change → (let new : Debuggee = record p { lab = lab } in new) ≡ p
unmoved p line answer lab does other_class =
    ap (λ (z : ExplorerState). let d : Debuggee = record p { lab = z.lab } in d) (no_change_same (explorer_state p.lab p.source) line answer (explorer_state lab p.source) other_class does)

pub returns-in-Ok-flush-clause-told : goal.returns-in-Ok-flush-clause-told
returns-in-Ok-flush-clause-told c =
    let stream = c.new-said.ensures.stream in
    let empty = c.reserve.ensures.items ∙ c.new-answer.ensures.items in
    let begun : c.new-said.result.stream.now.items ≡ [] = cc in
    let said = nothing_said c.new-said.result.stream.now.items c.new-said.result.pending.items begun c.new-said.ensures.nothing in
    let h = rw c.in-Ok-Answered.field-0-is at (c.in-Ok-Answered.ensures.1 [] [] said) in
    let part = h.1 c.args.line.now c.front_of_line.ensures in
    let told = c.in-Ok-flush.ensures.said.1 [] h.0 h.2 in
    let e : h.0 ≡ told.sent = told.splits ∙ ap (λ (z : List ℕ). told.sent ++ z) c.in-Ok-flush.ensures.sent ∙ append-nil told.sent in
    let whole : c.flush.new.self.stream.now.items ≡ h.0 = cc in
    let begins = c.new-said.ensures.same in
    let goes_on = c.in-Ok-Answered.ensures.0 in
    let ends = c.in-Ok-flush.ensures.said.0 in
    let name : c.flush.new.self.stream.ghost_name ≡ c.new-said.result.stream.ghost_name = ends ∙ goes_on in
    let left = c.answer-in-Ok-Answered-1.given.1 (sym (name ∙ begins)) in (
      refl,
      subst (λ (z : Text). AnswersExplorerLine (explorer_state c.args.program.now.lab c.args.program.now.source) c.args.line.now z (explorer_state c.answer_explorer_line.new.lab c.args.program.now.source))
          (sym whole ∙ ap (λ v. v.items) (sym left)) part.0,
      part.1,
    )

pub returns-in-Err-flush-clause-unmoved : goal.returns-in-Err-flush-clause-unmoved
returns-in-Err-flush-clause-unmoved c = λ memory.
    let stream = c.new-said.ensures.stream in
    let empty = c.reserve.ensures.items ∙ c.new-answer.ensures.items in
    let begun : c.new-said.result.stream.now.items ≡ [] = cc in
    let said = nothing_said c.new-said.result.stream.now.items c.new-said.result.pending.items begun c.new-said.ensures.nothing in
    let h = rw c.in-Ok-Answered.field-0-is at (c.in-Ok-Answered.ensures.1 [] [] said) in
    let part = h.1 c.args.line.now c.front_of_line.ensures in
    unmoved c.args.program.now c.args.line.now h.0 c.answer_explorer_line.new.lab part.0 (no_change (command_class_of_line c.args.line.now) c.no_response_to.result c.no_response_to.ensures (cc))

pub returns-in-Ok-Quit-clause-told : goal.returns-in-Ok-Quit-clause-told
returns-in-Ok-Quit-clause-told c =
    let stream = c.new-said.ensures.stream in
    let empty = c.reserve.ensures.items ∙ c.new-answer.ensures.items in
    let begun : c.new-said.result.stream.now.items ≡ [] = cc in
    let said = nothing_said c.new-said.result.stream.now.items c.new-said.result.pending.items begun c.new-said.ensures.nothing in
    let h = rw c.in-Ok-Quit.field-0-is at (c.in-Ok-Quit.ensures.1 [] [] said) in (
      ap (λ (z : ExplorerState). let d : Debuggee = record c.args.program.now { lab = z.lab } in d) h.1.1,
      quit_part c.front_of_line.result.now c.args.line.now c.front_of_line.ensures h.1.0,
    )

pub returns-in-Ok-Refused-clause-told : goal.returns-in-Ok-Refused-clause-told
returns-in-Ok-Refused-clause-told c =
    let stream = c.new-said.ensures.stream in
    let empty = c.reserve.ensures.items ∙ c.new-answer.ensures.items in
    let begun : c.new-said.result.stream.now.items ≡ [] = cc in
    let said = nothing_said c.new-said.result.stream.now.items c.new-said.result.pending.items begun c.new-said.ensures.nothing in
    let h = rw c.in-Ok-Refused.field-0-is at (c.in-Ok-Refused.ensures.1 [] [] said) in
    absurd h.1

pub returns-in-Err-clause-unmoved : goal.returns-in-Err-clause-unmoved
returns-in-Err-clause-unmoved c = λ memory.
    let stream = c.new-said.ensures.stream in
    let empty = c.reserve.ensures.items ∙ c.new-answer.ensures.items in
    let begun : c.new-said.result.stream.now.items ≡ [] = cc in
    let said = nothing_said c.new-said.result.stream.now.items c.new-said.result.pending.items begun c.new-said.ensures.nothing in
    let h = c.in-Err.ensures.1 [] [] said in
    let part = h.1 c.args.line.now c.front_of_line.ensures in
    unmoved c.args.program.now c.args.line.now h.0 c.answer_explorer_line.new.lab part.0 (no_change (command_class_of_line c.args.line.now) c.no_response_to-in-Err.result c.no_response_to-in-Err.ensures (cc))
