use Rattle.std.proofs.Common.{◌≡◌, ◌≢◌, ◌<◌, ◌≤◌, ◌++◌, ℕ, List, [], take, length, refl, sym, ap, ◌∙◌, subst, arith, rules, length-take, Result, Ok, Err}
use Rattle.std.specs.Result.{IsErr}
use Rattle.std.proofs.lemmas.List.{take_all}
use Rattle.ga_lab.specs.Machine.{MachineState}
use Rattle.ga_display.specs.Texts.{worded_long_line_refusal, syntax_refusal}
use Rattle.ga_console.specs.Commands.{SpellsCommand}
use Rattle.ga_display.specs.declared.wording.RefusalWording.{RefusalWording}
use Rattle.ga_console.specs.Replies.{IsAnswerInWording, IsCommandReply}
use Rattle.ga_console.specs.Session.{AnswersOrQuitsLine, AnswersLine}
use Rattle.ga_console.specs.Replies.IsAnswerInWording.{long, command, syntax}
use Rattle.ga_text.specs.declared.output.WriteError.{WriteError}
use Rattle.ga_console.specs.declared.responder.LineAction.{LineAction}
use Rattle.ga_console.specs.declared.command.DebuggerCommand.{DebuggerCommand}
use Rattle.ga_console.specs.declared.command.DebuggerCommand.TheVariants.{Quit}
use Rattle.ga_text.proofs.WriteLemmas.{truncated_here, written_pending}
use Rattle.ga_console.proofs.responder.answer_line_in_wording.Goals as goal

too_long : (line part : List ℕ) → line ≡ take 201 part → 200 < length line → 200 < length part
too_long line part e h = omega (arith, ap length e, length-take 201 part)

whole : (line part : List ℕ) → line ≡ take 201 part → length line ≤ 200 → part ≡ line
whole line part e h = sym (e ∙ take_all 201 part (omega (arith, ap length e, length-take 201 part)))

-- a failed write changes nothing of what the answer is
turns_err : (w : RefusalWording) (s : MachineState) (line answer : List ℕ) (new : MachineState) (result : Result LineAction WriteError) → IsErr result
    → AnswersLine (IsAnswerInWording w) s line answer new → AnswersOrQuitsLine (IsAnswerInWording w) s line new result answer
turns_err w s line answer new (Ok turn) is h = absurd (search rules)
turns_err w s line answer new (Err why) is h = h

answers_long : (w : RefusalWording) (s : MachineState) (line text : List ℕ) → 200 < length line → text ≡ worded_long_line_refusal w → AnswersLine (IsAnswerInWording w) s line text s
answers_long w s line text past is = λ part kept.
    let long_part : 200 < length part = too_long line part kept past in
    (long long_part is refl, λ e. absurd (omega (arith, ap length e)))

answers_none : (w : RefusalWording) (s : MachineState) (line : List ℕ) → length line ≤ 200 → ((d : DebuggerCommand) → ¬ SpellsCommand d line) → AnswersLine (IsAnswerInWording w) s line syntax_refusal s
answers_none w s line short none = λ part kept.
    let same : part ≡ line = whole line part kept short in
    (syntax (omega (arith, ap length same)) (λ d spelled. none d (subst (SpellsCommand d) same spelled)) refl refl, λ q. none Quit (sym same ∙ q))

answers_done : (w : RefusalWording) (s : MachineState) (line answer : List ℕ) (new : MachineState) (d : DebuggerCommand) → length line ≤ 200 → SpellsCommand d line
    → ((other : DebuggerCommand) → SpellsCommand other line → other ≡ d) → d ≢ Quit → IsCommandReply w s d answer new → AnswersLine (IsAnswerInWording w) s line answer new
answers_done w s line answer new d short spelled only not_quit does = λ part kept.
    let same : part ≡ line = whole line part kept short in
    (command d (omega (arith, ap length same)) (subst (SpellsCommand d) (sym same) spelled) does, λ q. not_quit (sym (only Quit (sym same ∙ q))))

pub returns-in_err-write_text : goal.returns-in_err-write_text
returns-in_err-write_text g c = (
  search rules,
  λ before said h.
      let past : 200 < length c.args.line.now = omega (arith, c.if-line-gt-MAX_IMAGE_LINE_BYTES.true) in (
        c.long_line_refusal.result.now,
        turns_err c.args.wording _ _ _ _ c.from_residual.result c.from_residual.ensures.0
            (answers_long c.args.wording c.args.lab.now c.args.line.now c.long_line_refusal.result.now past c.long_line_refusal.ensures.text),
        truncated_here c.from_residual.result _ before (said ++ c.long_line_refusal.result.now) _ c.from_residual.ensures.0 (c.in_err-write_text.ensures.1 before said h),
      ),
)

pub returns-then-line-gt-MAX_IMAGE_LINE_BYTES : goal.returns-then-line-gt-MAX_IMAGE_LINE_BYTES
returns-then-line-gt-MAX_IMAGE_LINE_BYTES g c = (
  search rules,
  λ before said h.
      let past : 200 < length c.args.line.now = omega (arith, c.if-line-gt-MAX_IMAGE_LINE_BYTES.true) in
      (c.long_line_refusal.result.now, answers_long c.args.wording c.args.lab.now c.args.line.now c.long_line_refusal.result.now past c.long_line_refusal.ensures.text, c.in_ok-write_text.ensures.1 before said h),
)

pub returns-in_err-write_text-in-None : goal.returns-in_err-write_text-in-None
returns-in_err-write_text-in-None g c = (
  search rules,
  λ before said h.
      let short : length c.args.line.now ≤ 200 = omega (arith, c.if-line-gt-MAX_IMAGE_LINE_BYTES.false) in (
        syntax_refusal,
        turns_err c.args.wording _ _ _ _ c.from_residual-in_err-write_text-in-None.result c.from_residual-in_err-write_text-in-None.ensures.0
            (answers_none c.args.wording c.args.lab.now c.args.line.now short c.in-None.ensures.none),
        truncated_here c.from_residual-in_err-write_text-in-None.result _ before (said ++ syntax_refusal) _ c.from_residual-in_err-write_text-in-None.ensures.0 (c.in_err-write_text-in-None.ensures.1 before said h),
      ),
)

pub returns-in_ok-write_text-in-None : goal.returns-in_ok-write_text-in-None
returns-in_ok-write_text-in-None g c = (
  search rules,
  λ before said h.
      let short : length c.args.line.now ≤ 200 = omega (arith, c.if-line-gt-MAX_IMAGE_LINE_BYTES.false) in (
        syntax_refusal,
        answers_none c.args.wording c.args.lab.now c.args.line.now short c.in-None.ensures.none,
        c.in_ok-write_text-in-None.ensures.1 before said h,
      ),
)

pub returns-in_err-execute_command_in_wording-in_default : goal.returns-in_err-execute_command_in_wording-in_default
returns-in_err-execute_command_in_wording-in_default g c = (
  search rules,
  λ before said h.
      let short : length c.args.line.now ≤ 200 = omega (arith, c.if-line-gt-MAX_IMAGE_LINE_BYTES.false) in
      let done = c.in_err-execute_command_in_wording-in_default.ensures.1 before said h in (
        done.0,
        turns_err c.args.wording _ _ _ _ c.from_residual-in_err-execute_command_in_wording-in_default.result c.from_residual-in_err-execute_command_in_wording-in_default.ensures.0
            (answers_done c.args.wording c.args.lab.now c.args.line.now done.0 c.execute_command_in_wording.new.lab c.in-Some.command short
            c.in-Some.ensures.some c.in-Some.ensures.only c.in_default.not-Quit done.1),
        truncated_here c.from_residual-in_err-execute_command_in_wording-in_default.result _ before (said ++ done.0) _ c.from_residual-in_err-execute_command_in_wording-in_default.ensures.0 done.2,
      ),
)

pub returns-in_ok-execute_command_in_wording-in_default : goal.returns-in_ok-execute_command_in_wording-in_default
returns-in_ok-execute_command_in_wording-in_default g c = (
  search rules,
  λ before said h.
      let short : length c.args.line.now ≤ 200 = omega (arith, c.if-line-gt-MAX_IMAGE_LINE_BYTES.false) in
      let done = c.in_ok-execute_command_in_wording-in_default.ensures.1 before said h in (
        done.0,
        answers_done c.args.wording c.args.lab.now c.args.line.now done.0 c.execute_command_in_wording.new.lab c.in-Some.command short
            c.in-Some.ensures.some c.in-Some.ensures.only c.in_default.not-Quit done.1,
        done.2,
      ),
)

pub returns-in-Quit : goal.returns-in-Quit
returns-in-Quit g c = (
  search rules,
  λ before said h.
      let spelled = rw c.in-Quit.is at c.in-Some.ensures.some in
      ([], (spelled, refl, refl), written_pending _ before said _ h),
)
