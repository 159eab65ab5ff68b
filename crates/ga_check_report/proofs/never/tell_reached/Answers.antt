use Rattle.std.proofs.Common.{Bool, sym, subst}
use Rattle.ga_check_report.specs.Checking.{IsWrittenWithVerdictOrFails}
use Rattle.ga_check_report.specs.Answers.{reached_event_answer}
use Rattle.ga_check_report.specs.declared.report.Verdict.TheVariants.{Unclean}
use Rattle.ga_check_report.proofs.never.tell_reached.Goals as goal

pub returns-then-session : goal.returns-then-session
returns-then-session g c = λ before held.
    let sent = c.tell_saved_as.ensures before held in
    let P : Bool → Type 0 = λ b. IsWrittenWithVerdictOrFails (reached_event_answer c.args.format b c.args.conditions c.args.which c.args.made c.args.lab.now) Unclean sent.0 c.tell_saved_as.result in
    (sent.0, sent.1, subst P (sym c.if-session.true) sent.2)

pub returns-else-session : goal.returns-else-session
returns-else-session g c = λ before held.
    let sent = c.tell_made.ensures before held in
    let P : Bool → Type 0 = λ b. IsWrittenWithVerdictOrFails (reached_event_answer c.args.format b c.args.conditions c.args.which c.args.made c.args.lab.now) Unclean sent.0 c.tell_made.result in
    (sent.0, sent.1, subst P (sym c.if-session.false) sent.2)
