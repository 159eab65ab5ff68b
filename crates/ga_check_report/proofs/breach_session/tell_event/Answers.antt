use Rattle.std.proofs.Common.{refl}
use Rattle.ga_check_report.proofs.JudgingLemmas.{never_led}
use Rattle.ga_check_report.proofs.BreachSessions.{led_session}
use Rattle.ga_check_report.proofs.breach_session.tell_event.Goals as goal

pub returns-in-Ok : goal.returns-in-Ok
returns-in-Ok g c = λ before held.
    let sent = c.tell_saved_as.ensures before held in (
      sent.0,
      sent.1,
      led_session c.args.request c.args.lab.now c.make_reached.new.lab c.args.one.now c.args.one.now.expectation c.args.asked sent.0 c.tell_saved_as.result refl
          (never_led c.args.lab.now c.make_reached.new.lab c.args.conditions.now c.args.one.now.expectation c.args.reached.which c.in-Ok._made c.requires.said c.in-Ok.ensures.made) sent.2,
    )
