use Rattle.ga_state_expectations.specs.declared.source.Expectation.TheVariants.{NodeAtEveryEnd}
use Rattle.ga_check_report.proofs.BreachSessions.{led_session}
use Rattle.ga_check_report.proofs.breach_session.tell_path.Goals as goal

pub returns-in-Ok : goal.returns-in-Ok
returns-in-Ok g c = λ before held.
    let sent = c.tell_saved_as.ensures before held in (
      sent.0,
      sent.1,
      led_session c.args.request c.args.lab.now c.lead_to_chip.new.lab c.args.one.now (NodeAtEveryEnd c.args.expectation.now) c.args.asked sent.0 c.tell_saved_as.result c.requires.said
          c.in-Ok.ensures.led sent.2,
    )
