use Rattle.ga_state_expectations.specs.declared.source.Expectation.TheVariants.{EveryOrderEnds, OneEnd}
use Rattle.ga_check_report.proofs.BreachSessions.{no_session}
use Rattle.ga_check_report.proofs.breach_session.tell_one.Goals as goal

pub returns-in-EveryOrderEnds : goal.returns-in-EveryOrderEnds
returns-in-EveryOrderEnds g c = λ before held.
    let sent = c.tell_unbroken.ensures before held in (
      sent.0,
      sent.1,
      no_session c.args.request c.args.lab.now c.args.found.now c.args.one.now EveryOrderEnds c.args.asked c.judge_endless.result sent.0 c.tell_unbroken.result
          c.in-EveryOrderEnds.is c.requires (c.judge_endless.ensures c.args.lab.now) sent.2,
    )

pub returns-in-OneEnd : goal.returns-in-OneEnd
returns-in-OneEnd g c = λ before held.
    let sent = c.tell_unbroken-in-OneEnd.ensures before held in (
      sent.0,
      sent.1,
      no_session c.args.request c.args.lab.now c.args.found.now c.args.one.now OneEnd c.args.asked c.judge_count.result sent.0 c.tell_unbroken-in-OneEnd.result
          c.in-OneEnd.is c.requires (c.judge_count.ensures c.args.lab.now) sent.2,
    )
