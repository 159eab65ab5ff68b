use Rattle.std.proofs.Common.{refl}
use Rattle.ga_check_report.proofs.JudgingLemmas.{led_there}
use Rattle.ga_check_report.proofs.judging.make_breach.Goals as goal

pub returns-in-Ok-clause-known : goal.returns-in-Ok-clause-known
returns-in-Ok-clause-known c = (c.args.reached.which, c.make_reached.new.lab, c.in-Ok.made, c.in-Ok.ensures.made, refl)

pub returns-in-Ok-clause-led : goal.returns-in-Ok-clause-led
returns-in-Ok-clause-led c = led_there c.args.lab.now c.make_reached.new.lab c.args.conditions.now c.args.reached.which c.in-Ok.made c.in-Ok.ensures.made
