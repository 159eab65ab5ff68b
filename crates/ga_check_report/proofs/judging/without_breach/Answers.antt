use Rattle.std.proofs.Common.{◌∙◌, sym}
use Rattle.ga_check_report.proofs.Telling.{whole_is}
use Rattle.ga_check_report.proofs.judging.without_breach.Goals as goal

pub returns-then-is_fully_explored : goal.returns-then-is_fully_explored
returns-then-is_fully_explored c = (whole_is c.args.found.now.fault (sym c.is_fully_explored.ensures ∙ c.if-is_fully_explored.true), tt)

pub returns-else-is_fully_explored : goal.returns-else-is_fully_explored
returns-else-is_fully_explored c = (sym c.is_fully_explored.ensures ∙ c.if-is_fully_explored.false, tt)
