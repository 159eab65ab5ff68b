use Rattle.std.proofs.Common.{rules}
use Rattle.ga_word.proofs.Word18.mul_step.Goals as goal

pub returns-clause-high : goal.returns-clause-high
returns-clause-high c = search rules

pub returns-clause-low : goal.returns-clause-low
returns-clause-low c = search rules
