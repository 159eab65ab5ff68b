use Rattle.std.proofs.Common.{sym}
use Rattle.std.proofs.lemmas.List.{take_all}
use Rattle.ga_dap.proofs.evaluating.front_of_line.Goals as goal

pub returns-then-line-le-LOOKED_AT : goal.returns-then-line-le-LOOKED_AT
returns-then-line-le-LOOKED_AT c = sym (take_all 201 c.args.line.now c.if-line-le-LOOKED_AT.true)
