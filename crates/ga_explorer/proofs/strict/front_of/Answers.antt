use Rattle.std.proofs.Common.{sym, arith}
use Rattle.std.proofs.lemmas.List.{take_all}
use Rattle.ga_explorer.proofs.strict.front_of.Goals as goal

pub returns-then-answer-le-MAX_REFUSAL : goal.returns-then-answer-le-MAX_REFUSAL
returns-then-answer-le-MAX_REFUSAL c = sym (take_all 201 c.args.answer.now (omega (arith, c.if-answer-le-MAX_REFUSAL.true)))
