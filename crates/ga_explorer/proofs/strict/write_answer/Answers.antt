use Rattle.std.proofs.Common.{ap, length, length-take, arith}
use Rattle.ga_explorer.proofs.strict.write_answer.Goals as goal

pub push_text-requires : goal.push_text-requires
push_text-requires g c = (
  omega arith,
  omega (arith, ap length c.clear.ensures, ap length c.front_of.ensures, length-take 201 c.args.answer.now),
)
