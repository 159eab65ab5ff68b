use Rattle.std.proofs.Common.{sym, subst, arith}
use Rattle.std.specs.List.{All}
use Rattle.ga_dap_protocol.specs.Framing.{IsDigit}
use Rattle.ga_dap_protocol.proofs.Frames.{read_is, ends_there}
use Rattle.ga_dap_protocol.proofs.framing.value_behind.Goals as goal

pub returns-clause-reads : goal.returns-clause-reads
returns-clause-reads c = (
  read_is c.args.bytes.now c.split_at.result.1.now c.split_at-2.result.0.now c.split_at-2.result.1.now c.digits_in-count.result
      c.requires.name c.split_at.ensures.back c.split_at-2.ensures.front c.split_at-2.ensures.back,
  subst (All IsDigit) (sym c.split_at-2.ensures.front) c.digits_in-count.ensures.digits,
)

pub returns-clause-all : goal.returns-clause-all
returns-clause-all c = λ few.
    ends_there c.split_at.result.1.now c.split_at-2.result.1.now c.digits_in-count.result c.split_at-2.ensures.back c.digits_in-count.ensures.within
    c.digits_in-count.ensures.all (omega (arith, few, c.split_at-2.ensures.front_len))
