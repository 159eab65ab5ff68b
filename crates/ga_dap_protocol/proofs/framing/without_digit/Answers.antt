use Rattle.std.proofs.Common.{length}
use Rattle.ga_dap_protocol.proofs.Frames.{is_name, is_no_digit, is_zero, not_zero}
use Rattle.ga_dap_protocol.proofs.framing.without_digit.Goals as goal

pub returns-then-is_empty : goal.returns-then-is_empty
returns-then-is_empty c = is_name c.args.rest.now (is_zero (length c.args.rest.now) c.is_empty.result c.is_empty.ensures c.if-is_empty.true)

pub returns-else-is_empty : goal.returns-else-is_empty
returns-else-is_empty c = is_no_digit c.args.rest.now (not_zero (length c.args.rest.now) c.is_empty.result c.is_empty.ensures c.if-is_empty.false) c.requires
