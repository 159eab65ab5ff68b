use Rattle.ga_dap_protocol.proofs.Unique.{once}
use Rattle.ga_dap_protocol.proofs.laws.message_end_is_stable.Goals as goal

pub returns : goal.returns
returns c = once
