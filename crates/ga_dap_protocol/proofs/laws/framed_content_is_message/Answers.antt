use Rattle.ga_dap_protocol.proofs.Unique.{framed_content_is_message}
use Rattle.ga_dap_protocol.proofs.laws.framed_content_is_message.Goals as goal

pub returns : goal.returns
returns c = framed_content_is_message
