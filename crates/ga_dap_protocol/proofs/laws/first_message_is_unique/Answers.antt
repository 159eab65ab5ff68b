use Rattle.std.proofs.Common.{[], refl}
use Rattle.ga_dap_protocol.proofs.Unique.{both}
use Rattle.ga_dap_protocol.proofs.laws.first_message_is_unique.Goals as goal

pub returns-clause-text : goal.returns-clause-text
returns-clause-text c = λ text other content inner after behind m k e. let r = both text other content inner after behind m k e in (r.1, r.2)

pub returns-clause-content : goal.returns-clause-content
returns-clause-content c = λ text content inner m k. (both text text content inner [] [] m k refl).0
