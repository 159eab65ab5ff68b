use Rattle.std.proofs.Common.{◌≢◌, ◌<◌, ℕ}
use Rattle.ga_dap_queries.specs.Commands.{command_name}
use Rattle.ga_dap_queries.specs.inner.{request_name_at}
use Rattle.ga_dap_queries.proofs.request_name.parse_request_name.Given as goal

abbrev pub invariant-commands : goal.invariant-commands
invariant-commands l = (k : ℕ) → k < l.place → command_name (request_name_at k) ≢ l.name
