use Rattle.std.proofs.Common.{◌≢◌, ◌<◌, ℕ}
use Rattle.ga_dap_views.specs.declared.scope.Scope.TheVariants.{Registers}
use Rattle.ga_dap_views.specs.Shown.{scope_variable_at_index, variable_name}
use Rattle.ga_dap_queries.proofs.evaluating.register_named.Given as goal

abbrev pub invariant-registers : goal.invariant-registers
invariant-registers l = (k : ℕ) → k < l.place → variable_name (scope_variable_at_index Registers k) ≢ l.name
