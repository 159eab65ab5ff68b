use Rattle.std.proofs.Common.{Bool, sym, ap}
use Rattle.ga_dap_control.specs.Slices.{deadlocked_node_if_filter_set}
use Rattle.ga_dap_control.proofs.deadlocks.unreported.Goals as goal

pub returns-then-settings : goal.returns-then-settings
returns-then-settings c =
    (c.newly_stuck-stuck.result, c.newly_stuck-stuck.ensures, sym (ap (λ (z : Bool). deadlocked_node_if_filter_set z c.newly_stuck-stuck.result) c.if-settings.true))

pub returns-else-settings : goal.returns-else-settings
returns-else-settings c =
    (c.newly_stuck-stuck.result, c.newly_stuck-stuck.ensures, sym (ap (λ (z : Bool). deadlocked_node_if_filter_set z c.newly_stuck-stuck.result) c.if-settings.false))
