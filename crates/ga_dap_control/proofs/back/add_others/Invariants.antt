use Rattle.std.proofs.Common.{◌≡◌, ◌++◌, string_bytes}
use Rattle.ga_dap_control.specs.Back.{removed_steps_text_below}
use Rattle.ga_dap_control.proofs.back.add_others.Given as goal

abbrev pub invariant-nodes : goal.invariant-nodes
invariant-nodes l = string_bytes l.text ≡ string_bytes l.initial.text ++ removed_steps_text_below l.gone.node.number l.gone.before l.lab l.number
