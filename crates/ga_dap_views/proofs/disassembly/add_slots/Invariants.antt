use Rattle.std.proofs.Common.{◌≡◌, ◌-◌, ◌++◌, string_bytes}
use Rattle.ga_dap_views.specs.Disassembly.{slots_text}
use Rattle.ga_dap_views.proofs.disassembly.add_slots.Given as goal

abbrev pub invariant-slots : goal.invariant-slots
invariant-slots l = string_bytes l.initial.text ++ slots_text l.notes l.node l.p l.word 0 4 ≡ string_bytes l.text ++ slots_text l.notes l.node l.p l.word l.slot (4 - l.slot)
