use Rattle.std.proofs.Common.{◌≡◌, ◌≤◌, ◌++◌}
use Rattle.ga_asm_text.specs.inner.{last_hex_digits}
use Rattle.ga_asm_text.proofs.number_text.push_hex.Given as goal

abbrev pub invariant-loop-left : goal.invariant-loop-left
invariant-loop-left l = (l.left ≤ 8) × (l.text.items ++ last_hex_digits l.left l.number ≡ l.initial.text.items ++ last_hex_digits l.digits l.number)

abbrev pub decreases-loop-left : goal.decreases-loop-left
decreases-loop-left l = l.left
