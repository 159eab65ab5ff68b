use Rattle.std.proofs.Common.{◌≡◌, ◌≤◌, ◌<◌, ◌+◌, ◌*◌, ◌-◌, ℕ, List, length, drop, get_or, arith}
use Rattle.std.proofs.lemmas.List.{at_drop_more}
use Rattle.ga_dap_protocol.specs.Framing.{content_limit, decimal_value_of_digits}
use Rattle.ga_dap_protocol.proofs.Unique.{grows}
use Rattle.ga_dap_protocol.proofs.framing.length_of.Goals as goal

-- one digit more
past : (digits : List ℕ) (i number digit : ℕ) → i < length digits → decimal_value_of_digits number (drop i digits) ≡ decimal_value_of_digits 0 digits → digit ≡ get_or digits i 0 - 48 →
    content_limit < 10 * number + digit → content_limit < decimal_value_of_digits 0 digits
past digits i number digit lt value is more =
    let step : decimal_value_of_digits number (drop i digits) ≡ decimal_value_of_digits (10 * number + (get_or digits i 0 - 48)) (drop (i + 1) digits) = at_drop_more (decimal_value_of_digits number) digits i 0 lt in
    let low : 10 * number + (get_or digits i 0 - 48) ≤ decimal_value_of_digits (10 * number + (get_or digits i 0 - 48)) (drop (i + 1) digits) = grows (10 * number + (get_or digits i 0 - 48)) (drop (i + 1) digits) in
    omega arith

pub returns-then-number-gt-CONTENT_LIMIT-clause-past : goal.returns-then-number-gt-CONTENT_LIMIT-clause-past
returns-then-number-gt-CONTENT_LIMIT-clause-past c =
    past c.args.digits.now c.loop-byte.byte-index c.loop-byte.number c.from.result c.loop-byte-test.true c.loop-byte.invariant.value c.from.ensures c.if-number-gt-CONTENT_LIMIT.true
