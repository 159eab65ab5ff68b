use Rattle.std.proofs.Common.{◌≡◌, drop}
use Rattle.ga_conditions.specs.Numbers.{parse_hex_number, append_hex_digits}
use Rattle.ga_conditions.proofs.numbers.hex_number.Given as goal

abbrev pub invariant-digits : goal.invariant-digits
invariant-digits l = parse_hex_number l.text ≡ append_hex_digits l.number (drop l.byte-index l.rest)
