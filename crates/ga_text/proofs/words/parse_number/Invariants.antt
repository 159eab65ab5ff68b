use Rattle.std.proofs.Common.{◌≡◌, drop}
use Rattle.ga_text.specs.Parsing.{parse_number, number_with_decimal_digits}
use Rattle.ga_text.proofs.words.parse_number.Given as goal

abbrev pub invariant-digits : goal.invariant-digits
invariant-digits l = parse_number l.word ≡ number_with_decimal_digits l.number (drop l.byte-index l.rest)
