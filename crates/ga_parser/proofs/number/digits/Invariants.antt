use Rattle.std.specs.Prelude.{min}
use Rattle.std.proofs.Common.{◌≡◌, true, take}
use Rattle.std.specs.List.{list_all}
use Rattle.std.specs.Char.{is_digit}
use Rattle.std.specs.Str.Parse.{digits_value}
use Rattle.ga_parser.proofs.number.digits.Given as goal

abbrev pub invariant-loop-byte : goal.invariant-loop-byte
invariant-loop-byte l = record {
  all : list_all (λ byte. is_digit byte l.base) (take l.byte-index l.text) ≡ true;
  value : l.number ≡ min (digits_value l.base (take l.byte-index l.text)) 16777216;
}
