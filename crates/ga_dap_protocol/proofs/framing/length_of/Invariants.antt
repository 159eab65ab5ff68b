use Rattle.std.proofs.Common.{◌≡◌, ◌≤◌, drop}
use Rattle.ga_dap_protocol.specs.Framing.{decimal_value_of_digits}
use Rattle.ga_dap_protocol.proofs.framing.length_of.Given as goal

abbrev pub invariant-loop-byte : goal.invariant-loop-byte
invariant-loop-byte l = record { within : l.number ≤ 131072; value : decimal_value_of_digits l.number (drop l.byte-index l.digits) ≡ decimal_value_of_digits 0 l.digits }
