use Rattle.std.proofs.Common.{◌≡◌, ◌≤◌, take}
use Rattle.std.specs.List.{All}
use Rattle.ga_dap_protocol.specs.Framing.{IsDigit}
use Rattle.ga_dap_protocol.proofs.framing.digits_in.Given as goal

abbrev pub invariant-loop-byte : goal.invariant-loop-byte
invariant-loop-byte l = record { count : l.count ≡ l.byte-index; most : l.count ≤ 8; digits : All IsDigit (take l.count l.bytes) }
