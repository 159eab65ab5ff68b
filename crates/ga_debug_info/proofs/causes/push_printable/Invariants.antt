use Rattle.std.proofs.Common.{◌≡◌, ◌++◌, drop, flat_map}
use Rattle.ga_debug_info.specs.Faults.{printable_byte_text}
use Rattle.ga_debug_info.proofs.causes.push_printable.Given as goal

abbrev pub invariant-loop-byte : goal.invariant-loop-byte
invariant-loop-byte l = l.text.items ++ flat_map printable_byte_text (drop l.byte-index l.word) ≡ l.fn.text.items ++ flat_map printable_byte_text l.word
