use Rattle.std.proofs.Common.{◌≡◌, drop, false}
use Rattle.ga_debug_info.specs.Edited.{first_carriage_return}
use Rattle.ga_debug_info.proofs.editor_artifact.return_in.Given as goal

abbrev pub invariant-loop-byte : goal.invariant-loop-byte
invariant-loop-byte l = first_carriage_return l.line l.is_return (drop l.byte-index l.image) ≡ first_carriage_return 1 false l.image
