use Rattle.std.proofs.Common.{◌≡◌, drop, true}
use Rattle.ga_debug_info.specs.Edited.{first_hiding_end_line}
use Rattle.ga_debug_info.proofs.editor_artifact.hidden_in.Given as goal

abbrev pub invariant-loop-i : goal.invariant-loop-i
invariant-loop-i l = first_hiding_end_line l.line l.is_start (drop l.i l.source) ≡ first_hiding_end_line 1 true l.source
