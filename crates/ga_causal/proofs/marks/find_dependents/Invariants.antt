use Rattle.std.proofs.Common.{◌≡◌, ◌++◌, false, replicate, drop}
use Rattle.ga_causal.specs.Dependence.{is_node_flagged, dependent_flags_from_marks, dependent_flags}
use Rattle.ga_causal.proofs.marks.find_dependents.Given as goal

abbrev pub invariant-loop-i : goal.invariant-loop-i
invariant-loop-i l = l.flags.items ≡ replicate l._i false

abbrev pub invariant-loop-event : goal.invariant-loop-event
invariant-loop-event l = l.flags.items ++ dependent_flags_from_marks (is_node_flagged l.marks) (drop l.event-index l.event-items) ≡ dependent_flags l.events l.place
