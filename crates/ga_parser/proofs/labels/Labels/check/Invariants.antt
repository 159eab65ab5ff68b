use Rattle.std.proofs.Common.{◌≡◌, drop, map}
use Rattle.ga_parser.specs.Asking.{ParseState, label_content, refuse_unplaced_label}
use Rattle.ga_parser.proofs.labels.Labels.check.Given as goal

abbrev pub invariant-loop-label : goal.invariant-loop-label
invariant-loop-label l = (now : ParseState) → refuse_unplaced_label now (map label_content (drop l.label-index l.label-items)) ≡ refuse_unplaced_label now l.self
