use Rattle.std.proofs.Common.{◌≡◌, ◌++◌, map, drop, flat_map, filter}
use Rattle.ga_parser.specs.Asking.{label_content}
use Rattle.ga_parser.specs.Recovery.{request_unplaced_label_refusals, is_request_label_placed}
use Rattle.ga_parser.specs.Requests.{refusal_of_source_fault}
use Rattle.ga_parser.proofs.recovery.requests_left.Given as goal

abbrev pub invariant-loop-one : goal.invariant-loop-one
invariant-loop-one l = record {
  faults : map refusal_of_source_fault l.faults.items ++ flat_map (request_unplaced_label_refusals (map label_content l.labels)) (drop l.one-index l.asked)
      ≡ map refusal_of_source_fault l.fn.faults.items ++ flat_map (request_unplaced_label_refusals (map label_content l.labels)) l.asked;
  left : l.left.items ++ filter (is_request_label_placed (map label_content l.labels)) (drop l.one-index l.asked) ≡ filter (is_request_label_placed (map label_content l.labels)) l.asked;
}
