use Rattle.std.proofs.Common.{◌≡◌, ◌++◌, map, drop}
use Rattle.ga_parser.specs.Recovery.{unclosed_word_refusal}
use Rattle.ga_parser.specs.Requests.{refusal_of_source_fault}
use Rattle.ga_parser.proofs.recovery.add_unclosed.Given as goal

abbrev pub invariant-loop-one : goal.invariant-loop-one
invariant-loop-one l = map refusal_of_source_fault l.faults.items ++ map unclosed_word_refusal (drop l.one-index l.all) ≡ map refusal_of_source_fault l.fn.faults.items ++ map unclosed_word_refusal l.all
