use Rattle.std.proofs.Common.{◌≡◌, map, take}
use Rattle.ga_state_expectations.specs.Knowledge.{expectation_link_words}
use Rattle.ga_state_expectations.proofs.knowledge.count_all_link_words.Given as goal

abbrev pub invariant-lines : goal.invariant-lines
invariant-lines l = l.words.items ≡ map (λ one. expectation_link_words one.expectation l.lab) (take l.one-index l.expectations)
