-- What is known of expectations during a run (docs/REFERENCE.md, "Expectations in a session"; this project's own).
use Rattle.std.specs.Prelude.{ℕ, ◌≡◌, Bool, true, false, List, length, slice_index, slice_index_or, Some, IsSome}
use Rattle.std.specs.List.{slice_get}
use Rattle.ga_lab.specs.Machine.{MachineState}
use Rattle.ga_scheduler.specs.Words.{link_transfer_count}
use Rattle.ga_state_expectations.specs.declared.knowledge.ExpectationKnowledge.{ExpectationKnowledge}
use Rattle.ga_state_expectations.specs.declared.source.Expectation.{Expectation}
use Rattle.ga_state_expectations.specs.declared.source.Expectation.TheVariants.{NodeAtEveryEnd, Never, LinkPassesWords, EveryOrderEnds, OneEnd}
use Rattle.ga_state_expectations.specs.declared.source.LineExpectation.{LineExpectation}
use Rattle.ga_state_expectations.specs.Breaking.{oldest_violation}

-- the number of words that passed over the expectation's link; 0 for an expectation of no link
abbrev pub expectation_link_words : Expectation → MachineState → ℕ
expectation_link_words (NodeAtEveryEnd expected) s = 0
expectation_link_words (Never conditions) s = 0
expectation_link_words (LinkPassesWords expected) s = link_transfer_count s expected.from.number expected.to.number
expectation_link_words EveryOrderEnds s = 0
expectation_link_words OneEnd s = 0

-- of each of some expectations the number of words that passed over its link
abbrev pub AreLinkWordCounts : List LineExpectation → MachineState → List ℕ → Type 0
AreLinkWordCounts expectations s words = (k : ℕ) (one : LineExpectation) → slice_get expectations k ≡ Some one → slice_index words k ≡ expectation_link_words one.expectation s

-- an expectation that is flagged is broken: an event of the history violates it
abbrev pub AreKnownBroken : List LineExpectation → MachineState → List Bool → Type 0
AreKnownBroken expectations s broken =
    (k : ℕ) (one : LineExpectation) → slice_get expectations k ≡ Some one → slice_index_or broken k false ≡ true → IsSome (oldest_violation one.expectation s)

-- this is known of some expectations after the events of a machine
pub record IsExpectationKnowledge (expectations : List LineExpectation) (s : MachineState) (known : ExpectationKnowledge) : Type 0 where
  pub counts : length known.words.items ≡ length expectations
  pub flags : length known.broken.items ≡ length expectations
  pub words : AreLinkWordCounts expectations s known.words.items
  pub broken : AreKnownBroken expectations s known.broken.items
