use Rattle.std.proofs.Common.{◌∙◌, ℕ, ◌+◌, false, slice_index_or, sym, ap}
use Rattle.std.specs.List.{slice_index}
use Rattle.ga_state_expectations.specs.inner.{event_link_words}
use Rattle.ga_state_expectations.proofs.LinkCounts.{words_after_step}
use Rattle.ga_state_expectations.proofs.KnownBreaches.{broken_stays}
use Rattle.ga_state_expectations.proofs.knowledge.ExpectationKnowledge.breaks_one_expectation.Goals as goal

pub count_event-requires-clause-words : goal.count_event-requires-clause-words
count_event-requires-clause-words c k one at =
    let before = c.requires.known in
    words_after_step one.expectation before.0 c.args.lab.now c.args.made.now before.2
    ∙ ap (λ (n : ℕ). n + event_link_words one.expectation c.args.made.now) (sym (before.1.words k one at) ∙ ap (λ z. slice_index z k) (sym c.as_mut_slice.ensures.value))

pub breaks_one_expectation-requires-clause-earlier : goal.breaks_one_expectation-requires-clause-earlier
breaks_one_expectation-requires-clause-earlier c k one at is =
    let before = c.requires.known in
    broken_stays one.expectation before.0 c.args.lab.now c.args.made.now before.2
    (before.1.broken k one at (ap (λ z. slice_index_or z k false) (sym c.as_mut_slice-2.ensures.value) ∙ is))
