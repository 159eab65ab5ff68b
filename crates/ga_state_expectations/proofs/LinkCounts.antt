-- The numbers of words that passed over the links of expectations.
use Rattle.std.proofs.Common.{◌≡◌, ◌∙◌, ℕ, ◌+◌, ◌<◌, ◌≤◌, List, length, map, set, get_or, Option, Some, None, sym, ap, inl, inr, refl, arith}
use Rattle.std.proofs.lemmas.List.{get_or-set_same, get_or-set_other, length-set}
use Rattle.std.proofs.lemmas.Option.{get_or_from_slice_get, slice_get_within}
use Rattle.std.proofs.lemmas.Bool.{cases_lt}
use Rattle.std.specs.Prelude.{slice_get}
use Rattle.ga_event.specs.declared.made.MadeEvent.{MadeEvent}
use Rattle.ga_lab.specs.Machine.{MachineState}
use Rattle.ga_scheduler.specs.Watched.{IsRunStep}
use Rattle.ga_scheduler.proofs.WordCounts.{run_step_counts}
use Rattle.ga_state_store.proofs.Columns.{to_map}
use Rattle.ga_state_expectations.specs.declared.source.Expectation.{Expectation}
use Rattle.ga_state_expectations.specs.declared.source.Expectation.TheVariants.{NodeAtEveryEnd, Never, LinkPassesWords, EveryOrderEnds, OneEnd}
use Rattle.ga_state_expectations.specs.declared.source.LineExpectation.{LineExpectation}
use Rattle.ga_state_expectations.specs.Knowledge.{expectation_link_words, AreLinkWordCounts}
use Rattle.ga_state_expectations.specs.inner.{WereLinkWordCounts, event_link_words}

-- ---- all of them

pub counted : (all : List LineExpectation) (s : MachineState) (words : List ℕ) → words ≡ map (λ one. expectation_link_words one.expectation s) all → AreLinkWordCounts all s words
counted all s words e k one h =
    get_or_from_slice_get words k (expectation_link_words one.expectation s) 0
    (ap (λ z. slice_get z k) e ∙ to_map (λ (it : LineExpectation). expectation_link_words it.expectation s) all k one h)

-- ---- after an event

pub words_after_step : (expectation : Expectation) (old new : MachineState) (made : MadeEvent) → IsRunStep old new made
    → expectation_link_words expectation new ≡ expectation_link_words expectation old + event_link_words expectation made
words_after_step (NodeAtEveryEnd expected) old new made step = refl
words_after_step (Never conditions) old new made step = refl
words_after_step (LinkPassesWords expected) old new made step = run_step_counts old new made step expected.from.number expected.to.number
words_after_step EveryOrderEnds old new made step = refl
words_after_step OneEnd old new made step = refl

-- the first `n` are those after the event, and the others those before it
pub record AreCountedUpTo (all : List LineExpectation) (s : MachineState) (told : MadeEvent) (n : ℕ) (words : List ℕ) : Type 0 where
  pub size : length words ≡ length all
  pub done : (k : ℕ) (one : LineExpectation) → k < n → slice_get all k ≡ Some one → get_or words k 0 ≡ expectation_link_words one.expectation s
  pub left : (k : ℕ) (one : LineExpectation) → n ≤ k → slice_get all k ≡ Some one → expectation_link_words one.expectation s ≡ get_or words k 0 + event_link_words one.expectation told

pub none_counted : (all : List LineExpectation) (s : MachineState) (told : MadeEvent) (words : List ℕ) → length words ≡ length all → WereLinkWordCounts all s told words → AreCountedUpTo all s told 0 words
none_counted all s told words size h = record { size = size; done = λ k one l. absurd (omega (arith, l)); left = λ k one l. h k one }

pub one_counted : (all : List LineExpectation) (s : MachineState) (told : MadeEvent) (n count : ℕ) (words : List ℕ) (here : LineExpectation) → slice_get all n ≡ Some here
    → count ≡ expectation_link_words here.expectation s → AreCountedUpTo all s told n words → AreCountedUpTo all s told (n + 1) (set words n count)
one_counted all s told n count words here e is h = record {
  size = length-set words n count ∙ h.size;
  done = λ k one l at. elim (cases_lt k n) [
    | inl less ↦ (get_or-set_other words n k count 0 (λ (same : k ≡ n). omega (arith, same, less)) ∙ h.done k one less at)
    | inr more ↦ (
        let same : k ≡ n = omega (arith, l, more) in
        let within : n < length words = (let inside : n < length all = slice_get_within all n here e in let size : length words ≡ length all = h.size in omega (arith, inside, size)) in
        let one_is : Some here ≡ Some one = sym e ∙ sym (ap (slice_get all) same) ∙ at in
        ap (λ (z : ℕ). get_or (set words n count) z 0) same ∙ get_or-set_same words n count 0 within ∙ is ∙ ap (λ (o : Option LineExpectation). optional_words o s) one_is)
  ];
  left = λ k one l at. h.left k one (omega (arith, l)) at ∙ ap (λ (z : ℕ). z + event_link_words one.expectation told) (sym (get_or-set_other words n k count 0 (λ (same : k ≡ n). omega (arith, same, l))));
}
  where
    optional_words : Option LineExpectation → MachineState → ℕ
    optional_words None t = 0
    optional_words (Some it) t = expectation_link_words it.expectation t

pub all_counted : (all : List LineExpectation) (s : MachineState) (told : MadeEvent) (n : ℕ) (words : List ℕ) → length all ≤ n → AreCountedUpTo all s told n words → AreLinkWordCounts all s words
all_counted all s told n words l h k one at = h.done k one (let inside : k < length all = slice_get_within all k one at in omega (arith, inside, l)) at
