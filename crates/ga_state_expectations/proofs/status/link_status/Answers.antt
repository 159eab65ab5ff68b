use Rattle.std.proofs.Common.{◌≡◌, ◌∙◌, ℕ, List, ◌∷◌, length, Option, None, sym, ap, arith}
use Rattle.ga_lab.specs.Machine.{MachineState, history_of_node}
use Rattle.ga_scheduler.specs.Words.{link_transfers, unlisted_transfers}
use Rattle.ga_scheduler.specs.declared.words.Transfer.{Transfer}
use Rattle.ga_scheduler.proofs.WordCounts.{few_words}
use Rattle.ga_state_links.specs.declared.expectation.LinkExpectation.{LinkExpectation}
use Rattle.ga_state_links.specs.declared.expectation.LinkFault.{LinkFault}
use Rattle.ga_state_expectations.specs.Violations.{is_unexpected_word}
use Rattle.ga_state_expectations.specs.Statuses.{first_link_fault, optional_link_fault_status}
use Rattle.ga_state_expectations.proofs.LinkStatuses.{one_word_more, faulty_word, no_word_more}
use Rattle.ga_state_expectations.proofs.status.link_status.Goals as goal

pub words-init : goal.words-init
words-init c =
    let all = c.new-words.ensures c.args.lab.now in
    record { first = ap (first_link_fault c.args.expected.now 0) all; count = (let size : length (unlisted_transfers c.args.lab.now c.new-words.result) ≡ length (link_transfers c.args.lab.now c.args.expected.now.from.number c.args.expected.now.to.number) = ap (λ (z : List Transfer). length z) all in omega (arith, size)) }

pub words-preserved : goal.words-preserved
words-preserved c =
    let s : MachineState = c.args.lab.now in
    let expected : LinkExpectation = c.args.expected.now in
    let left : unlisted_transfers s c.words.words ≡ c.in-Some.sent ∷ unlisted_transfers s c.next.new.self = c.in-Some.ensures.word in
    let size : length (unlisted_transfers s c.words.words) ≡ length (c.in-Some.sent ∷ unlisted_transfers s c.next.new.self) = ap (λ (z : List Transfer). length z) left in
    record {
      first = one_word_more expected c.words.place (unlisted_transfers s c.words.words) (unlisted_transfers s c.next.new.self) c.in-Some.sent _ left (ap (is_unexpected_word expected c.words.place) (sym c.get-word.ensures.value) ∙ sym c.is_unexpected_word.ensures ∙ c.if-is_unexpected_word.false) c.words.invariant.first;
      count = omega (arith, size, c.words.invariant.count);
    }

pub words-smaller : goal.words-smaller
words-smaller c =
    let s : MachineState = c.args.lab.now in
    let size : length (unlisted_transfers s c.words.words) ≡ length (c.in-Some.sent ∷ unlisted_transfers s c.next.new.self) = ap (λ (z : List Transfer). length z) c.in-Some.ensures.word in
    omega (arith, size)

pub overflow_add-place : goal.overflow_add-place
overflow_add-place c =
    let s : MachineState = c.args.lab.now in
    let expected : LinkExpectation = c.args.expected.now in
    let few = few_words expected.from.number expected.to.number (history_of_node s expected.from.number) in
    let size : length (unlisted_transfers s c.words.words) ≡ length (c.in-Some.sent ∷ unlisted_transfers s c.next.new.self) = ap (λ (z : List Transfer). length z) c.in-Some.ensures.word in
    omega (arith, few, size, c.words.invariant.count, c.steps-steps.ensures.told)

pub returns-then-is_unexpected_word : goal.returns-then-is_unexpected_word
returns-then-is_unexpected_word c =
    let s : MachineState = c.args.lab.now in
    let expected : LinkExpectation = c.args.expected.now in
    let count : ℕ = length (link_transfers s expected.from.number expected.to.number) in
    let found = faulty_word expected c.words.place (unlisted_transfers s c.words.words) (unlisted_transfers s c.next.new.self) c.in-Some.sent _ c.in-Some.ensures.word (ap (is_unexpected_word expected c.words.place) (sym c.get-word.ensures.value) ∙ sym c.is_unexpected_word.ensures ∙ c.if-is_unexpected_word.true) c.words.invariant.first in
    rw (c.fault_of_unexpected_word.ensures, c.get-word.ensures.value) (sym (ap (λ (o : Option (ℕ × LinkFault)). optional_link_fault_status expected c.args.is_quiet count o) found))

pub returns : goal.returns
returns c =
    let s : MachineState = c.args.lab.now in
    let expected : LinkExpectation = c.args.expected.now in
    let count : ℕ = length (link_transfers s expected.from.number expected.to.number) in
    let none = no_word_more expected c.words.place (unlisted_transfers s c.words.words) _ c.in_default.ensures.end c.words.invariant.first in
    let size : length (unlisted_transfers s c.words.words) ≡ 0 = ap (λ (z : List Transfer). length z) c.in_default.ensures.end in
    let all : c.words.place ≡ count = omega (arith, size, c.words.invariant.count) in
    c.link_status_without_fault.ensures
    ∙ ap (λ (n : ℕ). optional_link_fault_status expected c.args.is_quiet n None) all
    ∙ sym (ap (λ (o : Option (ℕ × LinkFault)). optional_link_fault_status expected c.args.is_quiet count o) none)
