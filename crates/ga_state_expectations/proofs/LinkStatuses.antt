-- The first word over a link that isn't allowed.
use Rattle.std.proofs.Common.{◌≡◌, ◌∙◌, ℕ, ◌+◌, Bool, true, false, cond, List, [], ◌∷◌, Option, Some, None, refl, sym, ap}
use Rattle.ga_scheduler.specs.declared.words.Transfer.{Transfer}
use Rattle.ga_state_links.specs.declared.expectation.LinkExpectation.{LinkExpectation}
use Rattle.ga_state_links.specs.declared.expectation.LinkFault.{LinkFault}
use Rattle.ga_state_expectations.specs.Violations.{is_unexpected_word}
use Rattle.ga_state_expectations.specs.Statuses.{fault_of_unexpected_word, first_link_fault}

step_fault : (expected : LinkExpectation) (n : ℕ) (sent : Transfer) (rest : List Transfer)
    → first_link_fault expected n (sent ∷ rest) ≡ cond (is_unexpected_word expected n sent.word) (Some (n, fault_of_unexpected_word expected n sent.word)) (first_link_fault expected (n + 1) rest)
unfolding first_link_fault
step_fault expected n sent rest = refl

end_fault : (expected : LinkExpectation) (n : ℕ) → first_link_fault expected n [] ≡ None
unfolding first_link_fault
end_fault expected n = refl

-- an allowed word more
pub one_word_more : (expected : LinkExpectation) (n : ℕ) (left rest : List Transfer) (sent : Transfer) (total : Option (ℕ × LinkFault)) → left ≡ sent ∷ rest → is_unexpected_word expected n sent.word ≡ false
    → first_link_fault expected n left ≡ total → first_link_fault expected (n + 1) rest ≡ total
one_word_more expected n left rest sent total is allowed same =
    sym (ap (λ (b : Bool). cond b (Some (n, fault_of_unexpected_word expected n sent.word)) (first_link_fault expected (n + 1) rest)) allowed)
    ∙ sym (step_fault expected n sent rest)
    ∙ sym (ap (first_link_fault expected n) is)
    ∙ same

-- a word that isn't
pub faulty_word : (expected : LinkExpectation) (n : ℕ) (left rest : List Transfer) (sent : Transfer) (total : Option (ℕ × LinkFault)) → left ≡ sent ∷ rest → is_unexpected_word expected n sent.word ≡ true
    → first_link_fault expected n left ≡ total → total ≡ Some (n, fault_of_unexpected_word expected n sent.word)
faulty_word expected n left rest sent total is unexpected same =
    sym same
    ∙ ap (first_link_fault expected n) is
    ∙ step_fault expected n sent rest
    ∙ ap (λ (b : Bool). cond b (Some (n, fault_of_unexpected_word expected n sent.word)) (first_link_fault expected (n + 1) rest)) unexpected

-- no word is left
pub no_word_more : (expected : LinkExpectation) (n : ℕ) (left : List Transfer) (total : Option (ℕ × LinkFault)) → left ≡ [] → first_link_fault expected n left ≡ total → total ≡ None
no_word_more expected n left total is same = sym same ∙ ap (first_link_fault expected n) is ∙ end_fault expected n
