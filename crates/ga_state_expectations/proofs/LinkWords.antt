-- Words over a link that are read from a text one after another.
use Rattle.std.proofs.Common.{◌≡◌, ◌∙◌, ℕ, zero, suc, false, true, cond, List, Result, Ok, Err, sym, ap}
use Rattle.std.specs.Prelude.{codes, bytes_eq}
use Rattle.std.proofs.lemmas.Bool.{cond-true, cond-false}
use Rattle.ga_text.specs.Lines.{Text}
use Rattle.ga_debug_info.specs.declared.notes.LabelAddress.{LabelAddress}
use Rattle.ga_state_links.specs.declared.expectation.LinkExpectation.{LinkExpectation}
use Rattle.ga_state_expectations.specs.declared.cause.ExpectationFaultCause.{ExpectationFaultCause}
use Rattle.ga_state_expectations.specs.declared.cause.ExpectationFaultCause.TheVariants.{TooManyLinkWords}
use Rattle.ga_state_expectations.specs.Spelling.{split_first_word, is_text_without_words, parsed_link_word, link_expectation_with_word, mark_link_words_open, link_expectation_after_word, parsed_link_words_within, parse_split_link_expectation, parse_link_expectation_words, parsed_link_expectation}

pub open_first : (names : List LabelAddress) (more : ℕ) (expected : LinkExpectation) (text word rest : Text) (whole : Result LinkExpectation ExpectationFaultCause) → split_first_word text ≡ (word, rest)
    → bytes_eq word (codes "..") ≡ true → parsed_link_words_within names more expected text ≡ whole → mark_link_words_open expected rest ≡ whole
unfolding parsed_link_words_within
open_first names zero expected text word rest whole splits dots e =
    sym (ap (λ (parts : Text × Text). cond (bytes_eq parts.0 (codes "..")) (mark_link_words_open expected parts.1) (Err TooManyLinkWords)) splits
    ∙ cond-true (bytes_eq word (codes "..")) (mark_link_words_open expected rest) (Err TooManyLinkWords) dots) ∙ e
open_first names (suc more) expected text word rest whole splits dots e =
    sym (ap (λ (parts : Text × Text). cond (bytes_eq parts.0 (codes "..")) (mark_link_words_open expected parts.1)
    (link_expectation_after_word (parsed_link_words_within names more) expected (parsed_link_word names expected.from parts.0) parts.1)) splits
    ∙ cond-true (bytes_eq word (codes "..")) (mark_link_words_open expected rest) (link_expectation_after_word (parsed_link_words_within names more) expected (parsed_link_word names expected.from word) rest) dots) ∙ e

-- the words of a text whose first word, which this is, isn't `..`
first_word : (names : List LabelAddress) (more : ℕ) (expected : LinkExpectation) (text word rest : Text) (read : Result ℕ ExpectationFaultCause) → split_first_word text ≡ (word, rest)
    → bytes_eq word (codes "..") ≡ false → parsed_link_word names expected.from word ≡ read
    → parsed_link_words_within names (suc more) expected text ≡ link_expectation_after_word (parsed_link_words_within names more) expected read rest
unfolding parsed_link_words_within
first_word names more expected text word rest read splits dots is =
    ap (λ (parts : Text × Text). cond (bytes_eq parts.0 (codes "..")) (mark_link_words_open expected parts.1)
    (link_expectation_after_word (parsed_link_words_within names more) expected (parsed_link_word names expected.from parts.0) parts.1)) splits
    ∙ cond-false (bytes_eq word (codes "..")) (mark_link_words_open expected rest) (link_expectation_after_word (parsed_link_words_within names more) expected (parsed_link_word names expected.from word) rest) dots
    ∙ ap (λ (z : Result ℕ ExpectationFaultCause). link_expectation_after_word (parsed_link_words_within names more) expected z rest) is

pub no_word : (names : List LabelAddress) (more : ℕ) (expected : LinkExpectation) (text word rest : Text) (cause : ExpectationFaultCause) (whole : Result LinkExpectation ExpectationFaultCause)
    → split_first_word text ≡ (word, rest) → bytes_eq word (codes "..") ≡ false → parsed_link_word names expected.from word ≡ Err cause
    → parsed_link_words_within names (suc more) expected text ≡ whole → Err cause ≡ whole
no_word names more expected text word rest cause whole splits dots is e = sym (first_word names more expected text word rest (Err cause) splits dots is) ∙ e

pub last_word : (names : List LabelAddress) (more : ℕ) (expected : LinkExpectation) (text word rest : Text) (number : ℕ) (whole : Result LinkExpectation ExpectationFaultCause)
    → split_first_word text ≡ (word, rest) → bytes_eq word (codes "..") ≡ false → parsed_link_word names expected.from word ≡ Ok number → is_text_without_words rest ≡ true
    → parsed_link_words_within names (suc more) expected text ≡ whole → Ok (link_expectation_with_word expected number) ≡ whole
last_word names more expected text word rest number whole splits dots is none e =
    sym (first_word names more expected text word rest (Ok number) splits dots is
    ∙ cond-true (is_text_without_words rest) (Ok (link_expectation_with_word expected number)) (parsed_link_words_within names more (link_expectation_with_word expected number) rest) none) ∙ e

pub next_word : (names : List LabelAddress) (more : ℕ) (expected : LinkExpectation) (text word rest : Text) (number : ℕ) (whole : Result LinkExpectation ExpectationFaultCause)
    → split_first_word text ≡ (word, rest) → bytes_eq word (codes "..") ≡ false → parsed_link_word names expected.from word ≡ Ok number → is_text_without_words rest ≡ false
    → parsed_link_words_within names (suc more) expected text ≡ whole → parsed_link_words_within names more (link_expectation_with_word expected number) rest ≡ whole
next_word names more expected text word rest number whole splits dots is some e =
    sym (first_word names more expected text word rest (Ok number) splits dots is
    ∙ cond-false (is_text_without_words rest) (Ok (link_expectation_with_word expected number)) (parsed_link_words_within names more (link_expectation_with_word expected number) rest) some) ∙ e

pub many_words : (names : List LabelAddress) (expected : LinkExpectation) (text word rest : Text) (whole : Result LinkExpectation ExpectationFaultCause) → split_first_word text ≡ (word, rest)
    → bytes_eq word (codes "..") ≡ false → parsed_link_words_within names zero expected text ≡ whole → Err TooManyLinkWords ≡ whole
unfolding parsed_link_words_within
many_words names expected text word rest whole splits dots e =
    sym (ap (λ (parts : Text × Text). cond (bytes_eq parts.0 (codes "..")) (mark_link_words_open expected parts.1) (Err TooManyLinkWords)) splits
    ∙ cond-false (bytes_eq word (codes "..")) (mark_link_words_open expected rest) (Err TooManyLinkWords) dots) ∙ e

-- the expectation by the parts of a text: each begins with its first word
pub split_thrice : (names : List LabelAddress) (text from rest to others sign words : Text) → split_first_word text ≡ (from, rest) → split_first_word rest ≡ (to, others)
    → split_first_word others ≡ (sign, words) → parsed_link_expectation names text ≡ parse_link_expectation_words names from to sign words
unfolding parsed_link_expectation
split_thrice names text from rest to others sign words first second third =
    ap (λ (parts : Text × Text). parse_split_link_expectation names parts (split_first_word parts.1) (split_first_word (split_first_word parts.1).1)) first
    ∙ ap (λ (parts : Text × Text). parse_split_link_expectation names (from, rest) parts (split_first_word parts.1)) second
    ∙ ap (λ (parts : Text × Text). parse_split_link_expectation names (from, rest) (to, others) parts) third
