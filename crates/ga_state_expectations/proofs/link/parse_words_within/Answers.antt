use Rattle.std.proofs.Common.{◌≡◌, ◌∙◌, ℕ, suc, ◌+◌, ◌-◌, List, length, Ok, sym, ap, arith}
use Rattle.std.proofs.lemmas.List.{length_push}
use Rattle.ga_state_expectations.specs.Spelling.{link_expectation_without_words, parsed_link_words_within}
use Rattle.ga_state_expectations.proofs.LinkWords.{open_first, no_word, last_word, next_word, many_words}
use Rattle.ga_state_expectations.proofs.link.parse_words_within.Goals as goal

pub returns-then-is_open_end : goal.returns-then-is_open_end
returns-then-is_open_end c =
    c.mark_link_words_open.ensures
    ∙ open_first c.args.names.now (64 - c.words._place) c.words.expected c.words.left.now c.split_first_word.result.0.now c.split_first_word.result.1.now
    (parsed_link_words_within c.args.names.now 64 (link_expectation_without_words c.args.from c.args.to) c.args.text.now) (sym c.split_first_word.ensures) (sym c.is_open_end.ensures ∙ c.if-is_open_end.true)
    c.words.invariant.rest

pub returns-in-Err : goal.returns-in-Err
returns-in-Err c =
    let k : ℕ = 63 - c.words._place in
    let size : 64 - c.words._place ≡ suc k = omega (arith, c.words-test.true) in
    no_word c.args.names.now k c.words.expected c.words.left.now c.split_first_word.result.0.now c.split_first_word.result.1.now c.in-Err.cause
    (parsed_link_words_within c.args.names.now 64 (link_expectation_without_words c.args.from c.args.to) c.args.text.now) (sym c.split_first_word.ensures) (sym c.is_open_end.ensures ∙ c.if-is_open_end.false)
    (sym c.parse_link_word.ensures ∙ c.in-Err.is)
    (ap (λ (n : ℕ). parsed_link_words_within c.args.names.now n c.words.expected c.words.left.now) (sym size) ∙ c.words.invariant.rest)

pub returns-then-is_text_without_words : goal.returns-then-is_text_without_words
returns-then-is_text_without_words c =
    let k : ℕ = 63 - c.words._place in
    let size : 64 - c.words._place ≡ suc k = omega (arith, c.words-test.true) in
    ap (λ (items : List ℕ). Ok (record c.words.expected { words = record { items = items } })) c.push.ensures.items
    ∙ last_word c.args.names.now k c.words.expected c.words.left.now c.split_first_word.result.0.now c.split_first_word.result.1.now c.in-Ok.number
    (parsed_link_words_within c.args.names.now 64 (link_expectation_without_words c.args.from c.args.to) c.args.text.now) (sym c.split_first_word.ensures) (sym c.is_open_end.ensures ∙ c.if-is_open_end.false)
    (sym c.parse_link_word.ensures ∙ c.in-Ok.is) (sym c.is_text_without_words.ensures ∙ c.if-is_text_without_words.true)
    (ap (λ (n : ℕ). parsed_link_words_within c.args.names.now n c.words.expected c.words.left.now) (sym size) ∙ c.words.invariant.rest)

pub words-preserved : goal.words-preserved
words-preserved c =
    let k : ℕ = 63 - c.words._place in
    let size : 64 - c.words._place ≡ suc k = omega (arith, c.words-test.true) in
    let left : 64 - (c.words._place + 1) ≡ k = omega arith in
    record {
      size = omega (arith, ap (λ (z : List ℕ). length z) c.push.ensures.items, length_push c.words.expected.words.items c.in-Ok.number, c.words.invariant.size);
      rest = ap (λ (n : ℕ). parsed_link_words_within c.args.names.now n (record c.words.expected { words = c.push.new.self }) c.split_first_word.result.1.now) left
          ∙ ap (λ (items : List ℕ). parsed_link_words_within c.args.names.now k (record c.words.expected { words = record { items = items } }) c.split_first_word.result.1.now) c.push.ensures.items
          ∙ next_word c.args.names.now k c.words.expected c.words.left.now c.split_first_word.result.0.now c.split_first_word.result.1.now c.in-Ok.number
          (parsed_link_words_within c.args.names.now 64 (link_expectation_without_words c.args.from c.args.to) c.args.text.now) (sym c.split_first_word.ensures) (sym c.is_open_end.ensures ∙ c.if-is_open_end.false)
          (sym c.parse_link_word.ensures ∙ c.in-Ok.is) (sym c.is_text_without_words.ensures ∙ c.if-is_text_without_words.false)
          (ap (λ (n : ℕ). parsed_link_words_within c.args.names.now n c.words.expected c.words.left.now) (sym size) ∙ c.words.invariant.rest);
    }

pub returns-then-is_open_end-2 : goal.returns-then-is_open_end-2
returns-then-is_open_end-2 c =
    c.mark_link_words_open-then-is_open_end-2.ensures
    ∙ open_first c.args.names.now (64 - c.words._place) c.words.expected c.words.left.now c.split_first_word-2.result.0.now c.split_first_word-2.result.1.now
    (parsed_link_words_within c.args.names.now 64 (link_expectation_without_words c.args.from c.args.to) c.args.text.now) (sym c.split_first_word-2.ensures) (sym c.is_open_end-2.ensures ∙ c.if-is_open_end-2.true)
    c.words.invariant.rest

pub returns-else-is_open_end-2 : goal.returns-else-is_open_end-2
returns-else-is_open_end-2 c =
    let none : 64 - c.words._place ≡ 0 = omega (arith, c.words-test.false) in
    many_words c.args.names.now c.words.expected c.words.left.now c.split_first_word-2.result.0.now c.split_first_word-2.result.1.now
    (parsed_link_words_within c.args.names.now 64 (link_expectation_without_words c.args.from c.args.to) c.args.text.now) (sym c.split_first_word-2.ensures) (sym c.is_open_end-2.ensures ∙ c.if-is_open_end-2.false)
    (ap (λ (n : ℕ). parsed_link_words_within c.args.names.now n c.words.expected c.words.left.now) (sym none) ∙ c.words.invariant.rest)
