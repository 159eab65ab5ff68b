use Rattle.std.proofs.Common.{◌∙◌, ◌++◌, List, ℕ, drop, flat_map, ap, sym}
use Rattle.ga_parser.specs.declared.scan.Token.{Token}
use Rattle.ga_parser.specs.inner.Expecting.{space_and_resolved_word}
use Rattle.ga_parser.specs.inner.Resolving.{known_names_of_parser}
use Rattle.ga_parser.proofs.Expecting.{long_text, further_words}
use Rattle.ga_parser.proofs.expectations.expectation_text.Goals as goal

pub returns : goal.returns
returns c =
    c.in_ok-push_spaced.ensures
    ∙ (ap (λ (rest : List Token). c.extend_from_slice.new.self.items ++ flat_map (space_and_resolved_word (known_names_of_parser c.args.resolved.now)) rest) (further_words c.args.words.now)
    ∙ (ap (λ (l : List ℕ). l ++ flat_map (space_and_resolved_word (known_names_of_parser c.args.resolved.now)) (drop 2 c.args.words.now))
    (c.in_ok-extend_from_slice.ensures.items ∙ (ap (λ (l : List ℕ). l ++ c.resolved_word_text.result.now) c.new-text.ensures.items ∙ c.resolved_word_text.ensures))
    ∙ sym (long_text (known_names_of_parser c.args.resolved.now) c.args.words.now _ c.in-len2-up.len_at_least)))
