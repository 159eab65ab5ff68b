-- Constants, one word after another.
use Rattle.std.proofs.Common.{◌≡◌, ◌∙◌, ℕ, ◌+◌, ◌<◌, List, [], length, drop, get_or, slice_index_or, ap, sym}
use Rattle.ga_parser.specs.declared.scan.Token.{Token}
use Rattle.ga_parser.specs.inner.Placing.{placed, placed_all}
use Rattle.ga_parser.specs.Constants.{ConstantResolution, resolve_next_word, resolve_words_from}
use Rattle.ga_parser.specs.inner.Drafting.{texts_of_tokens}
use Rattle.ga_parser.proofs.Placing.{first_placed, next_placed}

pub one_resolved : (so_far after : ConstantResolution) (tokens : List Token) (k : ℕ) (d : Token) (next : List ℕ) → k < length tokens → next ≡ slice_index_or (texts_of_tokens tokens) (k + 1) []
    → after ≡ resolve_next_word so_far (placed (get_or tokens k d)) next → resolve_words_from so_far (placed_all (drop k tokens)) ≡ resolve_words_from after (placed_all (drop (k + 1) tokens))
unfolding resolve_words_from
one_resolved so_far after tokens k d next within is_next taken =
    ap (resolve_words_from so_far) (first_placed tokens k d within)
    ∙ (ap (λ (text : List ℕ). resolve_words_from (resolve_next_word so_far (placed (get_or tokens k d)) text) (placed_all (drop (k + 1) tokens))) (next_placed tokens (k + 1) ∙ sym is_next)
    ∙ ap (λ (r : ConstantResolution). resolve_words_from r (placed_all (drop (k + 1) tokens))) (sym taken))

pub none_resolved : (so_far : ConstantResolution) (tokens : List Token) → tokens ≡ [] → resolve_words_from so_far (placed_all tokens) ≡ so_far
unfolding resolve_words_from
none_resolved so_far tokens none = ap (λ (t : List Token). resolve_words_from so_far (placed_all t)) none
