-- The words of a node of which some are passed over, one by one.
use Rattle.std.proofs.Common.{false, ◌≡◌, ◌∙◌, ℕ, ◌+◌, ◌<◌, List, [], length, drop, get_or, slice_index_or, ap, sym, inl, inr, ◌⊎◌, true≢false}
use Rattle.std.specs.Prelude.{Result, Err, IsOk, is_ok, ◌&&◌}
use Rattle.std.proofs.lemmas.Bool.{cond-false}
use Rattle.ga_parser.specs.declared.fault.SourceFault.{SourceFault}
use Rattle.ga_parser.specs.declared.fault.SourceFaultCause.TheVariants.{Memory}
use Rattle.ga_parser.specs.Asking.{ParseState, Refusal, parse_one_word}
use Rattle.ga_parser.specs.Requests.{refusal_of_source_fault}
use Rattle.ga_parser.specs.declared.scan.Token.{Token}
use Rattle.ga_parser.specs.Saying.{TokenContent, token_content, token_contents}
use Rattle.ga_parser.specs.Recovery.{Recovery, recovery_after_result, is_comma, recover_next_word, recover_words_from}
use Rattle.ga_parser.specs.inner.Drafting.{texts_of_tokens}
use Rattle.ga_parser.proofs.Asking.{first_left, next_is}

pub one_taken : (so_far after : Recovery) (tokens : List Token) (k : ℕ) (d : Token) (next : List ℕ) → k < length tokens → next ≡ slice_index_or (texts_of_tokens tokens) (k + 1) []
    → after ≡ recover_next_word so_far (token_content (get_or tokens k d)) next → recover_words_from so_far (token_contents (drop k tokens)) ≡ recover_words_from after (token_contents (drop (k + 1) tokens))
unfolding recover_words_from
one_taken so_far after tokens k d next within is_next taken =
    ap (recover_words_from so_far) (first_left tokens k d within)
    ∙ (ap (λ (text : List ℕ). recover_words_from (recover_next_word so_far (token_content (get_or tokens k d)) text) (token_contents (drop (k + 1) tokens))) (next_is tokens (k + 1) ∙ sym is_next)
    ∙ ap (λ (r : Recovery). recover_words_from r (token_contents (drop (k + 1) tokens))) (sym taken))

pub none_taken : (so_far : Recovery) (tokens : List Token) → tokens ≡ [] → recover_words_from so_far (token_contents tokens) ≡ so_far
unfolding recover_words_from
none_taken so_far tokens none = ap (λ (t : List Token). recover_words_from so_far (token_contents t)) none

-- what isn't refused is taken, unless memory was refused
pub only_memory : (asks : Result ParseState Refusal) (fault : SourceFault) → IsOk asks → (fault.cause ≡ Memory) ⊎ (asks ≡ Err (refusal_of_source_fault fault)) → fault.cause ≡ Memory
only_memory asks fault taken (inl memory) = memory
only_memory asks fault taken (inr refused) = absurd (true≢false (sym taken ∙ ap is_ok refused))

-- a word that doesn't go with the one before
pub heard_one : (so_far after : Recovery) (said : TokenContent) (next : List ℕ) (asks : Result ParseState Refusal) → (so_far.is_last_skipped && is_comma said) ≡ false → parse_one_word so_far.now said next ≡ asks → after ≡ recovery_after_result so_far said.line asks → after ≡ recover_next_word so_far said next
heard_one so_far after said next asks opcode_control_or_value_requests e is =
    is ∙ (ap (recovery_after_result so_far said.line) (sym e) ∙ sym (cond-false (so_far.is_last_skipped && is_comma said) so_far (recovery_after_result so_far said.line (parse_one_word so_far.now said next)) opcode_control_or_value_requests))
