-- What a draft says that the words so far ask for.
use Rattle.std.specs.Prelude.{◌≡◌, ◌⊎◌, Result, Ok, Err, ℕ, Bool, false, List, ◌++◌, reverse, if◌then◌else◌, [], ◌∷◌, slice_index_or, codes, bytes_eq, Option, Some, None, map}
use Rattle.std.specs.Result.{MatchResult}
use Rattle.ga_parser.specs.declared.fault.SourceFaultCause.TheVariants.{Memory}
use Rattle.ga_parser.specs.declared.fault.SourceFault.{SourceFault}
use Rattle.ga_parser.specs.Asking.{Refusal, ParseState}
use Rattle.ga_parser.specs.Requests.{refusal_of_source_fault}
use Rattle.std.specs.List.{list_all}
use Rattle.ga_parser.specs.Saying.{source_words, TokenContent, is_word_token, tokens_of_words}
use Rattle.ga_parser.specs.declared.draft.RequestBuilder.{RequestBuilder}
use Rattle.ga_parser.specs.declared.item.Operand.TheVariants.{Number}
use Rattle.ga_parser.specs.declared.item.AssemblyItem.TheVariants.{Cell}
use Rattle.ga_parser.specs.declared.item.AssemblyRequest.{AssemblyRequest}
use Rattle.ga_parser.specs.declared.item.AssemblyRequest.TheVariants.{PlaceItem, GoToAddress}
use Rattle.ga_parser.specs.declared.vocabulary.Directive.{Directive}
use Rattle.ga_parser.specs.declared.vocabulary.Directive.TheVariants.{Label, Address as GoesOn, Register as Gives, BeginNewCell, Carry}
use Rattle.ga_parser.specs.declared.vocabulary.Register.{Register as RegisterName}
use Rattle.ga_parser.specs.declared.vocabulary.Register.TheVariants.{P, A, B}
use Rattle.ga_parser.specs.declared.draft.Expect.{Expect}
use Rattle.ga_parser.specs.declared.draft.Expect.TheVariants.{Word, Address, Name, Register, Nothing}
use Rattle.ga_parser.specs.declared.scan.Token.{Token}
use Rattle.ga_ports.specs.Steps.{◌>>=◌}
use Rattle.ga_parser.specs.Vocabulary.{find_in_table, number_spelled_by_word, directives_by_name}
use Rattle.ga_parser.specs.Plain.{PlainRequests, no_plain_requests, plain_requests_with_added, apply_to_number_in_range, some_value_if, is_cell_address, may_set_register, as_plain_requests}

-- ---- what a call answers where words ask for something, or are refused

-- what words ask for is what came of it, or it is refused as they are, or memory was
abbrev pub Answers : {T X : Type 0} → Result T SourceFault → Result X Refusal → (T → X) → Type 0
Answers result asks came = MatchResult result (λ x. asks ≡ Ok (came x)) (λ fault. (fault.cause ≡ Memory) ⊎ (asks ≡ Err (refusal_of_source_fault fault)))

-- ---- what the words say that were read so far (docs/REFERENCE.md, "Source"; the notation is this project's own)

-- Of a line, what comes before a rest has been listed: the rest has the tokens that are left, within a comment or not.
pub record AreTokensListedBeforeRest (line : ℕ) (text : List ℕ) (before now : List TokenContent) (is_open : Bool) (rest : List ℕ) : Type 0 where
  pub says : now ++ tokens_of_words line is_open (source_words rest) ≡ before ++ tokens_of_words line false (source_words text)
  pub whole : list_all is_word_token (tokens_of_words line is_open (source_words rest)) ≡ list_all is_word_token (tokens_of_words line false (source_words text))

abbrev pub parse_state_of_builder : RequestBuilder → ParseState
parse_state_of_builder draft = record {
  expect = draft.expect;
  asked = draft.asked.items;
  labels = draft.labels;
  registers = draft.registers;
  opened = reverse draft.open.items;
  carries = draft.carries;
}

-- ---- the words of a node as they are heard one by one, with the next (docs/REFERENCE.md, "Source"; this project's own)

-- what the next word is, and what the words so far ask for
pub record PlainParseState : Type 0 where
  pub expect : Expect
  pub plain : PlainRequests

-- what is heard before the first word
abbrev pub initial_plain_parse_state : PlainParseState
initial_plain_parse_state = record { expect = Word; plain = no_plain_requests }

-- one request more
abbrev pub state_with_added_request : PlainParseState → AssemblyRequest → PlainParseState
state_with_added_request heard request = record heard { plain = plain_requests_with_added heard.plain request }

-- a register is given
abbrev pub plain_requests_with_register : PlainRequests → RegisterName → ℕ → PlainRequests
plain_requests_with_register plain P n = record plain { p = Some (Number n) }
plain_requests_with_register plain A n = record plain { a = Some (Number n) }
plain_requests_with_register plain B n = record plain { b = Some (Number n) }

-- the register may be given so
abbrev pub can_give_register_value : PlainRequests → RegisterName → ℕ → Bool
can_give_register_value plain P n = may_set_register plain.p n 0x400
can_give_register_value plain A n = may_set_register plain.a n 0x40000
can_give_register_value plain B n = may_set_register plain.b n 0x200

-- what comes next after a directive that plain words have
abbrev pub expect_after_directive : Directive → Option Expect
expect_after_directive Label = None
expect_after_directive GoesOn = Some Address
expect_after_directive (Gives register) = Some (Register register)
expect_after_directive BeginNewCell = None
expect_after_directive (Carry _) = None

-- a word where one is expected
abbrev pub hear_word : PlainRequests → List ℕ → List ℕ → Option PlainParseState
hear_word plain word next =
    if bytes_eq next (codes ",") then apply_to_number_in_range (number_spelled_by_word word) (λ n. Some (record { expect = Nothing; plain = plain_requests_with_added plain (PlaceItem (Cell (Number n))) }))
    else (find_in_table directives_by_name word >>= expect_after_directive) >>= (λ e. Some (record { expect = e; plain = plain }))

-- what is heard with one word more
abbrev pub parse_one_word : PlainParseState → List ℕ → List ℕ → Option PlainParseState
parse_one_word heard word next = elim heard.expect as (λ _. Option PlainParseState) [
  | Word ↦ hear_word heard.plain word next
  | Address ↦ apply_to_number_in_range (number_spelled_by_word word) (λ n. some_value_if (is_cell_address n) (record { expect = Word; plain = plain_requests_with_added heard.plain (GoToAddress n) }))
  | Name ↦ None
  | Register register ↦ apply_to_number_in_range (number_spelled_by_word word) (λ n. some_value_if (can_give_register_value heard.plain register n) (record { expect = Word; plain = plain_requests_with_register heard.plain register n }))
  | Nothing ↦ Some (record { expect = Word; plain = heard.plain })
]

-- the requests where the words end
abbrev pub requests_at_end_of_words : PlainParseState → Option PlainRequests
requests_at_end_of_words heard = elim heard.expect as (λ _. Option PlainRequests) [
  | Word ↦ Some heard.plain
  | Address ↦ None
  | Name ↦ None
  | Register _ ↦ None
  | Nothing ↦ Some heard.plain
]

-- what words ask for, heard one by one up to the last
unfoldable pub hear_all : PlainParseState → List (List ℕ) → Option PlainRequests
hear_all heard [] = requests_at_end_of_words heard
hear_all heard (word ∷ words) = parse_one_word heard word (slice_index_or words 0 []) >>= (λ now. hear_all now words)

-- the words of tokens
abbrev pub texts_of_tokens : List Token → List (List ℕ)
texts_of_tokens tokens = map (λ token. token.text.now) tokens

-- the requests are those that were heard, and no name
pub record IsPlainParseState (now : ParseState) (heard : PlainParseState) : Type 0 where
  pub expect : now.expect ≡ heard.expect
  pub plain : as_plain_requests now.asked now.registers ≡ heard.plain
  pub names : now.labels ≡ []
  pub opened : now.opened ≡ []
  pub carries : now.carries ≡ false
