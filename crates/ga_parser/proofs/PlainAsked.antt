-- What plain words ask for.
use Rattle.std.proofs.Common.{◌≡◌, ◌∙◌, ℕ, ◌<◌, inl, inr, Bool, true, false, List, [], ◌∷◌, Option, Some, None, arith, ap, sym, refl, subst, slice_index_or}
use Rattle.std.specs.Prelude.{Result, Ok, Err, codes, bytes_eq, is_none, nat_lt, map, take, ◌&&◌, ◌⊎◌}
use Rattle.std.specs.Result.{MatchResult}
use Rattle.std.specs.List.{All}
use Rattle.std.proofs.lemmas.List.{map-append}
use Rattle.std.proofs.lemmas.List.Elements.{All-tail, All-map}
use Rattle.std.proofs.lemmas.Bool.Decides.{nat_tests}
use Rattle.std.proofs.lemmas.Bool.{cond-true, cond-false, cases_Bool, true≢false}
use Rattle.ga_parser.specs.declared.number.Number.{Number as NumberIn}
use Rattle.ga_parser.specs.declared.number.Number.TheVariants.{Of}
use Rattle.ga_parser.specs.declared.item.Operand.{Operand}
use Rattle.ga_parser.specs.declared.item.Operand.TheVariants.{Number}
use Rattle.ga_parser.specs.declared.item.AssemblyItem.TheVariants.{Cell}
use Rattle.ga_parser.specs.declared.item.AssemblyRequest.{AssemblyRequest}
use Rattle.ga_parser.specs.declared.item.AssemblyRequest.TheVariants.{PlaceItem, GoToAddress}
use Rattle.ga_parser.specs.declared.item.RegisterValue.{RegisterValue}
use Rattle.ga_parser.specs.declared.vocabulary.Directive.{Directive}
use Rattle.ga_parser.specs.declared.vocabulary.Directive.TheVariants.{Label as Labels, Address as GoesOn, Register as Gives, BeginNewCell, Carry}
use Rattle.ga_parser.specs.declared.vocabulary.Register.{Register as RegisterName}
use Rattle.ga_parser.specs.declared.vocabulary.Register.TheVariants.{P, A, B}
use Rattle.ga_parser.specs.declared.fault.NumberRange.{NumberRange}
use Rattle.ga_parser.specs.declared.fault.NumberRange.TheVariants.{Word as ToWord, Cell as ToCell}
use Rattle.ga_parser.specs.declared.draft.Expect.{Expect}
use Rattle.ga_parser.specs.declared.draft.Expect.TheVariants.{Word, Address, Name, Register, Nothing}
use Rattle.ga_parser.specs.declared.scan.TokenKind.{TokenKind}
use Rattle.ga_parser.specs.declared.scan.TokenKind.TheVariants.{Word as WordKind, LongLine as LongLineKind, OpenComment as OpenCommentKind, NoNumber as NoNumberKind, MissingNameOrValue as MissingKind, NameTaken as TakenKind}
use Rattle.ga_parser.specs.declared.controls.Open.{Open}
use Rattle.ga_parser.specs.Asking.{LabelContent, expects_operand, address_with_carry_bit, ParseState, Refusal, state_with_added_request as asks, initial_parse_state, result_for_number_in_range, value_of_word, data_cell_requests, directive_requests, word_requests, directive_or_word_requests, org_requests, register_requests, given_value_of_register, registers_with_value, parse_one_word as hear_asking, expected_word_requests, requests_if_token_is_word, parse_words_from, requests_of_words, finish_parse, refuse_unclosed_word, refuse_unplaced_label, next_word_text, ◌▷◌, label_content}
use Rattle.ga_parser.specs.Asking.RefusalCause.{LongLine, OpenComment, NoNumber, MissingNameOrValue, NameTaken}
use Rattle.ga_parser.specs.Saying.{TokenContent, token_content, token_contents}
use Rattle.ga_ports.specs.Steps.{◌>>=◌}
use Rattle.ga_parser.specs.Vocabulary.{find_in_table, has_prefix, number_spelled_by_word, directives_by_name, directive_of_word, register_bound, register_range}
use Rattle.ga_parser.specs.Plain.{PlainRequests, plain_requests_with_added, apply_to_number_in_range, some_value_if, is_cell_address, as_plain_requests, optional_register_operand, plain_requests_of_words, no_plain_requests}
use Rattle.ga_parser.specs.inner.Drafting.{PlainParseState, IsPlainParseState, initial_plain_parse_state, requests_at_end_of_words, plain_requests_with_register, can_give_register_value, expect_after_directive, hear_word, parse_one_word, hear_all, texts_of_tokens}
use Rattle.ga_parser.specs.declared.labels.Label.{Label}
use Rattle.ga_parser.specs.declared.scan.Token.{Token}
use Rattle.ga_parser.specs.declared.item.NodeRequests.{NodeRequests}
use Rattle.ga_parser.specs.Requests.{AreRequestsOfWords}
use Rattle.ga_parser.proofs.Hearing.{no_some, some_same, no_label, numbered, allowed, not_carried, same_text, hear_plain, end_heard}

-- the words ask for this, which is what was heard
record IsHeard (outcome : Result ParseState Refusal) (after : PlainParseState) : Type 0 where
  pub later : ParseState
  pub is : outcome ≡ Ok later
  pub has : IsPlainParseState later after

heard_as : (outcome : Result ParseState Refusal) (later : ParseState) (expected_word_requests after : PlainParseState) → outcome ≡ Ok later → IsPlainParseState later expected_word_requests → expected_word_requests ≡ after → IsHeard outcome after
heard_as outcome later expected_word_requests after is has e = record { later = later; is = is; has = subst (λ (h : PlainParseState). IsPlainParseState later h) e has }

-- ---- numbers

in_range : {X : Type 0} (word : List ℕ) (line n : ℕ) (range : NumberRange) (asks : ℕ → Result X Refusal) (other : Result X Refusal) → number_spelled_by_word word ≡ Of n → result_for_number_in_range (number_spelled_by_word word) line word range asks other ≡ asks n
in_range word line n range asks other is = ap (λ (found : NumberIn). result_for_number_in_range found line word range asks other) is

quoted_first : (word : List ℕ) → has_prefix word (codes "'") ≡ true → slice_index_or word 0 0 ≡ 39
quoted_first [] e = absurd (true≢false (sym e))
quoted_first (b ∷ word) e = ap (λ (t : List ℕ). slice_index_or t 0 0) (same_text (take 1 (b ∷ word)) (codes "'") e)

number_said : (now : ParseState) (line n : ℕ) (word : List ℕ) → number_spelled_by_word word ≡ Of n → value_of_word now line word ≡ Ok (Some (Number n), now)
unfolding value_of_word
number_said now line n word is = elim (cases_Bool (has_prefix word (codes "'"))) [
  | inl quoted ↦ absurd (no_label word n (quoted_first word quoted) is)
  | inr other ↦ cond-false (has_prefix word (codes "'")) _ _ other ∙ in_range word line n ToWord _ _ is
]

both : (a b : Bool) → (a && b) ≡ true → (a ≡ true) × (b ≡ true)
both true b e = (refl, e)
both false b e = absurd (true≢false (sym e))

-- ---- a word more

is_next : (heard : PlainParseState) (d : Directive) (after : PlainParseState) → (expect_after_directive d >>= (λ e. Some (record { expect = e; plain = heard.plain }))) ≡ Some after → (e : Expect) × (expect_after_directive d ≡ Some e) × (record { expect = e; plain = heard.plain } ≡ after)
is_next heard Labels after is = absurd (no_some is)
is_next heard GoesOn after is = (Address, refl, some_same _ after is)
is_next heard (Gives register) after is = (Register register, refl, some_same _ after is)
is_next heard BeginNewCell after is = absurd (no_some is)
is_next heard (Carry b) after is = absurd (no_some is)

directive_next : (now : ParseState) (line : ℕ) (d : Directive) (e : Expect) → expect_after_directive d ≡ Some e → directive_requests now line d ≡ record now { expect = e }
directive_next now line Labels e is = absurd (no_some is)
directive_next now line GoesOn e is = ap (λ (x : Expect). record now { expect = x }) (some_same Address e is)
directive_next now line (Gives register) e is = ap (λ (x : Expect). record now { expect = x }) (some_same (Register register) e is)
directive_next now line BeginNewCell e is = absurd (no_some is)
directive_next now line (Carry b) e is = absurd (no_some is)

none_given : (o : Option RegisterValue) (given : Option Operand) → optional_register_operand o ≡ given → is_none given ≡ true → is_none o ≡ true
none_given None given e none = refl
none_given (Some one) given e none = absurd (true≢false (sym (ap is_none e ∙ none)))

cell_small : (n : ℕ) → is_cell_address n ≡ true → n < 512
cell_small n is = grind (arith, nat_tests)

module _ (now : ParseState) (heard : PlainParseState) (has : IsPlainParseState now heard) where
  next_has : (e : Expect) → IsPlainParseState (record now { expect = e }) (record { expect = e; plain = heard.plain })
  next_has e = record { expect = refl; plain = has.plain; names = has.names; opened = has.opened; carries = has.carries }

  asks_has : (e : Expect) (line : ℕ) (request : AssemblyRequest) → IsPlainParseState (asks (record now { expect = e }) line request) (record { expect = e; plain = plain_requests_with_added heard.plain request })
  asks_has e line request = record {
    expect = refl;
    plain = ap (λ (list : List AssemblyRequest). record (as_plain_requests now.asked now.registers) { requests = list }) (map-append (λ one. one.request) now.asked (record { line = line; request = request } ∷ []))
        ∙ ap (λ (p : PlainRequests). plain_requests_with_added p request) has.plain;
    names = has.names;
    opened = has.opened;
    carries = has.carries;
  }

  directive_heard : (line : ℕ) (word next : List ℕ) (after : PlainParseState) (o : Option Directive) → directive_of_word word ≡ o → bytes_eq next (codes ",") ≡ false → ((o >>= expect_after_directive) >>= (λ e. Some (record { expect = e; plain = heard.plain }))) ≡ Some after → IsHeard (word_requests now line word next) after
  unfolding word_requests
  directive_heard line word next after None named other is = absurd (no_some is)
  directive_heard line word next after (Some d) named other is =
      let e = is_next heard d after is in
      heard_as _ (record now { expect = e.0 }) _ after
      (cond-false (bytes_eq next (codes ",")) _ _ other ∙ (ap (directive_or_word_requests now line word next) named ∙ ap (λ (a : ParseState). let r : Result ParseState Refusal = Ok a in r) (directive_next now line d e.0 e.1)))
      (next_has e.0) e.2

  word_heard : (line : ℕ) (word next : List ℕ) (after : PlainParseState) → hear_word heard.plain word next ≡ Some after → IsHeard (word_requests now line word next) after
  unfolding word_requests directive_of_word
  word_heard line word next after is = elim (cases_Bool (bytes_eq next (codes ","))) [
    | inl comma ↦
        let number = numbered (number_spelled_by_word word) (λ n. Some (record { expect = Nothing; plain = plain_requests_with_added heard.plain (PlaceItem (Cell (Number n))) })) after
        (sym (cond-true (bytes_eq next (codes ",")) _ _ comma) ∙ is) in
        heard_as _ (asks (record now { expect = Nothing }) line (PlaceItem (Cell (Number number.n)))) _ after
        (cond-true (bytes_eq next (codes ",")) _ _ comma ∙ ap (λ (r : Result (Option Operand × ParseState) Refusal). r ▷ (λ said. data_cell_requests said.1 line said.0)) (number_said now line number.n word number.is))
        (asks_has Nothing line (PlaceItem (Cell (Number number.n)))) (some_same _ after number.gives)
    | inr other ↦
        directive_heard line word next after (find_in_table directives_by_name word) refl other (sym (cond-false (bytes_eq next (codes ",")) _ _ other) ∙ is)
  ]

  address_heard : (line : ℕ) (word : List ℕ) (after : PlainParseState) → apply_to_number_in_range (number_spelled_by_word word) (λ n. some_value_if (is_cell_address n) (record { expect = Word; plain = plain_requests_with_added heard.plain (GoToAddress n) })) ≡ Some after → IsHeard (org_requests (record now { expect = Word }) line word) after
  unfolding org_requests
  address_heard line word after is =
      let number = numbered (number_spelled_by_word word) (λ n. some_value_if (is_cell_address n) (record { expect = Word; plain = plain_requests_with_added heard.plain (GoToAddress n) })) after is in
      let may = allowed (is_cell_address number.n) _ after number.gives in
      let small : address_with_carry_bit now.carries number.n ≡ number.n = not_carried number.n now.carries has.carries (cell_small number.n may.0) in
      heard_as _ (asks (record now { expect = Word }) line (GoToAddress number.n)) _ after
      (in_range word line number.n ToCell _ _ number.is ∙ (cond-true (is_cell_address number.n) _ _ may.0 ∙ ap (λ (n : ℕ). let r : Result ParseState Refusal = Ok (asks (record now { expect = Word }) line (GoToAddress n)) in r) small))
      (asks_has Word line (GoToAddress number.n)) may.1

  given_heard : (line n : ℕ) (register : RegisterName) → can_give_register_value heard.plain register n ≡ true → (nat_lt n (register_bound register) ≡ true) × (is_none (given_value_of_register now.registers register) ≡ true) × IsPlainParseState (record now { expect = Word; registers = registers_with_value now.registers register (record { line = line; value = Number n }) }) (record { expect = Word; plain = plain_requests_with_register heard.plain register n })
  given_heard line n P may = (
    (both (is_none heard.plain.p) (nat_lt n 0x400) may).1,
    none_given now.registers.p heard.plain.p (ap (λ (p : PlainRequests). p.p) has.plain) (both (is_none heard.plain.p) (nat_lt n 0x400) may).0,
    record { expect = refl; plain = ap (λ (p : PlainRequests). record p { p = Some (Number n) }) has.plain; names = has.names; opened = has.opened; carries = has.carries },
  )
  given_heard line n A may = (
    (both (is_none heard.plain.a) (nat_lt n 0x40000) may).1,
    none_given now.registers.a heard.plain.a (ap (λ (p : PlainRequests). p.a) has.plain) (both (is_none heard.plain.a) (nat_lt n 0x40000) may).0,
    record { expect = refl; plain = ap (λ (p : PlainRequests). record p { a = Some (Number n) }) has.plain; names = has.names; opened = has.opened; carries = has.carries },
  )
  given_heard line n B may = (
    (both (is_none heard.plain.b) (nat_lt n 0x200) may).1,
    none_given now.registers.b heard.plain.b (ap (λ (p : PlainRequests). p.b) has.plain) (both (is_none heard.plain.b) (nat_lt n 0x200) may).0,
    record { expect = refl; plain = ap (λ (p : PlainRequests). record p { b = Some (Number n) }) has.plain; names = has.names; opened = has.opened; carries = has.carries },
  )

  register_heard : (line : ℕ) (register : RegisterName) (word : List ℕ) (after : PlainParseState) → apply_to_number_in_range (number_spelled_by_word word) (λ n. some_value_if (can_give_register_value heard.plain register n) (record { expect = Word; plain = plain_requests_with_register heard.plain register n })) ≡ Some after → IsHeard (register_requests (record now { expect = Word }) line register word) after
  unfolding register_requests
  register_heard line register word after is =
      let number = numbered (number_spelled_by_word word) (λ n. some_value_if (can_give_register_value heard.plain register n) (record { expect = Word; plain = plain_requests_with_register heard.plain register n })) after is in
      let may = allowed (can_give_register_value heard.plain register number.n) _ after number.gives in
      let given = given_heard line number.n register may.0 in
      heard_as _ (record now { expect = Word; registers = registers_with_value now.registers register (record { line = line; value = Number number.n }) }) _ after
      (in_range word line number.n (register_range register) _ _ number.is ∙ (cond-true (nat_lt number.n (register_bound register)) _ _ given.0 ∙ cond-true (is_none (given_value_of_register now.registers register)) _ _ given.1))
      given.2 may.1

-- one word, by what is expected
expected_heard : (now : ParseState) (heard after : PlainParseState) (e : Expect) (line : ℕ) (word next : List ℕ) → IsPlainParseState now heard → heard.expect ≡ e → parse_one_word (record heard { expect = e }) word next ≡ Some after → IsHeard (expected_word_requests (record now { expect = Word }) e line word next) after
expected_heard now heard after Word line word next has e is =
    word_heard (record now { expect = Word }) (record heard { expect = Word }) (next_has now heard has Word) line word next after is
expected_heard now heard after Address line word next has e is = address_heard now heard has line word after is
expected_heard now heard after Name line word next has e is = absurd (no_some is)
expected_heard now heard after (Register register) line word next has e is = register_heard now heard has line register word after is
expected_heard now heard after Nothing line word next has e is = heard_as _ (record now { expect = Word }) _ after refl (next_has now heard has Word) (some_same _ after is)

one_word : (now : ParseState) (heard after : PlainParseState) (said : TokenContent) (next : List ℕ) → said.kind ≡ WordKind → IsPlainParseState now heard → parse_one_word heard said.text next ≡ Some after → IsHeard (hear_asking now said next) after
one_word now heard after said next kind has is =
    let there = expected_heard now heard after heard.expect said.line said.text next has refl is in
    heard_as _ there.later after after
    (ap (λ (k : TokenKind). requests_if_token_is_word k said.line (expected_word_requests (record now { expect = Word }) now.expect said.line said.text next)) kind
    ∙ (ap (λ (e : Expect). expected_word_requests (record now { expect = Word }) e said.line said.text next) has.expect ∙ there.is)) there.has refl

-- ---- all words

-- what plain words ask for: this, or a line has a fault
abbrev pub AsksPlain : Result ParseState Refusal → PlainRequests → List TokenContent → Type 0
AsksPlain outcome all words = MatchResult outcome (λ end. (as_plain_requests end.asked end.registers ≡ all) × (end.labels ≡ [])) (λ refusal. All (λ said. said.kind ≡ WordKind) words → ⊥)

abbrev pub texts : List TokenContent → List (List ℕ)
texts words = map (λ said. said.text) words

none_open : (now : ParseState) (opened : List Open) → opened ≡ [] → refuse_unclosed_word now opened ≡ Ok now
unfolding refuse_unclosed_word
none_open now opened none = ap (refuse_unclosed_word now) none

none_named : (now : ParseState) (labels : List LabelContent) → labels ≡ [] → refuse_unplaced_label now labels ≡ Ok now
unfolding refuse_unplaced_label
none_named now labels none = ap (refuse_unplaced_label now) none

ready : (e : Expect) (plain all : PlainRequests) → requests_at_end_of_words (record { expect = e; plain = plain }) ≡ Some all → expects_operand e ≡ false
ready Word plain all is = refl
ready Address plain all is = absurd (no_some is)
ready Name plain all is = absurd (no_some is)
ready (Register register) plain all is = absurd (no_some is)
ready Nothing plain all is = refl

end_asked : (now : ParseState) (heard : PlainParseState) (last : ℕ) (all : PlainRequests) → IsPlainParseState now heard → requests_at_end_of_words heard ≡ Some all → finish_parse now last ≡ Ok now
end_asked now heard last all has is =
    cond-false (expects_operand now.expect) _ _ (ap expects_operand has.expect ∙ ready heard.expect heard.plain all is)
    ∙ (ap (λ (r : Result ParseState Refusal). r ▷ (λ closed. refuse_unplaced_label closed closed.labels)) (none_open now now.opened has.opened)
    ∙ none_named now now.labels has.names)

next_same : (words : List TokenContent) → slice_index_or (texts words) 0 [] ≡ next_word_text words
next_same [] = refl
next_same (said ∷ words) = refl

abbrev is_a_word : TokenKind → Option ℕ
is_a_word WordKind = Some 0
is_a_word LongLineKind = None
is_a_word OpenCommentKind = None
is_a_word NoNumberKind = None
is_a_word MissingKind = None
is_a_word TakenKind = None

more_words : (outcome : Result ParseState Refusal) (all : PlainRequests) (said : TokenContent) (words : List TokenContent) → AsksPlain outcome all words → AsksPlain outcome all (said ∷ words)
more_words (Ok end) all said words h = h
more_words (Err refusal) all said words h = λ kinds. h (All-tail (λ said. said.kind ≡ WordKind) said words kinds)

kind_cases : (kind : TokenKind) (line : ℕ) (asks : Result ParseState Refusal) → (kind ≡ WordKind) ⊎ ((kind ≡ WordKind → ⊥) × (refusal : Refusal) × (requests_if_token_is_word kind line asks ≡ Err refusal))
kind_cases WordKind line asks = inl refl
kind_cases LongLineKind line asks = inr ((λ e. no_some (ap is_a_word e)), record { line = line; wrong = LongLine }, refl)
kind_cases OpenCommentKind line asks = inr ((λ e. no_some (ap is_a_word e)), record { line = line; wrong = OpenComment }, refl)
kind_cases NoNumberKind line asks = inr ((λ e. no_some (ap is_a_word e)), record { line = line; wrong = NoNumber }, refl)
kind_cases MissingKind line asks = inr ((λ e. no_some (ap is_a_word e)), record { line = line; wrong = MissingNameOrValue }, refl)
kind_cases TakenKind line asks = inr ((λ e. no_some (ap is_a_word e)), record { line = line; wrong = NameTaken }, refl)

-- the first word is heard, or has a fault of its line
first_word : (now : ParseState) (heard : PlainParseState) (last : ℕ) (said : TokenContent) (words : List TokenContent) (all : PlainRequests)
    → ((now : ParseState) (heard : PlainParseState) → IsPlainParseState now heard → hear_all heard (texts words) ≡ Some all → AsksPlain (parse_words_from now said.line words) all words)
    → (o : Option PlainParseState) → parse_one_word heard said.text (slice_index_or (texts words) 0 []) ≡ o → (o >>= (λ now. hear_all now (texts words))) ≡ Some all
    → IsPlainParseState now heard → AsksPlain (parse_words_from now last (said ∷ words)) all (said ∷ words)
unfolding parse_words_from
first_word now heard last said words all again None is more has = absurd (no_some more)
first_word now heard last said words all again (Some after) is more has =
    elim (kind_cases said.kind said.line (expected_word_requests (record now { expect = Word }) now.expect said.line said.text (next_word_text words))) [
      | inl word ↦
          let one = one_word now heard after said (next_word_text words) word has (ap (parse_one_word heard said.text) (sym (next_same words)) ∙ is) in
          let rest = again one.later after one.has more in
          subst (λ (r : Result ParseState Refusal). AsksPlain r all (said ∷ words)) (sym (ap (λ (r : Result ParseState Refusal). r ▷ (λ after. parse_words_from after said.line words)) one.is))
          (more_words (parse_words_from one.later said.line words) all said words rest)
      | inr fault ↦
          subst (λ (r : Result ParseState Refusal). AsksPlain r all (said ∷ words)) (sym (ap (λ (r : Result ParseState Refusal). r ▷ (λ after. parse_words_from after said.line words)) fault.2))
          (λ kinds. fault.0 (kinds 0 said (omega arith)))
    ]

plain_from_here : (words : List TokenContent) (now : ParseState) (heard : PlainParseState) (last : ℕ) (all : PlainRequests) → IsPlainParseState now heard → hear_all heard (texts words) ≡ Some all → AsksPlain (parse_words_from now last words) all words
unfolding parse_words_from hear_all
plain_from_here [] now heard last all has is =
    subst (λ (r : Result ParseState Refusal). AsksPlain r all []) (sym (end_asked now heard last all has is)) (has.plain ∙ end_heard heard all is, has.names)
plain_from_here (said ∷ words) now heard last all has is =
    first_word now heard last said words all (λ n h. plain_from_here words n h said.line all) (parse_one_word heard said.text (slice_index_or (texts words) 0 [])) refl is has

nothing_heard_yet : IsPlainParseState initial_parse_state initial_plain_parse_state
nothing_heard_yet = record { expect = refl; plain = refl; names = refl; opened = refl; carries = refl }

pub plain_asks : (line : ℕ) (words : List TokenContent) (all : PlainRequests) → plain_requests_of_words (texts words) ≡ Some all → AsksPlain (requests_of_words line words) all words
plain_asks line words all is = plain_from_here words initial_parse_state initial_plain_parse_state line all nothing_heard_yet (hear_plain (texts words) no_plain_requests all is)

-- ---- the same of requests

kinds_said : (tokens : List Token) → All (λ token. token.kind ≡ WordKind) tokens → All (λ said. said.kind ≡ WordKind) (token_contents tokens)
kinds_said tokens kinds = All-map (λ said. said.kind ≡ WordKind) token_content tokens kinds

abbrev has_some : List LabelContent → Type 0
has_some [] = ⊥
has_some (label ∷ labels) = Unit {0}

some_names : {label : LabelContent} {labels : List LabelContent} → label ∷ labels ≡ [] → ⊥
some_names e = subst has_some e tt

pub map_map : (tokens : List Token) → map (λ said. said.text) (token_contents tokens) ≡ texts_of_tokens tokens
map_map [] = refl
map_map (token ∷ tokens) = ap (λ (rest : List (List ℕ)). token.text.now ∷ rest) (map_map tokens)

no_names : (items : List Label) (labels : List LabelContent) → map label_content items ≡ labels → labels ≡ [] → items ≡ []
no_names [] labels e none = refl
no_names (label ∷ items) labels e none = absurd (some_names (e ∙ none))

module _ (line : ℕ) (tokens : List Token) (all : PlainRequests) (is : plain_requests_of_words (texts_of_tokens tokens) ≡ Some all) where
  asks_plain : AsksPlain (requests_of_words line (token_contents tokens)) all (token_contents tokens)
  asks_plain = plain_asks line (token_contents tokens) all (ap plain_requests_of_words (map_map tokens) ∙ is)

  plain_end : (last : ParseState) → requests_of_words line (token_contents tokens) ≡ Ok last → (as_plain_requests last.asked last.registers ≡ all) × (last.labels ≡ [])
  plain_end last e = subst (λ (r : Result ParseState Refusal). AsksPlain r all (token_contents tokens)) e asks_plain

  pub plain_told : (requests : NodeRequests) → AreRequestsOfWords line (token_contents tokens) requests → (as_plain_requests requests.asked.items requests.registers ≡ all) × (requests.names.items ≡ [])
  plain_told requests of =
      let end = plain_end of.last of.asks in
      (rw (of.asked, of.registers) end.0, no_names requests.names.items of.last.labels of.names end.1)

  pub plain_untold : (refusal : Refusal) → requests_of_words line (token_contents tokens) ≡ Err refusal → All (λ token. token.kind ≡ WordKind) tokens → ⊥
  plain_untold refusal e kinds = subst (λ (r : Result ParseState Refusal). AsksPlain r all (token_contents tokens)) e asks_plain (kinds_said tokens kinds)
