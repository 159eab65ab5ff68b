-- The words of each node with their lines, the programs that are read of them, and words with faults.
use Rattle.std.proofs.Common.{◌≡◌, ◌∙◌, ℕ, zero, suc, inl, inr, ◌<◌, ◌≤◌, ◌+◌, Bool, true, false, List, [], ◌∷◌, ◌++◌, length, take, drop, get_or, Option, Some, None, arith, ap, sym, refl, subst, append_assoc, append-nil, drop-cons}
use Rattle.std.proofs.lemmas.List.{get_or-map, take-map, drop-map, drop_all}
use Rattle.ga_source.specs.declared.program.Program.{Program}
use Rattle.ga_parser.specs.declared.scan.Token.{Token}
use Rattle.ga_parser.specs.inner.Drafting.{texts_of_tokens}
use Rattle.std.specs.Prelude.{codes}
use Rattle.std.proofs.lemmas.Bool.{cases_Bool}
use Rattle.ga_grid.specs.Grid.{parse_decimal_name}
use Rattle.ga_parser.specs.Plain.{PlainRequests, is_node_keyword, body_words, body_word_lists, named_node_number, plain_requests_of_words, as_plain_requests, token_texts}
use Rattle.ga_source.specs.Programs.{IsPlainBodyProgram, ArePlainBodyPrograms, body_tokens, body_token_lists, HasRequestsOfWords, IsProgramOfBody, AreProgramsOfBodies}
use Rattle.ga_parser.specs.Saying.{token_contents, TokenContent, next_line_number}
use Rattle.ga_parser.proofs.Hearing.{same_text}
use Rattle.ga_parser.proofs.PlainAsked.{map_map}
use Rattle.ga_source.specs.inner.{AreOfFirst, AreAskedFirst}
use Rattle.ga_source.specs.Recovery.{token_with_line, tokens_with_word_numbers}

-- ---- up to the next `node`

pub body_ends : (texts : List (List ℕ)) (i : ℕ) → ((k : ℕ) → k < i → is_node_keyword (get_or texts k []) ≡ false) → (i < length texts → is_node_keyword (get_or texts i []) ≡ true) → take i texts ≡ body_words texts
unfolding body_words
body_ends [] zero none here = refl
body_ends [] (suc i) none here = refl
body_ends (word ∷ texts) zero none here = let is : is_node_keyword word ≡ true = here (omega arith) in rw is refl
body_ends (word ∷ texts) (suc i) none here =
    let other : is_node_keyword word ≡ false = none 0 (omega arith) in
    rw other (ap (λ (rest : List (List ℕ)). word ∷ rest) (body_ends texts i (λ k below. none (suc k) (omega arith)) (λ below. here (omega arith))))

pub bodies_behind : (texts : List (List ℕ)) (i : ℕ) → ((k : ℕ) → k < i → is_node_keyword (get_or texts k []) ≡ false) → body_word_lists (drop i texts) ≡ body_word_lists texts
unfolding body_word_lists
bodies_behind [] zero none = refl
bodies_behind [] (suc i) none = refl
bodies_behind (word ∷ texts) zero none = refl
bodies_behind (word ∷ texts) (suc i) none =
    let other : is_node_keyword word ≡ false = none 0 (omega arith) in
    rw other (bodies_behind texts i (λ k below. none (suc k) (omega arith)))

pub body_next : (texts : List (List ℕ)) (i : ℕ) → (i < length texts → is_node_keyword (get_or texts i []) ≡ true) → body_words (drop i texts) ≡ []
unfolding body_words
body_next [] zero here = refl
body_next [] (suc i) here = refl
body_next (word ∷ texts) zero here = let is : is_node_keyword word ≡ true = here (omega arith) in rw is refl
body_next (word ∷ texts) (suc i) here = body_next texts i (λ below. here (omega arith))

-- ---- one program more

abbrev is_some : {X : Type 0} → List (List X) → Type 0
is_some [] = ⊥
is_some (words ∷ rest) = Unit {0}

no_words : {X : Type 0} {words : List X} {rest : List (List X)} → [] ≡ words ∷ rest → ⊥
no_words e = subst is_some (sym e) tt

abbrev head_of : {X : Type 0} → List (List X) → List X
head_of [] = []
head_of (words ∷ rest) = words

abbrev tail_of : {X : Type 0} → List (List X) → List (List X)
tail_of [] = []
tail_of (words ∷ rest) = rest

pub first_more : (all : List (List (List ℕ))) (programs : List Program) (left rest : List (List (List ℕ))) (words : List (List ℕ)) (program : Program) → left ≡ words ∷ rest → IsPlainBodyProgram words program → AreOfFirst all programs left → AreOfFirst all (programs ++ program ∷ []) rest
unfolding AreOfFirst
first_more [] [] left rest words program is of first = absurd (no_words (first ∙ is))
first_more (body ∷ all) [] left rest words program is of first =
    let same = first ∙ is in
    (subst (λ w. IsPlainBodyProgram w program) (sym (ap head_of same)) of, ap tail_of same)
first_more [] (p ∷ programs) left rest words program is of first = absurd first
first_more (body ∷ all) (p ∷ programs) left rest words program is of first =
    (first.0, first_more all programs left rest words program is of first.1)

-- none is left
pub first_all : (all : List (List (List ℕ))) (programs : List Program) → AreOfFirst all programs [] → ArePlainBodyPrograms all programs
unfolding AreOfFirst ArePlainBodyPrograms
first_all [] [] none = tt
first_all (body ∷ all) [] none = absurd (no_words (sym none))
first_all [] (p ∷ programs) first = absurd first
first_all (body ∷ all) (p ∷ programs) first = (first.0, first_all all programs first.1)

-- ---- the same of tokens

pub front_of : (tokens : List Token) (i : ℕ) → ((k : ℕ) → k < i → is_node_keyword (get_or (texts_of_tokens tokens) k []) ≡ false) → (i < length (texts_of_tokens tokens) → is_node_keyword (get_or (texts_of_tokens tokens) i []) ≡ true) → texts_of_tokens (take i tokens) ≡ body_words (texts_of_tokens tokens)
front_of tokens i none here = sym (take-map (λ token. token.text.now) i tokens) ∙ body_ends (texts_of_tokens tokens) i none here

pub behind_of : (tokens : List Token) (i : ℕ) → ((k : ℕ) → k < i → is_node_keyword (get_or (texts_of_tokens tokens) k []) ≡ false) → body_word_lists (texts_of_tokens (drop i tokens)) ≡ body_word_lists (texts_of_tokens tokens)
behind_of tokens i none = ap body_word_lists (sym (drop-map (λ token. token.text.now) i tokens)) ∙ bodies_behind (texts_of_tokens tokens) i none

pub next_of : (tokens : List Token) (i : ℕ) → (i < length (texts_of_tokens tokens) → is_node_keyword (get_or (texts_of_tokens tokens) i []) ≡ true) → body_words (texts_of_tokens (drop i tokens)) ≡ []
next_of tokens i here = ap body_words (sym (drop-map (λ token. token.text.now) i tokens)) ∙ body_next (texts_of_tokens tokens) i here

-- the test of a token
pub tested : (tokens : List Token) (i : ℕ) (d : Token) (b : Bool) → i < length tokens → is_node_keyword (get_or tokens i d).text.now ≡ b → is_node_keyword (get_or (texts_of_tokens tokens) i []) ≡ b
tested tokens i d b within is = ap is_node_keyword (get_or-map (λ token. token.text.now) tokens i d [] within) ∙ is

-- ---- the words of the node that comes first

abbrev has : Option ℕ → Type 0
has (Some n) = Unit {0}
has None = ⊥

pub no_number : {n : ℕ} → None ≡ Some n → ⊥
no_number e = subst has (sym e) tt

pub drop_twice : {X : Type 0} (list : List X) (count : ℕ) → drop count (drop 2 list) ≡ drop (count + 2) list
drop_twice [] count = drop_all count [] (omega arith) ∙ sym (drop_all (count + 2) [] (omega arith))
drop_twice (a ∷ []) count = drop_all count [] (omega arith) ∙ sym (drop_all (count + 2) (a ∷ []) (omega arith))
drop_twice (a ∷ b ∷ list) count = let same : suc (suc count) ≡ count + 2 = omega arith in ap (λ (k : ℕ). drop k (a ∷ b ∷ list)) same

-- a node's name is no `node`
pub name_is_other : (name : List ℕ) (n : ℕ) → named_node_number name ≡ Some n → is_node_keyword name ≡ false
unfolding parse_decimal_name
name_is_other name n is = elim (cases_Bool (is_node_keyword name)) [
  | inl node ↦ absurd (no_number (ap named_node_number (sym (same_text name (codes "node") node)) ∙ is))
  | inr other ↦ other
]

first_body : (words : List Token) (d : Token) (n : ℕ) → 2 ≤ length words → is_node_keyword (get_or words 0 d).text.now ≡ true → named_node_number (get_or words 1 d).text.now ≡ Some n → body_word_lists (texts_of_tokens words) ≡ ((get_or words 1 d).text.now ∷ body_words (texts_of_tokens (drop 2 words))) ∷ body_word_lists (texts_of_tokens (drop 2 words))
unfolding body_words body_word_lists
first_body [] d n two node name = absurd (omega arith)
first_body (a ∷ []) d n two node name = absurd (omega arith)
first_body (a ∷ b ∷ words) d n two node name =
    let other = name_is_other b.text.now n name in
    rw (node, other) refl

pub one_more_read : (words behind body : List Token) (d : Token) (first name : List ℕ) (count : ℕ) (program : Program) (programs after : List Program) (all : List (List (List ℕ))) → 2 ≤ length words
    → first ≡ (get_or words 0 d).text.now → is_node_keyword first ≡ true
    → name ≡ (get_or words 1 d).text.now → named_node_number name ≡ Some program.node.number
    → after ≡ programs ++ program ∷ [] → behind ≡ drop 2 words → body ≡ take count behind
    → texts_of_tokens (take count behind) ≡ body_words (texts_of_tokens behind) → body_word_lists (texts_of_tokens (drop count behind)) ≡ body_word_lists (texts_of_tokens behind)
    → ((plain : PlainRequests) → plain_requests_of_words (texts_of_tokens body) ≡ Some plain → as_plain_requests program.asked.items program.registers ≡ plain)
    → ((plain : PlainRequests) → plain_requests_of_words (texts_of_tokens body) ≡ Some plain → program.names.items ≡ [])
    → AreOfFirst all programs (body_word_lists (texts_of_tokens words)) → AreOfFirst all after (body_word_lists (texts_of_tokens (drop (count + 2) words)))
one_more_read words behind body d first name count program programs after all two is_first node is_name named pushed is_behind is_body front rest asks names read =
    let texts : texts_of_tokens body ≡ body_words (texts_of_tokens behind) = ap texts_of_tokens is_body ∙ front in
    let of : IsPlainBodyProgram (name ∷ body_words (texts_of_tokens behind)) program = record {
      node = named;
      asks = λ plain is. asks plain (ap plain_requests_of_words texts ∙ is);
      names = λ plain is. names plain (ap plain_requests_of_words texts ∙ is);
    } in
    let left : body_word_lists (texts_of_tokens words) ≡ (name ∷ body_words (texts_of_tokens behind)) ∷ body_word_lists (texts_of_tokens behind) =
    first_body words d program.node.number two (ap is_node_keyword (sym is_first) ∙ node) (ap named_node_number (sym is_name) ∙ named)
    ∙ (ap (λ (n : List ℕ). (n ∷ body_words (texts_of_tokens (drop 2 words))) ∷ body_word_lists (texts_of_tokens (drop 2 words))) (sym is_name)
    ∙ ap (λ (b : List Token). (name ∷ body_words (texts_of_tokens b)) ∷ body_word_lists (texts_of_tokens b)) (sym is_behind)) in
    let more = first_more all programs (body_word_lists (texts_of_tokens words)) (body_word_lists (texts_of_tokens behind)) (name ∷ body_words (texts_of_tokens behind)) program left of read in
    let last : body_word_lists (texts_of_tokens behind) ≡ body_word_lists (texts_of_tokens (drop (count + 2) words)) =
    sym rest ∙ ap (λ (b : List Token). body_word_lists (texts_of_tokens b)) (ap (drop count) is_behind ∙ drop_twice words count) in
    subst (λ (l : List (List (List ℕ))). AreOfFirst all after l) last
    (subst (λ (p : List Program). AreOfFirst all p (body_word_lists (texts_of_tokens behind))) (sym pushed) more)

-- ---- a source

-- none is read
pub none_read : (words : List Token) (programs : List Program) → programs ≡ [] → AreOfFirst (body_word_lists (token_texts (token_contents words))) programs (body_word_lists (texts_of_tokens words))
unfolding AreOfFirst
none_read words programs none =
    subst (λ (p : List Program). AreOfFirst (body_word_lists (token_texts (token_contents words))) p (body_word_lists (texts_of_tokens words))) (sym none) (ap body_word_lists (map_map words))

-- all are read
pub all_read : (words left : List Token) (programs : List Program) → left ≡ [] → AreOfFirst (body_word_lists (token_texts (token_contents words))) programs (body_word_lists (texts_of_tokens left)) → ArePlainBodyPrograms (body_word_lists (token_texts (token_contents words))) programs
unfolding body_word_lists
all_read words left programs none read =
    first_all (body_word_lists (token_texts (token_contents words))) programs
    (subst (λ (rest : List Token). AreOfFirst (body_word_lists (token_texts (token_contents words))) programs (body_word_lists (texts_of_tokens rest))) none read)

-- ---- up to the next `node`

pub said_front : (tokens : List Token) (i : ℕ) → ((k : ℕ) → k < i → is_node_keyword (get_or (texts_of_tokens tokens) k []) ≡ false) → (i < length (texts_of_tokens tokens) → is_node_keyword (get_or (texts_of_tokens tokens) i []) ≡ true) → token_contents (take i tokens) ≡ body_tokens (token_contents tokens)
unfolding body_tokens
said_front [] zero none here = refl
said_front [] (suc i) none here = refl
said_front (token ∷ tokens) zero none here = let is : is_node_keyword token.text.now ≡ true = here (omega arith) in rw is refl
said_front (token ∷ tokens) (suc i) none here =
    let other : is_node_keyword token.text.now ≡ false = none 0 (omega arith) in
    rw other (ap (λ (rest : List TokenContent). record { line = token.line; text = token.text.now; kind = token.kind } ∷ rest) (said_front tokens i (λ k below. none (suc k) (omega arith)) (λ below. here (omega arith))))

pub said_behind : (tokens : List Token) (i : ℕ) → ((k : ℕ) → k < i → is_node_keyword (get_or (texts_of_tokens tokens) k []) ≡ false) → body_token_lists (token_contents (drop i tokens)) ≡ body_token_lists (token_contents tokens)
unfolding body_token_lists
said_behind [] zero none = refl
said_behind [] (suc i) none = refl
said_behind (token ∷ tokens) zero none = refl
said_behind (token ∷ tokens) (suc i) none =
    let other : is_node_keyword token.text.now ≡ false = none 0 (omega arith) in
    rw other (said_behind tokens i (λ k below. none (suc k) (omega arith)))

-- ---- one program more

asked_more : (all : List (List TokenContent)) (programs : List Program) (left rest : List (List TokenContent)) (words : List TokenContent) (program : Program) → left ≡ words ∷ rest → IsProgramOfBody words program → AreAskedFirst all programs left → AreAskedFirst all (programs ++ program ∷ []) rest
unfolding AreAskedFirst
asked_more [] [] left rest words program is of first = absurd (no_words (first ∙ is))
asked_more (body ∷ all) [] left rest words program is of first =
    let same = first ∙ is in
    (subst (λ (w : List TokenContent). IsProgramOfBody w program) (sym (ap head_of same)) of, ap tail_of same)
asked_more [] (p ∷ programs) left rest words program is of first = absurd first
asked_more (body ∷ all) (p ∷ programs) left rest words program is of first =
    (first.0, asked_more all programs left rest words program is of first.1)

-- none is left
asked_all : (all : List (List TokenContent)) (programs : List Program) → AreAskedFirst all programs [] → AreProgramsOfBodies all programs
unfolding AreAskedFirst AreProgramsOfBodies
asked_all [] [] none = tt
asked_all (body ∷ all) [] none = absurd (no_words (sym none))
asked_all [] (p ∷ programs) first = absurd first
asked_all (body ∷ all) (p ∷ programs) first = (first.0, asked_all all programs first.1)

-- the words of the node that comes first
said_first : (words : List Token) (d : Token) (n : ℕ) → 2 ≤ length words → is_node_keyword (get_or words 0 d).text.now ≡ true → named_node_number (get_or words 1 d).text.now ≡ Some n → body_token_lists (token_contents words) ≡ (record { line = (get_or words 1 d).line; text = (get_or words 1 d).text.now; kind = (get_or words 1 d).kind } ∷ body_tokens (token_contents (drop 2 words))) ∷ body_token_lists (token_contents (drop 2 words))
unfolding body_tokens body_token_lists
said_first [] d n two node name = absurd (omega arith)
said_first (a ∷ []) d n two node name = absurd (omega arith)
said_first (a ∷ b ∷ words) d n two node name =
    let other = name_is_other b.text.now n name in
    rw (node, other) refl

pub one_more_asked : (words behind body : List Token) (d : Token) (first name : List ℕ) (count : ℕ) (program : Program) (programs after : List Program) (all : List (List TokenContent)) → 2 ≤ length words
    → first ≡ (get_or words 0 d).text.now → is_node_keyword first ≡ true
    → name ≡ (get_or words 1 d).text.now → named_node_number name ≡ Some program.node.number
    → after ≡ programs ++ program ∷ [] → behind ≡ drop 2 words → body ≡ take count behind
    → token_contents (take count behind) ≡ body_tokens (token_contents behind) → body_token_lists (token_contents (drop count behind)) ≡ body_token_lists (token_contents behind)
    → HasRequestsOfWords (get_or words 1 d).line (token_contents body) program
    → AreAskedFirst all programs (body_token_lists (token_contents words)) → AreAskedFirst all after (body_token_lists (token_contents (drop (count + 2) words)))
one_more_asked words behind body d first name count program programs after all two is_first node is_name named pushed is_behind is_body front rest asks read =
    let token = get_or words 1 d in
    let said : TokenContent = record { line = token.line; text = token.text.now; kind = token.kind } in
    let texts : token_contents body ≡ body_tokens (token_contents (drop 2 words)) = ap token_contents is_body ∙ (front ∙ ap (λ (b : List Token). body_tokens (token_contents b)) is_behind) in
    let of : IsProgramOfBody (said ∷ body_tokens (token_contents (drop 2 words))) program =
    (ap named_node_number (sym is_name) ∙ named, subst (λ (w : List TokenContent). HasRequestsOfWords token.line w program) texts asks) in
    let left = said_first words d program.node.number two (ap is_node_keyword (sym is_first) ∙ node) (ap named_node_number (sym is_name) ∙ named) in
    let more = asked_more all programs (body_token_lists (token_contents words)) (body_token_lists (token_contents (drop 2 words))) (said ∷ body_tokens (token_contents (drop 2 words))) program left of read in
    let last : body_token_lists (token_contents (drop 2 words)) ≡ body_token_lists (token_contents (drop (count + 2) words)) =
    ap (λ (b : List Token). body_token_lists (token_contents b)) (sym is_behind) ∙ (sym rest ∙ ap (λ (b : List Token). body_token_lists (token_contents b)) (ap (drop count) is_behind ∙ drop_twice words count)) in
    subst (λ (l : List (List TokenContent)). AreAskedFirst all after l) last
    (subst (λ (p : List Program). AreAskedFirst all p (body_token_lists (token_contents (drop 2 words)))) (sym pushed) more)

-- ---- a source

pub none_asked : (words : List Token) (programs : List Program) → programs ≡ [] → AreAskedFirst (body_token_lists (token_contents words)) programs (body_token_lists (token_contents words))
unfolding AreAskedFirst
none_asked words programs none =
    subst (λ (p : List Program). AreAskedFirst (body_token_lists (token_contents words)) p (body_token_lists (token_contents words))) (sym none) refl

pub all_asked : (words left : List Token) (programs : List Program) → left ≡ [] → AreAskedFirst (body_token_lists (token_contents words)) programs (body_token_lists (token_contents left)) → AreProgramsOfBodies (body_token_lists (token_contents words)) programs
unfolding body_token_lists
all_asked words left programs none read =
    asked_all (body_token_lists (token_contents words)) programs
    (subst (λ (rest : List Token). AreAskedFirst (body_token_lists (token_contents words)) programs (body_token_lists (token_contents rest))) none read)

-- ---- numbers

pub one_numbered : (words : List Token) (k number : ℕ) (d one : Token) (before new all : List Token) → k < length words → one ≡ token_with_line (get_or words k d) number → new ≡ before ++ one ∷ [] → before ++ tokens_with_word_numbers number (drop k words) ≡ all → new ++ tokens_with_word_numbers (next_line_number number) (drop (k + 1) words) ≡ all
unfolding tokens_with_word_numbers
one_numbered words k number d one before new all within is pushed e =
    let next : suc k ≡ k + 1 = omega arith in
    let left : drop k words ≡ get_or words k d ∷ drop (k + 1) words = drop-cons words k d within ∙ ap (λ (j : ℕ). get_or words k d ∷ drop j words) next in
    ap (λ (l : List Token). l ++ tokens_with_word_numbers (next_line_number number) (drop (k + 1) words)) (pushed ∙ ap (λ (o : Token). before ++ o ∷ []) is)
    ∙ (append_assoc before (token_with_line (get_or words k d) number ∷ []) (tokens_with_word_numbers (next_line_number number) (drop (k + 1) words))
    ∙ (ap (λ (l : List Token). before ++ tokens_with_word_numbers number l) (sym left) ∙ e))

pub all_numbered : (number : ℕ) (left before all : List Token) → left ≡ [] → before ++ tokens_with_word_numbers number left ≡ all → before ≡ all
unfolding tokens_with_word_numbers
all_numbered number left before all none e = sym (append-nil before) ∙ (ap (λ (l : List Token). before ++ tokens_with_word_numbers number l) (sym none) ∙ e)
