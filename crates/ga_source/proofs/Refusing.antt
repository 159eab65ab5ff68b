-- A source that only want of memory keeps from being assembled.
use Rattle.std.specs.List.{All, list_all}
use Rattle.std.proofs.Common.{◌≡◌, ◌∙◌, ℕ, suc, ◌+◌, ◌<◌, ◌≤◌, inl, inr, refl, sym, ap, subst, Bool, true, false, List, [], ◌∷◌, Some, None, length, take, drop, set, replicate, get_or, slice_index_or, get_or-set_other, arith}
use Rattle.std.proofs.lemmas.Bool.{cases_Bool, cases_lt, and_parts, both_ways}
use Rattle.std.proofs.lemmas.List.{get_or-replicate, get_or_past, length-replicate}
use Rattle.std.proofs.lemmas.List.Elements.{All-nil, All-cons, All-head, All-tail, All-drop, All-take}
use Rattle.ga_parser.specs.declared.scan.TokenKind.{TokenKind}
use Rattle.ga_parser.specs.declared.scan.TokenKind.TheVariants.{Word, LongLine, OpenComment, NoNumber, MissingNameOrValue, NameTaken}
use Rattle.ga_parser.specs.declared.scan.Token.{Token}
use Rattle.ga_parser.specs.Saying.{TokenContent, is_word_token, is_word_kind, token_contents, tokens_through_first_fault, next_line_number}
use Rattle.ga_parser.specs.Words.{source_tokens_until_fault, source_tokens, source_word_texts}
use Rattle.ga_grid.specs.Grid.{parse_decimal_name}
use Rattle.ga_parser.specs.Plain.{PlainRequests, is_node_keyword, body_words, body_word_lists, named_node_number, token_texts, plain_requests_of_words}
use Rattle.std.specs.Prelude.{◌&&◌, if◌then◌else◌}
use Rattle.ga_parser.proofs.PlainAsked.{map_map}
use Rattle.ga_source.specs.Made.{requested_cells, AreDistinctCells, IsPlainNodeBody, IsPlainSource, AreWordsOfSource}
use Rattle.ga_source.specs.Recovery.{tokens_with_word_numbers}
use Rattle.ga_parser.specs.inner.Drafting.{texts_of_tokens}
use Rattle.ga_source.specs.inner.{AreBodiesOfDistinctNewNodes, AreWordsOfDistinctNewNodes}
use Rattle.ga_source.proofs.Bodies.{no_number, drop_twice}

-- ---- the node that comes first

-- no words name a node
no_body : IsPlainNodeBody [] → ⊥
unfolding parse_decimal_name
no_body sound = no_number sound.node

abbrev has_words : List (List ℕ) → Type 0
has_words [] = ⊥
has_words (word ∷ words) = Unit {0}

-- a body without words begins with `node`
begins_so : (word : List ℕ) (words : List (List ℕ)) → body_words (word ∷ words) ≡ [] → is_node_keyword word ≡ true
unfolding body_words
begins_so word words none = elim (cases_Bool (is_node_keyword word)) [
  | inl node ↦ node
  | inr other ↦ absurd (subst has_words (rw other at none) tt)
]

-- what is known of the words that come first
pub record IsFirst (begun : List Bool) (words : List Token) (d : Token) : Type 0 where
  pub node : is_node_keyword (get_or words 0 d).text.now ≡ true
  pub two : 2 ≤ length words
  pub body : IsPlainNodeBody ((get_or words 1 d).text.now ∷ body_words (texts_of_tokens (drop 2 words)))
  pub fresh : (n : ℕ) → named_node_number (get_or words 1 d).text.now ≡ Some n → slice_index_or begun n false ≡ false
  pub left : body_word_lists (texts_of_tokens words) ≡ ((get_or words 1 d).text.now ∷ body_words (texts_of_tokens (drop 2 words))) ∷ body_word_lists (texts_of_tokens (drop 2 words))

-- the first of the bodies
first_sound : (begun : List Bool) (words : List Token) (d : Token) (body : List (List ℕ)) (rest : List (List (List ℕ))) → body_word_lists (texts_of_tokens words) ≡ body ∷ rest → AreWordsOfDistinctNewNodes begun words → IsPlainNodeBody body
first_sound begun words d body rest is sound = All-head IsPlainNodeBody body rest (subst (All IsPlainNodeBody) is sound.bodies.each)

first_fresh : (begun : List Bool) (words : List Token) (d : Token) (body : List (List ℕ)) (rest : List (List (List ℕ))) → body_word_lists (texts_of_tokens words) ≡ body ∷ rest → AreWordsOfDistinctNewNodes begun words → (n : ℕ) → named_node_number (slice_index_or body 0 []) ≡ Some n → slice_index_or begun n false ≡ false
first_fresh begun words d body rest is sound = λ n named.
    let all = subst (AreBodiesOfDistinctNewNodes begun) is sound.bodies in all.fresh 0 n (omega arith) named

pub first_is : (begun : List Bool) (words : List Token) (d : Token) → 0 < length words → AreWordsOfDistinctNewNodes begun words → IsFirst begun words d
unfolding body_words body_word_lists
first_is begun [] d some sound = absurd (omega arith)
first_is begun (a ∷ []) d some sound =
    let node = begins_so a.text.now [] sound.begins in
    let is : body_word_lists (texts_of_tokens (a ∷ [])) ≡ [] ∷ [] = rw node refl in
    absurd (no_body (first_sound begun (a ∷ []) d [] [] is sound))
first_is begun (a ∷ b ∷ words) d some sound =
    let node = begins_so a.text.now (texts_of_tokens (b ∷ words)) sound.begins in
    elim (cases_Bool (is_node_keyword b.text.now)) [
      | inl again ↦
          let is : body_word_lists (texts_of_tokens (a ∷ b ∷ words)) ≡ [] ∷ body_words (texts_of_tokens words) ∷ body_word_lists (texts_of_tokens words) = rw (node, again) refl in
          absurd (no_body (first_sound begun (a ∷ b ∷ words) d [] _ is sound))
      | inr other ↦
          let is : body_word_lists (texts_of_tokens (a ∷ b ∷ words)) ≡ (b.text.now ∷ body_words (texts_of_tokens words)) ∷ body_word_lists (texts_of_tokens words) = rw (node, other) refl in
          record {
            node = node;
            two = omega arith;
            body = first_sound begun (a ∷ b ∷ words) d (b.text.now ∷ body_words (texts_of_tokens words)) (body_word_lists (texts_of_tokens words)) is sound;
            fresh = first_fresh begun (a ∷ b ∷ words) d (b.text.now ∷ body_words (texts_of_tokens words)) (body_word_lists (texts_of_tokens words)) is sound;
            left = is;
          }
    ]

-- ---- the words that are left

-- the bodies after the first, whose node has begun
rest_sound : (begun : List Bool) (body : List (List ℕ)) (bodies : List (List (List ℕ))) (n : ℕ) → named_node_number (slice_index_or body 0 []) ≡ Some n → AreBodiesOfDistinctNewNodes begun (body ∷ bodies) → AreBodiesOfDistinctNewNodes (set begun n true) bodies
rest_sound begun body bodies n named sound = record {
  each = All-tail IsPlainNodeBody body bodies sound.each;
  apart = λ j k below within. sound.apart (suc j) (suc k) (omega arith) (omega arith);
  fresh = λ k m within is.
      get_or-set_other begun n m true false (λ e. sound.apart 0 (suc k) (omega arith) (omega arith) (named ∙ (ap Some (sym e) ∙ sym is)))
      ∙ sound.fresh (suc k) m (omega arith) is;
}

pub left_sound : (begun after : List Bool) (words left : List Token) (body : List (List ℕ)) (n : ℕ) (from : ℕ) → after ≡ set begun n true → named_node_number (slice_index_or body 0 []) ≡ Some n → left ≡ drop from words → body_words (texts_of_tokens left) ≡ []
    → body_word_lists (texts_of_tokens words) ≡ body ∷ body_word_lists (texts_of_tokens left) → AreWordsOfDistinctNewNodes begun words → AreWordsOfDistinctNewNodes after left
left_sound begun after words left body n from set_so named is begins bodies sound = record {
  kinds = subst (All (λ token. token.kind ≡ Word)) (sym is) (All-drop (λ token. token.kind ≡ Word) from words sound.kinds);
  begins = begins;
  bodies = subst (λ (b : List Bool). AreBodiesOfDistinctNewNodes b (body_word_lists (texts_of_tokens left))) (sym set_so)
      (rest_sound begun body (body_word_lists (texts_of_tokens left)) n named (subst (AreBodiesOfDistinctNewNodes begun) bodies sound.bodies));
}

-- ---- a source

kind_is : (kind : TokenKind) → is_word_kind kind ≡ true → kind ≡ Word
kind_is Word e = refl
kind_is LongLine e = absurd (subst (λ b. elim b as (λ _. Type 0) [ true ↦ ⊥ | false ↦ Unit {0} ]) e tt)
kind_is OpenComment e = absurd (subst (λ b. elim b as (λ _. Type 0) [ true ↦ ⊥ | false ↦ Unit {0} ]) e tt)
kind_is NoNumber e = absurd (subst (λ b. elim b as (λ _. Type 0) [ true ↦ ⊥ | false ↦ Unit {0} ]) e tt)
kind_is MissingNameOrValue e = absurd (subst (λ b. elim b as (λ _. Type 0) [ true ↦ ⊥ | false ↦ Unit {0} ]) e tt)
kind_is NameTaken e = absurd (subst (λ b. elim b as (λ _. Type 0) [ true ↦ ⊥ | false ↦ Unit {0} ]) e tt)

kinds_are : (tokens : List Token) → list_all is_word_token (token_contents tokens) ≡ true → All (λ token. token.kind ≡ Word) tokens
kinds_are [] whole = All-nil (λ token. token.kind ≡ Word)
kinds_are (token ∷ tokens) whole =
    let parts = and_parts (is_word_kind token.kind) (list_all is_word_token (token_contents tokens)) whole in
    All-cons (λ t. t.kind ≡ Word) token tokens (kind_is token.kind parts.0) (kinds_are tokens parts.1)

-- no node has begun
begun_none : (k : ℕ) → slice_index_or (replicate 144 false) k false ≡ false
begun_none k = elim (cases_lt k 144) [
  | inl l ↦ get_or-replicate 144 k false false l
  | inr past ↦ get_or_past (replicate 144 false) k false (rw length-replicate past)
]

pub none_there : (begun : List Bool) → begun ≡ replicate 144 false → (n : ℕ) → slice_index_or begun n false ≡ false
none_there begun is n = ap (λ (list : List Bool). slice_index_or list n false) is ∙ begun_none n

pub source_sound : (words : List Token) (begun : List Bool) → ((n : ℕ) → slice_index_or begun n false ≡ false) → (source : List ℕ) → AreWordsOfSource source (token_contents words) → IsPlainSource source → AreWordsOfDistinctNewNodes begun words
source_sound words begun none source has sound =
    let texts : texts_of_tokens words ≡ source_word_texts source = sym (map_map words) ∙ has.0 in
    record {
      kinds = kinds_are words (has.1 ∙ sound.whole);
      begins = ap body_words texts ∙ sound.begins;
      bodies = subst (λ (list : List (List ℕ)). AreBodiesOfDistinctNewNodes begun (body_word_lists list)) (sym texts) (record { each = sound.bodies; apart = sound.apart; fresh = λ k n within is. none n });
    }

-- ---- words with numbers in place of their lines

texts_numbered : (number : ℕ) (words : List Token) → token_texts (token_contents (tokens_with_word_numbers number words)) ≡ token_texts (token_contents words)
unfolding tokens_with_word_numbers
texts_numbered number [] = refl
texts_numbered number (word ∷ words) = ap (λ (texts : List (List ℕ)). word.text.now ∷ texts) (texts_numbered (next_line_number number) words)

kinds_numbered : (number : ℕ) (words : List Token) → list_all is_word_token (token_contents (tokens_with_word_numbers number words)) ≡ list_all is_word_token (token_contents words)
unfolding tokens_with_word_numbers
kinds_numbered number [] = refl
kinds_numbered number (word ∷ words) = ap (λ (b : Bool). is_word_kind word.kind && b) (kinds_numbered (next_line_number number) words)

-- without a fault all words are read
no_fault : (all : List TokenContent) → list_all is_word_token (tokens_through_first_fault all) ≡ true → tokens_through_first_fault all ≡ all
unfolding tokens_through_first_fault
no_fault [] whole = refl
no_fault (said ∷ rest) whole =
    let parts = and_parts (is_word_token said) (list_all is_word_token (if is_word_token said then tokens_through_first_fault rest else [])) whole in
    let taken : (if is_word_token said then tokens_through_first_fault rest else []) ≡ tokens_through_first_fault rest = rw parts.0 refl in
    ap (λ (l : List TokenContent). said ∷ l) (taken ∙ no_fault rest (ap (list_all is_word_token) (sym taken) ∙ parts.1))

pub numbered_words : (words : List Token) (source : List ℕ) → token_contents words ≡ source_tokens source → IsPlainSource source → AreWordsOfSource source (token_contents (tokens_with_word_numbers 1 words))
unfolding source_tokens_until_fault
numbered_words words source said sound =
    let whole : source_tokens_until_fault source ≡ token_contents words = no_fault (source_tokens source) sound.whole ∙ sym said in
    (texts_numbered 1 words ∙ ap token_texts (sym whole), kinds_numbered 1 words ∙ ap (list_all is_word_token) (sym whole))

-- ---- why the node that comes first is never refused

-- the first word
pub not_node : (begun : List Bool) (words : List Token) (d : Token) (first : List ℕ) → 0 < length words → first ≡ (get_or words 0 d).text.now → is_node_keyword first ≡ false → AreWordsOfDistinctNewNodes begun words → ⊥
not_node begun words d first some is other sound =
    let found = first_is begun words d some sound in both_ways (is_node_keyword first) other (ap is_node_keyword is ∙ found.node)

-- a name is there
pub too_few : (begun : List Bool) (words : List Token) → 0 < length words → length words < 2 → AreWordsOfDistinctNewNodes begun words → ⊥
too_few begun [] some few sound = absurd (omega arith)
too_few begun (a ∷ words) some few sound = let found = first_is begun (a ∷ words) a some sound in let two = found.two in absurd (omega arith)

module _ (begun : List Bool) (words : List Token) (d : Token) (name : List ℕ) (some : 0 < length words) (is_name : name ≡ (get_or words 1 d).text.now) where
  -- and names a node
  pub no_such : named_node_number name ≡ None → AreWordsOfDistinctNewNodes begun words → ⊥
  no_such none sound =
      let found = first_is begun words d some sound in no_number (sym none ∙ (ap named_node_number is_name ∙ found.body.node))

  -- that hasn't begun
  pub begun_twice : (n i : ℕ) → named_node_number name ≡ Some n → i ≡ n → slice_index_or begun i false ≡ true → AreWordsOfDistinctNewNodes begun words → ⊥
  begun_twice n i named same twice sound =
      let found = first_is begun words d some sound in
      both_ways (slice_index_or begun n false) (found.fresh n (ap named_node_number (sym is_name) ∙ named)) (ap (λ (k : ℕ). slice_index_or begun k false) (sym same) ∙ twice)

  -- the words after it are sound
  pub first_refused : (Goal : Type 0) (behind body : List Token) (count : ℕ) → behind ≡ drop 2 words → body ≡ take count behind → texts_of_tokens (take count behind) ≡ body_words (texts_of_tokens behind)
      → ((plain : PlainRequests) → All (λ token. token.kind ≡ Word) body → plain_requests_of_words (texts_of_tokens body) ≡ Some plain → AreDistinctCells (requested_cells 0 plain.requests) → Goal) → AreWordsOfDistinctNewNodes begun words → Goal
  first_refused Goal behind body count is_behind is_body front refused sound =
      let found = first_is begun words d some sound in
      let texts : texts_of_tokens body ≡ body_words (texts_of_tokens (drop 2 words)) = ap texts_of_tokens is_body ∙ (front ∙ ap (λ (b : List Token). body_words (texts_of_tokens b)) is_behind) in
      refused found.body.plain
      (subst (All (λ token. token.kind ≡ Word)) (sym (is_body ∙ ap (take count) is_behind))
      (All-take (λ token. token.kind ≡ Word) count (drop 2 words) (All-drop (λ token. token.kind ≡ Word) 2 words sound.kinds)))
      (ap plain_requests_of_words texts ∙ found.body.words_plain) found.body.free

  -- and so is what is left
  pub left_first : (behind : List Token) (n i count : ℕ) → behind ≡ drop 2 words → named_node_number name ≡ Some n → body_words (texts_of_tokens (drop count behind)) ≡ [] → body_word_lists (texts_of_tokens (drop count behind)) ≡ body_word_lists (texts_of_tokens behind) → i ≡ n
      → AreWordsOfDistinctNewNodes begun words → AreWordsOfDistinctNewNodes (set begun i true) (drop (count + 2) words)
  left_first behind n i count is_behind named begins bodies same sound =
      let found = first_is begun words d some sound in
      let left : drop count behind ≡ drop (count + 2) words = ap (drop count) is_behind ∙ drop_twice words count in
      left_sound begun (set begun i true) words (drop (count + 2) words) ((get_or words 1 d).text.now ∷ body_words (texts_of_tokens (drop 2 words))) n (count + 2)
      (ap (λ (k : ℕ). set begun k true) same) (ap named_node_number (sym is_name) ∙ named) refl
      (ap (λ (list : List Token). body_words (texts_of_tokens list)) (sym left) ∙ begins)
      (found.left ∙ ap (λ (list : List (List (List ℕ))). ((get_or words 1 d).text.now ∷ body_words (texts_of_tokens (drop 2 words))) ∷ list)
      (ap (λ (list : List Token). body_word_lists (texts_of_tokens list)) (sym is_behind) ∙ (sym bodies ∙ ap (λ (list : List Token). body_word_lists (texts_of_tokens list)) left)))
      sound
