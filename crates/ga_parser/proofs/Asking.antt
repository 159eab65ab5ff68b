-- The words of a node, one by one, and labels by their names.
use Rattle.std.proofs.Common.{◌≡◌, ◌∙◌, ℕ, zero, suc, ◌+◌, ◌<◌, false, List, [], ◌∷◌, ◌++◌, length, drop, get_or, slice_index_or, ap, sym, refl, arith, inl, inr, Bool, true, cond, set, Option, Some, None, subst}
use Rattle.std.specs.Prelude.{Result, Ok, Err, reverse, bytes_eq, ◌&&◌, not, option_map, map}
use Rattle.std.proofs.lemmas.List.{reverse-append, map-set, map-append, length-map, get_or-map}
use Rattle.std.proofs.lemmas.Bool.{cond-false, cond-true, cases_Bool}
use Rattle.ga_parser.specs.declared.controls.Open.{Open}
use Rattle.ga_parser.specs.declared.scan.Token.{Token}
use Rattle.ga_parser.specs.Asking.{ParseState, Refusal, refusal_at_line, open_control_word_line, refuse_unclosed_word, parse_one_word, next_word_text, parse_words_from, finish_parse, expects_operand, refuse_unplaced_label, ◌▷◌, LabelContent, label_content, known_label_number, label_number, label_with_number, labels_with_marked_label}
use Rattle.ga_parser.specs.Asking.RefusalCause.{Unclosed, UnknownWord}
use Rattle.ga_parser.specs.Saying.{token_content, token_contents, has_bytes}
use Rattle.ga_parser.specs.inner.Drafting.{texts_of_tokens}
use Rattle.ga_parser.specs.inner.Names.{AreLabelNumbersByName}
use Rattle.std.specs.HashMap.{HashMap, get_by, UpdatesBy}
use Rattle.std.specs.Map.{lookup}
use denote.Ref.{Bor}
use Rattle.std.proofs.Math.Seq.{drop-cons}
use Rattle.std.proofs.lemmas.Map.Text.{hash_map_updates_str}
use Rattle.ga_parser.specs.declared.labels.Label.{Label}
use Rattle.ga_parser.proofs.Hearing.{same_text as same_bytes}

-- ---- what is still open

outermost : (now : ParseState) (inner : List Open) (one : Open) → refuse_unclosed_word now (inner ++ one ∷ []) ≡ refusal_at_line (open_control_word_line one) Unclosed
unfolding refuse_unclosed_word
outermost now [] one = refl
outermost now (a ∷ []) one = refl
outermost now (a ∷ b ∷ inner) one = outermost now (b ∷ inner) one

pub first_open : (now : ParseState) (opened : List Open) (d : Open) → 0 < length opened → refuse_unclosed_word now (reverse opened) ≡ refusal_at_line (open_control_word_line (get_or opened 0 d)) Unclosed
first_open now [] d some = absurd (omega arith)
first_open now (one ∷ inner) d some = ap (refuse_unclosed_word now) (reverse-append (one ∷ []) inner) ∙ outermost now (reverse inner) one

pub open_refused : (now : ParseState) (last : ℕ) (items : List Open) (open_one : Open) → now.opened ≡ reverse items → expects_operand now.expect ≡ false → 0 < length items → open_one ≡ get_or items 0 open_one → finish_parse now last ≡ refusal_at_line (open_control_word_line open_one) Unclosed
open_refused now last items open_one is ready some first =
    cond-false (expects_operand now.expect) _ _ ready
    ∙ ap (λ (r : Result ParseState Refusal). r ▷ (λ closed. refuse_unplaced_label closed closed.labels))
    (ap (refuse_unclosed_word now) is ∙ (first_open now items open_one some ∙ ap (λ (o : Open). refusal_at_line {X = ParseState} (open_control_word_line o) Unclosed) (sym first)))

-- ---- one word more

pub next_is : (tokens : List Token) (k : ℕ) → next_word_text (token_contents (drop k tokens)) ≡ slice_index_or (texts_of_tokens tokens) k []
next_is [] zero = refl
next_is [] (suc k) = refl
next_is (token ∷ tokens) zero = refl
next_is (token ∷ tokens) (suc k) = next_is tokens k

pub first_left : (tokens : List Token) (k : ℕ) (d : Token) → k < length tokens → token_contents (drop k tokens) ≡ token_content (get_or tokens k d) ∷ token_contents (drop (k + 1) tokens)
first_left [] k d within = absurd (omega arith)
first_left (token ∷ tokens) zero d within = refl
first_left (token ∷ tokens) (suc k) d within =
    let one : suc k + 1 ≡ suc (k + 1) = omega arith in
    first_left tokens k d (omega arith) ∙ ap (λ (j : ℕ). token_content (get_or tokens k d) ∷ token_contents (drop j (token ∷ tokens))) (sym one)

module _ (now : ParseState) (last : ℕ) (tokens : List Token) (k : ℕ) (d : Token) (next : List ℕ) (within : k < length tokens) (is_next : next ≡ slice_index_or (texts_of_tokens tokens) (k + 1) []) where
  front : parse_words_from now last (token_contents (drop k tokens)) ≡ (parse_one_word now (token_content (get_or tokens k d)) next ▷ (λ after. parse_words_from after (get_or tokens k d).line (token_contents (drop (k + 1) tokens))))
  unfolding parse_words_from
  front = ap (parse_words_from now last) (first_left tokens k d within)
      ∙ ap (λ (text : List ℕ). parse_one_word now (token_content (get_or tokens k d)) text ▷ (λ after. parse_words_from after (get_or tokens k d).line (token_contents (drop (k + 1) tokens)))) (next_is tokens (k + 1) ∙ sym is_next)

  pub one_heard : (after : ParseState) → parse_one_word now (token_content (get_or tokens k d)) next ≡ Ok after → parse_words_from now last (token_contents (drop k tokens)) ≡ parse_words_from after (get_or tokens k d).line (token_contents (drop (k + 1) tokens))
  one_heard after heard = front ∙ ap (λ (r : Result ParseState Refusal). r ▷ (λ after. parse_words_from after (get_or tokens k d).line (token_contents (drop (k + 1) tokens)))) heard

  pub one_refused : (refusal : Refusal) → parse_one_word now (token_content (get_or tokens k d)) next ≡ Err refusal → parse_words_from now last (token_contents (drop k tokens)) ≡ Err refusal
  one_refused refusal heard = front ∙ ap (λ (r : Result ParseState Refusal). r ▷ (λ after. parse_words_from after (get_or tokens k d).line (token_contents (drop (k + 1) tokens)))) heard

-- after the last
pub none_left : (now : ParseState) (last : ℕ) (tokens : List Token) → tokens ≡ [] → parse_words_from now last (token_contents tokens) ≡ finish_parse now last
unfolding parse_words_from
none_left now last tokens none = ap (λ (t : List Token). parse_words_from now last (token_contents t)) none

-- ---- labels by their names

abbrev more : Option ℕ → Option ℕ
more o = option_map (λ k. k + 1) o

none_more : (o : Option ℕ) → more o ≡ None → o ≡ None
none_more None e = refl
none_more (Some k) e = absurd (subst (λ (o : Option ℕ). elim o as (λ _. Type 0) [ Some _ ↦ Unit {0} | None ↦ ⊥ ]) e tt)

not_some : {k : ℕ} → Some k ≡ None → ⊥
not_some e = subst (λ (o : Option ℕ). elim o as (λ _. Type 0) [ Some _ ↦ Unit {0} | None ↦ ⊥ ]) e tt

-- an empty name is no label's
pub empty_name : (labels : List LabelContent) → known_label_number labels [] ≡ None
unfolding known_label_number
empty_name [] = refl
empty_name (label ∷ labels) = ap more (empty_name labels)

pub is_empty_name : (labels : List LabelContent) (name : List ℕ) → has_bytes name ≡ false → known_label_number labels name ≡ None
is_empty_name labels [] e = empty_name labels
is_empty_name labels (b ∷ name) e = absurd (subst (λ (t : Bool). elim t as (λ _. Type 0) [ true ↦ Unit {0} | false ↦ ⊥ ]) e tt)

-- one more, with another name
pub push_other : (labels : List LabelContent) (label : LabelContent) (name : List ℕ) → (has_bytes name && bytes_eq label.name name) ≡ false → known_label_number (labels ++ label ∷ []) name ≡ known_label_number labels name
unfolding known_label_number
push_other [] label name other = cond-false (has_bytes name && bytes_eq label.name name) (Some 0) None other
push_other (first ∷ labels) label name other =
    ap (λ (o : Option ℕ). cond (has_bytes name && bytes_eq first.name name) (Some 0) (more o)) (push_other labels label name other)

-- one more, the first with its name
pub push_first : (labels : List LabelContent) (label : LabelContent) (name : List ℕ) → (has_bytes name && bytes_eq label.name name) ≡ true → known_label_number labels name ≡ None → known_label_number (labels ++ label ∷ []) name ≡ Some (length labels)
unfolding known_label_number
push_first [] label name is none = cond-true (has_bytes name && bytes_eq label.name name) (Some 0) None is
push_first (first ∷ labels) label name is none = elim (cases_Bool (has_bytes name && bytes_eq first.name name)) [
  | inl same ↦ absurd (not_some (sym (cond-true (has_bytes name && bytes_eq first.name name) (Some 0) (more (known_label_number labels name)) same) ∙ none))
  | inr other ↦
      let before = none_more (known_label_number labels name) (sym (cond-false (has_bytes name && bytes_eq first.name name) (Some 0) (more (known_label_number labels name)) other) ∙ none) in
      let one : length labels + 1 ≡ suc (length labels) = omega arith in
      cond-false (has_bytes name && bytes_eq first.name name) (Some 0) (more (known_label_number (labels ++ label ∷ []) name)) other
      ∙ (ap more (push_first labels label name is before) ∙ ap (λ (k : ℕ). Some k) one)
]

-- another label in its place, with its name
pub set_same : (labels : List LabelContent) (k : ℕ) (label : LabelContent) (name : List ℕ) → label.name ≡ (label_with_number labels k).name → known_label_number (set labels k label) name ≡ known_label_number labels name
unfolding known_label_number
set_same [] zero label name e = refl
set_same [] (suc k) label name e = refl
set_same (first ∷ labels) zero label name e =
    ap (λ (n : List ℕ). cond (has_bytes name && bytes_eq n name) (Some 0) (more (known_label_number labels name))) e
set_same (first ∷ labels) (suc k) label name e =
    ap (λ (o : Option ℕ). cond (has_bytes name && bytes_eq first.name name) (Some 0) (more o)) (set_same labels k label name e)

-- ---- the map of names

none_is : (name : List ℕ) → has_bytes name ≡ true → (has_bytes name && bytes_eq [] name) ≡ false
none_is [] has = refl
none_is (b ∷ name) has = refl

-- without a name
pub names_nameless : {S : Type 0} (names : HashMap (Bor (List ℕ)) ℕ S) (labels : List LabelContent) (label : LabelContent) → label.name ≡ [] → AreLabelNumbersByName names labels → AreLabelNumbersByName names (labels ++ label ∷ [])
names_nameless names labels label none are = λ name has.
    are name has ∙ sym (push_other labels label name (ap (λ (n : List ℕ). has_bytes name && bytes_eq n name) none ∙ none_is name has))

-- in its place
pub names_set : {S : Type 0} (names : HashMap (Bor (List ℕ)) ℕ S) (labels : List LabelContent) (k : ℕ) (label : LabelContent) → label.name ≡ (label_with_number labels k).name → AreLabelNumbersByName names labels → AreLabelNumbersByName names (set labels k label)
names_set names labels k label e are = λ name has. are name has ∙ sym (set_same labels k label name e)

-- with a new name
pub names_named : {S : Type 0} (names after : HashMap (Bor (List ℕ)) ℕ S) (labels : List LabelContent) (label : LabelContent) (n : ℕ) → UpdatesBy (λ x y. bytes_eq x.now y.now) (λ k. bytes_eq label.name k.now) names after (Some n) → n ≡ length labels → known_label_number labels label.name ≡ None → AreLabelNumbersByName names labels → AreLabelNumbersByName after (labels ++ label ∷ [])
names_named names after labels label n updates last none are = λ name has.
    hash_map_updates_str label.name names after (Some n) updates name ∙ (elim (cases_Bool (bytes_eq label.name name)) [
      | inl same ↦
          let e = same_bytes label.name name same in
          let test : (has_bytes name && bytes_eq label.name name) ≡ true = rw has same in
          cond-true (bytes_eq label.name name) (Some n) _ same
          ∙ (ap (λ (k : ℕ). Some k) last ∙ sym (push_first labels label name test (ap (known_label_number labels) (sym e) ∙ none)))
      | inr other ↦
          let test : (has_bytes name && bytes_eq label.name name) ≡ false = rw has other in
          cond-false (bytes_eq label.name name) (Some n) _ other
          ∙ (are name has ∙ sym (push_other labels label name test))
    ])

-- what the map has
pub found_name : {S : Type 0} (names : HashMap (Bor (List ℕ)) ℕ S) (labels now : List LabelContent) (name : List ℕ) → AreLabelNumbersByName names labels → labels ≡ now → (length name ≡ 0 → ⊥) → get_by (λ key. bytes_eq name key.now) names ≡ known_label_number now name
found_name names labels now [] are e some = absurd (some refl)
found_name names labels now (b ∷ name) are e some = are (b ∷ name) refl ∙ ap (λ (l : List LabelContent). known_label_number l (b ∷ name)) e

pub number_found : (labels : List LabelContent) (name : List ℕ) (n : ℕ) → known_label_number labels name ≡ Some n → n ≡ label_number labels name
number_found labels name n e = rw e refl

pub number_new : (labels : List LabelContent) (name : List ℕ) (n : ℕ) → known_label_number labels name ≡ None → n ≡ length labels → n ≡ label_number labels name
number_new labels name n e same = rw e same

-- ---- the same of the code's own list

pub length_labels : (items : List Label) (labels : List LabelContent) (n : ℕ) → map label_content items ≡ labels → n ≡ length items → n ≡ length labels
length_labels items labels n view same = same ∙ (sym (length-map items label_content) ∙ ap length view)

pub names_pushed : {S : Type 0} (names after : HashMap (Bor (List ℕ)) ℕ S) (items pushed : List Label) (labels : List LabelContent) (label : Label) (n : ℕ) → UpdatesBy (λ x y. bytes_eq x.now y.now) (λ k. bytes_eq label.name.now k.now) names after (Some n) → map label_content items ≡ labels → n ≡ length items → known_label_number labels label.name.now ≡ None → pushed ≡ items ++ label ∷ [] → AreLabelNumbersByName names (map label_content items) → AreLabelNumbersByName after (map label_content pushed)
names_pushed names after items pushed labels label n updates view last none same are =
    subst (λ (list : List LabelContent). AreLabelNumbersByName after list) (sym (ap (map label_content) same ∙ map-append label_content items (label ∷ [])))
    (names_named names after (map label_content items) (label_content label) n updates (last ∙ sym (length-map items label_content))
    (ap (λ (l : List LabelContent). known_label_number l label.name.now) view ∙ none) are)

pub nameless_pushed : {S : Type 0} (names : HashMap (Bor (List ℕ)) ℕ S) (items pushed : List Label) (label : Label) → label.name.now ≡ [] → pushed ≡ items ++ label ∷ [] → AreLabelNumbersByName names (map label_content items) → AreLabelNumbersByName names (map label_content pushed)
nameless_pushed names items pushed label none same are =
    subst (λ (list : List LabelContent). AreLabelNumbersByName names list) (sym (ap (map label_content) same ∙ map-append label_content items (label ∷ [])))
    (names_nameless names (map label_content items) (label_content label) none are)

pub names_none : {S : Type 0} (names : HashMap (Bor (List ℕ)) ℕ S) (items : List Label) → names.entries ≡ [] → items ≡ [] → AreLabelNumbersByName names (map label_content items)
unfolding known_label_number
names_none names items empty none = λ name has. ap (lookup (λ key. bytes_eq name key.now)) empty ∙ ap (λ (l : List Label). known_label_number (map label_content l) name) (sym none)

label_there : (items : List Label) (k : ℕ) (found : Label) → k < length items → found ≡ get_or items k found → label_with_number (map label_content items) k ≡ label_content found
label_there items k found within is = get_or-map label_content items k found _ within ∙ ap label_content (sym is)

pub names_marked : {S : Type 0} (names : HashMap (Bor (List ℕ)) ℕ S) (items : List Label) (k : ℕ) (found label : Label) → k < length items → found ≡ get_or items k found → label.name.now ≡ found.name.now → AreLabelNumbersByName names (map label_content items) → AreLabelNumbersByName names (map label_content (set items k label))
names_marked names items k found label within is same are =
    subst (λ (list : List LabelContent). AreLabelNumbersByName names list) (sym (map-set label_content items k label))
    (names_set names (map label_content items) k (label_content label) (same ∙ sym (ap (λ (m : LabelContent). m.name) (label_there items k found within is))) are)

pub marked_view : (items : List Label) (labels : List LabelContent) (k : ℕ) (found : Label) → map label_content items ≡ labels → k < length items → found ≡ get_or items k found → map label_content (set items k (record { name = found.name; line = found.line; is_marked = true })) ≡ labels_with_marked_label labels k
marked_view items labels k found view within is =
    map-set label_content items k _
    ∙ (ap (λ (m : LabelContent). set (map label_content items) k (record m { is_marked = true })) (sym (label_there items k found within is))
    ∙ ap (λ (l : List LabelContent). labels_with_marked_label l k) view)

-- ---- names that are no place's

pub placed_all : (now : ParseState) (items : List Label) (labels : List LabelContent) → items ≡ [] → refuse_unplaced_label now (map label_content items) ≡ refuse_unplaced_label now labels → refuse_unplaced_label now labels ≡ Ok now
unfolding refuse_unplaced_label
placed_all now items labels none e = sym e ∙ ap (λ (l : List Label). refuse_unplaced_label now (map label_content l)) none

one_left : (now : ParseState) (items : List Label) (k : ℕ) (d : Label) → k < length items → refuse_unplaced_label now (map label_content (drop k items)) ≡ refuse_unplaced_label now (map label_content (get_or items k d ∷ drop (k + 1) items))
one_left now items k d within =
    let one : suc k ≡ k + 1 = omega arith in
    ap (λ (l : List Label). refuse_unplaced_label now (map label_content l)) (drop-cons items k d within ∙ ap (λ (j : ℕ). get_or items k d ∷ drop j items) one)

abbrev is_unplaced : Label → Bool
is_unplaced label = has_bytes label.name.now && not label.is_marked

pub placed_more : (now : ParseState) (items : List Label) (labels : List LabelContent) (k : ℕ) (d : Label) → k < length items → is_unplaced (get_or items k d) ≡ false → refuse_unplaced_label now (map label_content (drop k items)) ≡ refuse_unplaced_label now labels → refuse_unplaced_label now (map label_content (drop (k + 1) items)) ≡ refuse_unplaced_label now labels
unfolding refuse_unplaced_label
placed_more now items labels k d within placed e =
    sym (cond-false (is_unplaced (get_or items k d)) _ _ placed) ∙ (sym (one_left now items k d within) ∙ e)

pub placed_not : (now : ParseState) (items : List Label) (labels : List LabelContent) (k : ℕ) (d : Label) → k < length items → is_unplaced (get_or items k d) ≡ true → refuse_unplaced_label now (map label_content (drop k items)) ≡ refuse_unplaced_label now labels → refuse_unplaced_label now labels ≡ Err (record { line = (get_or items k d).line; wrong = UnknownWord (get_or items k d).name.now })
unfolding refuse_unplaced_label
placed_not now items labels k d within unplaced_label_refusals same =
    sym same ∙ (one_left now items k d within ∙ cond-true (is_unplaced (get_or items k d)) _ _ unplaced_label_refusals)
