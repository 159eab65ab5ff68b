-- The faults of nodes, one node after another.
use Rattle.std.proofs.Common.{◌≡◌, ◌∙◌, ℕ, ◌+◌, ◌<◌, ◌≤◌, Bool, true, false, true≢false, List, [], ◌∷◌, ◌++◌, length, get_or, take, drop, Option, Some, None, arith, refl, sym, ap, ap₂, subst, append_assoc, append-nil, drop-drop, zero, suc, inl, inr}
use Rattle.std.proofs.lemmas.List.{length-map, length-take-le, drop_all, map-append}
use Rattle.std.proofs.lemmas.Bool.{and_parts, cases_Bool, cond-true, cond-false}
use Rattle.std.specs.Prelude.{if◌then◌else◌, slice_index_or, slice_set}
use Rattle.ga_parser.specs.declared.fault.SourceFault.{SourceFault}
use Rattle.ga_parser.specs.declared.fault.SourceFaultCause.TheVariants.{NoNodeBegun, NoSuchNode, NodeTwice, MissingNameOrValue}
use Rattle.ga_parser.specs.declared.scan.Token.{Token}
use Rattle.ga_parser.specs.Saying.{TokenContent, token_content, token_contents, is_word_token}
use Rattle.ga_parser.specs.Plain.{is_node_keyword}
use Rattle.ga_source.specs.Programs.{body_tokens}
use Rattle.ga_parser.specs.Recovery.{AreRecoveredRequests}
use Rattle.ga_parser.specs.Requests.{refusal_of_source_fault}
use Rattle.ga_parser.specs.Asking.{Refusal}
use Rattle.ga_parser.specs.declared.item.NodeRequests.{NodeRequests}
use Rattle.ga_parser.specs.declared.labels.Label.{Label}
use Rattle.ga_source.specs.Recovery.{is_node_token, node_of_token, misplaced_word_fault, words_from_next_node, no_nodes_begun, register_refusals, AreFaultsOfRequests, AreFaultsOfNode, AreFaultsOfNodes}
use Rattle.ga_source.specs.Recovery.AreFaultsOfRequests.{packed, unpacked}
use Rattle.ga_source.specs.Recovery.AreFaultsOfNodes.{no_words, faulty, not_begun, unnamed, misnamed, again, begins}
use Rattle.ga_source.specs.inner.{Adds, IsAnyFaultList, AreFaultsOfRefusals, head_of, words_left_if_no_node_begins, SkipsToNextNode, BeginsNewNode, AddsFaultsBeforeRest}

-- ---- the words with which a node begins

head_by : (b : Bool) (first name : TokenContent) (words : List TokenContent) (P : List TokenContent → Type 0) → b ≡ true → P (drop (if b then 2 else 1) (first ∷ name ∷ words)) → P words
head_by true first name words P is held = held
head_by false first name words P is held = absurd (true≢false (sym is))

other_by : (b : Bool) (first name : TokenContent) (words : List TokenContent) (P : List TokenContent → Type 0) → b ≡ false → P (drop (if b then 2 else 1) (first ∷ name ∷ words)) → P (name ∷ words)
other_by false first name words P is held = held
other_by true first name words P is held = absurd (true≢false is)

-- the words that are left after a word, and after a fault
whole_left : (begun : List Bool) (first : TokenContent) (words : List TokenContent) (rest : List SourceFault) → is_word_token first ≡ true → AreFaultsOfNodes begun (words_left_if_no_node_begins (first ∷ words)) rest
    → AreFaultsOfNodes begun (words_from_next_node (drop (head_of (first ∷ words)) (first ∷ words))) rest
whole_left begun first words rest is left = subst (λ (l : List TokenContent). AreFaultsOfNodes begun l rest) (cond-true (is_word_token first) _ _ is) left

begin_whole : (first : TokenContent) → is_node_token first ≡ true → is_word_token first ≡ true
begin_whole first node = (and_parts (is_word_token first) (is_node_keyword first.text) node).0

faulty_first : (begun : List Bool) (first : TokenContent) (words : List TokenContent) → is_word_token first ≡ false → SkipsToNextNode begun (first ∷ words) (misplaced_word_fault first NoNodeBegun)
faulty_first begun first words false_is = λ rest left. faulty first false_is (subst (λ (l : List TokenContent). AreFaultsOfNodes begun l rest) (cond-false (is_word_token first) _ _ false_is) left)

pub no_begin : (begun : List Bool) (words : List Token) (d : Token) → 0 < length words → is_node_token (token_content (get_or words 0 d)) ≡ false → SkipsToNextNode begun (token_contents words) (misplaced_word_fault (token_content (get_or words 0 d)) NoNodeBegun)
no_begin begun [] d some other = absurd (omega arith)
no_begin begun (first ∷ []) d some other = elim (cases_Bool (is_word_token (token_content first))) [
  | inl is ↦ λ rest left. not_begun (token_content first) is other (whole_left begun (token_content first) [] rest is left)
  | inr false_is ↦ faulty_first begun (token_content first) [] false_is
]
no_begin begun (first ∷ name ∷ words) d some other = elim (cases_Bool (is_word_token (token_content first))) [
  | inl is ↦ λ rest left.
      not_begun (token_content first) is other
      (other_by (is_node_token (token_content first)) (token_content first) (token_content name) (token_contents words) (λ (l : List TokenContent). AreFaultsOfNodes begun (words_from_next_node l) rest) other
      (whole_left begun (token_content first) (token_contents (name ∷ words)) rest is left))
  | inr false_is ↦ faulty_first begun (token_content first) (token_contents (name ∷ words)) false_is
]

pub no_name : (begun : List Bool) (words : List Token) (d : Token) → 0 < length words → length words < 2 → is_node_token (token_content (get_or words 0 d)) ≡ true → SkipsToNextNode begun (token_contents words) (misplaced_word_fault (token_content (get_or words 0 d)) MissingNameOrValue)
unfolding body_tokens
no_name begun [] d some few node = absurd (omega arith)
no_name begun (first ∷ []) d some few node = λ rest left. unnamed (token_content first) node (whole_left begun (token_content first) [] rest (begin_whole (token_content first) node) left)
no_name begun (first ∷ name ∷ words) d some few node = absurd (omega arith)

pub bad_name : (begun : List Bool) (words : List Token) (d e : Token) → 2 ≤ length words → is_node_token (token_content (get_or words 0 d)) ≡ true → node_of_token (token_content (get_or words 1 e)) ≡ None → SkipsToNextNode begun (token_contents words) (misplaced_word_fault (token_content (get_or words 1 e)) NoSuchNode)
bad_name begun [] d e many node none = absurd (omega arith)
bad_name begun (first ∷ []) d e many node none = absurd (omega arith)
bad_name begun (first ∷ name ∷ words) d e many node none = λ rest left.
    misnamed (token_content first) (token_content name) node none
    (head_by (is_node_token (token_content first)) (token_content first) (token_content name) (token_contents words) (λ (l : List TokenContent). AreFaultsOfNodes begun (words_from_next_node l) rest) node
    (whole_left begun (token_content first) (token_contents (name ∷ words)) rest (begin_whole (token_content first) node) left))

pub begun_again : (begun : List Bool) (words : List Token) (d e : Token) (n : ℕ) → 2 ≤ length words → is_node_token (token_content (get_or words 0 d)) ≡ true → node_of_token (token_content (get_or words 1 e)) ≡ Some n → slice_index_or begun n false ≡ true
    → SkipsToNextNode begun (token_contents words) (misplaced_word_fault (token_content (get_or words 1 e)) NodeTwice)
begun_again begun [] d e n many node named before = absurd (omega arith)
begun_again begun (first ∷ []) d e n many node named before = absurd (omega arith)
begun_again begun (first ∷ name ∷ words) d e n many node named before = λ rest left.
    again (token_content first) (token_content name) n node named before
    (head_by (is_node_token (token_content first)) (token_content first) (token_content name) (token_contents words) (λ (l : List TokenContent). AreFaultsOfNodes begun (words_from_next_node l) rest) node
    (whole_left begun (token_content first) (token_contents (name ∷ words)) rest (begin_whole (token_content first) node) left))

pub is_begun : (begun : List Bool) (words : List Token) (d e : Token) (n : ℕ) → 2 ≤ length words → is_node_token (token_content (get_or words 0 d)) ≡ true → node_of_token (token_content (get_or words 1 e)) ≡ Some n → slice_index_or begun n false ≡ false
    → BeginsNewNode begun (token_contents words) n
is_begun begun [] d e n many node named fresh = absurd (omega arith)
is_begun begun (first ∷ []) d e n many node named fresh = absurd (omega arith)
is_begun begun (first ∷ name ∷ words) d e n many node named fresh = (node, named, fresh)

pub two_begun : (begun : List Bool) (words : List Token) (n : ℕ) → BeginsNewNode begun (token_contents words) n → 2 ≤ length words
two_begun begun [] n is = absurd is
two_begun begun (first ∷ []) n is = absurd is
two_begun begun (first ∷ name ∷ words) n is = omega arith

-- ---- how many words these are

choice : Bool → ℕ
choice b = if b then 2 else 1

two_by : (b : Bool) → b ≡ true → 2 ≡ choice b
unfolding choice
two_by true is = refl
two_by false is = absurd (true≢false (sym is))

one_by : (b : Bool) → b ≡ false → 1 ≡ choice b
unfolding choice
one_by false is = refl
one_by true is = absurd (true≢false is)

pub head_two : (words : List Token) (d : Token) → 2 ≤ length words → is_node_token (token_content (get_or words 0 d)) ≡ true → 2 ≡ head_of (token_contents words)
unfolding choice
head_two [] d many node = absurd (omega arith)
head_two (first ∷ []) d many node = absurd (omega arith)
head_two (first ∷ name ∷ words) d many node = two_by (is_node_token (token_content first)) node

pub head_one : (words : List Token) (d : Token) → 2 ≤ length words → is_node_token (token_content (get_or words 0 d)) ≡ false → 1 ≡ head_of (token_contents words)
unfolding choice
head_one [] d many node = absurd (omega arith)
head_one (first ∷ []) d many node = absurd (omega arith)
head_one (first ∷ name ∷ words) d many node = one_by (is_node_token (token_content first)) node

pub head_last : (words : List Token) → length words < 2 → 1 ≡ head_of (token_contents words)
head_last [] few = refl
head_last (first ∷ []) few = refl
head_last (first ∷ name ∷ words) few = absurd (omega arith)

-- ---- the words after some

past : (words : List Token) (k : ℕ) → token_contents (drop k words) ≡ drop k (token_contents words)
past words zero = refl
past [] (suc k) = refl
past (word ∷ words) (suc k) = past words k

-- the words from the next `node` on are those after the words up to it
pub left_from : (words rest : List Token) (head count all : ℕ) → all ≡ count + head → rest ≡ drop head words → count ≤ length rest → token_contents (take count rest) ≡ body_tokens (token_contents rest)
    → token_contents (drop all words) ≡ words_from_next_node (drop head (token_contents words))
left_from words rest head count all sum is within said =
    let same : token_contents rest ≡ drop head (token_contents words) = ap token_contents is ∙ past words head in
    let size : length (body_tokens (token_contents rest)) ≡ count = sym (ap length said) ∙ (length-map (take count rest) token_content ∙ length-take-le count rest within) in
    let after : drop count (drop head words) ≡ drop all words = drop-drop count head words ∙ ap (λ (n : ℕ). drop n words) (omega arith) in
    ap token_contents (sym after) ∙ (past (drop head words) count
    ∙ (ap (drop count) (past words head)
    ∙ (ap (λ (n : ℕ). drop n (drop head (token_contents words))) (sym size)
    ∙ ap (λ (l : List TokenContent). drop (length (body_tokens l)) (drop head (token_contents words))) same)))

pub left_faulty : (words : List Token) (d : Token) → 0 < length words → is_word_token (token_content (get_or words 0 d)) ≡ false → token_contents (drop 1 words) ≡ words_left_if_no_node_begins (token_contents words)
left_faulty [] d some false_is = absurd (omega arith)
left_faulty (first ∷ words) d some false_is = sym (cond-false (is_word_token (token_content first)) _ _ false_is)

pub left_whole : (words : List Token) (d : Token) (left : List TokenContent) → 0 < length words → is_word_token (token_content (get_or words 0 d)) ≡ true
    → left ≡ words_from_next_node (drop (head_of (token_contents words)) (token_contents words)) → left ≡ words_left_if_no_node_begins (token_contents words)
left_whole [] d left some is e = absurd (omega arith)
left_whole (first ∷ words) d left some is e = e ∙ sym (cond-true (is_word_token (token_content first)) _ _ is)

-- ---- faults that are added

pub refused_none : (old : List SourceFault) (refusals : List Refusal) → refusals ≡ [] → Adds (AreFaultsOfRefusals refusals) old old
refused_none old refusals none = record { own = []; all = sym (append-nil old); are = sym none }

pub refused_one : (old new : List SourceFault) (fault : SourceFault) (refusals : List Refusal) → refusals ≡ refusal_of_source_fault fault ∷ [] → new ≡ old ++ fault ∷ [] → Adds (AreFaultsOfRefusals refusals) old new
refused_one old new fault refusals is pushed = record { own = fault ∷ []; all = pushed; are = sym is }

pub refused_three : (a b c d : List SourceFault) (p q r : List Refusal) → Adds (AreFaultsOfRefusals p) a b → Adds (AreFaultsOfRefusals q) b c → Adds (AreFaultsOfRefusals r) c d → Adds (AreFaultsOfRefusals (p ++ q ++ r)) a d
refused_three a b c d p q r first second third = record {
  own = first.own ++ second.own ++ third.own;
  all = third.all ∙ (ap (λ (l : List SourceFault). l ++ third.own) (second.all ∙ (ap (λ (l : List SourceFault). l ++ second.own) first.all ∙ append_assoc a first.own second.own)) ∙ append_assoc a (first.own ++ second.own) third.own);
  are = map-append refusal_of_source_fault (first.own ++ second.own) third.own ∙ (ap₂ (λ (x y : List Refusal). x ++ y) (map-append refusal_of_source_fault first.own second.own ∙ ap₂ (λ (x y : List Refusal). x ++ y) first.are second.are) third.are);
}

pub any_none : (old : List SourceFault) → Adds IsAnyFaultList old old
any_none old = record { own = []; all = sym (append-nil old); are = tt }

pub any_more : (old now new : List SourceFault) (fault : SourceFault) → Adds IsAnyFaultList old now → new ≡ now ++ fault ∷ [] → Adds IsAnyFaultList old new
any_more old now new fault before pushed = record {
  own = before.own ++ fault ∷ [];
  all = pushed ∙ (ap (λ (l : List SourceFault). l ++ fault ∷ []) before.all ∙ append_assoc old before.own (fault ∷ []));
  are = tt;
}

pub any_both : (old now new : List SourceFault) → Adds IsAnyFaultList old now → Adds IsAnyFaultList now new → Adds IsAnyFaultList old new
any_both old now new before after = record {
  own = before.own ++ after.own;
  all = after.all ∙ (ap (λ (l : List SourceFault). l ++ after.own) before.all ∙ append_assoc old before.own after.own);
  are = tt;
}

-- requests that aren't packed, and those that are
pub one_unpacked : (requests : NodeRequests) (old new : List SourceFault) (fault : SourceFault) → new ≡ old ++ fault ∷ [] → Adds (AreFaultsOfRequests requests) old new
one_unpacked requests old new fault pushed = record { own = fault ∷ []; all = pushed; are = unpacked fault }

pub all_packed : (requests : NodeRequests) (labels : List (Option ℕ)) (names : List Label) (old now new : List SourceFault) → names ≡ requests.names.items → Adds (AreFaultsOfRefusals (register_refusals labels names requests.registers)) old now → Adds IsAnyFaultList now new
    → Adds (AreFaultsOfRequests requests) old new
all_packed requests labels names old now new is registers cells = record {
  own = registers.own ++ cells.own;
  all = cells.all ∙ (ap (λ (l : List SourceFault). l ++ cells.own) registers.all ∙ append_assoc old registers.own cells.own);
  are = packed labels registers.own cells.own (registers.are ∙ ap (λ (l : List Label). register_refusals labels l requests.registers) is);
}

-- the faults of a node
pub all_of_node : (line : ℕ) (words : List TokenContent) (requests : NodeRequests) (found of_words old now new : List SourceFault) → found ≡ of_words → AreRecoveredRequests line words requests of_words → now ≡ old ++ found → Adds (AreFaultsOfRequests requests) now new
    → Adds (AreFaultsOfNode line words) old new
all_of_node line words requests found of_words old now new is left extended asked = record {
  own = of_words ++ asked.own;
  all = asked.all ∙ (ap (λ (l : List SourceFault). l ++ asked.own) (extended ∙ ap (λ (l : List SourceFault). old ++ l) is) ∙ append_assoc old of_words asked.own);
  are = record { requests = requests; of_words = of_words; of_requests = asked.own; left = left; asked = asked.are; all = refl };
}

-- ---- one node more

pub one_begun : (begun after : List Bool) (words behind body : List Token) (name d : Token) (n count all : ℕ) (own rest : List SourceFault) → BeginsNewNode begun (token_contents words) n → name ≡ get_or words 1 d → behind ≡ drop 2 words → body ≡ take count behind
    → all ≡ count + 2 → count ≤ length behind → token_contents (take count behind) ≡ body_tokens (token_contents behind) → after ≡ slice_set begun n true → AreFaultsOfNode name.line (token_contents body) own
    → AreFaultsOfNodes after (token_contents (drop all words)) rest → AreFaultsOfNodes begun (token_contents words) (own ++ rest)
one_begun begun after [] behind body name d n count all own rest is is_name is_behind is_body sum within said marked faults left = absurd is
one_begun begun after (first ∷ []) behind body name d n count all own rest is is_name is_behind is_body sum within said marked faults left = absurd is
one_begun begun after (first ∷ second ∷ words) behind body name d n count all own rest is is_name is_behind is_body sum within said marked faults left =
    let line : name.line ≡ second.line = ap (λ (token : Token). token.line) is_name in
    let words_said : token_contents body ≡ body_tokens (token_contents words) = ap token_contents is_body ∙ (said ∙ ap (λ (l : List Token). body_tokens (token_contents l)) is_behind) in
    let own_faults : AreFaultsOfNode second.line (body_tokens (token_contents words)) own =
    subst (λ (l : List TokenContent). AreFaultsOfNode second.line l own) words_said (subst (λ (k : ℕ). AreFaultsOfNode k (token_contents body) own) line faults) in
    let here = left_from (first ∷ second ∷ words) behind 2 count all sum is_behind within said in
    let rest_faults : AreFaultsOfNodes (slice_set begun n true) (words_from_next_node (token_contents words)) rest =
    subst (λ (l : List TokenContent). AreFaultsOfNodes (slice_set begun n true) l rest) here (subst (λ (b : List Bool). AreFaultsOfNodes b (token_contents (drop all (first ∷ second ∷ words))) rest) marked left) in
    begins (token_content first) (token_content second) n is.0 is.1 is.2 own_faults rest_faults

-- no node begins
pub one_skipped : (begun : List Bool) (words : List Token) (count : ℕ) (fault : SourceFault) (old new : List SourceFault) → SkipsToNextNode begun (token_contents words) fault → new ≡ old ++ fault ∷ []
    → token_contents (drop count words) ≡ words_left_if_no_node_begins (token_contents words) → AddsFaultsBeforeRest begun (token_contents words) begun (token_contents (drop count words)) old new
one_skipped begun words count fault old new skips pushed left =
    record { own = fault ∷ []; all = pushed; are = λ rest held. skips rest (subst (λ (l : List TokenContent). AreFaultsOfNodes begun l rest) left held) }

-- ---- all nodes

-- what the faults of the words that are left are still to be added to
pub record AreFoundSoFar (words : List Token) (begun : List Bool) (start : ℕ) (faults : List SourceFault) : Type 0 where
  pub found : (rest : List SourceFault) → AreFaultsOfNodes begun (token_contents (drop start words)) rest → AreFaultsOfNodes no_nodes_begun (token_contents words) (faults ++ rest)

pub none_found : (words : List Token) (begun : List Bool) (faults : List SourceFault) → begun ≡ no_nodes_begun → faults ≡ [] → AreFoundSoFar words begun 0 faults
none_found words begun faults is none = record {
  found = λ rest held. subst (λ (l : List SourceFault). AreFaultsOfNodes no_nodes_begun (token_contents words) (l ++ rest)) (sym none) (subst (λ (b : List Bool). AreFaultsOfNodes b (token_contents words) rest) is held);
}

pub more_found : (words part : List Token) (begun after : List Bool) (start count next : ℕ) (old new : List SourceFault) → part ≡ drop start words → next ≡ start + count
    → AddsFaultsBeforeRest begun (token_contents part) after (token_contents (drop count part)) old new → AreFoundSoFar words begun start old → AreFoundSoFar words after next new
more_found words part begun after start count next old new is sum recovers before = record {
  found = λ rest held.
      let there : drop count part ≡ drop next words = ap (drop count) is ∙ (drop-drop count start words ∙ ap (λ (n : ℕ). drop n words) (omega arith)) in
      let here = recovers.are rest (subst (λ (l : List Token). AreFaultsOfNodes after (token_contents l) rest) (sym there) held) in
      let from_start = subst (λ (l : List Token). AreFaultsOfNodes begun (token_contents l) (recovers.own ++ rest)) is here in
      subst (λ (l : List SourceFault). AreFaultsOfNodes no_nodes_begun (token_contents words) l) (sym (append_assoc old recovers.own rest) ∙ ap (λ (l : List SourceFault). l ++ rest) (sym recovers.all)) (before.found (recovers.own ++ rest) from_start);
}

pub all_found : (words : List Token) (begun : List Bool) (start : ℕ) (faults : List SourceFault) → length words ≤ start → AreFoundSoFar words begun start faults → AreFaultsOfNodes no_nodes_begun (token_contents words) faults
all_found words begun start faults end before =
    let none : token_contents (drop start words) ≡ [] = ap token_contents (drop_all start words end) in
    let left : AreFaultsOfNodes begun (token_contents (drop start words)) [] = subst (λ (l : List TokenContent). AreFaultsOfNodes begun l []) (sym none) no_words in
    subst (AreFaultsOfNodes no_nodes_begun (token_contents words)) (append-nil faults) (before.found [] left)
