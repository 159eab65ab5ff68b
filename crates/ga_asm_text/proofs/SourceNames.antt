-- The nodes that a source names which is written.
use Rattle.std.specs.Prelude.{◌==◌, if◌then◌else◌, slice_index, slice_index_or}
use Rattle.std.specs.List.{list_any, All}
use Rattle.std.proofs.Common.{◌≡◌, ◌∙◌, ℕ, Bool, List, [], refl, ap, sym, inl, inr, ◌≢◌, zero, suc, ◌+◌, ◌<◌, ◌≤◌, ◌⊎◌, ◌∷◌, ◌++◌, length, Some, arith, subst}
use Rattle.std.proofs.lemmas.Bool.{cases_Bool, eqb-true}
use Rattle.std.proofs.lemmas.Option.{same_Some}
use Rattle.ga_node.specs.Record.{NodeState, node_at_load_defaults}
use Rattle.ga_grid.specs.Grid.{initial_p_of_node, default_chip, decimal_name_of_node}
use Rattle.ga_parser.specs.Plain.{no_plain_requests, plain_requests_of_words, body_words, body_word_lists, named_node_number}
use Rattle.ga_parser.specs.Words.{source_word_texts}
use Rattle.ga_source.specs.Programs.{is_item_request}
use Rattle.ga_source.specs.Made.{node_with_requests, number_or_previous, node_with_plain_requests, IsSameNodeCellByCell, HasNodeOfPlainWords, IsPlainNodeBody, node_number_of_body_at_index}
use Rattle.ga_asm_text.specs.Source.{HasSameMemoriesAndRegisters, IsSourceOfChip}
use Rattle.ga_asm_text.specs.inner.{default_register_p, has_nonzero_memory, node_source_words, HasMemoriesAndRegistersInRange, SourceWordText, TextSaysWords, source_words}
use Rattle.ga_asm_text.proofs.PlainWords.{given, node_requests, plain_by, node_asks, nothing_asks}
use Rattle.ga_asm_text.proofs.PlainCells.{memories_written, node_items}
use Rattle.std.proofs.lemmas.List.Elements.{All-nil, All-cons, All-head, All-tail, All-get_or}
use Rattle.ga_grid.specs.Chip.{default_node, node_at}
use Rattle.ga_grid.proofs.Chips.{node_at-default_chip}
use Rattle.ga_text.specs.Lines.{Text}
use Rattle.ga_text.specs.Digits.{three_decimal_digits}
use Rattle.ga_asm_text.proofs.SourceWords.{says_whole, says_words, all_single, starts, body_of, bodies_of, all_bodies, name_back}
use Rattle.ga_asm_text.proofs.FreeCells.{node_free}

-- ---- the nodes that the words make which are written of them

number_back : (value usual : ℕ) → number_or_previous (given value usual) usual ≡ value
number_back value usual = elim (cases_Bool (value == usual)) [
  | inl same ↦ rw same (sym (eqb-true value usual same))
  | inr differs ↦ rw differs refl
]

-- P is as usual where it isn't given
p_back : (n : ℕ) (node : NodeState) → number_or_previous (plain_by n node).p (if list_any is_item_request (node_requests node) then 0 else initial_p_of_node n) ≡ node.p
p_back n node =
    ap (λ (has : Bool). number_or_previous (plain_by n node).p (default_register_p n has)) (node_items node) ∙ number_back node.p (default_register_p n (has_nonzero_memory node))

-- the memories, A, B and P are the same
abbrev IsAlike : NodeState → NodeState → Type 0
IsAlike made node = (made.ram ≡ node.ram) × (made.rom ≡ node.rom) × (made.a ≡ node.a) × (made.b ≡ node.b) × (made.p ≡ node.p)

alike : (n : ℕ) (node : NodeState) → HasMemoriesAndRegistersInRange node → IsAlike (node_with_plain_requests (node_at_load_defaults (initial_p_of_node n)) (plain_by n node)) node
unfolding node_at_load_defaults
alike n node fit =
    let cells = memories_written (node_at_load_defaults (initial_p_of_node n)) node fit refl refl in (
      ap (λ (made : NodeState). made.ram) cells,
      ap (λ (made : NodeState). made.rom) cells,
      number_back node.a 0,
      number_back node.b 0x15d,
      p_back n node,
    )

-- what is made cell by cell
pub named_loaded : (n : ℕ) (node made : NodeState) → HasMemoriesAndRegistersInRange node → IsSameNodeCellByCell (node_with_plain_requests (node_at_load_defaults (initial_p_of_node n)) (plain_by n node)) made → HasSameMemoriesAndRegisters node made
named_loaded n node made fit is =
    let same = alike n node fit in
    record {
      ram = λ k small. is.ram k small ∙ ap (λ (l : List ℕ). slice_index l k) same.0;
      rom = λ k small. is.rom k small ∙ ap (λ (l : List ℕ). slice_index l k) same.1;
      a = ap (λ (one : NodeState). one.a) is.rest ∙ same.2;
      b = ap (λ (one : NodeState). one.b) is.rest ∙ same.3;
      p = ap (λ (one : NodeState). one.p) is.rest ∙ same.4;
    }

unasked : (node : NodeState) → node_with_plain_requests node no_plain_requests ≡ node
unfolding node_with_requests
unasked node = refl

nothing_by : (n : ℕ) (node : NodeState) → HasMemoriesAndRegistersInRange node → node_source_words n node ≡ [] → plain_by n node ≡ no_plain_requests
nothing_by n node fit none = same_Some (plain_by n node) no_plain_requests (sym (node_asks n node fit) ∙ (ap plain_requests_of_words none ∙ nothing_asks no_plain_requests))

-- a node that isn't named is as at load
pub unnamed_loaded : (n : ℕ) (node made : NodeState) → HasMemoriesAndRegistersInRange node → node_source_words n node ≡ [] → made ≡ node_at_load_defaults (initial_p_of_node n) → HasSameMemoriesAndRegisters node made
unnamed_loaded n node made fit none is =
    let fresh = node_at_load_defaults (initial_p_of_node n) in
    let same = alike n node fit in
    let e : made ≡ node_with_plain_requests fresh (plain_by n node) = is ∙ (sym (unasked fresh) ∙ ap (node_with_plain_requests fresh) (sym (nothing_by n node fit none))) in
    record {
      ram = λ k small. ap (λ (one : NodeState). slice_index one.ram k) e ∙ ap (λ (l : List ℕ). slice_index l k) same.0;
      rom = λ k small. ap (λ (one : NodeState). slice_index one.rom k) e ∙ ap (λ (l : List ℕ). slice_index l k) same.1;
      a = ap (λ (one : NodeState). one.a) e ∙ same.2;
      b = ap (λ (one : NodeState). one.b) e ∙ same.3;
      p = ap (λ (one : NodeState). one.p) e ∙ same.4;
    }

-- the k-th of these names a node, from a number on
abbrev IsNamed : ℕ → List (List SourceWordText) → ℕ → Type 0
IsNamed n bodies k = (m : ℕ) × (n ≤ m) × (node_number_of_body_at_index bodies k ≡ Some m)

AreNamed : ℕ → List (List SourceWordText) → Type 0
AreNamed n bodies = (k : ℕ) → k < length bodies → IsNamed n bodies k

AreApart : List (List SourceWordText) → Type 0
AreApart bodies = (j k : ℕ) → j < k → k < length bodies → node_number_of_body_at_index bodies j ≢ node_number_of_body_at_index bodies k

same_some : (n m : ℕ) → Some n ≡ Some m → n ≡ m
same_some n m e = cc

named_more : (n : ℕ) (words : List SourceWordText) (rest : List (List SourceWordText)) → n < 144 → AreNamed (n + 1) rest → AreNamed n (body_of n words ++ rest)
unfolding AreNamed
named_more n [] rest within named = λ k below. let a = named k below in (a.0, omega (arith, a.1), a.2)
named_more n (word ∷ words) rest within named = at
  where
    at : (k : ℕ) → k < suc (length rest) → IsNamed n ((three_decimal_digits (decimal_name_of_node n) ∷ word ∷ words) ∷ rest) k
    at zero below = (n, omega arith, name_back n within)
    at (suc k) below = let a = named k (omega arith) in (a.0, omega (arith, a.1), a.2)

apart_more : (n : ℕ) (words : List SourceWordText) (rest : List (List SourceWordText)) → n < 144 → AreNamed (n + 1) rest → AreApart rest → AreApart (body_of n words ++ rest)
unfolding AreNamed AreApart
apart_more n [] rest within named apart = apart
apart_more n (word ∷ words) rest within named apart = at
  where
    at : (j k : ℕ) → j < k → k < suc (length rest) → node_number_of_body_at_index ((three_decimal_digits (decimal_name_of_node n) ∷ word ∷ words) ∷ rest) j ≢ node_number_of_body_at_index ((three_decimal_digits (decimal_name_of_node n) ∷ word ∷ words) ∷ rest) k
    at j zero less below = absurd (omega arith)
    at zero (suc k) less below = λ same. let a = named k (omega arith) in let e = same_some n a.0 (sym (name_back n within) ∙ (same ∙ a.2)) in omega (arith, a.1, e)
    at (suc j) (suc k) less below = apart j k (omega arith) (omega arith)

all_named : (n : ℕ) (nodes : List NodeState) → n + length nodes ≤ 144 → AreNamed n (bodies_of n nodes)
unfolding bodies_of AreNamed
all_named n [] within = λ k below. absurd (omega arith)
all_named n (node ∷ nodes) within = named_more n (node_source_words n node) (bodies_of (n + 1) nodes) (omega arith) (all_named (n + 1) nodes (omega arith))

all_apart : (n : ℕ) (nodes : List NodeState) → n + length nodes ≤ 144 → AreApart (bodies_of n nodes)
unfolding bodies_of AreApart
all_apart n [] within = λ j k less below. absurd (omega arith)
all_apart n (node ∷ nodes) within =
    apart_more n (node_source_words n node) (bodies_of (n + 1) nodes) (omega arith) (all_named (n + 1) nodes (omega arith)) (all_apart (n + 1) nodes (omega arith))

-- ---- what each node asks for

sound_body : (n : ℕ) (node : NodeState) → n < 144 → HasMemoriesAndRegistersInRange node → IsPlainNodeBody (three_decimal_digits (decimal_name_of_node n) ∷ node_source_words n node)
sound_body n node within fit = record {
  number = n;
  plain = plain_by n node;
  node = name_back n within;
  words_plain = node_asks n node fit;
  free = node_free node fit;
}

-- if a node is named, its body is there
some_body : (P : List SourceWordText → Type 0) (n : ℕ) (words : List SourceWordText) (rest : List (List SourceWordText)) → P (three_decimal_digits (decimal_name_of_node n) ∷ words) → All P rest → All P (body_of n words ++ rest)
some_body P n [] rest has all = all
some_body P n (word ∷ words) rest has all = All-cons P (three_decimal_digits (decimal_name_of_node n) ∷ word ∷ words) rest has all

all_sound : (n : ℕ) (nodes : List NodeState) → n + length nodes ≤ 144 → All HasMemoriesAndRegistersInRange nodes → All IsPlainNodeBody (bodies_of n nodes)
unfolding bodies_of
all_sound n [] within fit = All-nil IsPlainNodeBody
all_sound n (node ∷ nodes) within fit =
    some_body IsPlainNodeBody n (node_source_words n node) (bodies_of (n + 1) nodes) (sound_body n node (omega arith) (All-head HasMemoriesAndRegistersInRange node nodes fit))
    (all_sound (n + 1) nodes (omega arith) (All-tail HasMemoriesAndRegistersInRange node nodes fit))

-- ---- where a node is named, and where it isn't

-- a node isn't named, or this holds of its body
abbrev NoneOr : (List SourceWordText → Type 0) → ℕ → NodeState → Type 0
NoneOr P n node = (node_source_words n node ≡ []) ⊎ P (three_decimal_digits (decimal_name_of_node n) ∷ node_source_words n node)

body_there : (P : List SourceWordText → Type 0) (n : ℕ) (words : List SourceWordText) (rest : List (List SourceWordText)) → All P (body_of n words ++ rest) → (words ≡ []) ⊎ P (three_decimal_digits (decimal_name_of_node n) ∷ words)
body_there P n [] rest all = inl refl
body_there P n (word ∷ words) rest all = inr (All-head P (three_decimal_digits (decimal_name_of_node n) ∷ word ∷ words) rest all)

bodies_behind : (P : List SourceWordText → Type 0) (n : ℕ) (words : List SourceWordText) (rest : List (List SourceWordText)) → All P (body_of n words ++ rest) → All P rest
bodies_behind P n [] rest all = all
bodies_behind P n (word ∷ words) rest all = All-tail P (three_decimal_digits (decimal_name_of_node n) ∷ word ∷ words) rest all

there : (P : List SourceWordText → Type 0) (n : ℕ) (nodes : List NodeState) (k : ℕ) → k < length nodes → All P (bodies_of n nodes) → NoneOr P (n + k) (node_at nodes k)
unfolding bodies_of
there P n [] k within all = absurd (omega arith)
there P n (node ∷ nodes) zero within all =
    let same : n ≡ n + 0 = omega arith in
    subst (λ (m : ℕ). NoneOr P m node) same (body_there P n (node_source_words n node) (bodies_of (n + 1) nodes) all)
there P n (node ∷ nodes) (suc k) within all =
    let same : n + 1 + k ≡ n + suc k = omega arith in
    subst (λ (m : ℕ). NoneOr P m (node_at nodes k)) same (there P (n + 1) nodes k (omega arith) (bodies_behind P n (node_source_words n node) (bodies_of (n + 1) nodes) all))

-- the words after a `node` name another node
abbrev IsOther : ℕ → List SourceWordText → Type 0
IsOther n words = named_node_number (slice_index_or words 0 []) ≢ Some n

other_body : (n m : ℕ) (words : List SourceWordText) (rest : List (List SourceWordText)) → m < 144 → (m ≡ n → words ≡ []) → All (IsOther n) rest → All (IsOther n) (body_of m words ++ rest)
other_body n m [] rest within none all = all
other_body n m (word ∷ words) rest within none all =
    All-cons (IsOther n) (three_decimal_digits (decimal_name_of_node m) ∷ word ∷ words) rest
    (λ is. let e : word ∷ words ≡ [] = none (same_some m n (sym (name_back m within) ∙ is)) in cc) all

all_other : (n m : ℕ) (nodes : List NodeState) → m + length nodes ≤ 144 → ((k : ℕ) → k < length nodes → m + k ≡ n → node_source_words n (node_at nodes k) ≡ []) → All (IsOther n) (bodies_of m nodes)
unfolding bodies_of
all_other n m [] within none = All-nil (IsOther n)
all_other n m (node ∷ nodes) within none =
    other_body n m (node_source_words m node) (bodies_of (m + 1) nodes) (omega arith)
    (λ same. ap (λ (i : ℕ). node_source_words i node) same ∙ none 0 (omega arith) (omega (arith, same)))
    (all_other n (m + 1) nodes (omega arith) (λ k less same. none (suc k) (omega arith) (omega (arith, same))))

unnamed : (n : ℕ) (chip : List NodeState) → length chip ≡ 144 → node_source_words n (node_at chip n) ≡ [] → All (IsOther n) (bodies_of 0 chip)
unnamed n chip size none =
    all_other n 0 chip (omega (arith, size)) (λ k less same. let e : k ≡ n = omega (arith, same) in ap (λ (i : ℕ). node_source_words n (node_at chip i)) e ∙ none)

-- ---- the chip that the source makes

source_loaded : (chip made : List NodeState) (n : ℕ) → length chip ≡ 144 → n < 144 → All HasMemoriesAndRegistersInRange chip → All (HasNodeOfPlainWords made) (bodies_of 0 chip)
    → (All (IsOther n) (bodies_of 0 chip) → node_at made n ≡ node_at default_chip n) → HasSameMemoriesAndRegisters (node_at chip n) (node_at made n)
source_loaded chip made n size within fit named others =
    let node = node_at chip n in
    let is_fit = All-get_or HasMemoriesAndRegistersInRange chip n default_node (omega (arith, size)) fit in
    let fresh = node_at-default_chip n within in
    let same : 0 + n ≡ n = omega arith in
    let found : NoneOr (HasNodeOfPlainWords made) n node = subst (λ (m : ℕ). NoneOr (HasNodeOfPlainWords made) m node) same (there (HasNodeOfPlainWords made) 0 chip n (omega (arith, size)) named) in
    elim found [
      | inl none ↦ unnamed_loaded n node (node_at made n) is_fit none (others (unnamed n chip size none) ∙ fresh)
      | inr plain ↦ named_loaded n node (node_at made n) is_fit
          (subst (λ (first : NodeState). IsSameNodeCellByCell (node_with_plain_requests first (plain_by n node)) (node_at made n)) fresh (plain n (plain_by n node) (name_back n within) (node_asks n node is_fit)))
    ]

-- no line has a fault, the words begin with `node`, and each names a node of its own and asks for what it has
pub is_source : (chip : List NodeState) (text : Text) → length chip ≡ 144 → All HasMemoriesAndRegistersInRange chip → TextSaysWords text (source_words 0 chip) → IsSourceOfChip chip text
unfolding AreApart
is_source chip text size fit says =
    let single = all_single 0 chip (omega (arith, size)) in
    let words = says_words text (source_words 0 chip) single says in
    let bodies : body_word_lists (source_word_texts text) ≡ bodies_of 0 chip = ap body_word_lists words ∙ all_bodies 0 chip (omega (arith, size)) in
    record {
      sound = record {
        whole = says_whole text (source_words 0 chip) single says;
        begins = ap body_words words ∙ starts 0 chip;
        bodies = subst (All IsPlainNodeBody) (sym bodies) (all_sound 0 chip (omega (arith, size)) fit);
        apart = subst (λ (l : List (List SourceWordText)). (j k : ℕ) → j < k → k < length l → node_number_of_body_at_index l j ≢ node_number_of_body_at_index l k) (sym bodies) (all_apart 0 chip (omega (arith, size)));
      };
      same = λ made is n within.
          source_loaded chip made n size within fit (subst (All (HasNodeOfPlainWords made)) bodies is.named)
          (λ other. is.others n (subst (All (IsOther n)) (sym bodies) other));
    }
