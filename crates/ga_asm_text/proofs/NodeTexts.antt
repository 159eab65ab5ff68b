-- What source says of one node.
use Rattle.std.specs.Prelude.{codes}
use Rattle.std.specs.List.{All}
use Rattle.std.proofs.Common.{◌≡◌, ◌∙◌, ℕ, ◌+◌, ◌^◌, ◌<◌, ◌≤◌, Bool, List, [], ◌∷◌, ◌++◌, length, take, drop, map, refl, arith, ap, sym, subst, append_assoc, length-append}
use Rattle.std.proofs.lemmas.List.{append-nil, take_at, nil_from_length, drop_more, drop_all, take_all}
use Rattle.std.proofs.lemmas.List.Elements.{All-nil, All-more}
use Rattle.ga_node.specs.Record.{NodeState}
use Rattle.ga_grid.specs.Grid.{decimal_name_of_node}
use Rattle.ga_grid.specs.Chip.{node_at, default_node}
use Rattle.ga_text.specs.Lines.{Text}
use Rattle.ga_text.specs.Digits.{three_decimal_digits}
use Rattle.ga_parser.specs.Saying.{TokenContent, parts_ended_by_bytes, tokens_of_lines, source_lines}
use Rattle.ga_asm_text.specs.inner.{SourceWordText, TextSaysWords, AppendsSourceWords, has_nonzero_memory, registers_source_words, memory_source_words, node_source_words, node_source_words_with_name, source_words, HasRegistersInRange, HasMemoriesAndRegistersInRange}
use Rattle.ga_asm_text.proofs.Telling.{says_nothing, says_both}
use Rattle.ga_asm_text.proofs.SourceLines.{nothing_added, both_added}

no_lines : (said : List TokenContent) (line next : ℕ) → tokens_of_lines line (source_lines []) ≡ said ++ tokens_of_lines next (source_lines []) → said ≡ []
unfolding parts_ended_by_bytes tokens_of_lines
no_lines said line next e = sym (append-nil said) ∙ sym e

-- an empty text says nothing
empty_says : (text : Text) (words : List SourceWordText) → text ≡ [] → TextSaysWords text words → words ≡ []
empty_says text words none says =
    let here = subst (λ (t : Text). TextSaysWords t words) none says in
    let a = here.says 1 [] in
    sym a.3 ∙ ap (map (λ (one : TokenContent). one.text)) (no_lines a.0 1 a.1 a.2)

named_some : (n : ℕ) (words : List SourceWordText) → (words ≡ [] → ⊥) → (codes "node" ∷ three_decimal_digits (decimal_name_of_node n) ∷ []) ++ words ≡ node_source_words_with_name n words
named_some n [] some = absurd (some refl)
named_some n (word ∷ words) some = refl

longer : (between now : Text) (words : List SourceWordText) (added : AppendsSourceWords between now words) → length now ≡ length between + length added.0
longer between now words added = ap length added.1 ∙ length-append between added.0

-- where nothing was said, all is taken back
pub program_none : (n : ℕ) (old between now new : Text) (first words : List SourceWordText) → length now ≡ length between → new ≡ take (length old) now → AppendsSourceWords old between first → AppendsSourceWords between now words → AppendsSourceWords old new (node_source_words_with_name n words)
program_none n old between now new first words same back a b =
    let none : b.0 ≡ [] = nil_from_length b.0 (omega (arith, same, longer between now words b)) in
    let all : now ≡ old ++ a.0 = b.1 ∙ (ap (λ (t : Text). between ++ t) none ∙ (append-nil between ∙ a.1)) in
    let e : new ≡ old = back ∙ (ap (take (length old)) all ∙ take_at old a.0 (length old) refl) in
    subst (λ (t : Text). AppendsSourceWords old t (node_source_words_with_name n words)) (sym e) (nothing_added old (node_source_words_with_name n words) (ap (node_source_words_with_name n) (empty_says b.0 words none b.2)))

pub program_some : (n : ℕ) (old between now : Text) (words : List SourceWordText) → (length now ≡ length between → ⊥) → AppendsSourceWords old between (codes "node" ∷ three_decimal_digits (decimal_name_of_node n) ∷ []) → AppendsSourceWords between now words → AppendsSourceWords old now (node_source_words_with_name n words)
program_some n old between now words differs a b =
    subst (λ (l : List SourceWordText). AppendsSourceWords old now l)
    (named_some n words (λ none. differs (let e : length b.0 ≡ 0 = ap length (b.2.nothing none) in omega (arith, e, longer between now words b))))
    (both_added old between now (codes "node" ∷ three_decimal_digits (decimal_name_of_node n) ∷ []) words a b)

-- the registers and the cells
pub node_added : (n : ℕ) (node : NodeState) (has : Bool) (old between now : Text) → has ≡ has_nonzero_memory node → AppendsSourceWords old between (registers_source_words n node has) → AppendsSourceWords between now (memory_source_words node) → AppendsSourceWords old now (node_source_words n node)
node_added n node has old between now is a b =
    both_added old between now (registers_source_words n node (has_nonzero_memory node)) (memory_source_words node) (subst (λ (h : Bool). AppendsSourceWords old between (registers_source_words n node h)) is a) b

-- the registers are in range as they were read
pub registers_fit : (node : NodeState) (p a b : ℕ) → p ≡ node.p → a ≡ node.a → b ≡ node.b → p < 2 ^ 10 → a < 2 ^ 18 → b < 2 ^ 9 → HasRegistersInRange node
registers_fit node p a b is_p is_a is_b small_p small_a small_b = record {
  p = omega (arith, is_p, small_p);
  a = omega (arith, is_a, small_a);
  b = omega (arith, is_b, small_b);
}

-- ---- node after node

pub record IsSaid (chip : List NodeState) (text : Text) (n : ℕ) : Type 0 where
  pub said : List SourceWordText
  pub says : TextSaysWords text said
  pub words : said ++ source_words n (drop n chip) ≡ source_words 0 chip
  pub size : 0 < n → length chip ≡ 144
  pub fit : All HasMemoriesAndRegistersInRange (take n chip)

pub said_none : (chip : List NodeState) (text : Text) → text ≡ [] → IsSaid chip text 0
said_none chip text none = record {
  said = [];
  says = subst (λ (t : Text). TextSaysWords t []) (sym none) says_nothing;
  words = refl;
  size = λ some. absurd (omega arith);
  fit = All-nil HasMemoriesAndRegistersInRange;
}

source_more : (n : ℕ) (node : NodeState) (rest : List NodeState) → source_words n (node ∷ rest) ≡ node_source_words_with_name n (node_source_words n node) ++ source_words (n + 1) rest
unfolding source_words
source_more n node rest = refl

source_none : (n : ℕ) (chip : List NodeState) → chip ≡ [] → source_words n chip ≡ []
unfolding source_words
source_none n chip none = ap (source_words n) none

pub said_more : (chip : List NodeState) (text new : Text) (n : ℕ) (node : NodeState) → length chip ≡ 144 → n < 144 → node ≡ node_at chip n → AppendsSourceWords text new (node_source_words_with_name n (node_source_words n node)) → HasMemoriesAndRegistersInRange node → IsSaid chip text n → IsSaid chip new (n + 1)
said_more chip text new n node size within is added is_fit so_far =
    let words = node_source_words_with_name n (node_source_words n node) in
    let rest : source_words n (drop n chip) ≡ words ++ source_words (n + 1) (drop (n + 1) chip) =
    ap (source_words n) (drop_more chip n default_node (omega arith) ∙ ap (λ (one : NodeState). one ∷ drop (n + 1) chip) (sym is))
    ∙ source_more n node (drop (n + 1) chip) in
    record {
      said = so_far.said ++ words;
      says = subst (λ (t : Text). TextSaysWords t (so_far.said ++ words)) (sym added.1) (says_both text added.0 so_far.said words so_far.says added.2);
      words = append_assoc so_far.said words (source_words (n + 1) (drop (n + 1) chip)) ∙ (ap (λ (l : List SourceWordText). so_far.said ++ l) (sym rest) ∙ so_far.words);
      size = λ some. size;
      fit = All-more HasMemoriesAndRegistersInRange chip n default_node (omega arith) so_far.fit (subst HasMemoriesAndRegistersInRange is is_fit);
    }

pub said_all : (chip : List NodeState) (text : Text) (n : ℕ) → 144 ≤ n → IsSaid chip text n → TextSaysWords text (source_words 0 chip)
said_all chip text n end so_far =
    let size = so_far.size (omega arith) in
    subst (λ (l : List SourceWordText). TextSaysWords text l)
    (sym (append-nil so_far.said) ∙ (ap (λ (l : List SourceWordText). so_far.said ++ l) (sym (source_none n (drop n chip) (drop_all n chip (omega arith)))) ∙ so_far.words)) so_far.says

pub said_size : (chip : List NodeState) (text : Text) (n : ℕ) → 144 ≤ n → IsSaid chip text n → length chip ≡ 144
said_size chip text n end so_far = so_far.size (omega arith)

pub said_fit : (chip : List NodeState) (text : Text) (n : ℕ) → 144 ≤ n → IsSaid chip text n → All HasMemoriesAndRegistersInRange chip
said_fit chip text n end so_far =
    let size = so_far.size (omega arith) in
    subst (All HasMemoriesAndRegistersInRange) (take_all n chip (omega arith)) so_far.fit
