-- The cells of a source that is written, one by one.
use Rattle.std.specs.Prelude.{◌==◌, ◌||◌, not}
use Rattle.std.specs.List.{All}
use Rattle.std.proofs.Common.{◌≡◌, ◌∙◌, ℕ, ◌+◌, ◌<◌, ◌≤◌, Bool, true, false, List, [], ◌∷◌, ◌++◌, length, take, drop, get_or, refl, arith, ap, sym, subst, append_assoc}
use Rattle.std.proofs.lemmas.List.{append-nil, drop_more, drop_all, take_all}
use Rattle.std.proofs.lemmas.List.Elements.{All-nil, All-more}
use Rattle.std.proofs.lemmas.Bool.{ne_eqb, eq-eqb}
use Rattle.ga_text.specs.Lines.{Text}
use Rattle.ga_asm_text.specs.inner.{SourceWordText, AppendsSourceWords, cell_source_words, address_after_cell, cells_words, address_after_cells, is_nonzero_cell, IsNumberOf18Bits, AreCellsOfWholeMemory}
use Rattle.ga_asm_text.proofs.SourceLines.{nothing_added, both_added}

-- ---- cells that were written so far

pub record IsSoFar (start first : ℕ) (cells : List ℕ) (old now : Text) (cell next : ℕ) : Type 0 where
  pub said : List SourceWordText
  pub added : AppendsSourceWords old now said
  pub words : said ++ cells_words (start + cell) next (drop cell cells) ≡ cells_words start first cells
  pub behind : address_after_cells (start + cell) next (drop cell cells) ≡ address_after_cells start first cells
  pub size : 0 < cell → length cells ≡ 64
  pub fit : All IsNumberOf18Bits (take cell cells)

pub cells_none : (start first : ℕ) (cells : List ℕ) (old : Text) → IsSoFar start first cells old old 0 first
cells_none start first cells old =
    let e : start + 0 ≡ start = omega arith in
    record {
      said = [];
      added = nothing_added old [] refl;
      words = ap (λ (a : ℕ). cells_words a first cells) e;
      behind = ap (λ (a : ℕ). address_after_cells a first cells) e;
      size = λ some. absurd (omega arith);
      fit = All-nil IsNumberOf18Bits;
    }

words_more : (address next word : ℕ) (rest : List ℕ) → cells_words address next (word ∷ rest) ≡ cell_source_words word address next ++ cells_words (address + 1) (address_after_cell word address next) rest
unfolding cells_words
words_more address next word rest = refl

behind_more : (address next word : ℕ) (rest : List ℕ) → address_after_cells address next (word ∷ rest) ≡ address_after_cells (address + 1) (address_after_cell word address next) rest
unfolding address_after_cells
behind_more address next word rest = refl

words_none : (address next : ℕ) (cells : List ℕ) → cells ≡ [] → cells_words address next cells ≡ []
unfolding cells_words
words_none address next cells none = ap (cells_words address next) none

behind_none : (address next : ℕ) (cells : List ℕ) → cells ≡ [] → address_after_cells address next cells ≡ next
unfolding address_after_cells
behind_none address next cells none = ap (address_after_cells address next) none

pub cells_more : (start first : ℕ) (cells : List ℕ) (old now new : Text) (cell next address word behind : ℕ) → length cells ≡ 64 → cell < 64 → address ≡ start + cell → word ≡ get_or cells cell 0 → IsNumberOf18Bits word → behind ≡ address_after_cell word address next → AppendsSourceWords now new (cell_source_words word address next) → IsSoFar start first cells old now cell next → IsSoFar start first cells old new (cell + 1) behind
cells_more start first cells old now new cell next address word behind size within at is small is_behind added so_far =
    let after = drop (cell + 1) cells in
    let left : drop cell cells ≡ word ∷ after = drop_more cells cell 0 (omega arith) ∙ ap (λ (w : ℕ). w ∷ after) (sym is) in
    let further : address + 1 ≡ start + (cell + 1) = omega (arith, at) in
    let rest : cells_words (start + cell) next (drop cell cells) ≡ cell_source_words word address next ++ cells_words (start + (cell + 1)) behind after =
    ap (λ (l : List ℕ). cells_words (start + cell) next l) left
    ∙ (ap (λ (a : ℕ). cells_words a next (word ∷ after)) (sym at)
    ∙ (words_more address next word after
    ∙ (ap (λ (a : ℕ). cell_source_words word address next ++ cells_words a (address_after_cell word address next) after) further
    ∙ ap (λ (b : ℕ). cell_source_words word address next ++ cells_words (start + (cell + 1)) b after) (sym is_behind)))) in
    let last : address_after_cells (start + cell) next (drop cell cells) ≡ address_after_cells (start + (cell + 1)) behind after =
    ap (λ (l : List ℕ). address_after_cells (start + cell) next l) left
    ∙ (ap (λ (a : ℕ). address_after_cells a next (word ∷ after)) (sym at)
    ∙ (behind_more address next word after
    ∙ (ap (λ (a : ℕ). address_after_cells a (address_after_cell word address next) after) further
    ∙ ap (λ (b : ℕ). address_after_cells (start + (cell + 1)) b after) (sym is_behind)))) in
    record {
      said = so_far.said ++ cell_source_words word address next;
      added = both_added old now new so_far.said (cell_source_words word address next) so_far.added added;
      words = append_assoc so_far.said (cell_source_words word address next) (cells_words (start + (cell + 1)) behind after) ∙ (ap (λ (l : List SourceWordText). so_far.said ++ l) (sym rest) ∙ so_far.words);
      behind = sym last ∙ so_far.behind;
      size = λ some. size;
      fit = All-more IsNumberOf18Bits cells cell 0 (omega arith) so_far.fit (subst IsNumberOf18Bits is small);
    }

pub cells_added : (start first : ℕ) (cells : List ℕ) (old now : Text) (cell next : ℕ) → 64 ≤ cell → IsSoFar start first cells old now cell next → AppendsSourceWords old now (cells_words start first cells)
cells_added start first cells old now cell next end so_far =
    let size = so_far.size (omega arith) in
    let none = drop_all cell cells (omega arith) in
    subst (λ (words : List SourceWordText). AppendsSourceWords old now words)
    (sym (append-nil so_far.said) ∙ (ap (λ (l : List SourceWordText). so_far.said ++ l) (sym (words_none (start + cell) next (drop cell cells) none)) ∙ so_far.words)) so_far.added

pub cells_behind : (start first : ℕ) (cells : List ℕ) (old now : Text) (cell next : ℕ) → 64 ≤ cell → IsSoFar start first cells old now cell next → next ≡ address_after_cells start first cells
cells_behind start first cells old now cell next end so_far =
    let size = so_far.size (omega arith) in
    sym (behind_none (start + cell) next (drop cell cells) (drop_all cell cells (omega arith))) ∙ so_far.behind

pub cells_fit : (start first : ℕ) (cells : List ℕ) (old now : Text) (cell next : ℕ) → 64 ≤ cell → IsSoFar start first cells old now cell next → AreCellsOfWholeMemory cells
cells_fit start first cells old now cell next end so_far =
    let size = so_far.size (omega arith) in
    record { size = size; words = subst (All IsNumberOf18Bits) (take_all cell cells (omega arith)) so_far.fit }

-- ---- whether there are cells

pub record IsLooking (cells : List ℕ) (cell : ℕ) : Type 0 where
  pub same : is_nonzero_cell (drop cell cells) ≡ is_nonzero_cell cells
  pub size : 0 < cell → length cells ≡ 64

pub looking_first : (cells : List ℕ) → IsLooking cells 0
looking_first cells = record { same = refl; size = λ some. absurd (omega arith) }

holds_more : (cells : List ℕ) (cell word : ℕ) → cell < length cells → word ≡ get_or cells cell 0 → is_nonzero_cell (drop cell cells) ≡ (not (word == 0) || is_nonzero_cell (drop (cell + 1) cells))
unfolding is_nonzero_cell
holds_more cells cell word within is = ap is_nonzero_cell (drop_more cells cell 0 within ∙ ap (λ (w : ℕ). w ∷ drop (cell + 1) cells) (sym is))

pub looking_more : (cells : List ℕ) (cell word : ℕ) → length cells ≡ 64 → cell < 64 → word ≡ get_or cells cell 0 → word ≡ 0 → IsLooking cells cell → IsLooking cells (cell + 1)
looking_more cells cell word size within is none looking = record {
  same = sym (holds_more cells cell word (omega arith) is ∙ ap (λ (b : Bool). not b || is_nonzero_cell (drop (cell + 1) cells)) (eq-eqb word 0 none)) ∙ looking.same;
  size = λ some. size;
}

pub looking_found : (cells : List ℕ) (cell word : ℕ) → length cells ≡ 64 → cell < 64 → word ≡ get_or cells cell 0 → (word ≡ 0 → ⊥) → IsLooking cells cell → true ≡ is_nonzero_cell cells
looking_found cells cell word size within is some looking =
    sym (holds_more cells cell word (omega arith) is ∙ ap (λ (b : Bool). not b || is_nonzero_cell (drop (cell + 1) cells)) (ne_eqb word 0 some)) ∙ looking.same

holds_none : (cells : List ℕ) → cells ≡ [] → is_nonzero_cell cells ≡ false
unfolding is_nonzero_cell
holds_none cells none = ap is_nonzero_cell none

pub looking_last : (cells : List ℕ) (cell : ℕ) → 64 ≤ cell → IsLooking cells cell → false ≡ is_nonzero_cell cells
looking_last cells cell end looking =
    let size = looking.size (omega arith) in
    sym (holds_none (drop cell cells) (drop_all cell cells (omega arith))) ∙ looking.same

-- ---- in which memory

or_true : (b : Bool) → true ≡ (b || true)
or_true true = refl
or_true false = refl

pub found_in_ram : (ram rom : List ℕ) (cell word : ℕ) → length ram ≡ 64 → cell < 64 → word ≡ get_or ram cell 0 → (word ≡ 0 → ⊥) → IsLooking ram cell → true ≡ (is_nonzero_cell ram || is_nonzero_cell rom)
found_in_ram ram rom cell word size within is some looking = ap (λ (b : Bool). b || is_nonzero_cell rom) (looking_found ram cell word size within is some looking)

pub found_in_rom : (ram rom : List ℕ) (cell word : ℕ) → length rom ≡ 64 → cell < 64 → word ≡ get_or rom cell 0 → (word ≡ 0 → ⊥) → IsLooking rom cell → true ≡ (is_nonzero_cell ram || is_nonzero_cell rom)
found_in_rom ram rom cell word size within is some looking =
    or_true (is_nonzero_cell ram) ∙ ap (λ (b : Bool). is_nonzero_cell ram || b) (looking_found rom cell word size within is some looking)

pub found_nowhere : (ram rom : List ℕ) (cell : ℕ) → 64 ≤ cell → IsLooking ram cell → IsLooking rom cell → false ≡ (is_nonzero_cell ram || is_nonzero_cell rom)
found_nowhere ram rom cell end in_ram in_rom =
    λ i. looking_last ram cell end in_ram i || looking_last rom cell end in_rom i
