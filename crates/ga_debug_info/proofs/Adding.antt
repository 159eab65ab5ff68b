-- Names and notes, as they are added one after another, and the labels that stand last at the cells of a node.
use Rattle.std.proofs.Common.{◌≡◌, ◌∙◌, ℕ, ◌+◌, ◌<◌, ◌≤◌, min, inl, inr, Option, List, [], ◌∷◌, ◌++◌, length, get_or, drop, arith, ap, ap₂, sym, refl, append_assoc, append-nil, zero, suc, ◌-◌, true, false, Some, None, set, replicate, get_or-set_same, get_or-set_other, add-zero, is_some, true≢false, ◌*◌, ◌/◌, ◌%◌}
use Rattle.std.proofs.lemmas.Bool.{cases_lt, cases_eq, eq-eqb, ne_eqb}
use Rattle.std.proofs.lemmas.List.{drop_more, drop_all, at_drop_more, at_drop_all}
use Rattle.ga_grid.specs.declared.node_id.NodeId.{NodeId}
use Rattle.ga_parser.specs.declared.labels.Label.{Label}
use Rattle.ga_parser.specs.declared.item.AssemblyItem.{AssemblyItem}
use Rattle.ga_source.specs.Reading.{p_after_item}
use Rattle.ga_parser.specs.declared.scan.Token.{Token}
use Rattle.ga_debug_info.specs.declared.wording.Begun.{Begun}
use Rattle.ga_debug_info.specs.Source.{LabelAddressContent, label_address_if_named, addresses_of_named_labels, literal_entries, label_cell, label_marked_in_cell, last_marked_label, result_at_nearest_place, label_at_or_before}
use Rattle.ga_debug_info.specs.Notes.{DisplayedWordContent, displayed_slot_word, displayed_slot_words}
use Rattle.std.specs.Option.{option_or}
use Rattle.ga_parser.specs.declared.item.LocatedRequest.{LocatedRequest}
use Rattle.ga_source.specs.declared.program.Program.{Program}
use Rattle.ga_parser.specs.declared.item.AssemblyRequest.TheVariants.{MarkLabel}
use Rattle.ga_debug_info.specs.inner.{label_at_cell, AreLastLabelsOfCells}

-- ---- joined with what was listed before

-- what was left has been listed except for some
pub told_more : {X : Type 0} (told left all new part rest : List X) → new ≡ told ++ part → left ≡ part ++ rest → told ++ left ≡ all → new ++ rest ≡ all
told_more told left all new part rest e parts before = rw (e, append_assoc told part rest, ← parts) before

-- nothing is left
pub told_all : {X : Type 0} (told left all : List X) → left ≡ [] → told ++ left ≡ all → told ≡ all
told_all {X = X} told left all none before = sym (append-nil told) ∙ (ap (λ (l : List X). told ++ l) (sym none) ∙ before)

-- ---- names

-- one label more
pub among_more : (node : NodeId) (labels : List Label) (addresses : List (Option ℕ)) (i : ℕ) (d : Label) (e : Option ℕ) → i < length labels → i < length addresses → addresses_of_named_labels node (drop i labels) (drop i addresses) ≡ label_address_if_named node (get_or labels i d) (get_or addresses i e) ++ addresses_of_named_labels node (drop (i + 1) labels) (drop (i + 1) addresses)
unfolding addresses_of_named_labels
among_more node labels addresses i d e within inside = ap₂ (addresses_of_named_labels node) (drop_more labels i d within) (drop_more addresses i e inside)

-- and that was added
pub among_step : (node : NodeId) (labels : List Label) (addresses : List (Option ℕ)) (told new all : List LabelAddressContent) (n m : ℕ) (label : Label) (address : Option ℕ) → n < length labels → n < length addresses → label ≡ get_or labels n label → address ≡ get_or addresses n address → m ≡ n + 1 → new ≡ told ++ label_address_if_named node label address → told ++ addresses_of_named_labels node (drop n labels) (drop n addresses) ≡ all → new ++ addresses_of_named_labels node (drop m labels) (drop m addresses) ≡ all
among_step node labels addresses told new all n m label address within inside is at next added before =
    let parts : addresses_of_named_labels node (drop n labels) (drop n addresses) ≡ label_address_if_named node label address ++ addresses_of_named_labels node (drop m labels) (drop m addresses) =
    rw (is, at, next) (among_more node labels addresses n label address within inside) in
    told_more told (addresses_of_named_labels node (drop n labels) (drop n addresses)) all new (label_address_if_named node label address) (addresses_of_named_labels node (drop m labels) (drop m addresses)) added parts before

no_addresses : (node : NodeId) (labels : List Label) → addresses_of_named_labels node labels [] ≡ []
unfolding addresses_of_named_labels
no_addresses node [] = refl
no_addresses node (label ∷ labels) = refl

-- none is left
pub among_all : (node : NodeId) (labels : List Label) (addresses : List (Option ℕ)) (i : ℕ) → min (length labels) (length addresses) ≤ i → addresses_of_named_labels node (drop i labels) (drop i addresses) ≡ []
unfolding addresses_of_named_labels
among_all node labels addresses i past = elim (cases_lt i (length labels)) [
  | inr few ↦ ap (λ (left : List Label). addresses_of_named_labels node left (drop i addresses)) (drop_all i labels few)
  | inl more ↦ ap (addresses_of_named_labels node (drop i labels)) (drop_all i addresses (omega arith)) ∙ no_addresses node (drop i labels)
]

-- ---- items with their lines

module _ {X : Type 0} (tell : ℕ → AssemblyItem → ℕ → List X) where
  -- one item more
  told_of_item : (p : ℕ) (items : List AssemblyItem) (lines : List ℕ) (i : ℕ) (d : AssemblyItem) → i < length items → i < length lines → literal_entries tell p (drop i items) (drop i lines) ≡ tell p (get_or items i d) (get_or lines i 0) ++ literal_entries tell (p_after_item p (get_or items i d)) (drop (i + 1) items) (drop (i + 1) lines)
  unfolding literal_entries
  told_of_item p items lines i d within inside = ap₂ (literal_entries tell p) (drop_more items i d within) (drop_more lines i 0 inside)

  -- and its entries were added
  pub literals_step : (items : List AssemblyItem) (lines : List ℕ) (told new all : List X) (n m p q : ℕ) (item : AssemblyItem) (line : ℕ) → n < length items → n < length lines → item ≡ get_or items n item → line ≡ get_or lines n 0 → m ≡ n + 1 → q ≡ p_after_item p item → new ≡ told ++ tell p item line → told ++ literal_entries tell p (drop n items) (drop n lines) ≡ all → new ++ literal_entries tell q (drop m items) (drop m lines) ≡ all
  literals_step items lines told new all n m p q item line within inside is at next behind added before =
      let parts : literal_entries tell p (drop n items) (drop n lines) ≡ tell p item line ++ literal_entries tell q (drop m items) (drop m lines) =
      rw (behind, is, at, next) (told_of_item p items lines n item within inside) in
      told_more told (literal_entries tell p (drop n items) (drop n lines)) all new (tell p item line) (literal_entries tell q (drop m items) (drop m lines)) added parts before

  no_lines : (p : ℕ) (items : List AssemblyItem) → literal_entries tell p items [] ≡ []
  unfolding literal_entries
  no_lines p [] = refl
  no_lines p (item ∷ items) = refl

  -- none is left
  pub literals_all : (p : ℕ) (items : List AssemblyItem) (lines : List ℕ) (i : ℕ) → min (length items) (length lines) ≤ i → literal_entries tell p (drop i items) (drop i lines) ≡ []
  unfolding literal_entries
  literals_all p items lines i past = elim (cases_lt i (length items)) [
    | inr few ↦ ap (λ (left : List AssemblyItem). literal_entries tell p left (drop i lines)) (drop_all i items few)
    | inl more ↦ ap (literal_entries tell p (drop i items)) (drop_all i lines (omega arith)) ∙ no_lines p (drop i items)
  ]

-- ---- the words of slots

-- one slot more
slot_more : (source : List ℕ) (words : List Token) (cell : Begun) (size slot : ℕ) (numbers : List ℕ) → slot < length numbers → displayed_slot_words source words cell size slot (drop slot numbers) ≡ displayed_slot_word source words cell size slot (get_or numbers slot 0) ∷ displayed_slot_words source words cell size (slot + 1) (drop (slot + 1) numbers)
unfolding displayed_slot_words
slot_more source words cell size slot numbers within = ap (displayed_slot_words source words cell size slot) (drop_more numbers slot 0 within)

-- and its word was added
pub slot_step : (source : List ℕ) (words : List Token) (cell : Begun) (size slot number : ℕ) (numbers : List ℕ) (told new all : List DisplayedWordContent) → slot < length numbers → number ≡ get_or numbers slot 0 → new ≡ told ++ displayed_slot_word source words cell size slot number ∷ [] → told ++ displayed_slot_words source words cell size slot (drop slot numbers) ≡ all → new ++ displayed_slot_words source words cell size (slot + 1) (drop (slot + 1) numbers) ≡ all
slot_step source words cell size slot number numbers told new all within at added before =
    let parts : displayed_slot_words source words cell size slot (drop slot numbers) ≡ (displayed_slot_word source words cell size slot number ∷ []) ++ displayed_slot_words source words cell size (slot + 1) (drop (slot + 1) numbers) =
    rw at (slot_more source words cell size slot numbers within) in
    told_more told (displayed_slot_words source words cell size slot (drop slot numbers)) all new (displayed_slot_word source words cell size slot number ∷ []) (displayed_slot_words source words cell size (slot + 1) (drop (slot + 1) numbers)) added parts before

-- none is left
pub slots_all : (source : List ℕ) (words : List Token) (cell : Begun) (size slot : ℕ) (numbers : List ℕ) → length numbers ≤ slot → displayed_slot_words source words cell size slot (drop slot numbers) ≡ []
unfolding displayed_slot_words
slots_all source words cell size slot numbers past = ap (displayed_slot_words source words cell size slot) (drop_all slot numbers past)

-- ---- first choices

pub or_none : (found : Option ℕ) → option_or found None ≡ found
or_none None = refl
or_none (Some x) = refl

or_assoc : (a b c : Option ℕ) → option_or (option_or a b) c ≡ option_or a (option_or b c)
or_assoc None b c = refl
or_assoc (Some x) b c = refl

pub none_is : (found : Option ℕ) → is_some found ≡ false → found ≡ None
none_is None none = refl
none_is (Some x) none = absurd (true≢false none)

-- ---- one request after another

-- no label is noted
pub none_noted : (n cell : ℕ) → label_at_cell (replicate n None) cell ≡ None
none_noted zero cell = refl
none_noted (suc n) zero = refl
none_noted (suc n) (suc cell) = none_noted n cell

pub last_none : (program : Program) (cell n : ℕ) (asked all : List LocatedRequest) (labels : List (Option ℕ)) → labels ≡ replicate n None → asked ≡ all → option_or (last_marked_label program cell asked) (label_at_cell labels cell) ≡ last_marked_label program cell all
last_none program cell n asked all labels none same =
    let here : label_at_cell labels cell ≡ None = ap (λ (noted : List (Option ℕ)). label_at_cell noted cell) none ∙ none_noted n cell in
    ap (option_or (last_marked_label program cell asked)) here ∙ (or_none (last_marked_label program cell asked) ∙ ap (last_marked_label program cell) same)

-- a request more was noted
pub last_more : (program : Program) (cell : ℕ) (asked : List LocatedRequest) (i : ℕ) (d : LocatedRequest) (was now all : Option ℕ) → i < length asked → now ≡ option_or (label_marked_in_cell program cell (get_or asked i d).request) was → option_or (last_marked_label program cell (drop i asked)) was ≡ all → option_or (last_marked_label program cell (drop (i + 1) asked)) now ≡ all
unfolding last_marked_label
last_more program cell asked i d was now all within marked before =
    let left = last_marked_label program cell (drop (i + 1) asked) in
    let step : last_marked_label program cell (drop i asked) ≡ option_or left (label_marked_in_cell program cell (get_or asked i d).request) = at_drop_more (last_marked_label program cell) asked i d within in
    ap (option_or left) marked ∙ (sym (or_assoc left _ was) ∙ (ap (λ (found : Option ℕ). option_or found was) (sym step) ∙ before))

-- all were
pub last_all : (program : Program) (cell : ℕ) (asked : List LocatedRequest) (i : ℕ) (now all : Option ℕ) → length asked ≤ i → option_or (last_marked_label program cell (drop i asked)) now ≡ all → now ≡ all
unfolding last_marked_label
last_all program cell asked i now all past before =
    let none : last_marked_label program cell (drop i asked) ≡ None = at_drop_all (last_marked_label program cell) asked i past in
    sym (ap (λ (found : Option ℕ). option_or found now) none) ∙ before

-- the request marks a cell
pub one_marked : (program : Program) (labels : List (Option ℕ)) (label at cell : ℕ) → label_cell program label ≡ Some at → at < length labels → label_at_cell (set labels at (Some label)) cell ≡ option_or (label_marked_in_cell program cell (MarkLabel label)) (label_at_cell labels cell)
one_marked program labels label at cell is within = elim (cases_eq cell at) [
  | inl same ↦ rw (same, is, eq-eqb at at refl) (get_or-set_same labels at (Some label) None within)
  | inr other ↦ rw (is, ne_eqb at cell (λ e. other (sym e))) (get_or-set_other labels at cell (Some label) None other)
]

-- ---- the nearest one

-- none is at a place
pub nearest_less : (found : ℕ → Option ℕ) (first k : ℕ) → 0 < k → found (first + k) ≡ None → result_at_nearest_place found first (k - 1) ≡ result_at_nearest_place found first k
unfolding result_at_nearest_place
nearest_less found first zero some none = absurd (omega arith)
nearest_less found first (suc k) some none =
    let e : suc k - 1 ≡ k = omega arith in
    ap (result_at_nearest_place found first) e ∙ sym (ap (λ (one : Option ℕ). option_or one (result_at_nearest_place found first k)) none)

-- one is
or_here : (one other : Option ℕ) → is_some one ≡ true → one ≡ option_or one other
or_here None other some = absurd (true≢false (sym some))
or_here (Some x) other some = refl

pub nearest_here : (found : ℕ → Option ℕ) (first k : ℕ) → is_some (found (first + k)) ≡ true → found (first + k) ≡ result_at_nearest_place found first k
unfolding result_at_nearest_place
nearest_here found first zero some = ap found (add-zero first)
nearest_here found first (suc k) some = or_here (found (first + suc k)) (result_at_nearest_place found first k) some

-- none is left
pub nearest_last : (found : ℕ → Option ℕ) (first k : ℕ) → k ≤ 0 → found (first + k) ≡ result_at_nearest_place found first k
unfolding result_at_nearest_place
nearest_last found first zero last = ap found (add-zero first)
nearest_last found first (suc k) last = absurd (omega arith)

-- two that are the same
pub nearest_same : (f g : ℕ → Option ℕ) (first k : ℕ) → ((j : ℕ) → j ≤ first + k → f j ≡ g j) → result_at_nearest_place f first k ≡ result_at_nearest_place g first k
unfolding result_at_nearest_place
nearest_same f g first zero same = same first (omega arith)
nearest_same f g first (suc k) same =
    ap (λ (one : Option ℕ). option_or one (result_at_nearest_place f first k)) (same (first + suc k) (omega arith))
    ∙ ap (option_or (g (first + suc k))) (nearest_same f g first k (λ j below. same j (omega arith)))

-- where labels are noted, the one at or before a cell
pub found_before : (program : Program) (labels : List (Option ℕ)) (first behind cell : ℕ) → cell < 192 → AreLastLabelsOfCells program labels → first ≡ cell / 64 * 64 → label_at_cell labels (first + behind) ≡ result_at_nearest_place (label_at_cell labels) first behind → result_at_nearest_place (label_at_cell labels) first behind ≡ result_at_nearest_place (label_at_cell labels) first (cell % 64) → label_at_cell labels (first + behind) ≡ label_at_or_before program cell
found_before program labels first behind cell within marked e here same =
    here ∙ (same ∙ (ap (λ (from : ℕ). result_at_nearest_place (label_at_cell labels) from (cell % 64)) e
    ∙ nearest_same (label_at_cell labels) (λ one. last_marked_label program one program.asked.items) (cell / 64 * 64) (cell % 64) (λ j below. marked.last j (omega arith))))
