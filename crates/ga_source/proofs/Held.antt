-- What is read of a group that was written, and what stays of it.
use Rattle.std.specs.Prelude.{◌==◌, ◌&&◌, ◌||◌, nat_lt}
use Rattle.std.proofs.Common.{◌≡◌, ◌≢◌, ◌∙◌, ℕ, ◌+◌, ◌-◌, ◌%◌, ◌<◌, ◌≤◌, ◌⊎◌, inl, inr, refl, sym, ap, subst, Bool, true, false, List, [], ◌∷◌, Option, Some, None, length, take, slice_index_or, zero, suc, arith}
use Rattle.std.proofs.lemmas.Bool.{and_from, or_left, or_right, or_cases, true≢false, cases_eq, cases_lt, cases_Bool, eq-eqb, eqb-true, lt-ltb}
use Rattle.std.proofs.lemmas.List.{take_all, take_more}
use Rattle.std.proofs.lemmas.List.Folds.{list_any_at}
use Rattle.std.proofs.lemmas.List.Elements.{All-more, All-weaker}
use Rattle.std.specs.List.{All}
use Rattle.ga_slots.specs.Codes.{code_of_opcode}
use Rattle.ga_slots.specs.Slots.{opcode, target}
use Rattle.ga_slots.specs.declared.op.Op.{Op}
use Rattle.ga_slots.specs.declared.op.Op.TheVariants.{FetchP, Nop}
use Rattle.ga_node.specs.Record.{NodeState}
use Rattle.ga_parser.specs.declared.item.AssemblyItem.{AssemblyItem}
use Rattle.ga_parser.specs.declared.item.AssemblyItem.TheVariants.{Opcode, Literal, JumpToEarlierLabel, JumpToLaterLabel, Cell}
use Rattle.ga_source.specs.declared.group.CellGroup.{CellGroup}
use Rattle.ga_parser.specs.declared.item.Operand.TheVariants.{Label}
use Rattle.ga_source.specs.declared.group.PackingSpot.{PackingSpot}
use Rattle.ga_source.specs.Reading.{first_spot_of_cell, spot_after_item, operand_value, are_equal_numbers, word_at_address, has_opcode_in_slot, jump_leads_to_address, is_item_at_spot, is_filled_with_nops, item_ends_cell}
use Rattle.ga_source.specs.Cells.{is_address_of_cell, item_uses_cell, KeepsOtherCells}
use Rattle.ga_source.specs.inner.{nothing, spot_after_items, AreItemsInPlace, taken, spot_of_item, AreItemsFitting, IsGroupRead, group_uses_cell, is_cell_in_groups, KeepsOtherThanMemories, HasItemInSlot, HasItemOperand, IsLiteralCellGiven, IsGivenMemoryCell, KeepsGivenCells, MayEndCell, IsWordOfItems, IsGroupBeingWritten, IsLoadedGroup}
use Rattle.ga_source.proofs.Laying.{behind-same, behind-slot, AreItemsInPlace-push, taken-pop, empty_reads, step_spot, last_ends}

-- what is left of a cell is `.`
abbrev dots : Option ℕ → ℕ → Bool
dots word slot = (nat_lt 1 slot || has_opcode_in_slot word 1 Nop) && (nat_lt 2 slot || has_opcode_in_slot word 2 Nop) && has_opcode_in_slot word 3 Nop

-- ---- an item in place

has_op_by : (word slot : ℕ) (op : Op) → slot < 4 → opcode word slot ≡ op → has_opcode_in_slot (Some word) slot op ≡ true
has_op_by word slot op l e = and_from (nat_lt slot 4) (code_of_opcode (opcode word slot) == code_of_opcode op) (lt-ltb slot 4 l) (eq-eqb (code_of_opcode (opcode word slot)) (code_of_opcode op) (ap code_of_opcode e))

stands_in : (node : NodeState) (labels : List (Option ℕ)) (word : ℕ) (spot : PackingSpot) (item : AssemblyItem) → spot.slot < 4 → MayEndCell spot.slot item → HasItemInSlot labels word spot.slot item → HasItemOperand node labels spot item → (found : Option ℕ) → found ≡ Some word → word_at_address node spot.at ≡ found → is_item_at_spot node labels spot item ≡ true
stands_in node labels word spot (Opcode op) l may has rest found e at = subst (λ (w : Option ℕ). has_opcode_in_slot w spot.slot op ≡ true) (sym (at ∙ e)) (has_op_by word spot.slot op l has)
stands_in node labels word spot (Literal value) l may has rest found e at = and_from (has_opcode_in_slot (word_at_address node spot.at) spot.slot FetchP) (are_equal_numbers (operand_value labels value) (word_at_address node spot.p))
    (subst (λ (w : Option ℕ). has_opcode_in_slot w spot.slot FetchP ≡ true) (sym (at ∙ e)) (has_op_by word spot.slot FetchP l has)) rest
stands_in node labels word spot (JumpToEarlierLabel op label) l may has rest found e at = and_from (has_opcode_in_slot (word_at_address node spot.at) spot.slot op) (jump_leads_to_address (word_at_address node spot.at) spot.slot spot.p (operand_value labels (Label label)))
    (subst (λ (w : Option ℕ). has_opcode_in_slot w spot.slot op ≡ true) (sym (at ∙ e)) (has_op_by word spot.slot op l has.0))
    (subst (λ (w : Option ℕ). jump_leads_to_address w spot.slot spot.p (operand_value labels (Label label)) ≡ true) (sym (at ∙ e))
    (and_from (nat_lt spot.slot 3) (are_equal_numbers (operand_value labels (Label label)) (Some (target spot.p word spot.slot))) (lt-ltb spot.slot 3 rest.0) (has.1 spot.p rest.1)))
stands_in node labels word spot (JumpToLaterLabel op label) l may has rest found e at = and_from (has_opcode_in_slot (word_at_address node spot.at) spot.slot op) (jump_leads_to_address (word_at_address node spot.at) spot.slot spot.p (operand_value labels (Label label)))
    (subst (λ (w : Option ℕ). has_opcode_in_slot w spot.slot op ≡ true) (sym (at ∙ e)) (has_op_by word spot.slot op l has.0))
    (subst (λ (w : Option ℕ). jump_leads_to_address w spot.slot spot.p (operand_value labels (Label label)) ≡ true) (sym (at ∙ e))
    (and_from (nat_lt spot.slot 3) (are_equal_numbers (operand_value labels (Label label)) (Some (target spot.p word spot.slot))) (lt-ltb spot.slot 3 rest.0) (has.1 spot.p rest.1)))
stands_in node labels word spot (Cell value) l may has rest found e at = and_from (spot.slot == 0) (are_equal_numbers (operand_value labels value) (word_at_address node spot.at)) (eq-eqb spot.slot 0 may)
    (subst (λ (w : Option ℕ). are_equal_numbers (operand_value labels value) w ≡ true) (sym (at ∙ e)) has)

-- ---- what stays

takes_cell : (spot : PackingSpot) (item : AssemblyItem) → item_uses_cell spot item (spot.at % 512) ≡ true
takes_cell spot (Opcode op) = eq-eqb (spot.at % 512) (spot.at % 512) refl
takes_cell spot (Literal value) = or_left (is_address_of_cell spot.at (spot.at % 512)) (is_address_of_cell spot.p (spot.at % 512)) (eq-eqb (spot.at % 512) (spot.at % 512) refl)
takes_cell spot (JumpToEarlierLabel op label) = eq-eqb (spot.at % 512) (spot.at % 512) refl
takes_cell spot (JumpToLaterLabel op label) = eq-eqb (spot.at % 512) (spot.at % 512) refl
takes_cell spot (Cell value) = eq-eqb (spot.at % 512) (spot.at % 512) refl

takes_rest : (given : List (Option ℕ)) (spot : PackingSpot) (item : AssemblyItem) → ((cell : ℕ) → item_uses_cell spot item cell ≡ true → IsGivenMemoryCell given cell) → IsLiteralCellGiven given spot item
takes_rest given spot (Opcode op) held = tt
takes_rest given spot (Literal value) held = held (spot.p % 512) (or_right (is_address_of_cell spot.at (spot.p % 512)) (is_address_of_cell spot.p (spot.p % 512)) (eq-eqb (spot.p % 512) (spot.p % 512) refl))
takes_rest given spot (JumpToEarlierLabel op label) held = tt
takes_rest given spot (JumpToLaterLabel op label) held = tt
takes_rest given spot (Cell value) held = tt

-- what an item takes is its cell and that of its literal
holds_taken : (given : List (Option ℕ)) (spot : PackingSpot) (item : AssemblyItem) → IsGivenMemoryCell given (spot.at % 512) → IsLiteralCellGiven given spot item → (cell : ℕ) → item_uses_cell spot item cell ≡ true → IsGivenMemoryCell given cell
holds_taken given spot (Opcode op) at rest cell h = subst (IsGivenMemoryCell given) (eqb-true (spot.at % 512) cell h) at
holds_taken given spot (Literal value) at rest cell h = elim (or_cases (is_address_of_cell spot.at cell) (is_address_of_cell spot.p cell) h) [
  | inl e ↦ subst (IsGivenMemoryCell given) (eqb-true (spot.at % 512) cell e) at
  | inr e ↦ subst (IsGivenMemoryCell given) (eqb-true (spot.p % 512) cell e) rest
]
holds_taken given spot (JumpToEarlierLabel op label) at rest cell h = subst (IsGivenMemoryCell given) (eqb-true (spot.at % 512) cell h) at
holds_taken given spot (JumpToLaterLabel op label) at rest cell h = subst (IsGivenMemoryCell given) (eqb-true (spot.at % 512) cell h) at
holds_taken given spot (Cell value) at rest cell h = subst (IsGivenMemoryCell given) (eqb-true (spot.at % 512) cell h) at

-- after some items the cell is one that they take, or nothing of it is read
end_held : (given : List (Option ℕ)) (spot : PackingSpot) (items : List AssemblyItem) → (spot.slot ≡ 0) ⊎ IsGivenMemoryCell given (spot.at % 512) → ((cell : ℕ) → taken spot items cell ≡ true → IsGivenMemoryCell given cell) → ((spot_after_items spot items).slot ≡ 0) ⊎ IsGivenMemoryCell given ((spot_after_items spot items).at % 512)
unfolding taken spot_after_items
end_held given spot [] at held = at
end_held given spot (item ∷ rest) at held = end_held given (spot_after_item spot item) rest
    (elim (cases_eq (spot_after_item spot item).slot 0) [
      | inl e ↦ inl e
      | inr other ↦ inr (subst (λ (a : ℕ). IsGivenMemoryCell given (a % 512)) (sym (behind-same spot item other)) (held (spot.at % 512) (or_left (item_uses_cell spot item (spot.at % 512)) (taken (spot_after_item spot item) rest (spot.at % 512)) (takes_cell spot item))))
    ])
    (λ cell e. held cell (or_right (item_uses_cell spot item cell) (taken (spot_after_item spot item) rest cell) e))

module _ (before after : NodeState) (given later : List (Option ℕ)) (keeps : KeepsGivenCells before given after later) where
  stands_stays : (labels : List (Option ℕ)) (spot : PackingSpot) (item : AssemblyItem) → IsGivenMemoryCell given (spot.at % 512) → IsLiteralCellGiven given spot item → is_item_at_spot after labels spot item ≡ is_item_at_spot before labels spot item
  stands_stays labels spot (Opcode op) at rest = ap (λ (w : Option ℕ). has_opcode_in_slot w spot.slot op) ((keeps spot.at at).0)
  stands_stays labels spot (Literal value) at rest =
      ap (λ (w : Option ℕ). has_opcode_in_slot w spot.slot FetchP && are_equal_numbers (operand_value labels value) (word_at_address after spot.p)) ((keeps spot.at at).0)
      ∙ ap (λ (w : Option ℕ). has_opcode_in_slot (word_at_address before spot.at) spot.slot FetchP && are_equal_numbers (operand_value labels value) w) ((keeps spot.p rest).0)
  stands_stays labels spot (JumpToEarlierLabel op label) at rest = ap (λ (w : Option ℕ). has_opcode_in_slot w spot.slot op && jump_leads_to_address w spot.slot spot.p (operand_value labels (Label label))) ((keeps spot.at at).0)
  stands_stays labels spot (JumpToLaterLabel op label) at rest = ap (λ (w : Option ℕ). has_opcode_in_slot w spot.slot op && jump_leads_to_address w spot.slot spot.p (operand_value labels (Label label))) ((keeps spot.at at).0)
  stands_stays labels spot (Cell value) at rest = ap (λ (w : Option ℕ). spot.slot == 0 && are_equal_numbers (operand_value labels value) w) ((keeps spot.at at).0)

  pub Stand_stays : (labels : List (Option ℕ)) (spot : PackingSpot) (items : List AssemblyItem) → ((cell : ℕ) → taken spot items cell ≡ true → IsGivenMemoryCell given cell) → AreItemsInPlace before labels spot items → AreItemsInPlace after labels spot items
  unfolding AreItemsInPlace taken
  Stand_stays labels spot [] held h = tt
  Stand_stays labels spot (item ∷ rest) held h =
      let here = λ (cell : ℕ) (e : item_uses_cell spot item cell ≡ true). held cell (or_left (item_uses_cell spot item cell) (taken (spot_after_item spot item) rest cell) e) in (
        stands_stays labels spot item (here (spot.at % 512) (takes_cell spot item)) (takes_rest given spot item here) ∙ h.0,
        Stand_stays labels (spot_after_item spot item) rest (λ cell e. held cell (or_right (item_uses_cell spot item cell) (taken (spot_after_item spot item) rest cell) e)) h.1,
      )

  -- what was given, by its number
  pub holds_stays : (cell : ℕ) → IsGivenMemoryCell given cell → IsGivenMemoryCell later cell
  holds_stays cell held =
      let small : cell % 512 ≡ cell = elim held.in_memory [ inl l ↦ omega arith | inr h ↦ (let low : 128 ≤ cell = h.0 in let high : cell < 192 = h.1 in omega arith) ] in
      subst (IsGivenMemoryCell later) small ((keeps cell (subst (IsGivenMemoryCell given) (sym small) held)).1)

  filled_stays : (spot : PackingSpot) → (spot.slot ≡ 0) ⊎ IsGivenMemoryCell given (spot.at % 512) → is_filled_with_nops before spot ≡ true → is_filled_with_nops after spot ≡ true
  filled_stays spot where_is h = elim where_is [
    | inl e ↦ or_left (spot.slot == 0) (dots (word_at_address after spot.at) spot.slot) (eq-eqb spot.slot 0 e)
    | inr held ↦ ap (λ (w : Option ℕ). spot.slot == 0 || dots w spot.slot) ((keeps spot.at held).0) ∙ h
  ]

  pub loaded_stays : (labels : List (Option ℕ)) (group : CellGroup) → IsLoadedGroup before labels given group → IsLoadedGroup after labels later group
  loaded_stays labels group loaded = record {
    read = record {
      whole = loaded.read.whole;
      cell = record {
        items_stand = Stand_stays labels (first_spot_of_cell group.address) group.items.items loaded.held loaded.read.cell.items_stand;
        filled = filled_stays (spot_after_items (first_spot_of_cell group.address) group.items.items) (end_held given (first_spot_of_cell group.address) group.items.items (inl refl) loaded.held) loaded.read.cell.filled;
      };
    };
    held = λ cell h. holds_stays cell (loaded.held cell h);
  }

pub keeps_none : (node : NodeState) (given : List (Option ℕ)) → KeepsGivenCells node given node given
keeps_none node given address held = (refl, held)

pub keeps_both : (first second third : NodeState) (a b c : List (Option ℕ)) → KeepsGivenCells first a second b → KeepsGivenCells second b third c → KeepsGivenCells first a third c
keeps_both first second third a b c one two address held =
    let before = one address held in
    let behind_it = two address before.1 in
    (behind_it.0 ∙ before.0, behind_it.1)

-- ---- what is left elsewhere

pub elsewhere_none : (named : ℕ → Bool) (node : NodeState) → KeepsOtherCells named node node
elsewhere_none named node = record { ram = λ k e. refl; rom = λ k e. refl }

not_named : (less more : ℕ → Bool) (k : ℕ) → (less k ≡ true → more k ≡ true) → more k ≡ false → less k ≡ false
not_named less more k sub e = elim (cases_Bool (less k)) [ inl t ↦ absurd (true≢false (sym (sub t) ∙ e)) | inr f ↦ f ]

pub elsewhere_both : (named less : ℕ → Bool) (first second third : NodeState) → ((k : ℕ) → less k ≡ true → named k ≡ true) → KeepsOtherCells named first second → KeepsOtherCells less second third → KeepsOtherCells named first third
elsewhere_both named less first second third sub one two = record {
  ram = λ k e. two.ram k (not_named less named k (sub k) e) ∙ one.ram k e;
  rom = λ k e. two.rom k (not_named less named (0x80 + k) (sub (0x80 + k)) e) ∙ one.rom k e;
}

pub elsewhere_less : (named less : ℕ → Bool) (first second : NodeState) → ((k : ℕ) → less k ≡ true → named k ≡ true) → KeepsOtherCells less first second → KeepsOtherCells named first second
elsewhere_less named less first second sub one = record {
  ram = λ k e. one.ram k (not_named less named k (sub k) e);
  rom = λ k e. one.rom k (not_named less named (0x80 + k) (sub (0x80 + k)) e);
}

-- ---- a whole group

pub taken_at : (spot : PackingSpot) (items : List AssemblyItem) (i cell : ℕ) → i < length items → item_uses_cell (spot_after_items spot (take i items)) (slice_index_or items i nothing) cell ≡ true → taken spot items cell ≡ true
unfolding taken spot_after_items
taken_at spot [] i cell l h = absurd (omega arith)
taken_at spot (first ∷ rest) zero cell l h = or_left (item_uses_cell spot first cell) (taken (spot_after_item spot first) rest cell) h
taken_at spot (first ∷ rest) (suc i) cell l h = or_right (item_uses_cell spot first cell) (taken (spot_after_item spot first) rest cell) (taken_at (spot_after_item spot first) rest i cell (omega arith) h)

pub group_at : (groups : List CellGroup) (i cell : ℕ) (none : CellGroup) → i < length groups → group_uses_cell cell (slice_index_or groups i none) ≡ true → is_cell_in_groups groups cell ≡ true
group_at groups i cell none l h = list_any_at (group_uses_cell cell) groups i none l h

-- one more item of the group is in place
pub stand_more : (node : NodeState) (labels : List (Option ℕ)) (address word : ℕ) (items : List AssemblyItem) (i : ℕ) → i < length items → length items ≤ 4 → AreItemsFitting labels address items → IsWordOfItems labels items word → word_at_address node address ≡ Some word → HasItemOperand node labels (spot_of_item address items i) (slice_index_or items i nothing) → AreItemsInPlace node labels (first_spot_of_cell address) (take i items) → AreItemsInPlace node labels (first_spot_of_cell address) (take (i + 1) items)
stand_more node labels address word items i l few fit is_word at rest h =
    let spot = spot_of_item address items i in
    let slot : spot.slot ≡ i = fit.slots i l in
    subst (AreItemsInPlace node labels (first_spot_of_cell address)) (sym (take_more items i nothing l)) (AreItemsInPlace-push node labels (first_spot_of_cell address) (take i items) (slice_index_or items i nothing) h
    (stands_in node labels word spot (slice_index_or items i nothing) (omega arith)
    (subst (λ (n : ℕ). MayEndCell n (slice_index_or items i nothing)) (sym slot) (last_ends labels address items fit i l))
    (subst (λ (n : ℕ). HasItemInSlot labels word n (slice_index_or items i nothing)) (sym slot) (is_word.has i l)) rest (Some word) refl (ap (word_at_address node) (fit.cells i l) ∙ at)))

-- its cells are given
pub held_more : (labels given : List (Option ℕ)) (address : ℕ) (items : List AssemblyItem) (i : ℕ) → i < length items → AreItemsFitting labels address items → IsGivenMemoryCell given (address % 512) → IsLiteralCellGiven given (spot_of_item address items i) (slice_index_or items i nothing) → ((cell : ℕ) → taken (first_spot_of_cell address) (take i items) cell ≡ true → IsGivenMemoryCell given cell) → (cell : ℕ) → taken (first_spot_of_cell address) (take (i + 1) items) cell ≡ true → IsGivenMemoryCell given cell
held_more labels given address items i l fit at rest held cell h =
    let item = slice_index_or items i nothing in
    elim (taken-pop (first_spot_of_cell address) (take i items) item cell (subst (λ (list : List AssemblyItem). taken (first_spot_of_cell address) list cell ≡ true) (take_more items i nothing l) h)) [
      | inl a ↦ held cell a
      | inr b ↦ holds_taken given (spot_of_item address items i) item (subst (λ (a : ℕ). IsGivenMemoryCell given (a % 512)) (sym (fit.cells i l)) at) rest cell b
    ]

dot_by : (node : NodeState) (address word k : ℕ) → word_at_address node address ≡ Some word → k < 4 → opcode word k ≡ Nop → has_opcode_in_slot (word_at_address node address) k Nop ≡ true
dot_by node address word k at l e = subst (λ (w : Option ℕ). has_opcode_in_slot w k Nop ≡ true) (sym at) (has_op_by word k Nop l e)

-- after the last item there is `.`
dots_by : (node : NodeState) (address word size : ℕ) → word_at_address node address ≡ Some word → 0 < size → size < 4 → ((k : ℕ) → size ≤ k → k < 4 → opcode word k ≡ Nop) → dots (word_at_address node address) size ≡ true
dots_by node address word size at some few nops =
    let w = word_at_address node address in
    and_from ((nat_lt 1 size || has_opcode_in_slot w 1 Nop) && (nat_lt 2 size || has_opcode_in_slot w 2 Nop)) (has_opcode_in_slot w 3 Nop)
    (and_from (nat_lt 1 size || has_opcode_in_slot w 1 Nop) (nat_lt 2 size || has_opcode_in_slot w 2 Nop)
    (elim (cases_lt 1 size) [ inl l ↦ or_left (nat_lt 1 size) (has_opcode_in_slot w 1 Nop) (lt-ltb 1 size l) | inr l ↦ or_right (nat_lt 1 size) (has_opcode_in_slot w 1 Nop) (dot_by node address word 1 at (omega arith) (nops 1 l (omega arith))) ])
    (elim (cases_lt 2 size) [ inl l ↦ or_left (nat_lt 2 size) (has_opcode_in_slot w 2 Nop) (lt-ltb 2 size l) | inr l ↦ or_right (nat_lt 2 size) (has_opcode_in_slot w 2 Nop) (dot_by node address word 2 at (omega arith) (nops 2 l (omega arith))) ]))
    (dot_by node address word 3 at (omega arith) (nops 3 (omega arith) (omega arith)))

filled_at : (node : NodeState) (labels : List (Option ℕ)) (address word n : ℕ) (items : List AssemblyItem) (spot : PackingSpot) → length items ≡ n + 1 → length items ≤ 4 → AreItemsFitting labels address items → IsWordOfItems labels items word → word_at_address node address ≡ Some word → spot ≡ spot_after_item (spot_of_item address items n) (slice_index_or items n nothing) → is_filled_with_nops node spot ≡ true
filled_at node labels address word n items spot size few fit is_word at is_spot = elim (cases_eq spot.slot 0) [
  | inl e ↦ or_left (spot.slot == 0) (dots (word_at_address node spot.at) spot.slot) (eq-eqb spot.slot 0 e)
  | inr other ↦
      let last = spot_of_item address items n in
      let item = slice_index_or items n nothing in
      let l : n < length items = omega arith in
      let open_cell : (spot_after_item last item).slot ≢ 0 = (λ e. other (ap (λ (s : PackingSpot). s.slot) is_spot ∙ e)) in
      let parts = behind-slot last item open_cell in
      let slot : spot.slot ≡ n + 1 = ap (λ (s : PackingSpot). s.slot) is_spot ∙ (parts.0 ∙ ap (λ (k : ℕ). k + 1) (fit.slots n l)) in
      let n_is : n ≢ 3 = (λ e. parts.1 (fit.slots n l ∙ e)) in
      let small : n + 1 < 4 = elim (cases_lt (n + 1) 4) [ inl h ↦ h | inr h ↦ absurd (n_is (omega arith)) ] in
      let cell : spot.at ≡ address = ap (λ (s : PackingSpot). s.at) is_spot ∙ (behind-same last item open_cell ∙ fit.cells n l) in
      let end : length items - 1 ≡ n = omega arith in
      or_right (spot.slot == 0) (dots (word_at_address node spot.at) spot.slot)
      (subst (λ (k : ℕ). dots (word_at_address node spot.at) k ≡ true) (sym slot)
      (subst (λ (a : ℕ). dots (word_at_address node a) (n + 1) ≡ true) (sym cell)
      (dots_by node address word (n + 1) at (omega arith) small (λ k h m. is_word.dots k (omega arith) m (ap (λ (j : ℕ). item_ends_cell (slice_index_or items j nothing)) end ∙ parts.2)))))
]

-- the group is read if each of its items is in place
pub group_loaded : (node : NodeState) (labels given : List (Option ℕ)) (group : CellGroup) (word : ℕ) → group.broken ≡ None → 0 < length group.items.items → length group.items.items ≤ 4 → AreItemsFitting labels group.address group.items.items → IsWordOfItems labels group.items.items word → word_at_address node group.address ≡ Some word → AreItemsInPlace node labels (first_spot_of_cell group.address) group.items.items → ((cell : ℕ) → taken (first_spot_of_cell group.address) group.items.items cell ≡ true → IsGivenMemoryCell given cell) → IsLoadedGroup node labels given group
group_loaded node labels given group word whole some few fit is_word at h held =
    let items = group.items.items in
    let n = length items - 1 in
    let l : n < length items = omega arith in
    let size : length items ≡ n + 1 = omega arith in
    record {
      read = record {
        whole = whole;
        cell = record {
          items_stand = h;
          filled = filled_at node labels group.address word n items (spot_after_items (first_spot_of_cell group.address) items) size few fit is_word at
              (ap (spot_after_items (first_spot_of_cell group.address)) (sym (take_all (n + 1) items (omega arith))) ∙ step_spot group.address items n l);
        };
      };
      held = held;
    }

-- a group with no items
pub empty_loaded : (node : NodeState) (labels given : List (Option ℕ)) (group : CellGroup) → group.broken ≡ None → group.items.items ≡ [] → IsLoadedGroup node labels given group
unfolding taken
empty_loaded node labels given group whole empty = record {
  read = record { whole = whole; cell = empty_reads node labels group.address group.items.items empty };
  held = λ cell h. absurd (true≢false (sym (subst (λ (list : List AssemblyItem). taken (first_spot_of_cell group.address) list cell ≡ true) empty h)));
}

-- ---- a group that is being written

pub rest_both : (first second third : NodeState) → KeepsOtherThanMemories first second → KeepsOtherThanMemories second third → KeepsOtherThanMemories first third
rest_both first second third one two = two ∙ ap (λ (node : NodeState). record node { ram = third.ram; rom = third.rom }) one

takes_own : (spot : PackingSpot) (item : AssemblyItem) (cell : ℕ) → is_address_of_cell spot.at cell ≡ true → item_uses_cell spot item cell ≡ true
takes_own spot (Opcode op) cell h = h
takes_own spot (Literal value) cell h = or_left (is_address_of_cell spot.at cell) (is_address_of_cell spot.p cell) h
takes_own spot (JumpToEarlierLabel op label) cell h = h
takes_own spot (JumpToLaterLabel op label) cell h = h
takes_own spot (Cell value) cell h = h

own_cell : (address : ℕ) (items : List AssemblyItem) (cell : ℕ) → 0 < length items → is_address_of_cell address cell ≡ true → taken (first_spot_of_cell address) items cell ≡ true
unfolding taken
own_cell address [] cell some h = absurd (omega arith)
own_cell address (first ∷ rest) cell some h = or_left (item_uses_cell (first_spot_of_cell address) first cell) (taken (spot_after_item (first_spot_of_cell address) first) rest cell) (takes_own (first_spot_of_cell address) first cell h)

pub written_first : (before node : NodeState) (given later labels : List (Option ℕ)) (group : CellGroup) (word : ℕ) (spot : PackingSpot) → 0 < length group.items.items → IsWordOfItems labels group.items.items word → KeepsOtherThanMemories before node → KeepsOtherCells (is_address_of_cell group.address) before node → word_at_address node group.address ≡ Some word → IsGivenMemoryCell later (group.address % 512) → KeepsGivenCells before given node later → spot ≡ first_spot_of_cell group.address → IsGroupBeingWritten before given node later labels group spot 0
unfolding spot_after_items AreItemsInPlace taken
written_first before node given later labels group word spot some is_word rest elsewhere stands_there held kept spot_is = record {
  where_is = spot_is;
  rest = rest;
  elsewhere = elsewhere_less (λ (cell : ℕ). group_uses_cell cell group) (is_address_of_cell group.address) before node (λ cell h. own_cell group.address group.items.items cell some h) elsewhere;
  kept = kept;
  has_word = record { word = word; is_word = is_word; in_cell = stands_there };
  held = held;
  so_far = tt;
  cells = λ cell h. absurd (true≢false (sym h));
}

pub written_more : (before node next : NodeState) (given later given_next labels : List (Option ℕ)) (group : CellGroup) (spot spot_next : PackingSpot) (i : ℕ) → IsGroupBeingWritten before given node later labels group spot i → i < length group.items.items → length group.items.items ≤ 4 → AreItemsFitting labels group.address group.items.items → KeepsOtherThanMemories node next → KeepsOtherCells (item_uses_cell spot (slice_index_or group.items.items i nothing)) node next → HasItemOperand next labels spot (slice_index_or group.items.items i nothing) → IsLiteralCellGiven given_next spot (slice_index_or group.items.items i nothing) → KeepsGivenCells node later next given_next → spot_next ≡ spot_after_item spot (slice_index_or group.items.items i nothing) → IsGroupBeingWritten before given next given_next labels group spot_next (i + 1)
written_more before node next given later given_next labels group spot spot_next i w l few fit rest elsewhere has held kept is_next =
    let items = group.items.items in
    let item = slice_index_or items i nothing in
    let here = w.where_is in
    let cell_word : word_at_address next group.address ≡ Some w.has_word.word = (kept group.address w.held).0 ∙ w.has_word.in_cell in
    let cell_held : IsGivenMemoryCell given_next (group.address % 512) = (kept group.address w.held).1 in
    record {
      where_is = is_next ∙ (ap (λ (s : PackingSpot). spot_after_item s item) here ∙ sym (step_spot group.address items i l));
      rest = rest_both before node next w.rest rest;
      elsewhere = elsewhere_both (λ (cell : ℕ). group_uses_cell cell group) (item_uses_cell spot item) before node next (λ cell h. taken_at (first_spot_of_cell group.address) items i cell l (subst (λ (s : PackingSpot). item_uses_cell s item cell ≡ true) here h)) w.elsewhere elsewhere;
      kept = keeps_both before node next given later given_next w.kept kept;
      has_word = record { word = w.has_word.word; is_word = w.has_word.is_word; in_cell = cell_word };
      held = cell_held;
      so_far = stand_more next labels group.address w.has_word.word items i l few fit w.has_word.is_word cell_word (subst (λ (s : PackingSpot). HasItemOperand next labels s item) here has)
          (Stand_stays node next later given_next kept labels (first_spot_of_cell group.address) (take i items) w.cells w.so_far);
      cells = held_more labels given_next group.address items i l fit cell_held (subst (λ (s : PackingSpot). IsLiteralCellGiven given_next s item) here held)
          (λ cell h. holds_stays node next later given_next kept cell (w.cells cell h));
    }

-- the same with the item under another name
pub written_step : (before node next : NodeState) (given later given_next labels : List (Option ℕ)) (group : CellGroup) (spot spot_next : PackingSpot) (i : ℕ) (item : AssemblyItem) → item ≡ slice_index_or group.items.items i nothing → IsGroupBeingWritten before given node later labels group spot i → i < length group.items.items → length group.items.items ≤ 4 → AreItemsFitting labels group.address group.items.items → KeepsOtherThanMemories node next → KeepsOtherCells (item_uses_cell spot item) node next → HasItemOperand next labels spot item → IsLiteralCellGiven given_next spot item → KeepsGivenCells node later next given_next → spot_next ≡ spot_after_item spot item → IsGroupBeingWritten before given next given_next labels group spot_next (i + 1)
written_step before node next given later given_next labels group spot spot_next i item is_item_request w l few fit rest elsewhere has held kept is_next =
    written_more before node next given later given_next labels group spot spot_next i w l few fit rest
    (subst (λ (one : AssemblyItem). KeepsOtherCells (item_uses_cell spot one) node next) is_item_request elsewhere)
    (subst (λ (one : AssemblyItem). HasItemOperand next labels spot one) is_item_request has)
    (subst (λ (one : AssemblyItem). IsLiteralCellGiven given_next spot one) is_item_request held)
    kept (is_next ∙ ap (λ (one : AssemblyItem). spot_after_item spot one) is_item_request)

pub written_last : (before node : NodeState) (given later labels : List (Option ℕ)) (group : CellGroup) (spot : PackingSpot) (i : ℕ) → IsGroupBeingWritten before given node later labels group spot i → length group.items.items ≤ i → 0 < length group.items.items → length group.items.items ≤ 4 → AreItemsFitting labels group.address group.items.items → group.broken ≡ None → IsLoadedGroup node labels later group
written_last before node given later labels group spot i w all some few fit whole =
    let items = group.items.items in
    let same = take_all i items all in
    group_loaded node labels later group w.has_word.word whole some few fit w.has_word.is_word w.has_word.in_cell
    (subst (AreItemsInPlace node labels (first_spot_of_cell group.address)) same w.so_far)
    (λ cell h. w.cells cell (subst (λ (list : List AssemblyItem). taken (first_spot_of_cell group.address) list cell ≡ true) (sym same) h))

pub slot_there : (before node : NodeState) (given later labels : List (Option ℕ)) (group : CellGroup) (spot : PackingSpot) (i : ℕ) → IsGroupBeingWritten before given node later labels group spot i → i < length group.items.items → length group.items.items ≤ 4 → AreItemsFitting labels group.address group.items.items → spot.slot < 4
slot_there before node given later labels group spot i w l few fit =
    let slot : spot.slot ≡ i = ap (λ (s : PackingSpot). s.slot) w.where_is ∙ fit.slots i l in omega arith

-- the groups so far and one more
pub loaded_more : (before after : NodeState) (given later labels : List (Option ℕ)) (groups : List CellGroup) (i : ℕ) (none : CellGroup) → i < length groups → KeepsGivenCells before given after later → All (IsLoadedGroup before labels given) (take i groups) → IsLoadedGroup after labels later (slice_index_or groups i none) → All (IsLoadedGroup after labels later) (take (i + 1) groups)
loaded_more before after given later labels groups i none l kept all one =
    All-more (IsLoadedGroup after labels later) groups i none l
    (All-weaker (IsLoadedGroup before labels given) (IsLoadedGroup after labels later) (λ g h. loaded_stays before after given later kept labels g h) (take i groups) all) one

pub elsewhere_more : (first second third : NodeState) (groups : List CellGroup) (i : ℕ) (none : CellGroup) → i < length groups → KeepsOtherCells (is_cell_in_groups groups) first second → KeepsOtherCells (λ (cell : ℕ). group_uses_cell cell (slice_index_or groups i none)) second third → KeepsOtherCells (is_cell_in_groups groups) first third
elsewhere_more first second third groups i none l one two = elsewhere_both (is_cell_in_groups groups) (λ (cell : ℕ). group_uses_cell cell (slice_index_or groups i none)) first second third (λ cell h. group_at groups i cell none l h) one two

pub all_read : (node : NodeState) (labels given : List (Option ℕ)) (groups : List CellGroup) (i : ℕ) → length groups ≤ i → All (IsLoadedGroup node labels given) (take i groups) → All (IsGroupRead node labels) groups
all_read node labels given groups i all h = All-weaker (IsLoadedGroup node labels given) (IsGroupRead node labels) (λ g loaded. loaded.read) groups (subst (All (IsLoadedGroup node labels given)) (take_all i groups all) h)
