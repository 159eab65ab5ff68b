-- Items and requests in sequence, one more of them, and the words of groups.
use Rattle.std.specs.Prelude.{◌==◌, ◌&&◌, ◌||◌, not, nat_lt, cond, IfSome}
use Rattle.std.proofs.Common.{◌≡◌, ◌≢◌, ◌∙◌, ℕ, ◌+◌, ◌⊎◌, inl, inr, refl, sym, ap, subst, Bool, true, false, List, [], ◌∷◌, ◌++◌, Option, Some, None, slice_index_or, arith, ◌-◌, ◌%◌, ◌<◌, ◌≤◌, length}
use Rattle.std.proofs.lemmas.Bool.{or_cases, or_left, or_right, and_from, or_parts, cond-true, cond-false, true≢false, cases_eq, eqb-false, eq-eqb, ne_eqb, and_parts, eqb-true, ltb-true}
use Rattle.ga_node.specs.Record.{NodeState}
use Rattle.ga_parser.specs.declared.item.AssemblyItem.{AssemblyItem}
use Rattle.ga_parser.specs.declared.item.AssemblyItem.TheVariants.{Opcode, Literal, JumpToEarlierLabel, JumpToLaterLabel, Cell}
use Rattle.ga_parser.specs.declared.item.LocatedRequest.{LocatedRequest}
use Rattle.ga_source.specs.declared.group.PackingSpot.{PackingSpot}
use Rattle.ga_source.specs.Reading.{first_spot_of_cell, next_empty_cell_spot, spot_after_item, item_ends_cell, p_after_item, item_advances_p, is_item_at_spot, is_filled_with_nops, item_fits_at_spot, item_spot, slot_reaches_address, is_request_met, spot_after_request, cells_match_requests, operand_value, are_equal_numbers}
use Rattle.ga_source.specs.Cells.{item_uses_cell, request_uses_cell, requests_use_cell}
use Rattle.ga_source.specs.inner.{spot_after_items, AreItemsInPlace, taken, AreItemsReadAt, AreItemsFitting, spot_after_requests, AreRequestsMet, ExtendsLabelAddresses, HasKnownLabelIfJumpBack, opcode_of_item, nothing, spot_of_item, JumpReachesLabel, HasItemInSlot, MayEndCell, IsWordOfItems}
use Rattle.std.proofs.lemmas.List.{take_more}
use Rattle.ga_slots.specs.Codes.{code_of_opcode}
use Rattle.ga_slots.specs.Slots.{opcode, target}
use Rattle.ga_slots.specs.declared.op.Op.{Op}
use Rattle.ga_slots.specs.declared.op.Op.TheVariants.{Nop}
use Rattle.ga_parser.specs.declared.item.Operand.TheVariants.{Label}

-- ---- items

pub spot_after_items-push : (spot : PackingSpot) (items : List AssemblyItem) (item : AssemblyItem) → spot_after_items spot (items ++ item ∷ []) ≡ spot_after_item (spot_after_items spot items) item
unfolding spot_after_items
spot_after_items-push spot [] item = refl
spot_after_items-push spot (first ∷ rest) item = spot_after_items-push (spot_after_item spot first) rest item

pub AreItemsInPlace-pop : (node : NodeState) (labels : List (Option ℕ)) (spot : PackingSpot) (items : List AssemblyItem) (item : AssemblyItem) → AreItemsInPlace node labels spot (items ++ item ∷ []) → AreItemsInPlace node labels spot items × (is_item_at_spot node labels (spot_after_items spot items) item ≡ true)
unfolding AreItemsInPlace spot_after_items
AreItemsInPlace-pop node labels spot [] item h = (tt, h.0)
AreItemsInPlace-pop node labels spot (first ∷ rest) item h =
    let parts = AreItemsInPlace-pop node labels (spot_after_item spot first) rest item h.1 in ((h.0, parts.0), parts.1)

pub AreItemsInPlace-push : (node : NodeState) (labels : List (Option ℕ)) (spot : PackingSpot) (items : List AssemblyItem) (item : AssemblyItem) → AreItemsInPlace node labels spot items → is_item_at_spot node labels (spot_after_items spot items) item ≡ true → AreItemsInPlace node labels spot (items ++ item ∷ [])
unfolding AreItemsInPlace spot_after_items
AreItemsInPlace-push node labels spot [] item h last = (last, tt)
AreItemsInPlace-push node labels spot (first ∷ rest) item h last = (h.0, AreItemsInPlace-push node labels (spot_after_item spot first) rest item h.1 last)

pub taken-pop : (spot : PackingSpot) (items : List AssemblyItem) (item : AssemblyItem) (cell : ℕ) → taken spot (items ++ item ∷ []) cell ≡ true → (taken spot items cell ≡ true) ⊎ (item_uses_cell (spot_after_items spot items) item cell ≡ true)
unfolding taken spot_after_items
taken-pop spot [] item cell h = elim (or_cases (item_uses_cell spot item cell) false h) [ inl e ↦ inr e | inr e ↦ inl e ]
taken-pop spot (first ∷ rest) item cell h = elim (or_cases (item_uses_cell spot first cell) (taken (spot_after_item spot first) (rest ++ item ∷ []) cell) h) [
  | inl e ↦ inl (or_left (item_uses_cell spot first cell) (taken (spot_after_item spot first) rest cell) e)
  | inr e ↦ elim (taken-pop (spot_after_item spot first) rest item cell e) [
    | inl a ↦ inl (or_right (item_uses_cell spot first cell) (taken (spot_after_item spot first) rest cell) a)
    | inr b ↦ inr b
  ]
]

-- a cell with no items reads as it should
pub empty_reads : (node : NodeState) (labels : List (Option ℕ)) (address : ℕ) (items : List AssemblyItem) → items ≡ [] → AreItemsReadAt node labels address items
unfolding AreItemsInPlace spot_after_items
empty_reads node labels address items e = subst (AreItemsReadAt node labels address) (sym e) (record { items_stand = tt; filled = refl })

pub empty_fits : (labels : List (Option ℕ)) (address : ℕ) (items : List AssemblyItem) → items ≡ [] → AreItemsFitting labels address items
empty_fits labels address items e = subst (AreItemsFitting labels address) (sym e) (record {
  slots = λ k h. absurd (omega arith);
  cells = λ k h. absurd (omega arith);
  room = λ k h. absurd (omega arith);
})

-- ---- where the next item is

chosen_cell : (b : Bool) (p address : ℕ) (next : PackingSpot) → next.at ≡ address → (cond b (first_spot_of_cell p) next).slot ≢ 0 → (cond b (first_spot_of_cell p) next).at ≡ address
chosen_cell true p address next e h = absurd (h refl)
chosen_cell false p address next e h = e

chosen_begins : (b : Bool) (p : ℕ) (next : PackingSpot) → next.slot ≢ 0 → (cond b (first_spot_of_cell p) next).slot ≡ 0 → cond b (first_spot_of_cell p) next ≡ first_spot_of_cell (cond b (first_spot_of_cell p) next).at
chosen_begins true p next n h = refl
chosen_begins false p next n h = absurd (n h)

chosen_slot : (b : Bool) (p slot : ℕ) (next : PackingSpot) → next.slot ≡ slot → (cond b (first_spot_of_cell p) next).slot ≢ 0 → ((cond b (first_spot_of_cell p) next).slot ≡ slot) × (b ≡ false)
chosen_slot true p slot next e h = absurd (h refl)
chosen_slot false p slot next e h = (e, refl)

-- the spot after an item is in the same cell, or at the beginning of another
pub behind-same : (spot : PackingSpot) (item : AssemblyItem) → (spot_after_item spot item).slot ≢ 0 → (spot_after_item spot item).at ≡ spot.at
behind-same spot item h = chosen_cell (item_ends_cell item || spot.slot == 3) (p_after_item spot.p item) spot.at (record { at = spot.at; slot = spot.slot + 1; p = p_after_item spot.p item; is_p_moved = spot.is_p_moved || item_advances_p item }) refl h

pub behind-begins : (spot : PackingSpot) (item : AssemblyItem) → (spot_after_item spot item).slot ≡ 0 → spot_after_item spot item ≡ first_spot_of_cell (spot_after_item spot item).at
behind-begins spot item h = chosen_begins (item_ends_cell item || spot.slot == 3) (p_after_item spot.p item) (record { at = spot.at; slot = spot.slot + 1; p = p_after_item spot.p item; is_p_moved = spot.is_p_moved || item_advances_p item }) (λ e. absurd (omega arith)) h

pub behind-slot : (spot : PackingSpot) (item : AssemblyItem) → (spot_after_item spot item).slot ≢ 0 → ((spot_after_item spot item).slot ≡ spot.slot + 1) × (spot.slot ≢ 3) × (item_ends_cell item ≡ false)
behind-slot spot item h =
    let parts = chosen_slot (item_ends_cell item || spot.slot == 3) (p_after_item spot.p item) (spot.slot + 1) (record { at = spot.at; slot = spot.slot + 1; p = p_after_item spot.p item; is_p_moved = spot.is_p_moved || item_advances_p item }) refl h in
    let neither = or_parts (item_ends_cell item) (spot.slot == 3) parts.1 in
    (parts.0, eqb-false spot.slot 3 neither.1, neither.0)

pub behind-opened : (spot : PackingSpot) (item : AssemblyItem) → (spot_after_item spot item).slot ≢ 0 → item_ends_cell item ≡ false
behind-opened spot item h = (behind-slot spot item h).2

pub next-begins : (spot : PackingSpot) → (spot.slot ≡ 0 → first_spot_of_cell spot.at ≡ spot) → next_empty_cell_spot spot ≡ first_spot_of_cell (next_empty_cell_spot spot).at
next-begins spot h = elim (cases_eq spot.slot 0) [
  | inl e ↦ let same = cond-true (spot.slot == 0) spot (first_spot_of_cell spot.p) (eq-eqb spot.slot 0 e) in same ∙ (sym (h e) ∙ ap (λ (s : PackingSpot). first_spot_of_cell s.at) (sym same))
  | inr n ↦ let same = cond-false (spot.slot == 0) spot (first_spot_of_cell spot.p) (ne_eqb spot.slot 0 n) in same ∙ ap (λ (s : PackingSpot). first_spot_of_cell s.at) (sym same)
]

pub next-slot : (spot : PackingSpot) → (next_empty_cell_spot spot).slot ≡ 0
next-slot spot = elim (cases_eq spot.slot 0) [
  | inl e ↦ ap (λ (s : PackingSpot). s.slot) (cond-true (spot.slot == 0) spot (first_spot_of_cell spot.p) (eq-eqb spot.slot 0 e)) ∙ e
  | inr n ↦ ap (λ (s : PackingSpot). s.slot) (cond-false (spot.slot == 0) spot (first_spot_of_cell spot.p) (ne_eqb spot.slot 0 n))
]

-- ---- room

pub None≢Some : (address : ℕ) → ◌≡◌ {A = Option ℕ} None (Some address) → ⊥
None≢Some address e = cc

pub begin_fits : (labels : List (Option ℕ)) (address : ℕ) (item : AssemblyItem) → item_fits_at_spot labels (first_spot_of_cell address) item ≡ true
begin_fits labels address (Opcode op) = refl
begin_fits labels address (Literal value) = refl
begin_fits labels address (JumpToEarlierLabel op label) = refl
begin_fits labels address (JumpToLaterLabel op label) = refl
begin_fits labels address (Cell value) = refl

known_by : (before after : List (Option ℕ)) (label : ℕ) (found : Option ℕ) → ExtendsLabelAddresses before after → slice_index_or before label None ≢ None → slice_index_or before label None ≡ found → slice_index_or after label None ≡ slice_index_or before label None
known_by before after label None more known e = absurd (known e)
known_by before after label (Some address) more known e = more label address e ∙ sym e

-- labels that become known change nothing of what has room
pub item_fits_at_spot-extends : (before after : List (Option ℕ)) (spot : PackingSpot) (item : AssemblyItem) → ExtendsLabelAddresses before after → HasKnownLabelIfJumpBack before item → item_fits_at_spot after spot item ≡ item_fits_at_spot before spot item
item_fits_at_spot-extends before after spot (Opcode op) more known = refl
item_fits_at_spot-extends before after spot (Literal value) more known = refl
item_fits_at_spot-extends before after spot (JumpToEarlierLabel op label) more known = ap (λ (found : Option ℕ). spot.slot == 0 || not spot.is_p_moved && nat_lt spot.slot 3 && slot_reaches_address spot.p spot.slot found) (known_by before after label (slice_index_or before label None) more known refl)
item_fits_at_spot-extends before after spot (JumpToLaterLabel op label) more known = refl
item_fits_at_spot-extends before after spot (Cell value) more known = refl

pub here-item_fits_at_spot : (labels : List (Option ℕ)) (spot : PackingSpot) (item : AssemblyItem) → item_fits_at_spot labels spot item ≡ true → item_spot labels spot item ≡ spot
here-item_fits_at_spot labels spot item e = cond-true (item_fits_at_spot labels spot item) spot (next_empty_cell_spot spot) e

pub next-item_fits_at_spot : (labels : List (Option ℕ)) (spot : PackingSpot) (item : AssemblyItem) → item_fits_at_spot labels spot item ≡ false → item_spot labels spot item ≡ next_empty_cell_spot spot
next-item_fits_at_spot labels spot item e = cond-false (item_fits_at_spot labels spot item) spot (next_empty_cell_spot spot) e

-- ---- requests

pub spot_after_requests-push : (labels : List (Option ℕ)) (spot : PackingSpot) (asked : List LocatedRequest) (one : LocatedRequest) → spot_after_requests labels spot (asked ++ one ∷ []) ≡ spot_after_request labels (spot_after_requests labels spot asked) one.request
unfolding spot_after_requests
spot_after_requests-push labels spot [] one = refl
spot_after_requests-push labels spot (first ∷ rest) one = spot_after_requests-push labels (spot_after_request labels spot first.request) rest one

pub AreRequestsMet-push : (node : NodeState) (labels : List (Option ℕ)) (spot : PackingSpot) (asked : List LocatedRequest) (one : LocatedRequest) → AreRequestsMet node labels spot asked → is_request_met node labels (spot_after_requests labels spot asked) one.request ≡ true → AreRequestsMet node labels spot (asked ++ one ∷ [])
unfolding AreRequestsMet spot_after_requests
AreRequestsMet-push node labels spot [] one met last = (last, tt)
AreRequestsMet-push node labels spot (first ∷ rest) one met last = (met.0, AreRequestsMet-push node labels (spot_after_request labels spot first.request) rest one met.1 last)

pub requests_use_cell-before : (labels : List (Option ℕ)) (spot : PackingSpot) (asked : List LocatedRequest) (one : LocatedRequest) (cell : ℕ) → requests_use_cell labels spot asked cell ≡ true → requests_use_cell labels spot (asked ++ one ∷ []) cell ≡ true
unfolding requests_use_cell
requests_use_cell-before labels spot [] one cell h = absurd (true≢false (sym h))
requests_use_cell-before labels spot (first ∷ rest) one cell h = elim (or_cases (request_uses_cell labels spot first.request cell) (requests_use_cell labels (spot_after_request labels spot first.request) rest cell) h) [
  | inl e ↦ or_left (request_uses_cell labels spot first.request cell) (requests_use_cell labels (spot_after_request labels spot first.request) (rest ++ one ∷ []) cell) e
  | inr e ↦ or_right (request_uses_cell labels spot first.request cell) (requests_use_cell labels (spot_after_request labels spot first.request) (rest ++ one ∷ []) cell) (requests_use_cell-before labels (spot_after_request labels spot first.request) rest one cell e)
]

pub requests_use_cell-last : (labels : List (Option ℕ)) (spot : PackingSpot) (asked : List LocatedRequest) (one : LocatedRequest) (cell : ℕ) → request_uses_cell labels (spot_after_requests labels spot asked) one.request cell ≡ true → requests_use_cell labels spot (asked ++ one ∷ []) cell ≡ true
unfolding requests_use_cell spot_after_requests
requests_use_cell-last labels spot [] one cell h = or_left (request_uses_cell labels spot one.request cell) false h
requests_use_cell-last labels spot (first ∷ rest) one cell h = or_right (request_uses_cell labels spot first.request cell) (requests_use_cell labels (spot_after_request labels spot first.request) (rest ++ one ∷ []) cell) (requests_use_cell-last labels (spot_after_request labels spot first.request) rest one cell h)

pub cells_match_requests-met : (node : NodeState) (labels : List (Option ℕ)) (spot : PackingSpot) (asked : List LocatedRequest) → AreRequestsMet node labels spot asked → is_filled_with_nops node (spot_after_requests labels spot asked) ≡ true → cells_match_requests node labels spot asked ≡ true
unfolding cells_match_requests AreRequestsMet spot_after_requests
cells_match_requests-met node labels spot [] met last = last
cells_match_requests-met node labels spot (first ∷ rest) met last = and_from (is_request_met node labels spot first.request) (cells_match_requests node labels (spot_after_request labels spot first.request) rest) met.0 (cells_match_requests-met node labels (spot_after_request labels spot first.request) rest met.1 last)

-- ---- the words of groups

may_end : (labels : List (Option ℕ)) (spot : PackingSpot) (item : AssemblyItem) → item_fits_at_spot labels spot item ≡ true → MayEndCell spot.slot item
may_end labels spot (Opcode op) h = tt
may_end labels spot (Literal value) h = tt
may_end labels spot (JumpToEarlierLabel op label) h = elim (or_cases (spot.slot == 0) (not spot.is_p_moved && nat_lt spot.slot 3 && slot_reaches_address spot.p spot.slot (operand_value labels (Label label))) h) [
  | inl e ↦ let first = eqb-true spot.slot 0 e in omega arith
  | inr e ↦ ltb-true spot.slot 3 ((and_parts (not spot.is_p_moved) (nat_lt spot.slot 3) ((and_parts (not spot.is_p_moved && nat_lt spot.slot 3) (slot_reaches_address spot.p spot.slot (operand_value labels (Label label))) e).0)).1)
]
may_end labels spot (JumpToLaterLabel op label) h = elim (or_cases (spot.slot == 0) (not spot.is_p_moved && nat_lt spot.slot 2) h) [
  | inl e ↦ let first = eqb-true spot.slot 0 e in omega arith
  | inr e ↦ let few = ltb-true spot.slot 2 ((and_parts (not spot.is_p_moved) (nat_lt spot.slot 2) e).1) in omega arith
]
may_end labels spot (Cell value) h = eqb-true spot.slot 0 h

fourth : (labels : List (Option ℕ)) (spot : PackingSpot) (item : AssemblyItem) → spot.slot ≡ 3 → item_fits_at_spot labels spot item ≡ true → code_of_opcode (opcode_of_item item) % 4 ≡ 0
fourth labels spot (Opcode op) e h = elim (or_cases (nat_lt spot.slot 3) (code_of_opcode op % 4 == 0) h) [
  | inl l ↦ let few = ltb-true spot.slot 3 l in absurd (omega arith)
  | inr m ↦ eqb-true (code_of_opcode op % 4) 0 m
]
fourth labels spot (Literal value) e h = refl
fourth labels spot (JumpToEarlierLabel op label) e h = let few : spot.slot < 3 = may_end labels spot (JumpToEarlierLabel op label) h in absurd (omega arith)
fourth labels spot (JumpToLaterLabel op label) e h = let few : spot.slot < 3 = may_end labels spot (JumpToLaterLabel op label) h in absurd (omega arith)
fourth labels spot (Cell value) e h = let first : spot.slot ≡ 0 = may_end labels spot (Cell value) h in absurd (omega arith)

pub four_codes : (labels : List (Option ℕ)) (address : ℕ) (items : List AssemblyItem) → AreItemsFitting labels address items → length items ≡ 4 → code_of_opcode (opcode_of_item (slice_index_or items 3 nothing)) % 4 ≡ 0
four_codes labels address items fit e =
    let l : 3 < length items = omega arith in
    fourth labels (spot_of_item address items 3) (slice_index_or items 3 nothing) (fit.slots 3 l) (fit.room 3 l)

pub last_ends : (labels : List (Option ℕ)) (address : ℕ) (items : List AssemblyItem) → AreItemsFitting labels address items → (k : ℕ) → k < length items → MayEndCell k (slice_index_or items k nothing)
last_ends labels address items fit k l = subst (λ (n : ℕ). MayEndCell n (slice_index_or items k nothing)) (fit.slots k l) (may_end labels (spot_of_item address items k) (slice_index_or items k nothing) (fit.room k l))

pub step_spot : (address : ℕ) (items : List AssemblyItem) (k : ℕ) → k < length items → spot_of_item address items (k + 1) ≡ spot_after_item (spot_of_item address items k) (slice_index_or items k nothing)
step_spot address items k l = ap (spot_after_items (first_spot_of_cell address)) (take_more items k nothing l) ∙ spot_after_items-push (first_spot_of_cell address) _ (slice_index_or items k nothing)

not_last : (labels : List (Option ℕ)) (address : ℕ) (items : List AssemblyItem) → AreItemsFitting labels address items → (k : ℕ) → k + 1 < length items → item_ends_cell (slice_index_or items k nothing) ≡ false
not_last labels address items fit k l =
    let few : k < length items = omega arith in
    behind-opened (spot_of_item address items k) (slice_index_or items k nothing) (λ e.
    let zero_is : k + 1 ≡ 0 = sym (fit.slots (k + 1) l) ∙ (ap (λ (s : PackingSpot). s.slot) (step_spot address items k few) ∙ e) in absurd (omega arith))

plain_item : (labels : List (Option ℕ)) (word slot : ℕ) (item : AssemblyItem) → item_ends_cell item ≡ false → opcode word slot ≡ opcode_of_item item → HasItemInSlot labels word slot item
plain_item labels word slot (Opcode op) e h = h
plain_item labels word slot (Literal value) e h = h
plain_item labels word slot (JumpToEarlierLabel op label) e h = absurd (true≢false e)
plain_item labels word slot (JumpToLaterLabel op label) e h = absurd (true≢false e)
plain_item labels word slot (Cell value) e h = absurd (true≢false e)

pub word_has : (labels : List (Option ℕ)) (address : ℕ) (items : List AssemblyItem) (first found : ℕ) → 0 < length items → AreItemsFitting labels address items → ((k : ℕ) → k < length items → opcode first k ≡ opcode_of_item (slice_index_or items k nothing)) → ((k : ℕ) → length items ≤ k → k < 4 → opcode first k ≡ Nop) → (opcode first (length items - 1) ≡ opcode_of_item (slice_index_or items (length items - 1) nothing) → HasItemInSlot labels found (length items - 1) (slice_index_or items (length items - 1) nothing)) → ((k : ℕ) → k < length items - 1 → opcode found k ≡ opcode first k) → (item_ends_cell (slice_index_or items (length items - 1) nothing) ≡ false → found ≡ first) → IsWordOfItems labels items found
word_has labels address items first found some fit ops dots has before same = record {
  has = λ k l. elim (cases_eq k (length items - 1)) [
    | inl e ↦ subst (λ (n : ℕ). HasItemInSlot labels found n (slice_index_or items n nothing)) (sym e) (has (ops (length items - 1) (omega arith)))
    | inr other ↦ plain_item labels found k (slice_index_or items k nothing) (not_last labels address items fit k (omega arith)) (before k (omega arith) ∙ ops k l)
  ];
  dots = λ k l few e. ap (λ (w : ℕ). opcode w k) (same e) ∙ dots k l few;
}

-- a word whose jump leads where its address is reached
pub leads_by : (labels : List (Option ℕ)) (word slot label address : ℕ) → operand_value labels (Label label) ≡ Some address → ((p : ℕ) → slot_reaches_address p slot (Some address) ≡ true → target p word slot ≡ address) → JumpReachesLabel labels word slot label
leads_by labels word slot label address e jump_leads_to_address p h = subst (λ (to : Option ℕ). are_equal_numbers to (Some (target p word slot)) ≡ true) (sym e)
    (eq-eqb address (target p word slot) (sym (jump_leads_to_address p (subst (λ (to : Option ℕ). slot_reaches_address p slot to ≡ true) e h))))

pub same_value : (found : Option ℕ) (word : ℕ) → found ≡ Some word → are_equal_numbers found (Some word) ≡ true
same_value found word e = subst (λ (to : Option ℕ). are_equal_numbers to (Some word) ≡ true) (sym e) (eq-eqb word word refl)

-- a jump that is put into its slot
pub jump_item : (labels : List (Option ℕ)) (result : Option ℕ) (word slot label : ℕ) (op : Op) (last item : AssemblyItem) → last ≡ item → opcode_of_item item ≡ op → ((found : ℕ) → opcode found slot ≡ op → JumpReachesLabel labels found slot label → HasItemInSlot labels found slot item) → IfSome result (λ found. JumpReachesLabel labels found slot label) → IfSome result (λ found. (k : ℕ) → k ≤ slot → opcode found k ≡ opcode word k) → IfSome result (λ found. opcode word slot ≡ opcode_of_item last → HasItemInSlot labels found slot last)
jump_item labels None word slot label op last item e is_op has jump_leads_to_address before = tt
jump_item labels (Some found) word slot label op last item e is_op has jump_leads_to_address before = λ h. subst (HasItemInSlot labels found slot) (sym e) (has found (before slot (omega arith) ∙ (h ∙ (ap opcode_of_item e ∙ is_op))) jump_leads_to_address)

pub word_found : (labels : List (Option ℕ)) (address : ℕ) (items : List AssemblyItem) (first : ℕ) (result : Option ℕ) → 0 < length items → AreItemsFitting labels address items → ((k : ℕ) → k < length items → opcode first k ≡ opcode_of_item (slice_index_or items k nothing)) → ((k : ℕ) → length items ≤ k → k < 4 → opcode first k ≡ Nop) → IfSome result (λ found. opcode first (length items - 1) ≡ opcode_of_item (slice_index_or items (length items - 1) nothing) → HasItemInSlot labels found (length items - 1) (slice_index_or items (length items - 1) nothing)) → IfSome result (λ found. (k : ℕ) → k < length items - 1 → opcode found k ≡ opcode first k) → IfSome result (λ found. item_ends_cell (slice_index_or items (length items - 1) nothing) ≡ false → found ≡ first) → IfSome result (λ found. IsWordOfItems labels items found)
word_found labels address items first None some fit ops dots has before same = tt
word_found labels address items first (Some found) some fit ops dots has before same = word_has labels address items first found some fit ops dots has before same
