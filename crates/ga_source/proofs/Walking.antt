-- The packer's steps keep what it has laid out.
use Rattle.std.specs.Prelude.{◌||◌, is_some}
use Rattle.std.proofs.Common.{◌≡◌, ◌≢◌, ◌∙◌, ℕ, ◌+◌, ◌<◌, inl, inr, refl, sym, ap, subst, true, false, List, [], ◌∷◌, ◌++◌, Option, Some, None, length, take, slice_index_or, arith}
use Rattle.std.specs.List.{All}
use Rattle.std.proofs.lemmas.Bool.{cases_lt, or_cases, or_left, or_right, and_from, true≢false}
use Rattle.std.proofs.lemmas.List.{length_push, get_or_push, get_or_append_left, take-append-le, take_all}
use Rattle.std.proofs.lemmas.List.Folds.{list_any-append}
use Rattle.std.proofs.lemmas.List.Elements.{All-push, All-pop}
use Rattle.ga_node.specs.Record.{NodeState}
use Rattle.ga_parser.specs.declared.item.AssemblyItem.{AssemblyItem}
use Rattle.ga_parser.specs.declared.item.LocatedRequest.{LocatedRequest}
use Rattle.ga_source.specs.declared.group.CellGroup.{CellGroup}
use Rattle.ga_parser.specs.declared.item.AssemblyRequest.TheVariants.{PlaceItem}
use Rattle.ga_source.specs.declared.packing.Packer.{Packer}
use Rattle.ga_source.specs.declared.group.PackingSpot.{PackingSpot}
use Rattle.ga_source.specs.Reading.{first_spot_of_cell, next_empty_cell_spot, spot_after_item, is_item_at_spot, is_filled_with_nops, item_fits_at_spot, item_spot, is_request_met, spot_after_request}
use Rattle.ga_source.specs.Cells.{item_uses_cell, request_uses_cell, requests_use_cell}
use Rattle.ga_source.specs.inner.{nothing, spot_after_items, AreItemsInPlace, taken, AreItemsReadAt, spot_of_item, AreItemsFitting, IsGroupRead, IsFittingGroup, group_uses_cell, is_cell_in_groups, spot_after_requests, AreRequestsMet, ExtendsLabelAddresses, HasKnownLabelIfJumpBack, FillsSlotsBeforeSpot, AreRequestsLaidOut, IsItemPending, IsCellClosed}
use Rattle.ga_source.proofs.Laying.{spot_after_items-push, AreItemsInPlace-pop, taken-pop, empty_reads, empty_fits, behind-same, behind-begins, behind-slot, next-begins, begin_fits, item_fits_at_spot-extends, here-item_fits_at_spot, next-item_fits_at_spot, spot_after_requests-push, AreRequestsMet-push, requests_use_cell-before, requests_use_cell-last}

-- ---- closing

pub none_of : (found : Option ℕ) → is_some found ≡ false → found ≡ None
none_of None e = refl
none_of (Some address) e = absurd (true≢false e)

pub closed_nothing : (before after : Packer) → after ≡ before → before.filling.items ≡ [] → before.broken ≡ None → IsCellClosed before after
closed_nothing before after e empty whole = subst (IsCellClosed before) (sym e) (record {
  labels_stay = refl;
  spot_stays = refl;
  empty = empty;
  whole = whole;
  read = λ node labels all. (all, empty_reads node labels before.spot.at before.filling.items empty, whole);
  fit = λ labels all opened. all;
  cells = λ cell h. inl h;
})

pub closed_group : (before after : Packer) (group : CellGroup) → after.groups.items ≡ before.groups.items ++ group ∷ [] → group.address ≡ before.spot.at → group.items.items ≡ before.filling.items → group.broken ≡ before.broken → after.labels.items ≡ before.labels.items → after.spot ≡ before.spot → after.filling.items ≡ [] → after.broken ≡ None → IsCellClosed before after
closed_group before after group pushed address items broken labels_stay spot_stays empty whole = record {
  labels_stay = labels_stay;
  spot_stays = spot_stays;
  empty = empty;
  whole = whole;
  read = λ node labels all.
      let parts = All-pop (IsGroupRead node labels) after.groups.items before.groups.items (Some group) pushed all in
      (parts.0, subst (λ (a : ℕ). AreItemsReadAt node labels a before.filling.items) address (subst (λ (list : List AssemblyItem). AreItemsReadAt node labels group.address list) items parts.1.cell), sym broken ∙ parts.1.whole);
  fit = λ labels all opened. subst (All (IsFittingGroup labels)) (sym pushed) (All-push (IsFittingGroup labels) before.groups.items group all
      (subst (λ (a : ℕ). AreItemsFitting labels a group.items.items) (sym address) (subst (λ (list : List AssemblyItem). AreItemsFitting labels before.spot.at list) (sym items) opened)));
  cells = λ cell h.
      let e = sym (list_any-append (group_uses_cell cell) before.groups.items (group ∷ [])) ∙ subst (λ (groups : List CellGroup). is_cell_in_groups groups cell ≡ true) pushed h in
      elim (or_cases (is_cell_in_groups before.groups.items cell) (group_uses_cell cell group || false) e) [
        | inl a ↦ inl a
        | inr b ↦ elim (or_cases (group_uses_cell cell group) false b) [
          | inl c ↦ inr (subst (λ (at : ℕ). taken (first_spot_of_cell at) before.filling.items cell ≡ true) address (subst (λ (list : List AssemblyItem). taken (first_spot_of_cell group.address) list cell ≡ true) items c))
          | inr d ↦ absurd (true≢false (sym d))
        ]
      ];
}

-- ---- an item that has room, and one that has none

met_here : (node : NodeState) (labels : List (Option ℕ)) (spot : PackingSpot) (item : AssemblyItem) → item_fits_at_spot labels spot item ≡ true → is_item_at_spot node labels spot item ≡ true → is_request_met node labels spot (PlaceItem item) ≡ true
met_here node labels spot item e h = and_from (item_fits_at_spot labels spot item || is_filled_with_nops node spot) (is_item_at_spot node labels (item_spot labels spot item) item)
    (or_left (item_fits_at_spot labels spot item) (is_filled_with_nops node spot) e)
    (subst (λ (s : PackingSpot). is_item_at_spot node labels s item ≡ true) (sym (here-item_fits_at_spot labels spot item e)) h)

met_next : (node : NodeState) (labels : List (Option ℕ)) (spot : PackingSpot) (item : AssemblyItem) → item_fits_at_spot labels spot item ≡ false → is_filled_with_nops node spot ≡ true → is_item_at_spot node labels (next_empty_cell_spot spot) item ≡ true → is_request_met node labels spot (PlaceItem item) ≡ true
met_next node labels spot item e filled h = and_from (item_fits_at_spot labels spot item || is_filled_with_nops node spot) (is_item_at_spot node labels (item_spot labels spot item) item)
    (or_right (item_fits_at_spot labels spot item) (is_filled_with_nops node spot) filled)
    (subst (λ (s : PackingSpot). is_item_at_spot node labels s item ≡ true) (sym (next-item_fits_at_spot labels spot item e)) h)

-- a request whose place is where the walk is, and which takes what its item takes
pub named_more : (labels : List (Option ℕ)) (spot : PackingSpot) (before : List LocatedRequest) (one : LocatedRequest) (cell : ℕ) → spot_after_requests labels (first_spot_of_cell 0) before ≡ spot → request_uses_cell labels spot one.request cell ≡ true → requests_use_cell labels (first_spot_of_cell 0) (before ++ one ∷ []) cell ≡ true
named_more labels spot before one cell e h = requests_use_cell-last labels (first_spot_of_cell 0) before one cell (subst (λ (s : PackingSpot). request_uses_cell labels s one.request cell ≡ true) (sym e) h)

pub met_more : (node : NodeState) (labels : List (Option ℕ)) (spot : PackingSpot) (before : List LocatedRequest) (one : LocatedRequest) → spot_after_requests labels (first_spot_of_cell 0) before ≡ spot → AreRequestsMet node labels (first_spot_of_cell 0) before → is_request_met node labels spot one.request ≡ true → AreRequestsMet node labels (first_spot_of_cell 0) (before ++ one ∷ [])
met_more node labels spot before one e met h = AreRequestsMet-push node labels (first_spot_of_cell 0) before one met (subst (λ (s : PackingSpot). is_request_met node labels s one.request ≡ true) (sym e) h)

pub walk_more : (labels : List (Option ℕ)) (spot next : PackingSpot) (before : List LocatedRequest) (one : LocatedRequest) → spot_after_requests labels (first_spot_of_cell 0) before ≡ spot → spot_after_request labels spot one.request ≡ next → spot_after_requests labels (first_spot_of_cell 0) (before ++ one ∷ []) ≡ next
walk_more labels spot next before one e h = spot_after_requests-push labels (first_spot_of_cell 0) before one ∙ (ap (λ (s : PackingSpot). spot_after_request labels s one.request) e ∙ h)

takes_at : (labels : List (Option ℕ)) (spot place : PackingSpot) (item : AssemblyItem) (cell : ℕ) → item_spot labels spot item ≡ place → item_uses_cell place item cell ≡ true → request_uses_cell labels spot (PlaceItem item) cell ≡ true
takes_at labels spot place item cell e h = subst (λ (s : PackingSpot). item_uses_cell s item cell ≡ true) (sym e) h

pub pending_here : (p : Packer) (before : List LocatedRequest) (line : ℕ) (item : AssemblyItem) → item_fits_at_spot p.labels.items p.spot item ≡ true → HasKnownLabelIfJumpBack p.labels.items item → AreRequestsLaidOut p before → IsItemPending p (before ++ record { line = line; request = PlaceItem item } ∷ []) item
pending_here p before line item has known w =
    let one : LocatedRequest = record { line = line; request = PlaceItem item } in
    let fit = λ (labels : List (Option ℕ)) (more : ExtendsLabelAddresses p.labels.items labels). item_fits_at_spot-extends p.labels.items labels p.spot item more known ∙ has in
    record {
      here = w.here;
      fit = fit;
      walk = λ labels more. walk_more labels p.spot (spot_after_item p.spot item) before one (w.walk labels more) (ap (λ (s : PackingSpot). spot_after_item s item) (here-item_fits_at_spot labels p.spot item (fit labels more)));
      met = λ node labels more read whole opened last. met_more node labels p.spot before one (w.walk labels more) (w.met node labels more read whole opened) (met_here node labels p.spot item (fit labels more) last);
      named = λ labels cell more h. elim h [
        | inl a ↦ requests_use_cell-before labels (first_spot_of_cell 0) before one cell (w.named labels cell more (inl a))
        | inr b ↦ elim b [
          | inl c ↦ requests_use_cell-before labels (first_spot_of_cell 0) before one cell (w.named labels cell more (inr c))
          | inr d ↦ named_more labels p.spot before one cell (w.walk labels more) (takes_at labels p.spot p.spot item cell (here-item_fits_at_spot labels p.spot item (fit labels more)) d)
        ]
      ];
      groups_fit = w.groups_fit;
      open_fits = w.open_fits;
    }

pub nil_of : (items : List AssemblyItem) → length items ≡ 0 → items ≡ []
nil_of [] e = refl
nil_of (first ∷ rest) e = absurd (omega arith)

pub begun : (items : List AssemblyItem) (spot : PackingSpot) → items ≡ [] → spot ≡ first_spot_of_cell spot.at → spot_after_items (first_spot_of_cell spot.at) items ≡ spot
unfolding spot_after_items
begun items spot e h = ap (λ (list : List AssemblyItem). spot_after_items (first_spot_of_cell spot.at) list) e ∙ sym h

begun_back : (items : List AssemblyItem) (spot : PackingSpot) → items ≡ [] → spot_after_items (first_spot_of_cell spot.at) items ≡ spot → first_spot_of_cell spot.at ≡ spot
unfolding spot_after_items
begun_back items spot e h = subst (λ (list : List AssemblyItem). spot_after_items (first_spot_of_cell spot.at) list ≡ spot) e h

pub none_taken : (spot : PackingSpot) (items : List AssemblyItem) (cell : ℕ) → items ≡ [] → taken spot items cell ≡ true → ⊥
unfolding taken
none_taken spot items cell e h = true≢false (sym (subst (λ (list : List AssemblyItem). taken spot list cell ≡ true) e h))

-- the next cell begins where the packer's cell hasn't begun
pub next_spot : (p : Packer) (before : List LocatedRequest) → FillsSlotsBeforeSpot p → AreRequestsLaidOut p before → next_empty_cell_spot p.spot ≡ first_spot_of_cell (next_empty_cell_spot p.spot).at
next_spot p before c w = next-begins p.spot (λ e. begun_back p.filling.items p.spot (nil_of p.filling.items (c.size ∙ e)) w.here)

pub filled_here : (p : Packer) (before : List LocatedRequest) (node : NodeState) (labels : List (Option ℕ)) → AreRequestsLaidOut p before → AreItemsReadAt node labels p.spot.at p.filling.items → is_filled_with_nops node p.spot ≡ true
filled_here p before node labels w read = subst (λ (s : PackingSpot). is_filled_with_nops node s ≡ true) w.here read.filled

-- ---- a new cell

-- what comes after a closed cell, and is not yet in the next one
pub settled : (p q : Packer) (labels_now : List (Option ℕ)) (s : PackingSpot) (before : List LocatedRequest) (one : LocatedRequest) → AreRequestsLaidOut p before → IsCellClosed p q → ExtendsLabelAddresses p.labels.items labels_now → s ≡ first_spot_of_cell s.at → ((labels : List (Option ℕ)) → spot_after_request labels p.spot one.request ≡ s) → ((node : NodeState) (labels : List (Option ℕ)) → ExtendsLabelAddresses labels_now labels → is_filled_with_nops node p.spot ≡ true → is_request_met node labels p.spot one.request ≡ true) → (r : Packer) → r.groups.items ≡ q.groups.items → r.filling.items ≡ q.filling.items → r.labels.items ≡ labels_now → r.spot ≡ s → AreRequestsLaidOut r (before ++ one ∷ [])
settled p q labels_now s before one w closed more_now begins after met_one r groups filling labels_are spot_is =
    let more = λ (labels : List (Option ℕ)) (e : ExtendsLabelAddresses r.labels.items labels). λ (k address : ℕ) (known : slice_index_or p.labels.items k None ≡ Some address). e k address (subst (λ (list : List (Option ℕ)). slice_index_or list k None ≡ Some address) (sym labels_are) (more_now k address known)) in
    let empty : r.filling.items ≡ [] = filling ∙ closed.empty in
    record {
      here = begun r.filling.items r.spot empty (spot_is ∙ (begins ∙ ap (λ (t : PackingSpot). first_spot_of_cell t.at) (sym spot_is)));
      walk = λ labels e. walk_more labels p.spot r.spot before one (w.walk labels (more labels e)) (after labels ∙ sym spot_is);
      met = λ node labels e read whole opened.
          let parts = closed.read node labels (subst (All (IsGroupRead node labels)) groups read) in
          met_more node labels p.spot before one (w.walk labels (more labels e)) (w.met node labels (more labels e) parts.0 parts.2 parts.1.items_stand)
          (met_one node labels (subst (λ (list : List (Option ℕ)). ExtendsLabelAddresses list labels) labels_are e) (filled_here p before node labels w parts.1));
      named = λ labels cell e h. elim h [
        | inl a ↦ requests_use_cell-before labels (first_spot_of_cell 0) before one cell (w.named labels cell (more labels e) (closed.cells cell (subst (λ (list : List CellGroup). is_cell_in_groups list cell ≡ true) groups a)))
        | inr b ↦ absurd (none_taken (first_spot_of_cell r.spot.at) r.filling.items cell empty b)
      ];
      groups_fit = λ labels e. subst (All (IsFittingGroup labels)) (sym groups) (closed.fit labels (w.groups_fit labels (more labels e)) (w.open_fits labels (more labels e)));
      open_fits = λ labels e. empty_fits labels r.spot.at r.filling.items empty;
    }

pub pending_next : (p q : Packer) (s : PackingSpot) (before : List LocatedRequest) (line : ℕ) (item : AssemblyItem) → s ≡ next_empty_cell_spot p.spot → item_fits_at_spot p.labels.items p.spot item ≡ false → HasKnownLabelIfJumpBack p.labels.items item → FillsSlotsBeforeSpot p → AreRequestsLaidOut p before → IsCellClosed p q → IsItemPending (record q { spot = s }) (before ++ record { line = line; request = PlaceItem item } ∷ []) item
pending_next p q s before line item is_next none known c w closed =
    let one : LocatedRequest = record { line = line; request = PlaceItem item } in
    let more = λ (labels : List (Option ℕ)) (e : ExtendsLabelAddresses q.labels.items labels). subst (λ (list : List (Option ℕ)). ExtendsLabelAddresses list labels) closed.labels_stay e in
    let no_room = λ (labels : List (Option ℕ)) (e : ExtendsLabelAddresses q.labels.items labels). item_fits_at_spot-extends p.labels.items labels p.spot item (more labels e) known ∙ none in
    let begins : s ≡ first_spot_of_cell s.at = is_next ∙ (next_spot p before c w ∙ ap (λ (t : PackingSpot). first_spot_of_cell t.at) (sym is_next)) in
    record {
      here = begun q.filling.items s closed.empty begins;
      fit = λ labels e. subst (λ (t : PackingSpot). item_fits_at_spot labels t item ≡ true) (sym begins) (begin_fits labels s.at item);
      walk = λ labels e. walk_more labels p.spot (spot_after_item s item) before one (w.walk labels (more labels e)) (ap (λ (t : PackingSpot). spot_after_item t item) (next-item_fits_at_spot labels p.spot item (no_room labels e) ∙ sym is_next));
      met = λ node labels e read whole opened last.
          let parts = closed.read node labels read in
          met_more node labels p.spot before one (w.walk labels (more labels e)) (w.met node labels (more labels e) parts.0 parts.2 parts.1.items_stand)
          (met_next node labels p.spot item (no_room labels e) (filled_here p before node labels w parts.1) (subst (λ (t : PackingSpot). is_item_at_spot node labels t item ≡ true) is_next last));
      named = λ labels cell e h. elim h [
        | inl a ↦ requests_use_cell-before labels (first_spot_of_cell 0) before one cell (w.named labels cell (more labels e) (closed.cells cell a))
        | inr b ↦ elim b [
          | inl d ↦ absurd (none_taken (first_spot_of_cell s.at) q.filling.items cell closed.empty d)
          | inr d ↦ named_more labels p.spot before one cell (w.walk labels (more labels e)) (takes_at labels p.spot s item cell (next-item_fits_at_spot labels p.spot item (no_room labels e) ∙ sym is_next) d)
        ]
      ];
      groups_fit = λ labels e. closed.fit labels (w.groups_fit labels (more labels e)) (w.open_fits labels (more labels e));
      open_fits = λ labels e. empty_fits labels s.at q.filling.items closed.empty;
    }

-- ---- one more item in the cell

module _ (address : ℕ) (items : List AssemblyItem) (spot : PackingSpot) (item : AssemblyItem) (here : spot_after_items (first_spot_of_cell address) items ≡ spot) where
  spot_before : (k : ℕ) → k < length items → spot_of_item address (items ++ item ∷ []) k ≡ spot_of_item address items k
  spot_before k l = ap (spot_after_items (first_spot_of_cell address)) (take-append-le k items (item ∷ []) (omega arith))

  spot_last : (k : ℕ) → k ≡ length items → spot_of_item address (items ++ item ∷ []) k ≡ spot
  spot_last k e = ap (λ (n : ℕ). spot_after_items (first_spot_of_cell address) (take n (items ++ item ∷ []))) e ∙ (ap (spot_after_items (first_spot_of_cell address)) (take-append-le (length items) items (item ∷ []) (omega arith) ∙ take_all (length items) items (omega arith)) ∙ here)

  -- what holds of each item before and of this one
  each_of : (P : ℕ → Type 0) → ((k : ℕ) → k < length items → P k) → ((k : ℕ) → k ≡ length items → P k) → (k : ℕ) → k < length (items ++ item ∷ []) → P k
  each_of P before last k h =
      let few : k < length items + 1 = subst (λ (n : ℕ). k < n) (length_push items item) h in
      elim (cases_lt k (length items)) [ inl l ↦ before k l | inr l ↦ last k (omega arith) ]

pub fit-push : (labels : List (Option ℕ)) (address : ℕ) (items : List AssemblyItem) (spot : PackingSpot) (item : AssemblyItem) → length items ≡ spot.slot → spot.at ≡ address → spot_after_items (first_spot_of_cell address) items ≡ spot → AreItemsFitting labels address items → item_fits_at_spot labels spot item ≡ true → AreItemsFitting labels address (items ++ item ∷ [])
fit-push labels address items spot item size at here fit has =
    record {
      slots = each_of address items spot item here (λ k. (spot_of_item address (items ++ item ∷ []) k).slot ≡ k)
          (λ k l. ap (λ (s : PackingSpot). s.slot) (spot_before address items spot item here k l) ∙ fit.slots k l)
          (λ k e. ap (λ (s : PackingSpot). s.slot) (spot_last address items spot item here k e) ∙ (sym size ∙ sym e));
      cells = each_of address items spot item here (λ k. (spot_of_item address (items ++ item ∷ []) k).at ≡ address)
          (λ k l. ap (λ (s : PackingSpot). s.at) (spot_before address items spot item here k l) ∙ fit.cells k l)
          (λ k e. ap (λ (s : PackingSpot). s.at) (spot_last address items spot item here k e) ∙ at);
      room = each_of address items spot item here (λ k. item_fits_at_spot labels (spot_of_item address (items ++ item ∷ []) k) (slice_index_or (items ++ item ∷ []) k nothing) ≡ true)
          (λ k l. subst (λ (s : PackingSpot). item_fits_at_spot labels s (slice_index_or (items ++ item ∷ []) k nothing) ≡ true) (sym (spot_before address items spot item here k l))
          (subst (λ (one : AssemblyItem). item_fits_at_spot labels (spot_of_item address items k) one ≡ true) (sym (get_or_append_left items (item ∷ []) nothing k l)) (fit.room k l)))
          (λ k e. subst (λ (s : PackingSpot). item_fits_at_spot labels s (slice_index_or (items ++ item ∷ []) k nothing) ≡ true) (sym (spot_last address items spot item here k e))
          (subst (λ (one : AssemblyItem). item_fits_at_spot labels spot one ≡ true) (sym (get_or_push items item nothing k (sym e))) has));
    }

-- the cell of an item that is being put: its items stand where those before do and this one does
module _ (p : Packer) (asked : List LocatedRequest) (item : AssemblyItem) (list : List AssemblyItem) (pushed : list ≡ p.filling.items ++ item ∷ []) (c : FillsSlotsBeforeSpot p) (w : IsItemPending p asked item) where
  put_here : spot_after_items (first_spot_of_cell p.spot.at) list ≡ spot_after_item p.spot item
  put_here = ap (spot_after_items (first_spot_of_cell p.spot.at)) pushed ∙ (spot_after_items-push (first_spot_of_cell p.spot.at) p.filling.items item ∙ ap (λ (s : PackingSpot). spot_after_item s item) w.here)

  put_fits : (labels : List (Option ℕ)) → ExtendsLabelAddresses p.labels.items labels → AreItemsFitting labels p.spot.at list
  put_fits labels more = subst (AreItemsFitting labels p.spot.at) (sym pushed) (fit-push labels p.spot.at p.filling.items p.spot item c.size refl w.here (w.open_fits labels more) (w.fit labels more))

  put_met : (node : NodeState) (labels : List (Option ℕ)) → ExtendsLabelAddresses p.labels.items labels → All (IsGroupRead node labels) p.groups.items → p.broken ≡ None → AreItemsInPlace node labels (first_spot_of_cell p.spot.at) list → AreRequestsMet node labels (first_spot_of_cell 0) asked
  put_met node labels more read whole opened =
      let parts = AreItemsInPlace-pop node labels (first_spot_of_cell p.spot.at) p.filling.items item (subst (AreItemsInPlace node labels (first_spot_of_cell p.spot.at)) pushed opened) in
      w.met node labels more read whole parts.0 (subst (λ (s : PackingSpot). is_item_at_spot node labels s item ≡ true) w.here parts.1)

  put_named : (labels : List (Option ℕ)) (cell : ℕ) → ExtendsLabelAddresses p.labels.items labels → taken (first_spot_of_cell p.spot.at) list cell ≡ true → requests_use_cell labels (first_spot_of_cell 0) asked cell ≡ true
  put_named labels cell more h = elim (taken-pop (first_spot_of_cell p.spot.at) p.filling.items item cell (subst (λ (l : List AssemblyItem). taken (first_spot_of_cell p.spot.at) l cell ≡ true) pushed h)) [
    | inl a ↦ w.named labels cell more (inr (inl a))
    | inr b ↦ w.named labels cell more (inr (inr (subst (λ (s : PackingSpot). item_uses_cell s item cell ≡ true) w.here b)))
  ]

  -- the cell continues
  pub added_open : (s : PackingSpot) → s ≡ spot_after_item p.spot item → s.slot ≢ 0 → (q : Packer) → q.filling.items ≡ list → q.spot ≡ s → q.groups.items ≡ p.groups.items → q.labels.items ≡ p.labels.items → q.broken ≡ p.broken → AreRequestsLaidOut q asked
  added_open s is_behind opened q filling spot_is groups labels_are broken =
      let spot_at : q.spot ≡ spot_after_item p.spot item = spot_is ∙ is_behind in
      let at : q.spot.at ≡ p.spot.at = ap (λ (t : PackingSpot). t.at) spot_at ∙ behind-same p.spot item (λ e. opened (ap (λ (t : PackingSpot). t.slot) is_behind ∙ e)) in
      let more = λ (labels : List (Option ℕ)) (e : ExtendsLabelAddresses q.labels.items labels). subst (λ (known : List (Option ℕ)). ExtendsLabelAddresses known labels) labels_are e in
      record {
        here = ap (λ (a : ℕ). spot_after_items (first_spot_of_cell a) q.filling.items) at ∙ (ap (spot_after_items (first_spot_of_cell p.spot.at)) filling ∙ (put_here ∙ sym spot_at));
        walk = λ labels e. w.walk labels (more labels e) ∙ sym spot_at;
        met = λ node labels e read whole stand. put_met node labels (more labels e) (subst (All (IsGroupRead node labels)) groups read) (sym broken ∙ whole)
            (subst (AreItemsInPlace node labels (first_spot_of_cell p.spot.at)) filling (subst (λ (a : ℕ). AreItemsInPlace node labels (first_spot_of_cell a) q.filling.items) at stand));
        named = λ labels cell e h. elim h [
          | inl a ↦ w.named labels cell (more labels e) (inl (subst (λ (g : List CellGroup). is_cell_in_groups g cell ≡ true) groups a))
          | inr b ↦ put_named labels cell (more labels e) (subst (λ (l : List AssemblyItem). taken (first_spot_of_cell p.spot.at) l cell ≡ true) filling (subst (λ (a : ℕ). taken (first_spot_of_cell a) q.filling.items cell ≡ true) at b))
        ];
        groups_fit = λ labels e. subst (All (IsFittingGroup labels)) (sym groups) (w.groups_fit labels (more labels e));
        open_fits = λ labels e. subst (λ (a : ℕ). AreItemsFitting labels a q.filling.items) (sym at) (subst (AreItemsFitting labels p.spot.at) (sym filling) (put_fits labels (more labels e)));
      }

  -- the cell ends
  pub added_closed : (s : PackingSpot) → s ≡ spot_after_item p.spot item → s.slot ≡ 0 → (full q : Packer) → full.filling.items ≡ list → full.spot ≡ p.spot → full.groups.items ≡ p.groups.items → full.labels.items ≡ p.labels.items → full.broken ≡ p.broken → IsCellClosed full q → AreRequestsLaidOut (record q { spot = s }) asked
  added_closed s is_behind ended full q filling spot_is groups labels_are broken closed =
      let begins : s ≡ first_spot_of_cell s.at = is_behind ∙ (behind-begins p.spot item (sym (ap (λ (t : PackingSpot). t.slot) is_behind) ∙ ended) ∙ ap (λ (t : PackingSpot). first_spot_of_cell t.at) (sym is_behind)) in
      let at : full.spot.at ≡ p.spot.at = ap (λ (t : PackingSpot). t.at) spot_is in
      let more = λ (labels : List (Option ℕ)) (e : ExtendsLabelAddresses q.labels.items labels). subst (λ (known : List (Option ℕ)). ExtendsLabelAddresses known labels) (closed.labels_stay ∙ labels_are) e in
      record {
        here = begun q.filling.items s closed.empty begins;
        walk = λ labels e. w.walk labels (more labels e) ∙ sym is_behind;
        met = λ node labels e read whole stand.
            let parts = closed.read node labels read in
            put_met node labels (more labels e) (subst (All (IsGroupRead node labels)) groups parts.0) (sym broken ∙ parts.2)
            (subst (AreItemsInPlace node labels (first_spot_of_cell p.spot.at)) filling (subst (λ (a : ℕ). AreItemsInPlace node labels (first_spot_of_cell a) full.filling.items) at parts.1.items_stand));
        named = λ labels cell e h. elim h [
          | inl a ↦ elim (closed.cells cell a) [
            | inl d ↦ w.named labels cell (more labels e) (inl (subst (λ (g : List CellGroup). is_cell_in_groups g cell ≡ true) groups d))
            | inr d ↦ put_named labels cell (more labels e) (subst (λ (l : List AssemblyItem). taken (first_spot_of_cell p.spot.at) l cell ≡ true) filling (subst (λ (a : ℕ). taken (first_spot_of_cell a) full.filling.items cell ≡ true) at d))
          ]
          | inr b ↦ absurd (none_taken (first_spot_of_cell s.at) q.filling.items cell closed.empty b)
        ];
        groups_fit = λ labels e. closed.fit labels (subst (All (IsFittingGroup labels)) (sym groups) (w.groups_fit labels (more labels e)))
            (subst (λ (a : ℕ). AreItemsFitting labels a full.filling.items) (sym at) (subst (AreItemsFitting labels p.spot.at) (sym filling) (put_fits labels (more labels e))));
        open_fits = λ labels e. empty_fits labels s.at q.filling.items closed.empty;
      }

-- ---- the cell's size

pub in_next : (q : Packer) (s : PackingSpot) → q.filling.items ≡ [] → s.slot ≡ 0 → FillsSlotsBeforeSpot (record q { spot = s })
in_next q s empty e = record { slot = omega arith; size = ap length empty ∙ sym e }

pub in_more : (p q : Packer) (item : AssemblyItem) → FillsSlotsBeforeSpot p → q.filling.items ≡ p.filling.items ++ item ∷ [] → q.spot ≡ spot_after_item p.spot item → q.spot.slot ≢ 0 → FillsSlotsBeforeSpot q
in_more p q item c pushed is_behind opened =
    let parts = behind-slot p.spot item (λ e. opened (ap (λ (s : PackingSpot). s.slot) is_behind ∙ e)) in
    let slot : q.spot.slot ≡ p.spot.slot + 1 = ap (λ (s : PackingSpot). s.slot) is_behind ∙ parts.0 in
    let small : p.spot.slot < 4 = c.slot in
    record {
      slot = elim (cases_lt (p.spot.slot + 1) 4) [ inl h ↦ omega arith | inr h ↦ absurd (parts.1 (omega arith)) ];
      size = ap length pushed ∙ (length_push p.filling.items item ∙ (ap (λ (n : ℕ). n + 1) c.size ∙ sym slot));
    }
