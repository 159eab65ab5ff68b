-- The groups and the open cell have just the items that requests ask for: as places, and then as cells.
use Rattle.std.specs.Prelude.{◌==◌}
use Rattle.std.proofs.Common.{◌≡◌, ◌≢◌, ◌∙◌, ℕ, suc, slice_index_or, ◌+◌, ◌<◌, refl, sym, ap, subst, false, List, [], ◌∷◌, ◌++◌, map, length, set, Option, Some, None, append-nil, append_assoc, arith}
use Rattle.std.specs.List.{All, flat_map}
use Rattle.std.proofs.lemmas.List.Elements.{All-nil, All-push, All-tail}
use Rattle.std.proofs.lemmas.Bool.{cond-false, ne_eqb}
use Rattle.std.proofs.lemmas.List.{length_push}
use Rattle.std.proofs.lemmas.Grind.{flat_map-append}
use Rattle.ga_slots.specs.declared.op.Op.TheVariants.{Unext as UnextOp}
use Rattle.ga_parser.specs.declared.item.AssemblyItem.{AssemblyItem}
use Rattle.ga_parser.specs.declared.item.AssemblyItem.TheVariants.{Opcode}
use Rattle.ga_parser.specs.declared.item.LocatedRequest.{LocatedRequest}
use Rattle.ga_parser.specs.declared.item.AssemblyRequest.{AssemblyRequest}
use Rattle.ga_parser.specs.declared.item.AssemblyRequest.TheVariants.{PlaceItem, Unext, MarkLabel, BeginNewCell, GoToAddress, Carry}
use Rattle.ga_source.specs.declared.group.CellGroup.{CellGroup}
use Rattle.ga_source.specs.declared.packing.Packer.{Packer}
use Rattle.ga_source.specs.declared.group.PackingSpot.{PackingSpot}
use Rattle.ga_source.specs.Reading.{first_spot_of_cell, spot_after_request}
use Rattle.ga_source.specs.Cells.{PlacedItem, placed_item, placed_request_items, placed_items_from, CellGroupContent, items_of_first_cell, cell_group_of_items, cell_groups_of_items, cell_groups_of_requests, cell_group_content}
use Rattle.ga_source.specs.inner.{spot_after_requests, ExtendsLabelAddresses, FillsSlotsBeforeSpot, AreRequestsLaidOut, IsCellClosed, IsNewCellRequest, placed_items_of_cell, placed_items_of_group, HasItemLines, placed_items_of_packer, AreItemsGrouped, IsItemBeingPut, IsCellGathered}
use Rattle.ga_source.proofs.Marking.{label_extends}

-- ---- places

-- one request more
pub placed-push : (labels : List (Option ℕ)) (spot : PackingSpot) (asked : List LocatedRequest) (one : LocatedRequest) → placed_items_from labels spot (asked ++ one ∷ []) ≡ placed_items_from labels spot asked ++ placed_request_items labels (spot_after_requests labels spot asked) one.request one.line
unfolding placed_items_from spot_after_requests
placed-push labels spot [] one = append-nil (placed_request_items labels spot one.request one.line)
placed-push labels spot (first ∷ rest) one =
    ap (λ (places : List PlacedItem). placed_request_items labels spot first.request first.line ++ places) (placed-push labels (spot_after_request labels spot first.request) rest one)
    ∙ sym (append_assoc (placed_request_items labels spot first.request first.line) (placed_items_from labels (spot_after_request labels spot first.request) rest) (placed_request_items labels (spot_after_requests labels (spot_after_request labels spot first.request) rest) one.request one.line))

-- one item more in a cell
places-push : (address slot : ℕ) (items : List AssemblyItem) (lines : List ℕ) (item : AssemblyItem) (line at : ℕ) → length lines ≡ length items → at ≡ slot + length items → placed_items_of_cell address slot (items ++ item ∷ []) (lines ++ line ∷ []) ≡ placed_items_of_cell address slot items lines ++ record { address = address; slot = at; item = item; line = line } ∷ []
unfolding placed_items_of_cell
places-push address slot [] [] item line at size is = ap (λ (n : ℕ). let one : PlacedItem = record { address = address; slot = n; item = item; line = line } in one ∷ []) (omega (arith, is))
places-push address slot (first ∷ items) (number ∷ lines) item line at size is =
    ap (λ (places : List PlacedItem). let one : PlacedItem = record { address = address; slot = slot; item = first; line = number } in one ∷ places)
    (places-push address (suc slot) items lines item line at (omega (arith, size)) (omega (arith, is)))
places-push address slot [] (number ∷ lines) item line at size is = absurd (omega (arith, size))
places-push address slot (first ∷ items) [] item line at size is = absurd (omega (arith, size))

-- an empty cell has none
no_places : (address slot : ℕ) (items : List AssemblyItem) (lines : List ℕ) → items ≡ [] → placed_items_of_cell address slot items lines ≡ []
unfolding placed_items_of_cell
no_places address slot items lines empty = ap (λ (list : List AssemblyItem). placed_items_of_cell address slot list lines) empty

no_lines : (items : List AssemblyItem) (lines : List ℕ) → length lines ≡ length items → items ≡ [] → lines ≡ []
no_lines items [] size empty = refl
no_lines items (line ∷ lines) size empty = let none : length items ≡ 0 = ap length empty in absurd (omega (arith, size, none))

pub some_of : (items : List AssemblyItem) → items ≢ [] → 0 < length items
some_of [] begun = absurd (begun refl)
some_of (first ∷ rest) begun = omega arith

-- ---- closing

pub gathered_nothing : (before after : Packer) → after ≡ before → before.filling.items ≡ [] → IsCellGathered before after
gathered_nothing before after e empty = subst (IsCellGathered before) (sym e) (record {
  places = sym (ap (λ (places : List PlacedItem). flat_map placed_items_of_group before.groups.items ++ places) (no_places before.spot.at 0 before.filling.items before.lines.items empty) ∙ append-nil (flat_map placed_items_of_group before.groups.items));
  lines = λ size. no_lines before.filling.items before.lines.items size empty;
  groups = λ size whole all. all;
})

pub gathered_group : (before after : Packer) (group : CellGroup) → after.groups.items ≡ before.groups.items ++ group ∷ [] → group.address ≡ before.spot.at → group.items.items ≡ before.filling.items → group.lines.items ≡ before.lines.items → after.lines.items ≡ [] → (before.filling.items ≡ [] → before.broken ≢ None) → IsCellGathered before after
gathered_group before after group pushed address items lines none begun = record {
  places = ap (λ (groups : List CellGroup). flat_map placed_items_of_group groups) pushed
      ∙ (flat_map-append placed_items_of_group before.groups.items (group ∷ [])
      ∙ ap (λ (places : List PlacedItem). flat_map placed_items_of_group before.groups.items ++ places)
      (append-nil (placed_items_of_group group)
      ∙ (ap (λ (at : ℕ). placed_items_of_cell at 0 group.items.items group.lines.items) address
      ∙ (ap (λ (list : List AssemblyItem). placed_items_of_cell before.spot.at 0 list group.lines.items) items
      ∙ ap (λ (list : List ℕ). placed_items_of_cell before.spot.at 0 before.filling.items list) lines))));
  lines = λ size. none;
  groups = λ size whole all. subst (All HasItemLines) (sym pushed) (All-push HasItemLines before.groups.items group all (record {
    begun = subst (λ (list : List AssemblyItem). 0 < length list) (sym items) (some_of before.filling.items (λ empty. begun empty (whole empty)));
    each = ap length lines ∙ (size ∙ ap length (sym items));
  }));
}

-- ---- an item to be put

pub putting_here : (p : Packer) (before : List LocatedRequest) (one : LocatedRequest) (item : AssemblyItem) → ((labels : List (Option ℕ)) → ExtendsLabelAddresses p.labels.items labels → placed_request_items labels p.spot one.request one.line ≡ placed_item p.spot item one.line ∷ []) → AreRequestsLaidOut p before → AreItemsGrouped p before → IsItemBeingPut p (before ++ one ∷ []) item one.line
putting_here p before one item puts w g = record {
  places = λ labels more.
      placed-push labels (first_spot_of_cell 0) before one
      ∙ (ap (λ (spot : PackingSpot). placed_items_from labels (first_spot_of_cell 0) before ++ placed_request_items labels spot one.request one.line) (w.walk labels more)
      ∙ (ap (λ (places : List PlacedItem). placed_items_from labels (first_spot_of_cell 0) before ++ places) (puts labels more)
      ∙ ap (λ (places : List PlacedItem). places ++ placed_item p.spot item one.line ∷ []) (g.places labels more)));
  groups = g.groups;
  lines = g.lines;
}

-- the places of an open cell that has begun in none of its slots
closed_places : (p q : Packer) (at : ℕ) → IsCellClosed p q → IsCellGathered p q → placed_items_of_packer p ≡ flat_map placed_items_of_group q.groups.items ++ placed_items_of_cell at 0 q.filling.items q.lines.items
closed_places p q at closed gathered =
    sym gathered.places
    ∙ (sym (append-nil (flat_map placed_items_of_group q.groups.items))
    ∙ ap (λ (places : List PlacedItem). flat_map placed_items_of_group q.groups.items ++ places) (sym (no_places at 0 q.filling.items q.lines.items closed.empty)))

closed_lines : (p q : Packer) → length p.lines.items ≡ length p.filling.items → IsCellClosed p q → IsCellGathered p q → length q.lines.items ≡ length q.filling.items
closed_lines p q size closed gathered = ap length (gathered.lines size) ∙ sym (ap length closed.empty)

-- the packer's labels are those of the one before
same_labels : (p q : Packer) (labels : List (Option ℕ)) → q.labels.items ≡ p.labels.items → ExtendsLabelAddresses q.labels.items labels → ExtendsLabelAddresses p.labels.items labels
same_labels p q labels e more = subst (λ (known : List (Option ℕ)). ExtendsLabelAddresses known labels) e more

pub putting_next : (p q : Packer) (s : PackingSpot) (before : List LocatedRequest) (one : LocatedRequest) (item : AssemblyItem) → ((labels : List (Option ℕ)) → ExtendsLabelAddresses p.labels.items labels → placed_request_items labels p.spot one.request one.line ≡ placed_item s item one.line ∷ []) → AreRequestsLaidOut p before → AreItemsGrouped p before → IsCellClosed p q → IsCellGathered p q → IsItemBeingPut (record q { spot = s }) (before ++ one ∷ []) item one.line
putting_next p q s before one item puts w g closed gathered = record {
  places = λ labels e.
      let more = same_labels p q labels closed.labels_stay e in
      placed-push labels (first_spot_of_cell 0) before one
      ∙ (ap (λ (spot : PackingSpot). placed_items_from labels (first_spot_of_cell 0) before ++ placed_request_items labels spot one.request one.line) (w.walk labels more)
      ∙ (ap (λ (places : List PlacedItem). placed_items_from labels (first_spot_of_cell 0) before ++ places) (puts labels more)
      ∙ ap (λ (places : List PlacedItem). places ++ placed_item s item one.line ∷ []) (g.places labels more ∙ closed_places p q s.at closed gathered)));
  groups = gathered.groups g.lines g.whole g.groups;
  lines = closed_lines p q g.lines closed gathered;
}

pub putting_unext : (p q : Packer) (before : List LocatedRequest) (line label : ℕ) → q.filling.items ≡ p.filling.items → q.lines.items ≡ p.lines.items → q.spot ≡ p.spot → q.groups.items ≡ p.groups.items → q.labels.items ≡ p.labels.items → AreRequestsLaidOut p before → AreItemsGrouped p before → IsItemBeingPut q (before ++ record { line = line; request = Unext label } ∷ []) (Opcode UnextOp) line
putting_unext p q before line label filling lines spot_is groups labels_are w g =
    let one : LocatedRequest = record { line = line; request = Unext label } in
    let here = putting_here p before one (Opcode UnextOp) (λ labels more. refl) w g in
    record {
      places = λ labels e.
          here.places labels (same_labels p q labels labels_are e)
          ∙ (ap (λ (g : List CellGroup). (flat_map placed_items_of_group g ++ placed_items_of_cell p.spot.at 0 p.filling.items p.lines.items) ++ placed_item p.spot (Opcode UnextOp) line ∷ []) (sym groups)
          ∙ (ap (λ (items : List AssemblyItem). (flat_map placed_items_of_group q.groups.items ++ placed_items_of_cell p.spot.at 0 items p.lines.items) ++ placed_item p.spot (Opcode UnextOp) line ∷ []) (sym filling)
          ∙ (ap (λ (list : List ℕ). (flat_map placed_items_of_group q.groups.items ++ placed_items_of_cell p.spot.at 0 q.filling.items list) ++ placed_item p.spot (Opcode UnextOp) line ∷ []) (sym lines)
          ∙ ap (λ (s : PackingSpot). (flat_map placed_items_of_group q.groups.items ++ placed_items_of_cell s.at 0 q.filling.items q.lines.items) ++ placed_item s (Opcode UnextOp) line ∷ []) (sym spot_is))));
      groups = subst (All HasItemLines) (sym groups) g.groups;
      lines = ap length lines ∙ (g.lines ∙ ap length (sym filling));
    }

-- ---- an item that is put

module _ (p : Packer) (asked : List LocatedRequest) (item : AssemblyItem) (line : ℕ) (list : List AssemblyItem) (numbers : List ℕ) (pushed : list ≡ p.filling.items ++ item ∷ []) (numbered : numbers ≡ p.lines.items ++ line ∷ []) (c : FillsSlotsBeforeSpot p) (w : IsItemBeingPut p asked item line) where
  put_places : placed_items_of_packer p ++ placed_item p.spot item line ∷ [] ≡ flat_map placed_items_of_group p.groups.items ++ placed_items_of_cell p.spot.at 0 list numbers
  put_places =
      append_assoc (flat_map placed_items_of_group p.groups.items) (placed_items_of_cell p.spot.at 0 p.filling.items p.lines.items) (placed_item p.spot item line ∷ [])
      ∙ ap (λ (places : List PlacedItem). flat_map placed_items_of_group p.groups.items ++ places)
      (sym (places-push p.spot.at 0 p.filling.items p.lines.items item line p.spot.slot w.lines (omega (arith, c.size)))
      ∙ (ap (λ (items : List AssemblyItem). placed_items_of_cell p.spot.at 0 items (p.lines.items ++ line ∷ [])) (sym pushed)
      ∙ ap (λ (lines : List ℕ). placed_items_of_cell p.spot.at 0 list lines) (sym numbered)))

  put_lines : length numbers ≡ length list
  put_lines = ap length numbered ∙ (length_push p.lines.items line ∙ (ap (λ (n : ℕ). n + 1) w.lines ∙ (sym (length_push p.filling.items item) ∙ ap length (sym pushed))))

  put_begun : (items : List AssemblyItem) → items ≡ list → items ≢ []
  put_begun items is empty = let size : length (p.filling.items ++ item ∷ []) ≡ 0 = ap length (sym pushed ∙ (sym is ∙ empty)) in let more = length_push p.filling.items item in absurd (omega (arith, size, more))

  -- the cell continues
  pub put_open : (q : Packer) → q.filling.items ≡ list → q.lines.items ≡ numbers → q.spot.at ≡ p.spot.at → q.groups.items ≡ p.groups.items → q.labels.items ≡ p.labels.items → AreItemsGrouped q asked
  put_open q filling lines at groups labels_are = record {
    places = λ labels e.
        w.places labels (same_labels p q labels labels_are e)
        ∙ (put_places
        ∙ (ap (λ (g : List CellGroup). flat_map placed_items_of_group g ++ placed_items_of_cell p.spot.at 0 list numbers) (sym groups)
        ∙ ap (λ (places : List PlacedItem). flat_map placed_items_of_group q.groups.items ++ places)
        (ap (λ (a : ℕ). placed_items_of_cell a 0 list numbers) (sym at)
        ∙ (ap (λ (items : List AssemblyItem). placed_items_of_cell q.spot.at 0 items numbers) (sym filling) ∙ ap (λ (n : List ℕ). placed_items_of_cell q.spot.at 0 q.filling.items n) (sym lines)))));
    groups = subst (All HasItemLines) (sym groups) w.groups;
    lines = ap length lines ∙ (put_lines ∙ ap length (sym filling));
    whole = λ empty. absurd (put_begun q.filling.items filling empty);
  }

  -- the cell ends
  pub put_closed : (s : PackingSpot) (full q : Packer) → full.filling.items ≡ list → full.lines.items ≡ numbers → full.spot ≡ p.spot → full.groups.items ≡ p.groups.items → full.labels.items ≡ p.labels.items → IsCellClosed full q → IsCellGathered full q → AreItemsGrouped (record q { spot = s }) asked
  put_closed s full q filling lines spot_is groups labels_are closed gathered =
      let open_cell = put_open full filling lines (ap (λ (t : PackingSpot). t.at) spot_is) groups labels_are in
      record {
        places = λ labels e. open_cell.places labels (same_labels full q labels closed.labels_stay e) ∙ closed_places full q s.at closed gathered;
        groups = gathered.groups open_cell.lines open_cell.whole open_cell.groups;
        lines = closed_lines full q open_cell.lines closed gathered;
        whole = λ empty. closed.whole;
      }

-- ---- a request that puts nothing

pub passed : (p q : Packer) (before : List LocatedRequest) (one : LocatedRequest) → ((labels : List (Option ℕ)) (spot : PackingSpot) → placed_request_items labels spot one.request one.line ≡ []) → AreItemsGrouped p before → IsCellClosed p q → IsCellGathered p q → (r : Packer) → r.groups.items ≡ q.groups.items → r.filling.items ≡ q.filling.items → r.lines.items ≡ q.lines.items → r.broken ≡ q.broken → ExtendsLabelAddresses p.labels.items r.labels.items → AreItemsGrouped r (before ++ one ∷ [])
passed p q before one puts g closed gathered r groups filling lines broken known =
    let empty : r.filling.items ≡ [] = filling ∙ closed.empty in
    record {
      places = λ labels e.
          placed-push labels (first_spot_of_cell 0) before one
          ∙ (ap (λ (places : List PlacedItem). placed_items_from labels (first_spot_of_cell 0) before ++ places) (puts labels (spot_after_requests labels (first_spot_of_cell 0) before))
          ∙ (append-nil (placed_items_from labels (first_spot_of_cell 0) before)
          ∙ (g.places labels (λ k address has. e k address (known k address has))
          ∙ (closed_places p q r.spot.at closed gathered
          ∙ (ap (λ (g : List CellGroup). flat_map placed_items_of_group g ++ placed_items_of_cell r.spot.at 0 q.filling.items q.lines.items) (sym groups)
          ∙ ap (λ (places : List PlacedItem). flat_map placed_items_of_group r.groups.items ++ places)
          (no_places r.spot.at 0 q.filling.items q.lines.items closed.empty ∙ sym (no_places r.spot.at 0 r.filling.items r.lines.items empty)))))));
      groups = subst (All HasItemLines) (sym groups) (gathered.groups g.lines g.whole g.groups);
      lines = ap length lines ∙ (closed_lines p q g.lines closed gathered ∙ ap length (sym filling));
      whole = λ none. broken ∙ closed.whole;
    }

-- a label is marked
pub passed_mark : (p q : Packer) (before : List LocatedRequest) (one : LocatedRequest) (label address : ℕ) → one.request ≡ MarkLabel label → AreItemsGrouped p before → IsCellClosed p q → IsCellGathered p q → slice_index_or q.labels.items label None ≡ None → (r : Packer) → r.groups.items ≡ q.groups.items → r.filling.items ≡ q.filling.items → r.lines.items ≡ q.lines.items → r.broken ≡ q.broken → r.labels.items ≡ set q.labels.items label (Some address) → AreItemsGrouped r (before ++ one ∷ [])
passed_mark p q before one label address is g closed gathered unknown r groups filling lines broken labels_are =
    passed p q before one (λ labels spot. ap (λ (request : AssemblyRequest). placed_request_items labels spot request one.line) is) g closed gathered r groups filling lines broken
    (subst (λ (known : List (Option ℕ)). ExtendsLabelAddresses p.labels.items known) (sym labels_are)
    (subst (λ (known : List (Option ℕ)). ExtendsLabelAddresses known (set q.labels.items label (Some address))) closed.labels_stay (label_extends q.labels.items label address unknown)))

nothing_filling : (labels : List (Option ℕ)) (spot : PackingSpot) (request : AssemblyRequest) (line : ℕ) → IsNewCellRequest request → placed_request_items labels spot request line ≡ []
nothing_filling labels spot BeginNewCell line h = refl
nothing_filling labels spot (GoToAddress address) line h = refl
nothing_filling labels spot (Carry is_set) line h = refl
nothing_filling labels spot (PlaceItem item) line h = absurd h
nothing_filling labels spot (Unext label) line h = absurd h
nothing_filling labels spot (MarkLabel label) line h = absurd h

-- the cell ends, and nothing more
pub passed_on : (p q : Packer) (s : PackingSpot) (before : List LocatedRequest) (one : LocatedRequest) → IsNewCellRequest one.request → AreItemsGrouped p before → IsCellClosed p q → IsCellGathered p q → AreItemsGrouped (record q { spot = s }) (before ++ one ∷ [])
passed_on p q s before one is_filling g closed gathered =
    passed p q before one (λ labels spot. nothing_filling labels spot one.request one.line is_filling) g closed gathered (record q { spot = s }) refl refl refl refl
    (λ k address known. subst (λ (list : List (Option ℕ)). slice_index_or list k None ≡ Some address) (sym closed.labels_stay) known)

-- ---- with nothing asked, and at the end

pub grouped_none : (p : Packer) → p.groups.items ≡ [] → p.filling.items ≡ [] → p.lines.items ≡ [] → p.broken ≡ None → AreItemsGrouped p []
unfolding placed_items_from
grouped_none p groups filling lines broken = record {
  places = λ labels e. sym (ap (λ (g : List CellGroup). flat_map placed_items_of_group g ++ placed_items_of_cell p.spot.at 0 p.filling.items p.lines.items) groups ∙ no_places p.spot.at 0 p.filling.items p.lines.items filling);
  groups = subst (All HasItemLines) (sym groups) (All-nil HasItemLines);
  lines = ap length lines ∙ ap length (sym filling);
  whole = λ empty. broken;
}

-- ---- places as cells

items_of : (address slot : ℕ) (items : List AssemblyItem) (lines : List ℕ) → length lines ≡ length items → map (λ one. one.item) (placed_items_of_cell address slot items lines) ≡ items
unfolding placed_items_of_cell
items_of address slot [] lines size = refl
items_of address slot (item ∷ items) (line ∷ lines) size = ap (λ (list : List AssemblyItem). item ∷ list) (items_of address (suc slot) items lines (omega (arith, size)))
items_of address slot (item ∷ items) [] size = absurd (omega (arith, size))

lines_of : (address slot : ℕ) (items : List AssemblyItem) (lines : List ℕ) → length lines ≡ length items → map (λ one. one.line) (placed_items_of_cell address slot items lines) ≡ lines
unfolding placed_items_of_cell
lines_of address slot [] [] size = refl
lines_of address slot [] (line ∷ lines) size = absurd (omega (arith, size))
lines_of address slot (item ∷ items) (line ∷ lines) size = ap (λ (list : List ℕ). line ∷ list) (lines_of address (suc slot) items lines (omega (arith, size)))
lines_of address slot (item ∷ items) [] size = absurd (omega (arith, size))

later : (slot : ℕ) → (suc slot == 0) ≡ false
later slot = ne_eqb (suc slot) 0 (λ e. absurd (omega arith))

-- after slot 0 the cell continues up to the beginning of the next one
front_of : (address slot : ℕ) (items : List AssemblyItem) (lines : List ℕ) (rest : List PlacedItem) → items_of_first_cell rest ≡ [] → items_of_first_cell (placed_items_of_cell address (suc slot) items lines ++ rest) ≡ placed_items_of_cell address (suc slot) items lines
unfolding placed_items_of_cell items_of_first_cell
front_of address slot [] lines rest none = none
front_of address slot (item ∷ items) [] rest none = none
front_of address slot (item ∷ items) (line ∷ lines) rest none =
    let one : PlacedItem = record { address = address; slot = suc slot; item = item; line = line } in
    let behind = placed_items_of_cell address (suc (suc slot)) items lines ++ rest in
    cond-false (suc slot == 0) [] (one ∷ items_of_first_cell behind) (later slot)
    ∙ ap (λ (places : List PlacedItem). let one : PlacedItem = record { address = address; slot = suc slot; item = item; line = line } in one ∷ places) (front_of address (suc slot) items lines rest none)

behind_of : (address slot : ℕ) (items : List AssemblyItem) (lines : List ℕ) (rest : List PlacedItem) → cell_groups_of_items (placed_items_of_cell address (suc slot) items lines ++ rest) ≡ cell_groups_of_items rest
unfolding placed_items_of_cell cell_groups_of_items
behind_of address slot [] lines rest = refl
behind_of address slot (item ∷ items) [] rest = refl
behind_of address slot (item ∷ items) (line ∷ lines) rest =
    let one : PlacedItem = record { address = address; slot = suc slot; item = item; line = line } in
    let behind = placed_items_of_cell address (suc (suc slot)) items lines ++ rest in
    cond-false (suc slot == 0) (cell_group_of_items one (items_of_first_cell behind) ∷ cell_groups_of_items behind) (cell_groups_of_items behind) (later slot)
    ∙ behind_of address (suc slot) items lines rest

-- a group begins a cell
no_front : (address : ℕ) (items : List AssemblyItem) (lines : List ℕ) (rest : List PlacedItem) → 0 < length items → length lines ≡ length items → items_of_first_cell (placed_items_of_cell address 0 items lines ++ rest) ≡ []
unfolding placed_items_of_cell items_of_first_cell
no_front address (item ∷ items) (line ∷ lines) rest begun size = refl
no_front address (item ∷ items) [] rest begun size = absurd (omega (arith, size))
no_front address [] lines rest begun size = absurd (omega arith)

one_cell : (address : ℕ) (items : List AssemblyItem) (lines : List ℕ) (rest : List PlacedItem) → 0 < length items → length lines ≡ length items → items_of_first_cell rest ≡ [] → (let cell : CellGroupContent = record { address = address; items = items; lines = lines } in cell_groups_of_items (placed_items_of_cell address 0 items lines ++ rest) ≡ cell ∷ cell_groups_of_items rest)
unfolding placed_items_of_cell cell_groups_of_items
one_cell address (item ∷ items) (line ∷ lines) rest begun size none =
    let size_behind : length lines ≡ length items = omega (arith, size) in
    let front = front_of address 0 items lines rest none in
    ap (λ (places : List PlacedItem). let one : PlacedItem = record { address = address; slot = 0; item = item; line = line } in cell_group_of_items one places ∷ cell_groups_of_items (placed_items_of_cell address 1 items lines ++ rest)) front
    ∙ (ap (λ (list : List AssemblyItem). let cell : CellGroupContent = record { address = address; items = item ∷ list; lines = line ∷ map (λ one. one.line) (placed_items_of_cell address 1 items lines) } in cell ∷ cell_groups_of_items (placed_items_of_cell address 1 items lines ++ rest)) (items_of address 1 items lines size_behind)
    ∙ (ap (λ (list : List ℕ). let cell : CellGroupContent = record { address = address; items = item ∷ items; lines = line ∷ list } in cell ∷ cell_groups_of_items (placed_items_of_cell address 1 items lines ++ rest)) (lines_of address 1 items lines size_behind)
    ∙ ap (λ (cells : List CellGroupContent). let cell : CellGroupContent = record { address = address; items = item ∷ items; lines = line ∷ lines } in cell ∷ cells) (behind_of address 0 items lines rest)))
one_cell address (item ∷ items) [] rest begun size none = absurd (omega (arith, size))
one_cell address [] lines rest begun size none = absurd (omega arith)

first_of_all : (group : CellGroup) (groups : List CellGroup) → All HasItemLines (group ∷ groups) → HasItemLines group
first_of_all group groups all = all 0 group (omega arith)

groups_begin : (groups : List CellGroup) → All HasItemLines groups → items_of_first_cell (flat_map placed_items_of_group groups) ≡ []
unfolding items_of_first_cell
groups_begin [] all = refl
groups_begin (group ∷ groups) all = let first = first_of_all group groups all in no_front group.address group.items.items group.lines.items (flat_map placed_items_of_group groups) first.begun first.each

pub all_cells : (groups : List CellGroup) → All HasItemLines groups → cell_groups_of_items (flat_map placed_items_of_group groups) ≡ map cell_group_content groups
unfolding cell_groups_of_items
all_cells [] all = refl
all_cells (group ∷ groups) all =
    let first = first_of_all group groups all in
    let rest = All-tail HasItemLines group groups all in
    one_cell group.address group.items.items group.lines.items (flat_map placed_items_of_group groups) first.begun first.each (groups_begin groups rest)
    ∙ ap (λ (cells : List CellGroupContent). cell_group_content group ∷ cells) (all_cells groups rest)

pub grouped : (p q : Packer) (asked : List LocatedRequest) → AreItemsGrouped p asked → IsCellClosed p q → IsCellGathered p q → map cell_group_content q.groups.items ≡ cell_groups_of_requests q.labels.items asked
grouped p q asked g closed gathered =
    let labels = q.labels.items in
    let more : ExtendsLabelAddresses p.labels.items labels = λ k address known. subst (λ (list : List (Option ℕ)). slice_index_or list k None ≡ Some address) (sym closed.labels_stay) known in
    let places : placed_items_from labels (first_spot_of_cell 0) asked ≡ flat_map placed_items_of_group q.groups.items = g.places labels more ∙ sym gathered.places in
    sym (all_cells q.groups.items (gathered.groups g.lines g.whole g.groups)) ∙ ap cell_groups_of_items (sym places)
