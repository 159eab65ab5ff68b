-- The packer's steps keep what it has laid out: `unext`, labels, new cells, and the end.
use Rattle.std.specs.Prelude.{nat_lt}
use Rattle.std.proofs.Common.{◌≡◌, ◌∙◌, ℕ, ◌<◌, inl, inr, refl, sym, ap, subst, true, List, [], ◌∷◌, ◌++◌, Option, Some, None, length, set, slice_index_or, get_or-set_same, get_or-set_other}
use Rattle.std.specs.List.{All}
use Rattle.std.proofs.lemmas.Bool.{or_right, and_from, true≢false, cases_eq, eq-eqb}
use Rattle.std.proofs.lemmas.List.Elements.{All-nil}
use Rattle.ga_node.specs.Record.{NodeState}
use Rattle.ga_slots.specs.declared.op.Op.TheVariants.{Unext as UnextOp}
use Rattle.ga_parser.specs.declared.item.AssemblyItem.{AssemblyItem}
use Rattle.ga_parser.specs.declared.item.AssemblyItem.TheVariants.{Opcode}
use Rattle.ga_parser.specs.declared.item.LocatedRequest.{LocatedRequest}
use Rattle.ga_source.specs.declared.group.CellGroup.{CellGroup}
use Rattle.ga_parser.specs.declared.item.AssemblyRequest.{AssemblyRequest}
use Rattle.ga_parser.specs.declared.item.AssemblyRequest.TheVariants.{PlaceItem, Unext, MarkLabel, BeginNewCell, GoToAddress, Carry}
use Rattle.ga_parser.specs.declared.item.Operand.TheVariants.{Label as LabelOf}
use Rattle.ga_source.specs.declared.packing.PackedNode.{PackedNode}
use Rattle.ga_source.specs.declared.packing.Packer.{Packer}
use Rattle.ga_source.specs.declared.group.PackingSpot.{PackingSpot}
use Rattle.ga_source.specs.Reading.{first_spot_of_cell, next_empty_cell_spot, spot_after_item, operand_value, are_equal_numbers, is_item_at_spot, is_filled_with_nops, item_fits_at_spot, is_request_met, spot_after_request}
use Rattle.ga_source.specs.Cells.{item_uses_cell}
use Rattle.ga_source.specs.inner.{spot_after_items, AreItemsInPlace, taken, AreItemsFitting, IsGroupRead, IsFittingGroup, is_cell_in_groups, spot_after_requests, AreRequestsMet, ExtendsLabelAddresses, FillsSlotsBeforeSpot, AreRequestsLaidOut, IsItemPending, IsCellClosed, IsNewCellRequest, ArePackedRequestsLaidOut}
use Rattle.ga_source.proofs.Laying.{empty_fits, requests_use_cell-before, cells_match_requests-met, None≢Some}
use Rattle.ga_source.proofs.Walking.{named_more, met_more, walk_more, begun, none_taken, next_spot, filled_here, settled}

-- ---- `unext`

-- it has room in every slot
unext_fits : (labels : List (Option ℕ)) (spot : PackingSpot) → item_fits_at_spot labels spot (Opcode UnextOp) ≡ true
unext_fits labels spot = or_right (nat_lt spot.slot 3) true refl

known_label : (labels : List (Option ℕ)) (label address : ℕ) → slice_index_or labels label None ≡ Some address → are_equal_numbers (operand_value labels (LabelOf label)) (Some address) ≡ true
known_label labels label address e = subst (λ (found : Option ℕ). are_equal_numbers found (Some address) ≡ true) (sym e) (eq-eqb address address refl)

pub pending_unext : (p q : Packer) (before : List LocatedRequest) (line label : ℕ) → (q.broken ≡ None → (p.broken ≡ None) × (slice_index_or p.labels.items label None ≡ Some p.spot.at)) → q.filling.items ≡ p.filling.items → q.spot ≡ p.spot → q.groups.items ≡ p.groups.items → q.labels.items ≡ p.labels.items → AreRequestsLaidOut p before → IsItemPending q (before ++ record { line = line; request = Unext label } ∷ []) (Opcode UnextOp)
pending_unext p q before line label whole_by filling spot_is groups labels_are w =
    let one : LocatedRequest = record { line = line; request = Unext label } in
    let at : q.spot.at ≡ p.spot.at = ap (λ (t : PackingSpot). t.at) spot_is in
    let more = λ (labels : List (Option ℕ)) (e : ExtendsLabelAddresses q.labels.items labels). subst (λ (known : List (Option ℕ)). ExtendsLabelAddresses known labels) labels_are e in
    record {
      here = ap (λ (a : ℕ). spot_after_items (first_spot_of_cell a) q.filling.items) at ∙ (ap (spot_after_items (first_spot_of_cell p.spot.at)) filling ∙ (w.here ∙ sym spot_is));
      fit = λ labels e. unext_fits labels q.spot;
      walk = λ labels e. walk_more labels p.spot (spot_after_item q.spot (Opcode UnextOp)) before one (w.walk labels (more labels e)) (ap (λ (t : PackingSpot). spot_after_item t (Opcode UnextOp)) (sym spot_is));
      met = λ node labels e read whole opened last.
          let facts = whole_by whole in
          met_more node labels p.spot before one (w.walk labels (more labels e))
          (w.met node labels (more labels e) (subst (All (IsGroupRead node labels)) groups read) facts.0 (subst (AreItemsInPlace node labels (first_spot_of_cell p.spot.at)) filling (subst (λ (a : ℕ). AreItemsInPlace node labels (first_spot_of_cell a) q.filling.items) at opened)))
          (and_from (is_item_at_spot node labels p.spot (Opcode UnextOp)) (are_equal_numbers (operand_value labels (LabelOf label)) (Some p.spot.at))
          (subst (λ (t : PackingSpot). is_item_at_spot node labels t (Opcode UnextOp) ≡ true) spot_is last) (known_label labels label p.spot.at (more labels e label p.spot.at facts.1)));
      named = λ labels cell e h. elim h [
        | inl a ↦ requests_use_cell-before labels (first_spot_of_cell 0) before one cell (w.named labels cell (more labels e) (inl (subst (λ (g : List CellGroup). is_cell_in_groups g cell ≡ true) groups a)))
        | inr b ↦ elim b [
          | inl d ↦ requests_use_cell-before labels (first_spot_of_cell 0) before one cell (w.named labels cell (more labels e) (inr (subst (λ (l : List AssemblyItem). taken (first_spot_of_cell p.spot.at) l cell ≡ true) filling (subst (λ (a : ℕ). taken (first_spot_of_cell a) q.filling.items cell ≡ true) at d))))
          | inr d ↦ named_more labels p.spot before one cell (w.walk labels (more labels e)) (subst (λ (t : PackingSpot). item_uses_cell t (Opcode UnextOp) cell ≡ true) spot_is d)
        ]
      ];
      groups_fit = λ labels e. subst (All (IsFittingGroup labels)) (sym groups) (w.groups_fit labels (more labels e));
      open_fits = λ labels e. subst (λ (a : ℕ). AreItemsFitting labels a q.filling.items) (sym at) (subst (AreItemsFitting labels p.spot.at) (sym filling) (w.open_fits labels (more labels e)));
    }

-- ---- labels and new cells

-- a label that wasn't known is
pub label_extends : (labels : List (Option ℕ)) (label address : ℕ) → slice_index_or labels label None ≡ None → ExtendsLabelAddresses labels (set labels label (Some address))
label_extends labels label address unknown k found e = elim (cases_eq k label) [
  | inl same ↦ absurd (None≢Some found (sym unknown ∙ (ap (λ (j : ℕ). slice_index_or labels j None) (sym same) ∙ e)))
  | inr other ↦ get_or-set_other labels label k (Some address) None other ∙ e
]

pub marked : (p q : Packer) (s : PackingSpot) (before : List LocatedRequest) (line label : ℕ) → FillsSlotsBeforeSpot p → AreRequestsLaidOut p before → IsCellClosed p q → s ≡ next_empty_cell_spot p.spot → label < length q.labels.items → slice_index_or q.labels.items label None ≡ None → (r : Packer) → r.groups.items ≡ q.groups.items → r.filling.items ≡ q.filling.items → r.labels.items ≡ set q.labels.items label (Some s.at) → r.spot ≡ s → AreRequestsLaidOut r (before ++ record { line = line; request = MarkLabel label } ∷ [])
marked p q s before line label c w closed is_next small unknown r groups filling labels_are spot_is =
    let labels_now = set q.labels.items label (Some s.at) in
    settled p q labels_now s before (record { line = line; request = MarkLabel label }) w closed
    (subst (λ (known : List (Option ℕ)). ExtendsLabelAddresses known labels_now) closed.labels_stay (label_extends q.labels.items label s.at unknown))
    (is_next ∙ (next_spot p before c w ∙ ap (λ (t : PackingSpot). first_spot_of_cell t.at) (sym is_next)))
    (λ labels. sym is_next)
    (λ node labels more filled. and_from (is_filled_with_nops node p.spot) (are_equal_numbers (operand_value labels (LabelOf label)) (Some (next_empty_cell_spot p.spot).at)) filled
    (subst (λ (t : PackingSpot). are_equal_numbers (operand_value labels (LabelOf label)) (Some t.at) ≡ true) is_next
    (known_label labels label s.at (more label s.at (get_or-set_same q.labels.items label (Some s.at) None small)))))
    r groups filling labels_are spot_is

filling_begins : (p : Packer) (s : PackingSpot) (before : List LocatedRequest) (request : AssemblyRequest) → IsNewCellRequest request → FillsSlotsBeforeSpot p → AreRequestsLaidOut p before → spot_after_request p.labels.items p.spot request ≡ s → s ≡ first_spot_of_cell s.at
filling_begins p s before BeginNewCell h c w e = sym e ∙ (next_spot p before c w ∙ ap (λ (t : PackingSpot). first_spot_of_cell t.at) e)
filling_begins p s before (GoToAddress address) h c w e = sym e ∙ ap (λ (t : PackingSpot). first_spot_of_cell t.at) e
filling_begins p s before (Carry is_set) h c w e = sym e ∙ ap (λ (t : PackingSpot). first_spot_of_cell t.at) e
filling_begins p s before (PlaceItem item) h c w e = absurd h
filling_begins p s before (Unext label) h c w e = absurd h
filling_begins p s before (MarkLabel label) h c w e = absurd h

filling_after : (labels other : List (Option ℕ)) (spot : PackingSpot) (request : AssemblyRequest) → IsNewCellRequest request → spot_after_request other spot request ≡ spot_after_request labels spot request
filling_after labels other spot BeginNewCell h = refl
filling_after labels other spot (GoToAddress address) h = refl
filling_after labels other spot (Carry is_set) h = refl
filling_after labels other spot (PlaceItem item) h = absurd h
filling_after labels other spot (Unext label) h = absurd h
filling_after labels other spot (MarkLabel label) h = absurd h

filling_met : (node : NodeState) (labels : List (Option ℕ)) (spot : PackingSpot) (request : AssemblyRequest) → IsNewCellRequest request → is_filled_with_nops node spot ≡ true → is_request_met node labels spot request ≡ true
filling_met node labels spot BeginNewCell h filled = filled
filling_met node labels spot (GoToAddress address) h filled = filled
filling_met node labels spot (Carry is_set) h filled = filled
filling_met node labels spot (PlaceItem item) h filled = absurd h
filling_met node labels spot (Unext label) h filled = absurd h
filling_met node labels spot (MarkLabel label) h filled = absurd h

pub gone : (p q : Packer) (s : PackingSpot) (before : List LocatedRequest) (one : LocatedRequest) → IsNewCellRequest one.request → FillsSlotsBeforeSpot p → spot_after_request p.labels.items p.spot one.request ≡ s → AreRequestsLaidOut p before → IsCellClosed p q → AreRequestsLaidOut (record q { spot = s }) (before ++ one ∷ [])
gone p q s before one is_filling c e w closed =
    settled p q q.labels.items s before one w closed
    (λ k address known. subst (λ (list : List (Option ℕ)). slice_index_or list k None ≡ Some address) (sym closed.labels_stay) known)
    (filling_begins p s before one.request is_filling c w e)
    (λ labels. filling_after p.labels.items labels p.spot one.request is_filling ∙ e)
    (λ node labels more filled. filling_met node labels p.spot one.request is_filling filled)
    (record q { spot = s }) refl refl refl refl

-- ---- at the end

pub laid_out : (p q : Packer) (packed : PackedNode) (asked : List LocatedRequest) → AreRequestsLaidOut p asked → IsCellClosed p q → packed.groups.items ≡ q.groups.items → packed.labels.items ≡ q.labels.items → ArePackedRequestsLaidOut packed asked
laid_out p q packed asked w closed groups labels_are =
    let labels = packed.labels.items in
    let more : ExtendsLabelAddresses p.labels.items labels = λ k address known. subst (λ (list : List (Option ℕ)). slice_index_or list k None ≡ Some address) (sym (labels_are ∙ closed.labels_stay)) known in
    record {
      read = λ node all.
          let parts = closed.read node labels (subst (All (IsGroupRead node labels)) groups all) in
          cells_match_requests-met node labels (first_spot_of_cell 0) asked (w.met node labels more parts.0 parts.2 parts.1.items_stand)
          (subst (λ (s : PackingSpot). is_filled_with_nops node s ≡ true) (sym (w.walk labels more)) (filled_here p asked node labels w parts.1));
      named = λ cell h. w.named labels cell more (closed.cells cell (subst (λ (g : List CellGroup). is_cell_in_groups g cell ≡ true) groups h));
      fit = subst (All (IsFittingGroup labels)) (sym groups) (closed.fit labels (w.groups_fit labels more) (w.open_fits labels more));
    }

-- with nothing asked
pub walked_none : (p : Packer) → p.groups.items ≡ [] → p.filling.items ≡ [] → p.spot ≡ first_spot_of_cell 0 → AreRequestsLaidOut p []
unfolding spot_after_requests AreRequestsMet
walked_none p groups filling spot_is = record {
  here = begun p.filling.items p.spot filling (spot_is ∙ ap (λ (t : PackingSpot). first_spot_of_cell t.at) (sym spot_is));
  walk = λ labels e. sym spot_is;
  met = λ node labels e read whole opened. tt;
  named = λ labels cell e h. elim h [
    | inl a ↦ absurd (true≢false (sym (subst (λ (g : List CellGroup). is_cell_in_groups g cell ≡ true) groups a)))
    | inr b ↦ absurd (none_taken (first_spot_of_cell p.spot.at) p.filling.items cell filling b)
  ];
  groups_fit = λ labels e. subst (All (IsFittingGroup labels)) (sym groups) (All-nil (IsFittingGroup labels));
  open_fits = λ labels e. empty_fits labels p.spot.at p.filling.items filling;
}

-- a request with its line
pub of_request : (asked : LocatedRequest) (request : AssemblyRequest) → asked.request ≡ request → asked ≡ record { line = asked.line; request = request }
of_request asked request e = ap (λ (r : AssemblyRequest). let one : LocatedRequest = record { line = asked.line; request = r } in one) e

pub marked_as : (p q : Packer) (s : PackingSpot) (before : List LocatedRequest) (one : LocatedRequest) (label : ℕ) → one.request ≡ MarkLabel label → FillsSlotsBeforeSpot p → AreRequestsLaidOut p before → IsCellClosed p q → s ≡ next_empty_cell_spot p.spot → label < length q.labels.items → slice_index_or q.labels.items label None ≡ None → (r : Packer) → r.groups.items ≡ q.groups.items → r.filling.items ≡ q.filling.items → r.labels.items ≡ set q.labels.items label (Some s.at) → r.spot ≡ s → AreRequestsLaidOut r (before ++ one ∷ [])
marked_as p q s before one label e c w closed is_next small unknown r groups filling labels_are spot_is =
    subst (λ (asked : LocatedRequest). AreRequestsLaidOut r (before ++ asked ∷ [])) (sym (of_request one (MarkLabel label) e))
    (marked p q s before one.line label c w closed is_next small unknown r groups filling labels_are spot_is)
