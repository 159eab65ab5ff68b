-- Which nodes work by themselves, by what was taken in of events.
use Rattle.ga_event.specs.Touches as Touches
use Rattle.std.proofs.Common.{◌≡◌, ◌≢◌, ℕ, ◌<◌, ◌==◌, Bool, true, false, ◌&&◌, ◌||◌, List, length, Option, Some, None, refl, sym, ap, ◌∙◌, subst, ⊎_elim, eqb-true, eq-eqb, ◌+◌, ◌↔◌, ◌%◌, [], ◌∷◌, ◌++◌, map, arith, IsTrue}
use Rattle.std.specs.Prelude.{not, if◌then◌else◌}
use Rattle.std.specs.List.{list_any, All, filter, range_with_len}
use Rattle.std.proofs.lemmas.List.{get_or_default, get_or_past}
use Rattle.std.proofs.lemmas.List.Folds.{Any-from_list_any, list_any-from_Any, list_any-append}
use Rattle.std.proofs.lemmas.Bool.{not-true, not_from_false, both_ways, and_parts, and_from, or_cases, or_left, or_right, false_from_ne_true, cases_lt}
use Rattle.ga_ports.specs.declared.side.Side.{Side}
use Rattle.ga_ports.specs.declared.side.Side.TheVariants.{Right, Down, Left, Up}
use Rattle.ga_grid.specs.Grid.{neighbour_number, node_id}
use Rattle.ga_grid.specs.declared.node_id.NodeId.{NodeId}
use Rattle.ga_grid.proofs.NodeIds.{neighbour_number-back, neighbour_number-other, node_id-number}
use Rattle.ga_event.specs.declared.event.Event.{Event}
use Rattle.ga_event.specs.declared.event.Event.TheVariants.{Own, Pass}
use Rattle.ga_event.specs.declared.event.EventWithLook.{EventWithLook}
use Rattle.ga_event.specs.Touches.{event_nodes, looked_at_nodes, neighbours_of_node, nodes_observed_by_event}
use Rattle.ga_causal.specs.inner.{is_optional_node_marked}
use Rattle.ga_causal.specs.Dependence.{event_with_look_touches_node, is_transfer_event, is_node_flagged}
use Rattle.ga_causal.specs.Equivalence.{event_observes_node}
use Rattle.ga_causal.proofs.OldestEventPlaces.{any_neighbours}
use Rattle.ga_picture.specs.declared.item.PictureItem.{PictureItem}
use Rattle.ga_picture.specs.Items.{picture_item_at_index, default_picture_item}
use Rattle.ga_picture.specs.Drawing.{IsNodeOfDrawnEvent, IsDrawnEventOfNode, HasIndependentEvents, IsIndependentNode, drawn_event_count_of_node}
use Rattle.ga_picture.specs.inner.{RequiresTransferNodeLines, is_drawn_and_touches_node, is_look_item, is_node_touched_by_drawn_item, is_node_line_required, is_node_looking, is_independent_by_marks, IsActivityOfItems, HasJoinedWorkingNode, works_independently, works_joined_to_others}
use Rattle.ga_picture.proofs.Shaded.{any_of_one, any_at}
use Rattle.ga_picture.proofs.Listed.{touched_below}
use Rattle.std.proofs.lemmas.List.FromFn.{filter_of_map_range_with_len_more}
use Rattle.ga_picture.specs.declared.independent.IndependentNode.{IndependentNode}
use Rattle.ga_picture.specs.declared.independent.NodeActivity.{NodeActivity}

-- ---- neighbours

is_some_of : (o : Option ℕ) (m : ℕ) → is_optional_node_marked (λ k. k == m) o ≡ true → o ≡ Some m
is_some_of None m t = absurd (both_ways false refl t)
is_some_of (Some k) m t = ap Some (eqb-true k m t)

is_of_some : (o : Option ℕ) (m : ℕ) → o ≡ Some m → is_optional_node_marked (λ k. k == m) o ≡ true
is_of_some o m e = subst (λ z. is_optional_node_marked (λ k. k == m) z ≡ true) (sym e) (eq-eqb m m refl)

record IsBeside (n m : ℕ) : Type 0 where
  pub side : Side
  pub linked : neighbour_number n side ≡ Some m

beside_of : (n m : ℕ) → list_any (λ k. k == m) (neighbours_of_node n) ≡ true → IsBeside n m
beside_of n m t =
    let p : ℕ → Bool = λ k. k == m in
    let four = sym (any_neighbours p n) ∙ t in
    ⊎_elim (λ u. record { side = Right; linked = is_some_of (neighbour_number n Right) m u })
    (λ three. ⊎_elim (λ u. record { side = Down; linked = is_some_of (neighbour_number n Down) m u })
    (λ two. ⊎_elim (λ u. record { side = Left; linked = is_some_of (neighbour_number n Left) m u })
    (λ one. ⊎_elim (λ u. record { side = Up; linked = is_some_of (neighbour_number n Up) m u })
    (λ none. absurd (both_ways false refl none))
    (or_cases _ _ one))
    (or_cases _ _ two))
    (or_cases _ _ three))
    (or_cases _ _ four)

abbrev on : ℕ → ℕ → Side → Bool
on n m side = is_optional_node_marked (λ k. k == m) (neighbour_number n side)

side_beside : (n m : ℕ) (side : Side) → neighbour_number n side ≡ Some m → list_any (λ k. k == m) (neighbours_of_node n) ≡ true
side_beside n m Right e = any_neighbours (λ k. k == m) n ∙ or_left (on n m Right) _ (is_of_some (neighbour_number n Right) m e)
side_beside n m Down e = any_neighbours (λ k. k == m) n ∙ or_right (on n m Right) _ (or_left (on n m Down) _ (is_of_some (neighbour_number n Down) m e))
side_beside n m Left e =
    any_neighbours (λ k. k == m) n ∙ or_right (on n m Right) _ (or_right (on n m Down) _ (or_left (on n m Left) _ (is_of_some (neighbour_number n Left) m e)))
side_beside n m Up e =
    any_neighbours (λ k. k == m) n
    ∙ or_right (on n m Right) _ (or_right (on n m Down) _ (or_right (on n m Left) _ (or_left (on n m Up) false (is_of_some (neighbour_number n Up) m e))))

beside_back : (n m : ℕ) → n < 144 → list_any (λ k. k == m) (neighbours_of_node n) ≡ true → list_any (λ k. k == n) (neighbours_of_node m) ≡ true
beside_back n m l t = let b = beside_of n m t in side_beside m n b.side (neighbour_number-back n m b.side l b.linked)

beside_other : (n m : ℕ) → list_any (λ k. k == m) (neighbours_of_node n) ≡ true → m ≢ n
beside_other n m t = let b = beside_of n m t in neighbour_number-other n m b.side b.linked

-- ---- what one event touches and sees

own_alone : (e : Event) (n m : ℕ) → is_transfer_event e ≡ false → Touches.touches e n ≡ true → Touches.touches e m ≡ true → m ≡ n
own_alone (Own node) n m own t u = sym (named node m u) ∙ named node n t where
  named : (node : NodeId) (k : ℕ) → Touches.touches (Own node) k ≡ true → node.number ≡ k
  named node k t = ⊎_elim (λ u. eqb-true node.number k u) (λ u. absurd (both_ways false refl u)) (or_cases (node.number == k) false t)
own_alone (Pass w r side) n m own t u = absurd (both_ways true own refl)

-- it looks from a node beside this one
pub record IsSeen (e : EventWithLook) (n : ℕ) : Type 0 where
  pub from : ℕ
  pub within : from < 144
  pub touched : event_with_look_touches_node e from ≡ true
  pub looks : (not (is_transfer_event e.event) && e.look) ≡ true
  pub beside : list_any (λ k. k == n) (neighbours_of_node from) ≡ true

seen_from : (e : EventWithLook) (v : Event) (look : Bool) (n : ℕ) → e.event ≡ v → e.look ≡ look → list_any (λ k. k == n) (looked_at_nodes v look) ≡ true → IsSeen e n
seen_from e (Own node) true n is l t = record {
  from = node.number;
  within = node.in_range;
  touched = subst (λ z. Touches.touches z node.number ≡ true) (sym is) (or_left (node.number == node.number) false (eq-eqb node.number node.number refl));
  looks = and_from _ _ (ap (λ z. not (is_transfer_event z)) is) l;
  beside = t;
}
seen_from e (Own node) false n is l t = absurd (both_ways false refl t)
seen_from e (Pass w r side) look n is l t = absurd (both_ways false refl t)

sees_parts : (e : EventWithLook) (n : ℕ) → event_observes_node e n ≡ (event_with_look_touches_node e n || list_any (λ k. k == n) (looked_at_nodes e.event e.look))
unfolding nodes_observed_by_event
sees_parts e n = list_any-append (λ k. k == n) (event_nodes e.event) (looked_at_nodes e.event e.look)

is_seen : (e : EventWithLook) (n : ℕ) → event_observes_node e n ≡ true → event_with_look_touches_node e n ≡ false → IsSeen e n
is_seen e n s f = ⊎_elim (λ t. absurd (both_ways (event_with_look_touches_node e n) f t)) (λ t. seen_from e e.event e.look n refl refl t)
    (or_cases _ _ (sym (sees_parts e n) ∙ s))

looks_at : (v : Event) (look : Bool) (n m : ℕ) → (not (is_transfer_event v) && look) ≡ true → Touches.touches v n ≡ true → list_any (λ k. k == m) (neighbours_of_node n) ≡ true
    → list_any (λ k. k == m) (looked_at_nodes v look) ≡ true
looks_at (Own node) true n m l t b =
    subst (λ z. list_any (λ k. k == m) (neighbours_of_node z) ≡ true)
    (sym (own_alone (Own node) n node.number refl t (or_left (node.number == node.number) false (eq-eqb node.number node.number refl)))) b
looks_at (Own node) false n m l t b = absurd (both_ways false refl l)
looks_at (Pass w r side) look n m l t b = absurd (both_ways false refl l)

sees_beside : (e : EventWithLook) (n m : ℕ) → (not (is_transfer_event e.event) && e.look) ≡ true → event_with_look_touches_node e n ≡ true → list_any (λ k. k == m) (neighbours_of_node n) ≡ true → event_observes_node e m ≡ true
sees_beside e n m l t b = sees_parts e m ∙ or_right _ _ (looks_at e.event e.look n m l t b)

-- ---- one event of a list

record IsSomewhere (p : PictureItem → Bool) (items : List PictureItem) : Type 0 where
  pub place : ℕ
  pub within : place < length items
  pub passes : p (picture_item_at_index items place) ≡ true

somewhere : (p : PictureItem → Bool) (items : List PictureItem) → list_any p items ≡ true → IsSomewhere p items
somewhere p items t =
    let a = Any-from_list_any p items t in
    let is : picture_item_at_index items a.0 ≡ a.1 = get_or_default items a.0 default_picture_item a.1 a.2 ∙ a.3 in
    record { place = a.0; within = a.2; passes = ap p is ∙ a.4 }

from_somewhere : (p : PictureItem → Bool) (items : List PictureItem) (place : ℕ) → place < length items → p (picture_item_at_index items place) ≡ true → list_any p items ≡ true
from_somewhere p items place l t =
    list_any-from_Any p items (place, picture_item_at_index items place, l, get_or_default items place (picture_item_at_index items place) default_picture_item l, t)

on_of : (items : List PictureItem) (place n : ℕ) → IsDrawnEventOfNode items place n → is_drawn_and_touches_node (picture_item_at_index items place) n ≡ true
on_of items place n o = and_from _ _ (not_from_false _ o.drawn) o.touched

of_on : (items : List PictureItem) (place n : ℕ) → place < length items → is_drawn_and_touches_node (picture_item_at_index items place) n ≡ true → IsDrawnEventOfNode items place n
of_on items place n l t = let parts = and_parts _ _ t in record { within = l; drawn = not-true _ parts.0; touched = parts.1 }

pub touched_from : (items : List PictureItem) (n : ℕ) → is_node_touched_by_drawn_item items n ≡ true → IsNodeOfDrawnEvent items n
touched_from items n t =
    let s = somewhere (λ item. is_drawn_and_touches_node item n) items t in
    let o = of_on items s.place n s.within s.passes in
    record { place = s.place; within = s.within; drawn = o.drawn; touched = o.touched }

of_touched : (items : List PictureItem) (n : ℕ) (t : IsNodeOfDrawnEvent items n) → IsDrawnEventOfNode items t.place n
of_touched items n t = record { within = t.within; drawn = t.drawn; touched = t.touched }

touched_of : (items : List PictureItem) (place n : ℕ) → IsDrawnEventOfNode items place n → is_node_touched_by_drawn_item items n ≡ true
touched_of items place n o = from_somewhere (λ item. is_drawn_and_touches_node item n) items place o.within (on_of items place n o)

pub into_touched : (items : List PictureItem) (n : ℕ) → IsNodeOfDrawnEvent items n → is_node_touched_by_drawn_item items n ≡ true
into_touched items n t = touched_of items t.place n (of_touched items n t)

held_of : (items : List PictureItem) (place n : ℕ) → IsDrawnEventOfNode items place n → (picture_item_at_index items place).holds ≡ true → is_node_line_required items n ≡ true
held_of items place n o h = from_somewhere (λ (item : PictureItem). is_drawn_and_touches_node item n && item.holds) items place o.within (and_from _ _ (on_of items place n o) h)

looking_of : (items : List PictureItem) (place n : ℕ) → IsDrawnEventOfNode items place n → is_look_item (picture_item_at_index items place) ≡ true → is_node_looking items n ≡ true
looking_of items place n o h = from_somewhere (λ item. is_drawn_and_touches_node item n && is_look_item item) items place o.within (and_from _ _ (on_of items place n o) h)

-- ---- where nothing holds a node or joins it to another, by what is marked

abbrev pub loose_in : List PictureItem → ℕ → Bool
loose_in items n = is_independent_by_marks (is_node_touched_by_drawn_item items) (is_node_line_required items) (is_node_looking items) n

record IsUnjoined (items : List PictureItem) (n : ℕ) : Type 0 where
  pub unheld : is_node_line_required items n ≡ false
  pub blind : is_node_looking items n ≡ true → list_any (is_node_touched_by_drawn_item items) (neighbours_of_node n) ≡ true → ⊥
  pub unseen : list_any (is_node_looking items) (neighbours_of_node n) ≡ false

unjoined : (items : List PictureItem) (n : ℕ) → loose_in items n ≡ true → IsUnjoined items n
unjoined items n t =
    let first = and_parts _ _ t in
    let second = and_parts _ _ first.1 in
    record {
      unheld = not-true _ first.0;
      blind = λ l b. both_ways _ (not-true _ second.0) (and_from _ _ l b);
      unseen = not-true _ second.1;
    }

own_of : (items : List PictureItem) (place n : ℕ) → All RequiresTransferNodeLines items → is_node_line_required items n ≡ false → IsDrawnEventOfNode items place n
    → ((picture_item_at_index items place).holds ≡ false) × (is_transfer_event (picture_item_at_index items place).cause.event ≡ false)
own_of items place n held f o =
    let loose : (picture_item_at_index items place).holds ≡ false = false_from_ne_true _ (λ h. both_ways _ f (held_of items place n o h)) in
    (loose, false_from_ne_true _ (λ p. both_ways _ loose (held place default_picture_item o.within p)))

-- an event of another node doesn't touch it
untouched : (items : List PictureItem) (by n other : ℕ) → All RequiresTransferNodeLines items → is_node_line_required items n ≡ false → IsDrawnEventOfNode items by other → other ≢ n
    → event_with_look_touches_node (picture_item_at_index items by).cause n ≡ false
untouched items by n other held f q ne =
    false_from_ne_true _ (λ t.
    let o : IsDrawnEventOfNode items by n = record { within = q.within; drawn = q.drawn; touched = t } in
    ne (own_alone (picture_item_at_index items by).cause.event n other (own_of items by n held f o).1 t q.touched))

pub free_from : (items : List PictureItem) (n : ℕ) → All RequiresTransferNodeLines items → loose_in items n ≡ true → HasIndependentEvents items n
free_from items n held t =
    let u = unjoined items n t in
    record {
      loose = λ place o. (own_of items place n held u.unheld o).0;
      apart = λ place by other o q ne.
          let e = (picture_item_at_index items place).cause in
          let f = (picture_item_at_index items by).cause in
          let own : is_transfer_event e.event ≡ false = (own_of items place n held u.unheld o).1 in
          let off : event_with_look_touches_node f n ≡ false = untouched items by n other held u.unheld q ne in
          record {
            first = λ m at s.
                let here : m ≡ n = own_alone e.event n m own o.touched at in
                let k = is_seen f n (subst (λ z. event_observes_node f z ≡ true) here s) off in
                let looker : IsDrawnEventOfNode items by k.from = record { within = q.within; drawn = q.drawn; touched = k.touched } in
                both_ways _ u.unseen (any_of_one (is_node_looking items) k.from (looking_of items by k.from looker k.looks) (neighbours_of_node n) (beside_back k.from n k.within k.beside));
            second = λ m at s.
                let there : IsDrawnEventOfNode items by m = record { within = q.within; drawn = q.drawn; touched = at } in
                let away : event_with_look_touches_node e m ≡ false = false_from_ne_true _ (λ v. both_ways _ off (subst (λ z. event_with_look_touches_node f z ≡ true) (own_alone e.event n m own o.touched v) at)) in
                let k = is_seen e m s away in
                let same : k.from ≡ n = own_alone e.event n k.from own o.touched k.touched in
                u.blind (looking_of items place n o k.looks)
                (any_of_one (is_node_touched_by_drawn_item items) m (touched_of items by m there) (neighbours_of_node n) (subst (λ z. list_any (λ j. j == m) (neighbours_of_node z) ≡ true) same k.beside));
          };
    }

-- ---- and back

pub loose_from : (items : List PictureItem) (n : ℕ) → All RequiresTransferNodeLines items → IsNodeOfDrawnEvent items n → HasIndependentEvents items n → loose_in items n ≡ true
loose_from items n held t free =
    let o = of_touched items n t in
    let small : n < 144 = touched_below (picture_item_at_index items t.place).cause.event n t.touched in
    and_from _ _ (not_from_false _ (unheld items n free)) (and_from _ _ (not_from_false _ (blind items n free)) (not_from_false _ (unseen items n t.place o small free))) where
      unheld : (items : List PictureItem) (n : ℕ) → HasIndependentEvents items n → is_node_line_required items n ≡ false
      unheld items n free = false_from_ne_true _ (λ h.
          let s = somewhere (λ (item : PictureItem). is_drawn_and_touches_node item n && item.holds) items h in
          let parts = and_parts _ _ s.passes in
          both_ways _ (free.loose s.place (of_on items s.place n s.within parts.0)) parts.1)

      blind : (items : List PictureItem) (n : ℕ) → HasIndependentEvents items n → (is_node_looking items n && list_any (is_node_touched_by_drawn_item items) (neighbours_of_node n)) ≡ false
      blind items n free = false_from_ne_true _ (λ h.
          let both = and_parts _ _ h in
          let s = somewhere (λ item. is_drawn_and_touches_node item n && is_look_item item) items both.0 in
          let parts = and_parts _ _ s.passes in
          let b = any_at (is_node_touched_by_drawn_item items) (neighbours_of_node n) both.1 in
          let q = touched_from items b.0 b.2 in
          (free.apart s.place q.place b.0 (of_on items s.place n s.within parts.0) (of_touched items b.0 q) (beside_other n b.0 b.1)).second b.0 q.touched
          (sees_beside (picture_item_at_index items s.place).cause n b.0 parts.1 (of_on items s.place n s.within parts.0).touched b.1))

      unseen : (items : List PictureItem) (n place : ℕ) → IsDrawnEventOfNode items place n → n < 144 → HasIndependentEvents items n → list_any (is_node_looking items) (neighbours_of_node n) ≡ false
      unseen items n place o small free = false_from_ne_true _ (λ h.
          let b = any_at (is_node_looking items) (neighbours_of_node n) h in
          let s = somewhere (λ item. is_drawn_and_touches_node item b.0 && is_look_item item) items b.2 in
          let parts = and_parts _ _ s.passes in
          let q = of_on items s.place b.0 s.within parts.0 in
          (free.apart place s.place b.0 o q (beside_other n b.0 b.1)).first n o.touched
          (sees_beside (picture_item_at_index items s.place).cause b.0 n parts.1 q.touched (beside_back n b.0 small b.1)))

-- ---- which nodes work by themselves

any_alike : (p q : ℕ → Bool) → ((n : ℕ) → p n ≡ q n) → (ns : List ℕ) → list_any p ns ≡ list_any q ns
any_alike p q e [] = refl
any_alike p q e (n ∷ ns) = ap (λ z. z || list_any p ns) (e n) ∙ ap (λ z. q n || z) (any_alike p q e ns)

loose_alike : (items : List PictureItem) (tally : NodeActivity) → IsActivityOfItems items tally → (n : ℕ)
    → is_independent_by_marks (is_node_flagged tally.touched) (is_node_flagged tally.held) (is_node_flagged tally.looking) n ≡ loose_in items n
loose_alike items tally a n =
    let on = any_alike (is_node_flagged tally.touched) (is_node_touched_by_drawn_item items) a.touched (neighbours_of_node n) in
    let by = any_alike (is_node_flagged tally.looking) (is_node_looking items) a.looking (neighbours_of_node n) in
    ap (λ z. not z && (not (is_node_flagged tally.looking n && list_any (is_node_flagged tally.touched) (neighbours_of_node n)) && not (list_any (is_node_flagged tally.looking) (neighbours_of_node n)))) (a.held n)
    ∙ ap (λ z. not (is_node_line_required items n) && (not (z && list_any (is_node_flagged tally.touched) (neighbours_of_node n)) && not (list_any (is_node_flagged tally.looking) (neighbours_of_node n)))) (a.looking n)
    ∙ ap (λ z. not (is_node_line_required items n) && (not (is_node_looking items n && z) && not (list_any (is_node_flagged tally.looking) (neighbours_of_node n)))) on
    ∙ ap (λ z. not (is_node_line_required items n) && (not (is_node_looking items n && list_any (is_node_touched_by_drawn_item items) (neighbours_of_node n)) && not z)) by

touched_small : (items : List PictureItem) (n : ℕ) → IsNodeOfDrawnEvent items n → n < 144
touched_small items n t = touched_below (picture_item_at_index items t.place).cause.event n t.touched

joined_not_free : (items : List PictureItem) (tally : NodeActivity) (n : ℕ) → IsActivityOfItems items tally → All RequiresTransferNodeLines items → works_joined_to_others tally n ≡ true → IsNodeOfDrawnEvent items n × (¬ HasIndependentEvents items n)
joined_not_free items tally n a held t =
    let parts = and_parts _ _ t in
    let touched = touched_from items n (sym (a.touched n) ∙ parts.0) in
    (touched, λ free. both_ways _ (not-true _ parts.1) (loose_alike items tally a n ∙ loose_from items n held touched free))

not_free_joined : (items : List PictureItem) (tally : NodeActivity) (n : ℕ) → IsActivityOfItems items tally → All RequiresTransferNodeLines items → IsNodeOfDrawnEvent items n → (¬ HasIndependentEvents items n) → works_joined_to_others tally n ≡ true
not_free_joined items tally n a held touched stays =
    and_from _ _ (a.touched n ∙ into_touched items n touched)
    (not_from_false _ (false_from_ne_true _ (λ t. stays (free_from items n held (sym (loose_alike items tally a n) ∙ t)))))

pub alone_joined : (items : List PictureItem) (tally : NodeActivity) (flags : List Bool) → IsActivityOfItems items tally → All RequiresTransferNodeLines items → HasJoinedWorkingNode tally → length flags ≡ 144
    → ((n : ℕ) → n < 144 → is_node_flagged flags n ≡ works_independently tally n) → (n : ℕ) → IsTrue (is_node_flagged flags n) ↔ IsIndependentNode items n
alone_joined items tally flags a held j size e n = (
  λ t. ⊎_elim (λ l.
      let parts = and_parts _ _ (sym (e n l) ∙ t) in
      let other = joined_not_free items tally j.node a held j.joined in
      record {
        works = touched_from items n (sym (a.touched n) ∙ parts.0);
        free = free_from items n held (sym (loose_alike items tally a n) ∙ parts.1);
        other = j.node;
        beside = other.0;
        joined = other.1;
      })
      (λ g. absurd (both_ways _ (get_or_past flags n false (omega (arith, size, g))) t))
      (cases_lt n 144),
  λ b. e n (touched_small items n b.works)
      ∙ and_from _ _ (a.touched n ∙ into_touched items n b.works) (loose_alike items tally a n ∙ loose_from items n held b.works b.free),
)

pub alone_none : (items : List PictureItem) (tally : NodeActivity) (flags : List Bool) → IsActivityOfItems items tally → All RequiresTransferNodeLines items → ((n : ℕ) → n < 144 → works_joined_to_others tally n ≡ false)
    → ((n : ℕ) → is_node_flagged flags n ≡ false) → (n : ℕ) → IsTrue (is_node_flagged flags n) ↔ IsIndependentNode items n
alone_none items tally flags a held none off n = (
  λ t. absurd (both_ways _ (off n) t),
  λ b. absurd (both_ways _ (none b.other (touched_small items b.other b.beside)) (not_free_joined items tally b.other a held b.beside b.joined)),
)

-- ---- what the foot has of them

abbrev told_at : List PictureItem → ℕ → IndependentNode
told_at items n = record { node = node_id n; steps = drawn_event_count_of_node items n }

-- of the nodes below a number
abbrev pub told_below : List PictureItem → (ℕ → Bool) → ℕ → List IndependentNode
told_below items alone k = filter (λ (it : IndependentNode). alone it.node.number) (map (told_at items) (range_with_len 0 k))

told_next : (items : List PictureItem) (alone : ℕ → Bool) (k : ℕ) → k < 144
    → told_below items alone (k + 1) ≡ told_below items alone k ++ (if alone k then told_at items k ∷ [] else [])
told_next items alone k l =
    let small : k % 144 ≡ k = omega arith in
    filter_of_map_range_with_len_more (λ (it : IndependentNode). alone it.node.number) (told_at items) 0 k k (omega arith)
    ∙ ap (λ z. told_below items alone k ++ (if alone z then told_at items k ∷ [] else [])) small

pub told_more : (items : List PictureItem) (alone : ℕ → Bool) (told : List IndependentNode) (k steps : ℕ) (node : NodeId) → k < 144 → node.number ≡ k → steps ≡ drawn_event_count_of_node items k → alone k ≡ true
    → told ≡ told_below items alone k → told ++ record { node = node; steps = steps } ∷ [] ≡ told_below items alone (k + 1)
told_more items alone told k steps node l is many t e =
    let named : node ≡ node_id k = sym (node_id-number node) ∙ ap node_id is in
    ap (λ z. z ++ record { node = node; steps = steps } ∷ []) e ∙ ap (λ z. told_below items alone k ++ record { node = z; steps = steps } ∷ []) named
    ∙ ap (λ z. told_below items alone k ++ record { node = node_id k; steps = z } ∷ []) many
    ∙ ap (λ b. told_below items alone k ++ (if b then told_at items k ∷ [] else [])) (sym t) ∙ sym (told_next items alone k l)

pub told_same : (items : List PictureItem) (alone : ℕ → Bool) (told : List IndependentNode) (k : ℕ) → k < 144 → alone k ≡ false → told ≡ told_below items alone k → told ≡ told_below items alone (k + 1)
told_same items alone told k l f e =
    e ∙ sym (append_none (told_below items alone k)) ∙ ap (λ b. told_below items alone k ++ (if b then told_at items k ∷ [] else [])) (sym f) ∙ sym (told_next items alone k l) where
      append_none : (xs : List IndependentNode) → xs ++ [] ≡ xs
      append_none [] = refl
      append_none (x ∷ xs) = ap (λ z. x ∷ z) (append_none xs)
