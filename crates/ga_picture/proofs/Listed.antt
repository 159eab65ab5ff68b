-- The events that are looked at, which of them are plain, and the nodes that they touch.
use Rattle.std.proofs.Common.{◌≡◌, ℕ, ◌+◌, ◌<◌, ◌==◌, Bool, true, false, ◌||◌, List, length, refl, sym, ◌∙◌, ap, subst, inl, inr, ⊎_elim, arith, eq-eqb, eqb-true, slice_index, ◌≤◌, ◌&&◌, ◌∷◌, drop, get_or, set, length-set, get_or-set_other, ◌-◌, true≢false, Option}
use Rattle.std.specs.List.{list_any, All}
use Rattle.std.proofs.lemmas.Bool.{or_left, or_right, or_cases, both_ways, cases_eq}
use Rattle.ga_ports.specs.declared.side.Side.{Side}
use Rattle.ga_grid.specs.declared.node_id.NodeId.{NodeId}
use Rattle.ga_event.specs.declared.event.Event.{Event}
use Rattle.ga_event.specs.declared.event.Event.TheVariants.{Own, Pass}
use Rattle.ga_event.specs.declared.event.EventWithLook.{EventWithLook}
use Rattle.ga_event.specs.Touches.{event_nodes}
use Rattle.ga_causal.specs.Dependence.{event_with_look_touches_node, event_at, default_event_with_look, is_transfer_event}
use Rattle.ga_picture.specs.declared.item.PictureItem.{PictureItem}
use Rattle.ga_picture.specs.Items.{picture_item_at_index, acting_node_of_event, is_running_before_events, is_plain_event, is_plain_event_at, PictureFacts, picture_item, picture_item_at, picture_items, IsOwnEventIfPlain}
use Rattle.ga_picture.specs.Drawing.{IsNodeOfDrawnEvent, IsLineOfNode, IsMarkOfOwnEvent, IsArrowOfTransfer, AreShadesOfEvents, item_with_nodes_left_out}
use Rattle.std.specs.Prelude.{not, if◌then◌else◌}
use Rattle.std.proofs.lemmas.List.{drop_more, drop_all, length-map}
use Rattle.std.proofs.lemmas.Grind.{get_or-set_at}
use Rattle.std.proofs.lemmas.List.Elements.{All-map}
use Rattle.std.proofs.lemmas.List.FromFn.{get_or-map-range_with_len, length-map-range_with_len}
use Rattle.ga_picture.specs.declared.shade.Shade.{Shade}
use Rattle.ga_picture.specs.declared.view.PictureView.{PictureView}
use Rattle.ga_picture.specs.declared.independent.IndependentNode.{IndependentNode}
use Rattle.ga_picture.specs.Picture.{optional_step_position, view_start_position, view_end_position, picture_inputs, viewed_picture_items}
use Rattle.ga_picture.specs.inner.{picture_facts_with_step_positions, AreItemsAndIndependentNodes, AreItemsOfEvents, RequiresTransferNodeLines}

-- ---- the nodes that events touch

pub own_touches : (e : EventWithLook) (node : NodeId) → e.event ≡ Own node → event_with_look_touches_node e node.number ≡ true
own_touches e node is = subst (λ z. list_any (λ m. m == node.number) (event_nodes z) ≡ true) (sym is) (or_left (node.number == node.number) false (eq-eqb node.number node.number refl))

pub writer_touches : (e : EventWithLook) (w r : NodeId) (side : Side) → e.event ≡ Pass w r side → event_with_look_touches_node e w.number ≡ true
writer_touches e w r side is =
    subst (λ z. list_any (λ m. m == w.number) (event_nodes z) ≡ true) (sym is) (or_left (w.number == w.number) ((r.number == w.number) || false) (eq-eqb w.number w.number refl))

pub reader_touches : (e : EventWithLook) (w r : NodeId) (side : Side) → e.event ≡ Pass w r side → event_with_look_touches_node e r.number ≡ true
reader_touches e w r side is =
    subst (λ z. list_any (λ m. m == r.number) (event_nodes z) ≡ true) (sym is)
    (or_right (w.number == r.number) ((r.number == r.number) || false) (or_left (r.number == r.number) false (eq-eqb r.number r.number refl)))

-- what holds of the flags once the events up to a place are looked at
pub record AreUsed (items : List PictureItem) (place : ℕ) (marks : ℕ → Bool) : Type 0 where
  pub needed : (n : ℕ) → marks n ≡ true → IsNodeOfDrawnEvent items n
  pub all : (n at : ℕ) → at < place → (picture_item_at_index items at).out ≡ false → event_with_look_touches_node (picture_item_at_index items at).cause n ≡ true → marks n ≡ true

pub used_none : (items : List PictureItem) (marks : ℕ → Bool) → ((n : ℕ) → marks n ≡ false) → AreUsed items 0 marks
used_none items marks f = record {
  needed = λ n t. absurd (both_ways (marks n) (f n) t);
  all = λ n at l o t. absurd (omega (arith, l));
}

pub used_more : (items : List PictureItem) (place : ℕ) (marks more : ℕ → Bool) (item : PictureItem) → place < length items → AreUsed items place marks → picture_item_at_index items place ≡ item
    → item.out ≡ false → ((n : ℕ) → more n ≡ (marks n || event_with_look_touches_node item.cause n)) → AreUsed items (place + 1) more
used_more items place marks more item l u here o m = record {
  needed = λ n t. ⊎_elim (λ s. u.needed n s)
      (λ s. record {
        place = place;
        within = l;
        drawn = ap (λ (z : PictureItem). z.out) here ∙ o;
        touched = subst (λ (z : PictureItem). event_with_look_touches_node z.cause n ≡ true) (sym here) s;
      })
      (or_cases (marks n) (event_with_look_touches_node item.cause n) (sym (m n) ∙ t));
  all = λ n at k s t. m n ∙ elim (cases_eq at place) [
    | inl q ↦ or_right (marks n) (event_with_look_touches_node item.cause n) (subst (λ (z : PictureItem). event_with_look_touches_node z.cause n ≡ true) (ap (picture_item_at_index items) q ∙ here) t)
    | inr ne ↦ or_left (marks n) (event_with_look_touches_node item.cause n) (u.all n at (omega (arith, k, ne)) s t)
  ];
}

-- an event that is left out
pub used_same : (items : List PictureItem) (place : ℕ) (marks : ℕ → Bool) (item : PictureItem) → AreUsed items place marks → picture_item_at_index items place ≡ item → item.out ≡ true
    → AreUsed items (place + 1) marks
used_same items place marks item u here o = record {
  needed = u.needed;
  all = λ n at k s t. elim (cases_eq at place) [
    | inl q ↦ absurd (both_ways (picture_item_at_index items at).out s (ap (λ (z : PictureItem). z.out) (ap (picture_item_at_index items) q ∙ here) ∙ o))
    | inr ne ↦ u.all n at (omega (arith, k, ne)) s t
  ];
}

pub touched_below : (e : Event) (n : ℕ) → list_any (λ m. m == n) (event_nodes e) ≡ true → n < 144
touched_below (Own node) n t = ⊎_elim
    (λ u. let q : node.number ≡ n = eqb-true node.number n u in let b : node.number < 144 = node.in_range in omega arith)
    (λ u. absurd (both_ways false refl u))
    (or_cases (node.number == n) false t)
touched_below (Pass w r side) n t = ⊎_elim
    (λ u. let q : w.number ≡ n = eqb-true w.number n u in let b : w.number < 144 = w.in_range in omega arith)
    (λ u. ⊎_elim
    (λ v. let q : r.number ≡ n = eqb-true r.number n v in let b : r.number < 144 = r.in_range in omega arith)
    (λ v. absurd (both_ways false refl v))
    (or_cases (r.number == n) false u))
    (or_cases (w.number == n) ((r.number == n) || false) t)

-- ---- events drawn one after another

-- each node of the event has its line noted
abbrev pub HasColumns : EventWithLook → List NodeId → List ℕ → Type 0
HasColumns e lines columns = (n : ℕ) → event_with_look_touches_node e n ≡ true → IsLineOfNode lines (slice_index columns n) n

pub mark_drawn : (e : EventWithLook) (lines : List NodeId) (columns : List ℕ) (node : NodeId) (k : ℕ) → e.event ≡ Own node → k ≡ node.number → HasColumns e lines columns → IsMarkOfOwnEvent e lines (slice_index columns k)
mark_drawn e lines columns node k is at h =
    record { node = node; own = is; on = subst (λ z. IsLineOfNode lines (slice_index columns z) node.number) (sym at) (h node.number (own_touches e node is)) }

pub arrow_drawn : (e : EventWithLook) (lines : List NodeId) (columns : List ℕ) (w r : NodeId) (side : Side) (k j : ℕ) → e.event ≡ Pass w r side → k ≡ w.number → j ≡ r.number → HasColumns e lines columns → IsArrowOfTransfer e lines (slice_index columns k) (slice_index columns j)
arrow_drawn e lines columns w r side k j is at to h = record {
  writer = w;
  reader = r;
  side = side;
  pass = is;
  start = subst (λ z. IsLineOfNode lines (slice_index columns z) w.number) (sym at) (h w.number (writer_touches e w r side is));
  head = subst (λ z. IsLineOfNode lines (slice_index columns z) r.number) (sym to) (h r.number (reader_touches e w r side is));
}

-- ---- which nodes run after the events of a list, visited from its end

-- what holds once the events from a place on are gone through
pub record ArePlain (ready : ℕ → Bool) (events : List EventWithLook) (from : ℕ) (flags : List Bool) (runs : ℕ → Bool) : Type 0 where
  pub size : length flags ≡ length events
  pub behind : (n : ℕ) → runs n ≡ is_running_before_events ready (drop from events) n
  pub done : (place : ℕ) → from ≤ place → place < length events → get_or flags place false ≡ is_plain_event_at ready events place

pub plain_none : (ready : ℕ → Bool) (events : List EventWithLook) (flags : List Bool) → length flags ≡ length events → ArePlain ready events (length events) flags ready
plain_none ready events flags size = record {
  size = size;
  behind = λ n. ap (λ (z : List EventWithLook). is_running_before_events ready z n) (sym (drop_all (length events) events (omega arith)));
  done = λ place b k. absurd (omega (arith, b, k));
}

pub plain_more : (ready : ℕ → Bool) (events : List EventWithLook) (at : ℕ) (flags : List Bool) (runs more : ℕ → Bool) (e : EventWithLook) (flag : Bool) → at < length events
    → ArePlain ready events (at + 1) flags runs → event_at events at ≡ e → flag ≡ is_plain_event runs e
    → ((n : ℕ) → more n ≡ (if event_with_look_touches_node e n then not (is_transfer_event e.event) else runs n)) → ArePlain ready events at (set flags at flag) more
plain_more ready events at flags runs more e flag within a here is m =
    let front : drop at events ≡ e ∷ drop (at + 1) events = drop_more events at default_event_with_look within ∙ ap (λ (z : EventWithLook). z ∷ drop (at + 1) events) here in
    let known : flag ≡ is_plain_event (is_running_before_events ready (drop (at + 1) events)) e = is ∙ ap (λ (b : Bool). not (is_transfer_event e.event) && (not e.look && b)) (a.behind (acting_node_of_event e.event)) in
    let placed : flag ≡ is_plain_event_at ready events at = known ∙ ap (λ (z : EventWithLook). is_plain_event (is_running_before_events ready (drop (at + 1) events)) z) (sym here) in
    let size : length flags ≡ length events = a.size in
    record {
      size = length-set flags at flag ∙ a.size;
      behind = λ n. m n ∙ ap (λ (b : Bool). if event_with_look_touches_node e n then not (is_transfer_event e.event) else b) (a.behind n) ∙ ap (λ (z : List EventWithLook). is_running_before_events ready z n) (sym front);
      done = λ place b k. elim (cases_eq place at) [
        | inl q ↦ get_or-set_at flags at place flag false q (omega arith) ∙ placed ∙ ap (is_plain_event_at ready events) (sym q)
        | inr ne ↦ get_or-set_other flags at place flag false ne ∙ a.done place (omega (arith, b, ne)) k
      ];
    }

-- ---- the events that are looked at; one that may be folded is an own one without a look

plain_parts : (pass look runs more : Bool) → ((not pass && (not look && runs)) && more) ≡ true → (pass ≡ false) × (look ≡ false)
plain_parts true look runs more e = absurd (true≢false (sym e))
plain_parts false true runs more e = absurd (true≢false (sym e))
plain_parts false false runs more e = (refl, refl)

item_simple : (known : PictureFacts) (view : PictureView) (place : ℕ) → IsOwnEventIfPlain (picture_item_at known view place)
item_simple known view place = λ e. plain_parts (is_transfer_event (event_at known.events place).event) (event_at known.events place).look _ _ e

pub items_simple : (known : PictureFacts) (view : PictureView) (from to : ℕ) → All IsOwnEventIfPlain (picture_items known view from to)
items_simple known view from to = λ k d l.
    let size : length (picture_items known view from to) ≡ to - from = length-map-range_with_len (picture_item_at known view) from (to - from) in
    subst IsOwnEventIfPlain (sym (get_or-map-range_with_len (picture_item_at known view) from (to - from) k (from + k) d (omega arith) refl))
    (item_simple known view (from + k))

pub item_same : (view : PictureView) (e f : EventWithLook) (s t : Shade) (plain simple named asked silent still : Bool) → e ≡ f → s ≡ t → plain ≡ simple → named ≡ asked → silent ≡ still
    → picture_item view e s plain named silent ≡ picture_item view f t simple asked still
item_same view e f s t plain simple named asked silent still p q r u v =
    ap (λ (z : EventWithLook). picture_item view z s plain named silent) p ∙ ap (λ (z : Shade). picture_item view f z plain named silent) q
    ∙ ap (λ (z : Bool). picture_item view f t z named silent) r ∙ ap (λ (z : Bool). picture_item view f t simple z silent) u
    ∙ ap (λ (z : Bool). picture_item view f t simple asked z) v

pub items_held : (known : PictureFacts) (view : PictureView) (from to : ℕ) → All RequiresTransferNodeLines (picture_items known view from to)
items_held known view from to = λ k d l.
    let size : length (picture_items known view from to) ≡ to - from = length-map-range_with_len (picture_item_at known view) from (to - from) in
    subst RequiresTransferNodeLines (sym (get_or-map-range_with_len (picture_item_at known view) from (to - from) k (from + k) d (omega arith) refl))
    (λ p. or_right _ _ (or_right _ _ (or_left _ _ p)))

without_simple : (alone : ℕ → Bool) (item : PictureItem) → IsOwnEventIfPlain item → IsOwnEventIfPlain (item_with_nodes_left_out alone item)
without_simple alone item h = simple (alone (acting_node_of_event item.cause.event)) item h where
  simple : (left : Bool) (item : PictureItem) → IsOwnEventIfPlain item
      → IsOwnEventIfPlain (if left then record { cause = item.cause; shade = item.shade; plain = false; out = true; holds = item.holds } else item)
  simple true item h = λ e. absurd (true≢false (sym e))
  simple false item h = h

pub items_drawn : (events : List EventWithLook) (ready idle : ℕ → Bool) (view : PictureView) (shades list : List Shade) (cause rewind : Option ℕ) (from to : ℕ) (items : List PictureItem) (told : List IndependentNode)
    → AreShadesOfEvents events cause rewind shades → list ≡ shades → cause ≡ optional_step_position events view.cause → rewind ≡ optional_step_position events view.rewind
    → from ≡ view_start_position events view → to ≡ view_end_position events view → AreItemsAndIndependentNodes (picture_items (picture_facts_with_step_positions events list ready idle cause rewind) view from to) items told
    → AreItemsOfEvents events ready idle view items told
items_drawn events ready idle view shades list cause rewind from to items told a l p q f t e = record {
  shades = shades;
  shaded = subst (λ (z : Option ℕ). AreShadesOfEvents events z (optional_step_position events view.rewind) shades) p (subst (λ (z : Option ℕ). AreShadesOfEvents events cause z shades) q a);
  listed = subst (λ (z : List PictureItem). AreItemsAndIndependentNodes z items told)
      (ap (λ (z : List Shade). picture_items (picture_facts_with_step_positions events z ready idle cause rewind) view from to) l
      ∙ ap (λ (z : Option ℕ). picture_items (picture_facts_with_step_positions events shades ready idle z rewind) view from to) p
      ∙ ap (λ (z : Option ℕ). picture_items (picture_facts_with_step_positions events shades ready idle (optional_step_position events view.cause) z) view from to) q
      ∙ ap (λ (z : ℕ). picture_items (picture_inputs events ready idle view shades) view z to) f
      ∙ ap (λ (z : ℕ). picture_items (picture_inputs events ready idle view shades) view (view_start_position events view) z) t)
      e;
}

pub drawn_few : (events : List EventWithLook) (ready idle : ℕ → Bool) (view : PictureView) (items : List PictureItem) (told : List IndependentNode) → AreItemsOfEvents events ready idle view items told
    → length items ≤ length events
drawn_few events ready idle view items told a =
    let known = picture_inputs events ready idle view a.shades in
    let looked = viewed_picture_items events ready idle view a.shades in
    let size : length items ≡ view_end_position events view - view_start_position events view =
    ap (λ (z : List PictureItem). length z) a.listed.are ∙ length-map looked (item_with_nodes_left_out a.listed.alone)
    ∙ length-map-range_with_len (picture_item_at known view) (view_start_position events view) (view_end_position events view - view_start_position events view) in
    let within : view_end_position events view ≤ length events = omega arith in
    omega arith

pub drawn_simple : (events : List EventWithLook) (ready idle : ℕ → Bool) (view : PictureView) (items : List PictureItem) (told : List IndependentNode) → AreItemsOfEvents events ready idle view items told
    → All IsOwnEventIfPlain items
drawn_simple events ready idle view items told a =
    let looked = viewed_picture_items events ready idle view a.shades in
    subst (λ (z : List PictureItem). All IsOwnEventIfPlain z) (sym a.listed.are)
    (All-map IsOwnEventIfPlain (item_with_nodes_left_out a.listed.alone) looked
    (λ k d l. without_simple a.listed.alone _ (items_simple (picture_inputs events ready idle view a.shades) view (view_start_position events view) (view_end_position events view) k d l)))
