-- Runs of events, gone through from the front and from the end.
use Rattle.std.proofs.Common.{◌≡◌, ℕ, zero, suc, ◌+◌, ◌-◌, ◌<◌, ◌≤◌, ◌==◌, ◌&&◌, ◌||◌, Bool, true, false, true≢false, List, [], ◌∷◌, length, drop, get_or, set, refl, sym, ap, ◌∙◌, subst, inl, inr, ⊎_elim, arith, add-one, eq-eqb, eqb-true, length-set, length-drop, replicate, get_or-set_other}
use Rattle.std.specs.Prelude.{if◌then◌else◌}
use Rattle.std.proofs.lemmas.List.{drop_more, drop_all, get_or-replicate, length-replicate, get_or_past}
use Rattle.std.proofs.lemmas.Grind.{get_or-set_at}
use Rattle.std.proofs.lemmas.Bool.{cases_eq, cases_lt, cases_Bool}
use Rattle.ga_event.specs.declared.event.Event.{Event}
use Rattle.ga_event.specs.declared.event.Event.TheVariants.{Own, Pass}
use Rattle.ga_event.specs.declared.event.EventWithLook.{EventWithLook}
use Rattle.ga_event.specs.Touches.{nodes_observed_by_event}
use Rattle.ga_causal.specs.Dependence.{event_with_look_touches_node, is_transfer_event}
use Rattle.ga_causal.specs.Equivalence.{event_observes_node}
use Rattle.ga_picture.specs.declared.shade.Shade.{Shade}
use Rattle.ga_picture.specs.declared.shade.Shade.TheVariants.{Black, Grey, Red}
use Rattle.ga_picture.specs.declared.item.PictureItem.{PictureItem}
use Rattle.ga_picture.specs.declared.runs.Runs.{Runs}
use Rattle.ga_picture.specs.Items.{acting_node_of_event, picture_item_at_index, default_picture_item, is_same_shade, IsOwnEventIfPlain, run_length_with_event, run_length_before, run_length_ahead, run_event_count_after}
use Rattle.ga_picture.specs.inner.{run_length_in_shade, HasOneRunPerNode, AreRunsWithinBound}

before_none : (n : ℕ) (shade : Shade) (items : List PictureItem) → run_length_before n shade items zero ≡ 0
unfolding run_length_before
before_none n shade items = refl

before_one : (n : ℕ) (shade : Shade) (items : List PictureItem) (place : ℕ) → run_length_before n shade items (suc place) ≡ run_length_with_event n shade (picture_item_at_index items place) (run_length_before n shade items place)
unfolding run_length_before
before_one n shade items place = refl

front_none : (n : ℕ) (shade : Shade) → run_length_ahead n shade [] ≡ 0
unfolding run_length_ahead
front_none n shade = refl

front_one : (n : ℕ) (shade : Shade) (item : PictureItem) (items : List PictureItem) → run_length_ahead n shade (item ∷ items) ≡ run_length_with_event n shade item (run_length_ahead n shade items)
unfolding run_length_ahead
front_one n shade item items = refl

-- the runs up to a place
pub record AreBefore (items : List PictureItem) (place : ℕ) (runs : Runs) : Type 0 where
  pub sizes : HasOneRunPerNode runs
  pub within : AreRunsWithinBound runs place
  pub counts : (n : ℕ) (shade : Shade) → n < 144 → run_length_in_shade runs n shade ≡ run_length_before n shade items place

pub before_more : (items : List PictureItem) (place : ℕ) (runs more : Runs) (item : PictureItem) → AreBefore items place runs → picture_item_at_index items place ≡ item → HasOneRunPerNode more
    → AreRunsWithinBound more (place + 1) → ((n : ℕ) (shade : Shade) → n < 144 → run_length_in_shade more n shade ≡ run_length_with_event n shade item (run_length_in_shade runs n shade))
    → AreBefore items (place + 1) more
before_more items place runs more item a here sizes within counts = record {
  sizes = sizes;
  within = within;
  counts = λ n shade l. counts n shade l ∙ ap (run_length_with_event n shade item) (a.counts n shade l)
      ∙ ap (λ (z : PictureItem). run_length_with_event n shade z (run_length_before n shade items place)) (sym here)
      ∙ sym (before_one n shade items place) ∙ ap (run_length_before n shade items) (sym (add-one place));
}

-- the runs from a place on, with the number computed for each event from there on
pub record AreBehind (items : List PictureItem) (from : ℕ) (told : List ℕ) (runs : Runs) : Type 0 where
  pub size : length told ≡ length items
  pub sizes : HasOneRunPerNode runs
  pub within : AreRunsWithinBound runs (length items - from)
  pub counts : (n : ℕ) (shade : Shade) → n < 144 → run_length_in_shade runs n shade ≡ run_length_ahead n shade (drop from items)
  pub done : (place : ℕ) → from ≤ place → place < length items → get_or told place 0 ≡ run_event_count_after items place

pub behind_more : (items : List PictureItem) (at : ℕ) (told : List ℕ) (runs more : Runs) (item : PictureItem) (count : ℕ) → at < length items → AreBehind items (at + 1) told runs
    → picture_item_at_index items at ≡ item → count ≡ run_length_in_shade runs (acting_node_of_event item.cause.event) item.shade → acting_node_of_event item.cause.event < 144 → HasOneRunPerNode more
    → AreRunsWithinBound more (length items - at) → ((n : ℕ) (shade : Shade) → n < 144 → run_length_in_shade more n shade ≡ run_length_with_event n shade item (run_length_in_shade runs n shade))
    → AreBehind items at (set told at count) more
behind_more items at told runs more item count within a here is node sizes few counts =
    let front : drop at items ≡ item ∷ drop (at + 1) items = drop_more items at default_picture_item within ∙ ap (λ (z : PictureItem). z ∷ drop (at + 1) items) here in
    let placed : count ≡ run_event_count_after items at =
    is ∙ a.counts (acting_node_of_event item.cause.event) item.shade node
    ∙ ap (λ (z : PictureItem). run_length_ahead (acting_node_of_event z.cause.event) z.shade (drop (at + 1) items)) (sym here) in
    let size : length told ≡ length items = a.size in
    record {
      size = length-set told at count ∙ a.size;
      sizes = sizes;
      within = few;
      counts = λ n shade l. counts n shade l ∙ ap (run_length_with_event n shade item) (a.counts n shade l) ∙ sym (front_one n shade item (drop (at + 1) items))
          ∙ ap (run_length_ahead n shade) (sym front);
      done = λ place b k. elim (cases_eq place at) [
        | inl q ↦ get_or-set_at told at place count 0 q (omega arith) ∙ placed ∙ ap (run_event_count_after items) (sym q)
        | inr ne ↦ get_or-set_other told at place count 0 ne ∙ a.done place (omega (arith, b, ne)) k
      ];
    }

-- a run has no more events than stand before a place
zero_within : (runs : Runs) (n : ℕ) (shade : Shade) → AreRunsWithinBound runs 0 → run_length_in_shade runs n shade ≡ 0
zero_within runs n shade h = grind (arith, h n)

pub before_first : (items : List PictureItem) (runs : Runs) → HasOneRunPerNode runs → AreRunsWithinBound runs 0 → AreBefore items 0 runs
before_first items runs sizes none = record {
  sizes = sizes;
  within = none;
  counts = λ n shade l. zero_within runs n shade none ∙ sym (before_none n shade items);
}

pub behind_first : (items : List PictureItem) (told : List ℕ) (runs : Runs) → length told ≡ length items → HasOneRunPerNode runs → AreRunsWithinBound runs 0
    → AreBehind items (length items) told runs
behind_first items told runs size sizes none = record {
  size = size;
  sizes = sizes;
  within = λ n. omega (arith, none n);
  counts = λ n shade l. zero_within runs n shade none ∙ sym (ap (run_length_ahead n shade) (drop_all (length items) items (omega arith)) ∙ front_none n shade);
  done = λ place b k. absurd (omega (arith, b, k));
}

-- ---- one event

or_false : (b : Bool) → (b || false) ≡ b
or_false true = refl
or_false false = refl

-- an own event without a look touches and sees its node alone
touches_alone : (event : Event) (n : ℕ) → is_transfer_event event ≡ false → event_with_look_touches_node (record { event = event; look = false }) n ≡ (acting_node_of_event event == n)
touches_alone (Own node) n e = or_false (node.number == n)
touches_alone (Pass writer reader side) n e = absurd (true≢false e)

sees_alone : (event : Event) (n : ℕ) → is_transfer_event event ≡ false → event_observes_node (record { event = event; look = false }) n ≡ (acting_node_of_event event == n)
unfolding nodes_observed_by_event
sees_alone (Own node) n e = or_false (node.number == n)
sees_alone (Pass writer reader side) n e = absurd (true≢false e)

cause_alone : (e : EventWithLook) → e.look ≡ false → e ≡ record { event = e.event; look = false }
cause_alone e h = ap (λ (b : Bool). let cause : EventWithLook = record { event = e.event; look = b } in cause) h

simple_touches : (item : PictureItem) (n : ℕ) → is_transfer_event item.cause.event ≡ false → item.cause.look ≡ false → event_with_look_touches_node item.cause n ≡ (acting_node_of_event item.cause.event == n)
simple_touches item n p l = ap (λ (e : EventWithLook). event_with_look_touches_node e n) (cause_alone item.cause l) ∙ touches_alone item.cause.event n p

simple_sees : (item : PictureItem) (n : ℕ) → is_transfer_event item.cause.event ≡ false → item.cause.look ≡ false → event_observes_node item.cause n ≡ (acting_node_of_event item.cause.event == n)
simple_sees item n p l = ap (λ (e : EventWithLook). event_observes_node e n) (cause_alone item.cause l) ∙ sees_alone item.cause.event n p

same_shade : (s t : Shade) → is_same_shade s t ≡ true → s ≡ t
same_shade Black Black e = refl
same_shade Grey Grey e = refl
same_shade Red Red e = refl
same_shade Black Grey e = absurd (true≢false (sym e))
same_shade Black Red e = absurd (true≢false (sym e))
same_shade Grey Black e = absurd (true≢false (sym e))
same_shade Grey Red e = absurd (true≢false (sym e))
same_shade Red Black e = absurd (true≢false (sym e))
same_shade Red Grey e = absurd (true≢false (sym e))

-- what an event does to the count of a run, by what it is to it
abbrev step_by : Bool → Bool → Bool → Bool → ℕ → ℕ
step_by plain touches same seen count = if plain && (touches && same) then count + 1 else if seen then 0 else count

eqb_false : (m n : ℕ) → (m ≡ n → ⊥) → (m == n) ≡ false
eqb_false m n h = ⊎_elim (λ t. absurd (h (eqb-true m n t))) (λ f. f) (cases_Bool (m == n))

-- one more of a run
pub with_added : (runs more : Runs) (item : PictureItem) (m n : ℕ) (shade : Shade) → HasOneRunPerNode runs → n < 144 → m < 144 → m ≡ acting_node_of_event item.cause.event → IsOwnEventIfPlain item → item.plain ≡ true
    → more.counts ≡ set runs.counts m (run_length_in_shade runs m item.shade + 1)
    → more.shades ≡ set runs.shades m item.shade → run_length_in_shade more n shade ≡ run_length_with_event n shade item (run_length_in_shade runs n shade)
with_added runs more item m n shade sizes l k at simple plain counts shades =
    let alone = simple plain in
    let touches : event_with_look_touches_node item.cause n ≡ (m == n) = simple_touches item n alone.0 alone.1 ∙ ap (λ (z : ℕ). z == n) (sym at) in
    let seen : event_observes_node item.cause n ≡ (m == n) = simple_sees item n alone.0 alone.1 ∙ ap (λ (z : ℕ). z == n) (sym at) in
    let asked : run_length_with_event n shade item (run_length_in_shade runs n shade) ≡ step_by true (m == n) (is_same_shade item.shade shade) (m == n) (run_length_in_shade runs n shade) =
    ap (λ (b : Bool). step_by b (event_with_look_touches_node item.cause n) (is_same_shade item.shade shade) (event_observes_node item.cause n) (run_length_in_shade runs n shade)) plain
    ∙ ap (λ (b : Bool). step_by true b (is_same_shade item.shade shade) (event_observes_node item.cause n) (run_length_in_shade runs n shade)) touches
    ∙ ap (λ (b : Bool). step_by true (m == n) (is_same_shade item.shade shade) b (run_length_in_shade runs n shade)) seen in
    let wide : length runs.counts ≡ 144 = sizes.0 in
    let long : length runs.shades ≡ 144 = sizes.1 in
    let had : run_length_in_shade more n shade ≡ (if is_same_shade (get_or (set runs.shades m item.shade) n Black) shade then get_or (set runs.counts m (run_length_in_shade runs m item.shade + 1)) n 0 else 0) =
    ap (λ (z : List Shade). if is_same_shade (get_or z n Black) shade then get_or more.counts n 0 else 0) shades
    ∙ ap (λ (z : List ℕ). if is_same_shade (get_or (set runs.shades m item.shade) n Black) shade then get_or z n 0 else 0) counts in
    elim (cases_eq n m) [
      | inl q ↦ (
          let one : get_or (set runs.shades m item.shade) n Black ≡ item.shade = get_or-set_at runs.shades m n item.shade Black q (omega arith) in
          let two : get_or (set runs.counts m (run_length_in_shade runs m item.shade + 1)) n 0 ≡ run_length_in_shade runs m item.shade + 1 = get_or-set_at runs.counts m n (run_length_in_shade runs m item.shade + 1) 0 q (omega arith) in
          let is : (m == n) ≡ true = eq-eqb m n (sym q) in
          let left : run_length_in_shade more n shade ≡ (if is_same_shade item.shade shade then run_length_in_shade runs m item.shade + 1 else 0) =
          had ∙ ap (λ (z : Shade). if is_same_shade z shade then get_or (set runs.counts m (run_length_in_shade runs m item.shade + 1)) n 0 else 0) one
          ∙ ap (λ (z : ℕ). if is_same_shade item.shade shade then z else 0) two in
          let right : run_length_with_event n shade item (run_length_in_shade runs n shade) ≡ (if is_same_shade item.shade shade then run_length_in_shade runs n shade + 1 else 0) =
          asked ∙ ap (λ (b : Bool). step_by true b (is_same_shade item.shade shade) b (run_length_in_shade runs n shade)) is in
          left ∙ ⊎_elim
          (λ t. ap (λ (b : Bool). if b then run_length_in_shade runs m item.shade + 1 else 0) t
          ∙ ap (λ (z : ℕ). run_length_in_shade runs z item.shade + 1) (sym q) ∙ ap (λ (z : Shade). run_length_in_shade runs n z + 1) (same_shade item.shade shade t)
          ∙ sym (ap (λ (b : Bool). if b then run_length_in_shade runs n shade + 1 else 0) t))
          (λ f. ap (λ (b : Bool). if b then run_length_in_shade runs m item.shade + 1 else 0) f ∙ sym (ap (λ (b : Bool). if b then run_length_in_shade runs n shade + 1 else 0) f))
          (cases_Bool (is_same_shade item.shade shade)) ∙ sym right)
      | inr ne ↦ (
          let one : get_or (set runs.shades m item.shade) n Black ≡ get_or runs.shades n Black = get_or-set_other runs.shades m n item.shade Black ne in
          let two : get_or (set runs.counts m (run_length_in_shade runs m item.shade + 1)) n 0 ≡ get_or runs.counts n 0 = get_or-set_other runs.counts m n (run_length_in_shade runs m item.shade + 1) 0 ne in
          let is : (m == n) ≡ false = eqb_false m n (λ q. ne (sym q)) in
          had ∙ ap (λ (z : Shade). if is_same_shade z shade then get_or (set runs.counts m (run_length_in_shade runs m item.shade + 1)) n 0 else 0) one
          ∙ ap (λ (z : ℕ). if is_same_shade (get_or runs.shades n Black) shade then z else 0) two
          ∙ sym (asked ∙ ap (λ (b : Bool). step_by true b (is_same_shade item.shade shade) b (run_length_in_shade runs n shade)) is))
    ]

both_ended : (same seen : Bool) (k : ℕ) → (if same then (if seen then 0 else k) else 0) ≡ (if seen then 0 else (if same then k else 0))
both_ended true true k = refl
both_ended true false k = refl
both_ended false true k = refl
both_ended false false k = refl

-- runs end
pub with_ended : (runs more : Runs) (item : PictureItem) (n : ℕ) (shade : Shade) → item.plain ≡ false → more.shades ≡ runs.shades
    → get_or more.counts n 0 ≡ (if event_observes_node item.cause n then 0 else get_or runs.counts n 0) → run_length_in_shade more n shade ≡ run_length_with_event n shade item (run_length_in_shade runs n shade)
with_ended runs more item n shade plain shades counts =
    ap (λ (z : List Shade). if is_same_shade (get_or z n Black) shade then get_or more.counts n 0 else 0) shades
    ∙ ap (λ (z : ℕ). if is_same_shade (get_or runs.shades n Black) shade then z else 0) counts
    ∙ both_ended (is_same_shade (get_or runs.shades n Black) shade) (event_observes_node item.cause n) (get_or runs.counts n 0)
    ∙ sym (ap (λ (b : Bool). step_by b (event_with_look_touches_node item.cause n) (is_same_shade item.shade shade) (event_observes_node item.cause n) (run_length_in_shade runs n shade)) plain)

none_past : (n : ℕ) → 144 ≤ n → get_or (replicate 144 0) n 0 ≤ 0
none_past n g =
    let zeros : List ℕ = replicate 144 0 in
    let long : length zeros ≡ 144 = length-replicate {A = ℕ} 144 0 in
    let past : length zeros ≤ n = omega arith in
    let none : get_or zeros n 0 ≡ 0 = get_or_past {X = ℕ} zeros n 0 past in
    omega arith

pub none_counted : (n : ℕ) → get_or (replicate 144 0) n 0 ≤ 0
none_counted n = ⊎_elim
    (λ l. omega (arith, get_or-replicate {A = ℕ} 144 n 0 0 l))
    (λ g. omega (arith, none_past n g))
    (cases_lt n 144)

pub count_few : (runs : Runs) (n : ℕ) (shade : Shade) (bound : ℕ) → AreRunsWithinBound runs bound → run_length_in_shade runs n shade ≤ bound
count_few runs n shade bound h = ⊎_elim
    (λ t. subst (λ (b : Bool). (if b then get_or runs.counts n 0 else 0) ≤ bound) (sym t) (h n))
    (λ f. subst (λ (b : Bool). (if b then get_or runs.counts n 0 else 0) ≤ bound) (sym f) (omega arith))
    (cases_Bool (is_same_shade (get_or runs.shades n Black) shade))

pub within_added : (runs more : Runs) (m : ℕ) (shade : Shade) (bound : ℕ) → HasOneRunPerNode runs → m < 144 → AreRunsWithinBound runs bound
    → more.counts ≡ set runs.counts m (run_length_in_shade runs m shade + 1) → AreRunsWithinBound more (bound + 1)
within_added runs more m shade bound sizes l h e = λ n.
    let wide : length runs.counts ≡ 144 = sizes.0 in
    subst (λ (z : List ℕ). get_or z n 0 ≤ bound + 1) (sym e)
    (elim (cases_eq n m) as (λ z. get_or (set runs.counts m (run_length_in_shade runs m shade + 1)) n 0 ≤ bound + 1) [
      | inl q ↦ omega (arith, get_or-set_at runs.counts m n (run_length_in_shade runs m shade + 1) 0 q (omega arith), count_few runs m shade bound h)
      | inr ne ↦ omega (arith, get_or-set_other runs.counts m n (run_length_in_shade runs m shade + 1) 0 ne, h n)
    ])

-- ---- the end of runs

-- the runs of the nodes below a number that an event sees are ended, and the others stand
pub record AreEnded (old now : Runs) (e : EventWithLook) (number : ℕ) : Type 0 where
  pub sizes : HasOneRunPerNode now
  pub shades : now.shades ≡ old.shades
  pub done : (n : ℕ) → n < number → get_or now.counts n 0 ≡ (if event_observes_node e n then 0 else get_or old.counts n 0)
  pub left : (n : ℕ) → number ≤ n → get_or now.counts n 0 ≡ get_or old.counts n 0

pub ended_none : (runs : Runs) (e : EventWithLook) → HasOneRunPerNode runs → AreEnded runs runs e 0
ended_none runs e sizes = record { sizes = sizes; shades = refl; done = λ n l. absurd (omega (arith, l)); left = λ n l. refl }

pub ended_one : (old now more : Runs) (e : EventWithLook) (number : ℕ) → number < 144 → AreEnded old now e number → event_observes_node e number ≡ true → more.counts ≡ set now.counts number 0
    → more.shades ≡ now.shades → AreEnded old more e (number + 1)
ended_one old now more e number l a seen counts shades =
    let wide : length now.counts ≡ 144 = a.sizes.0 in
    let set_size : length (set now.counts number 0) ≡ length now.counts = length-set now.counts number 0 in
    record {
      sizes = (ap (λ (z : List ℕ). length z) counts ∙ set_size ∙ wide, ap (λ (z : List Shade). length z) shades ∙ a.sizes.1);
      shades = shades ∙ a.shades;
      done = λ n k. ap (λ (z : List ℕ). get_or z n 0) counts ∙ elim (cases_eq n number) as (λ z. get_or (set now.counts number 0) n 0 ≡ (if event_observes_node e n then 0 else get_or old.counts n 0)) [
        | inl q ↦ get_or-set_at now.counts number n 0 0 q (omega arith)
            ∙ sym (ap (λ (b : Bool). if b then 0 else get_or old.counts n 0) (ap (event_observes_node e) q ∙ seen))
        | inr ne ↦ get_or-set_other now.counts number n 0 0 ne ∙ a.done n (omega (arith, k, ne))
      ];
      left = λ n k. let ne : n ≡ number → ⊥ = λ q. absurd (omega (arith, q, k)) in ap (λ (z : List ℕ). get_or z n 0) counts ∙ get_or-set_other now.counts number n 0 0 ne
          ∙ a.left n (omega (arith, k));
    }

pub ended_same : (old now : Runs) (e : EventWithLook) (number : ℕ) → AreEnded old now e number → event_observes_node e number ≡ false → AreEnded old now e (number + 1)
ended_same old now e number a seen = record {
  sizes = a.sizes;
  shades = a.shades;
  done = λ n k. elim (cases_eq n number) as (λ z. get_or now.counts n 0 ≡ (if event_observes_node e n then 0 else get_or old.counts n 0)) [
    | inl q ↦ a.left n (omega (arith, q)) ∙ sym (ap (λ (b : Bool). if b then 0 else get_or old.counts n 0) (ap (event_observes_node e) q ∙ seen))
    | inr ne ↦ a.done n (omega (arith, k, ne))
  ];
  left = λ n k. a.left n (omega (arith, k));
}

pub ended_within : (old now : Runs) (e : EventWithLook) (number bound : ℕ) → AreEnded old now e number → AreRunsWithinBound old bound → AreRunsWithinBound now bound
ended_within old now e number bound a h = λ n. ⊎_elim
    (λ l. subst (λ (z : ℕ). z ≤ bound) (sym (a.done n l)) (⊎_elim
    (λ t. subst (λ (b : Bool). (if b then 0 else get_or old.counts n 0) ≤ bound) (sym t) (omega arith))
    (λ f. subst (λ (b : Bool). (if b then 0 else get_or old.counts n 0) ≤ bound) (sym f) (h n))
    (cases_Bool (event_observes_node e n))))
    (λ g. subst (λ (z : ℕ). z ≤ bound) (sym (a.left n g)) (h n))
    (cases_lt n number)

-- ---- how many there are

front_few : (n : ℕ) (shade : Shade) (items : List PictureItem) → run_length_ahead n shade items ≤ length items
front_few n shade [] = omega (arith, front_none n shade)
front_few n shade (item ∷ items) =
    let more : run_length_with_event n shade item (run_length_ahead n shade items) ≤ run_length_ahead n shade items + 1 = with_few n shade item (run_length_ahead n shade items) in
    omega (arith, front_one n shade item items, front_few n shade items, more) where
      with_few : (n : ℕ) (shade : Shade) (item : PictureItem) (count : ℕ) → run_length_with_event n shade item count ≤ count + 1
      with_few n shade item count = grind arith

pub behind_few : (items : List PictureItem) (place : ℕ) → place < length items → run_event_count_after items place + place + 1 ≤ length items
behind_few items place l =
    let size : length (drop (place + 1) items) ≡ length items - (place + 1) = length-drop (place + 1) items in
    omega (arith, front_few (acting_node_of_event (picture_item_at_index items place).cause.event) (picture_item_at_index items place).shade (drop (place + 1) items))
