-- On how many of a node's steps the newest event of each node depends, and how many steps of another a rollback of each leaves.
use Rattle.std.proofs.Common.{◌≡◌, ℕ, suc, ◌+◌, ◌-◌, ◌<◌, ◌≤◌, max, cond, Bool, true, false, ◌||◌, inl, inr, List, [], ◌∷◌, length, get_or, Option, Some, None, refl, sym, ◌∙◌, ap, ap₂, subst, arith, lt-ltb, le-ltb}
use Rattle.std.specs.Prelude.{nat_lt, option_map}
use Rattle.std.specs.List.{list_any}
use Rattle.std.proofs.Math.Path.{fun_ext}
use Rattle.std.proofs.lemmas.Bool.{cases_Bool, cases_lt, or_left, both_ways}
use Rattle.ga_ports.specs.declared.side.Side.TheVariants.{Right, Down, Left, Up}
use Rattle.ga_grid.specs.Grid.{neighbour_number}
use Rattle.ga_event.specs.declared.event.EventWithLook.{EventWithLook}
use Rattle.ga_event.specs.Touches.{prepend_some, neighbours_of_node, nodes_observed_by_event, observes_marked_node}
use Rattle.ga_causal.specs.Dependence.{event_with_look_touches_node, remaining_events_or_all, position_of_step, events_after_rewind}
use Rattle.ga_causal.specs.Steps.{count_touching_events}
use Rattle.ga_causal.proofs.Runs.{kept}
use Rattle.ga_causal.proofs.LocalHistories.{place-first, place-touched, place-other}
use Rattle.ga_causal.proofs.Places.{count_touching_events-cons, touching_no}
use Rattle.ga_races.proofs.Blind.{no_touch}
use Rattle.ga_race_detector.specs.inner.Writers.{greatest_of_node_numbers, max_with_optional_node_number, event_depth, AreStepsLeftByRollbacks, IsListPaddedWith, IsStepsLeftUpdated}
use Rattle.ga_race_detector.specs.declared.left.StepsLeft.{StepsLeft}

-- ---- the greatest of some nodes

greatest_some : (known : ℕ → ℕ) (at : Option ℕ) (ns : List ℕ) → greatest_of_node_numbers known (prepend_some at ns) ≡ max_with_optional_node_number known at (greatest_of_node_numbers known ns)
greatest_some known None ns = refl
greatest_some known (Some n) ns = refl

pub greatest_beside : (known : ℕ → ℕ) (n : ℕ) → greatest_of_node_numbers known (neighbours_of_node n)
    ≡ max_with_optional_node_number known (neighbour_number n Right) (max_with_optional_node_number known (neighbour_number n Down) (max_with_optional_node_number known (neighbour_number n Left) (max_with_optional_node_number known (neighbour_number n Up) 0)))
unfolding neighbours_of_node
greatest_beside known n =
    greatest_some known (neighbour_number n Right) _
    ∙ ap (λ z. max_with_optional_node_number known (neighbour_number n Right) z) (greatest_some known (neighbour_number n Down) _
    ∙ ap (λ z. max_with_optional_node_number known (neighbour_number n Down) z) (greatest_some known (neighbour_number n Left) _
    ∙ ap (λ z. max_with_optional_node_number known (neighbour_number n Left) z) (greatest_some known (neighbour_number n Up) [])))

-- the nodes whose number is greater
abbrev pub above : (ℕ → ℕ) → ℕ → ℕ → Bool
above known k n = nat_lt k (known n)

or_max : (a b k : ℕ) → (nat_lt k a || nat_lt k b) ≡ nat_lt k (max a b)
or_max a b k = elim (cases_lt k a) [
  | inl l ↦ ap (λ z. z || nat_lt k b) (lt-ltb k a l) ∙ sym (lt-ltb k (max a b) (omega arith))
  | inr g ↦ ap (λ z. z || nat_lt k b) (le-ltb k a g) ∙ elim (cases_lt k b) [
    | inl l ↦ lt-ltb k b l ∙ sym (lt-ltb k (max a b) (omega arith))
    | inr h ↦ le-ltb k b h ∙ sym (le-ltb k (max a b) (omega arith))
  ]
]

any_above : (known : ℕ → ℕ) (k : ℕ) (ns : List ℕ) → list_any (above known k) ns ≡ nat_lt k (greatest_of_node_numbers known ns)
any_above known k [] = sym (le-ltb k 0 (omega arith))
any_above known k (n ∷ ns) = ap (λ z. nat_lt k (known n) || z) (any_above known k ns) ∙ or_max (known n) (greatest_of_node_numbers known ns) k

greatest_most : (known : ℕ → ℕ) (made : ℕ) (ns : List ℕ) → ((n : ℕ) → known n ≤ made) → greatest_of_node_numbers known ns ≤ made
greatest_most known made [] most = omega arith
greatest_most known made (n ∷ ns) most =
    let a : known n ≤ made = most n in
    let b : greatest_of_node_numbers known ns ≤ made = greatest_most known made ns most in
    omega (arith, a, b)

-- ---- what is kept after marks

kept_met : (marks : ℕ → Bool) (e : EventWithLook) (es : List EventWithLook) → observes_marked_node marks e ≡ true → kept marks (e ∷ es) ≡ kept (λ n. marks n || event_with_look_touches_node e n) es
kept_met marks e es t = rw t refl

kept_free : (marks : ℕ → Bool) (e : EventWithLook) (es : List EventWithLook) → observes_marked_node marks e ≡ false → kept marks (e ∷ es) ≡ e ∷ kept marks es
kept_free marks e es f = rw f refl

-- of a marked node nothing is
none_kept : (m : ℕ) (marks : ℕ → Bool) (es : List EventWithLook) → marks m ≡ true → count_touching_events m (kept marks es) ≡ 0
none_kept m marks [] on = refl
none_kept m marks (e ∷ es) on = elim (cases_Bool (observes_marked_node marks e)) [
  | inl t ↦ ap (count_touching_events m) (kept_met marks e es t) ∙ none_kept m (λ n. marks n || event_with_look_touches_node e n) es (or_left (marks m) (event_with_look_touches_node e m) on)
  | inr f ↦ ap (count_touching_events m) (kept_free marks e es f) ∙ touching_no m e (kept marks es) (no_touch marks e m f on) ∙ none_kept m marks es on
]

kept_alike : (a b : ℕ → Bool) (es : List EventWithLook) → ((n : ℕ) → a n ≡ b n) → kept a es ≡ kept b es
kept_alike a b es same = ap (λ (z : ℕ → Bool). kept z es) (fun_ext same)

rest_later : (e : EventWithLook) (es : List EventWithLook) (o : Option ℕ) → remaining_events_or_all (e ∷ es) (option_map suc o) ≡ e ∷ remaining_events_or_all es o
rest_later e es None = refl
rest_later e es (Some i) = refl

-- ---- which of the events that come a rollback of step k + 1 of node r leaves

abbrev pub remaining : ℕ → ℕ → (ℕ → ℕ) → ℕ → List EventWithLook → List EventWithLook
remaining r k known made es = cond (nat_lt k made) (kept (above known k) es) (events_after_rewind es r (suc (k - made)))

remaining_marked : (r k : ℕ) (known : ℕ → ℕ) (made : ℕ) (es : List EventWithLook) → k < made → remaining r k known made es ≡ kept (above known k) es
remaining_marked r k known made es l = ap (λ (z : Bool). cond z (kept (above known k) es) (events_after_rewind es r (suc (k - made)))) (lt-ltb k made l)

remaining_later : (r k : ℕ) (known : ℕ → ℕ) (made : ℕ) (es : List EventWithLook) → made ≤ k → remaining r k known made es ≡ events_after_rewind es r (suc (k - made))
remaining_later r k known made es l = ap (λ (z : Bool). cond z (kept (above known k) es) (events_after_rewind es r (suc (k - made)))) (le-ltb k made l)

-- the numbers after an event
abbrev pub IsBehindOne : (ℕ → ℕ) → (ℕ → ℕ) → ℕ → ℕ → EventWithLook → Type 0
IsBehindOne known next r made e = (n : ℕ) → next n ≡ cond (event_with_look_touches_node e n) (event_depth known r made e) (known n)

depth_own : (known : ℕ → ℕ) (r made : ℕ) (e : EventWithLook) → event_with_look_touches_node e r ≡ true → event_depth known r made e ≡ made + 1
depth_own known r made e t = ap (λ (z : Bool). cond z (made + 1) (greatest_of_node_numbers known (nodes_observed_by_event e))) t

depth_other : (known : ℕ → ℕ) (r made : ℕ) (e : EventWithLook) → event_with_look_touches_node e r ≡ false → event_depth known r made e ≡ greatest_of_node_numbers known (nodes_observed_by_event e)
depth_other known r made e f = ap (λ (z : Bool). cond z (made + 1) (greatest_of_node_numbers known (nodes_observed_by_event e))) f

one_step : (e : EventWithLook) (r made : ℕ) → event_with_look_touches_node e r ≡ true → made + cond (event_with_look_touches_node e r) 1 0 ≡ made + 1
one_step e r made t = ap (λ (z : Bool). made + cond {A = ℕ} z 1 0) t

no_step : (e : EventWithLook) (r made : ℕ) → event_with_look_touches_node e r ≡ false → made + cond (event_with_look_touches_node e r) 1 0 ≡ made
no_step e r made f = ap (λ (z : Bool). made + cond {A = ℕ} z 1 0) f ∙ (let q : made + 0 ≡ made = omega arith in q)

-- the number of steps of a node that an event is, unless it is removed: 1 or 0
abbrev more : Bool → EventWithLook → ℕ → ℕ
more gone e m = cond gone 0 (cond (event_with_look_touches_node e m) 1 0)

drops : (m : ℕ) (gone : Bool) (e : EventWithLook) (x y : ℕ) → gone ≡ true → x ≡ y → x ≡ more gone e m + y
drops m gone e x y t q = q ∙ sym (ap (λ (z : Bool). more z e m + y) t ∙ (let u : 0 + y ≡ y = omega arith in u))

stays : (m : ℕ) (gone : Bool) (e : EventWithLook) (es : List EventWithLook) (y : ℕ) → gone ≡ false → count_touching_events m es ≡ y → count_touching_events m (e ∷ es) ≡ more gone e m + y
stays m gone e es y f q = count_touching_events-cons m e es ∙ ap (λ (z : ℕ). cond (event_with_look_touches_node e m) 1 0 + z) q ∙ sym (ap (λ (z : Bool). more z e m + y) f)

-- one event more
pub one_more : (r m k : ℕ) (known next : ℕ → ℕ) (made : ℕ) (e : EventWithLook) (es : List EventWithLook) → known r ≡ made → ((n : ℕ) → known n ≤ made) → IsBehindOne known next r made e
    → count_touching_events m (remaining r k known made (e ∷ es)) ≡ more (nat_lt k (event_depth known r made e)) e m + count_touching_events m (remaining r k next (made + cond (event_with_look_touches_node e r) 1 0) es)
one_more r m k known next made e es own most is = elim (cases_lt k made) [ inl l ↦ marked_nodes l | inr g ↦ later g ]
  where
    d : ℕ
    d = event_depth known r made e

    then : ℕ
    then = made + cond (event_with_look_touches_node e r) 1 0

    -- where the step came before
    marked_nodes : k < made → count_touching_events m (remaining r k known made (e ∷ es)) ≡ more (nat_lt k d) e m + count_touching_events m (remaining r k next then es)
    marked_nodes l = elim (cases_Bool (observes_marked_node (above known k) e)) [ inl t ↦ met t | inr f ↦ free f ]
      where
        within : k < then
        within = elim (cases_Bool (event_with_look_touches_node e r)) [
          | inl t ↦ (let q = one_step e r made t in omega (arith, q, l))
          | inr f ↦ (let q = no_step e r made f in omega (arith, q, l))
        ]

        after : count_touching_events m (kept (above next k) es) ≡ count_touching_events m (remaining r k next then es)
        after = ap (count_touching_events m) (sym (remaining_marked r k next then es within))

        met : observes_marked_node (above known k) e ≡ true → count_touching_events m (remaining r k known made (e ∷ es)) ≡ more (nat_lt k d) e m + count_touching_events m (remaining r k next then es)
        met t =
            drops m (nat_lt k d) e (count_touching_events m (remaining r k known made (e ∷ es))) (count_touching_events m (remaining r k next then es)) deep
            (ap (count_touching_events m) (remaining_marked r k known made (e ∷ es) l ∙ kept_met (above known k) e es t
            ∙ kept_alike (λ n. above known k n || event_with_look_touches_node e n) (above next k) es same) ∙ after)
          where
            deep : nat_lt k d ≡ true
            deep = elim (cases_Bool (event_with_look_touches_node e r)) [
              | inl u ↦ ap (nat_lt k) (depth_own known r made e u) ∙ lt-ltb k (made + 1) (omega arith)
              | inr f ↦ ap (nat_lt k) (depth_other known r made e f) ∙ sym (any_above known k (nodes_observed_by_event e)) ∙ t
            ]

            by_touch : (n : ℕ) (b : Bool) → (nat_lt k (known n) || b) ≡ nat_lt k (cond b d (known n))
            by_touch n true = or_true (nat_lt k (known n)) ∙ sym deep
              where
                or_true : (x : Bool) → (x || true) ≡ true
                or_true true = refl
                or_true false = refl
            by_touch n false = or_false (nat_lt k (known n))
              where
                or_false : (x : Bool) → (x || false) ≡ x
                or_false true = refl
                or_false false = refl

            same : (n : ℕ) → (above known k n || event_with_look_touches_node e n) ≡ above next k n
            same n = by_touch n (event_with_look_touches_node e n) ∙ ap (nat_lt k) (sym (is n))

        free : observes_marked_node (above known k) e ≡ false → count_touching_events m (remaining r k known made (e ∷ es)) ≡ more (nat_lt k d) e m + count_touching_events m (remaining r k next then es)
        free f =
            ap (count_touching_events m) (remaining_marked r k known made (e ∷ es) l ∙ kept_free (above known k) e es f)
            ∙ stays m (nat_lt k d) e (kept (above known k) es) (count_touching_events m (remaining r k next then es)) shallow
            (ap (count_touching_events m) (kept_alike (above known k) (above next k) es same) ∙ after)
          where
            apart : event_with_look_touches_node e r ≡ false
            apart = no_touch (above known k) e r f (ap (nat_lt k) own ∙ lt-ltb k made l)

            shallow : nat_lt k d ≡ false
            shallow = ap (nat_lt k) (depth_other known r made e apart) ∙ sym (any_above known k (nodes_observed_by_event e)) ∙ f

            by_touch : (n : ℕ) (b : Bool) → event_with_look_touches_node e n ≡ b → nat_lt k (known n) ≡ nat_lt k (cond b d (known n))
            by_touch n true t = elim (cases_Bool (above known k n)) [
              | inl on ↦ absurd (both_ways (event_with_look_touches_node e n) (no_touch (above known k) e n f on) t)
              | inr off ↦ off ∙ sym shallow
            ]
            by_touch n false t = refl

            same : (n : ℕ) → above known k n ≡ above next k n
            same n = by_touch n (event_with_look_touches_node e n) refl ∙ ap (nat_lt k) (sym (is n))

    -- where it comes yet, or is this one
    later : made ≤ k → count_touching_events m (remaining r k known made (e ∷ es)) ≡ more (nat_lt k d) e m + count_touching_events m (remaining r k next then es)
    later g = elim (cases_Bool (event_with_look_touches_node e r)) [ inl t ↦ elim (cases_lt made k) [ inl l ↦ past t l | inr h ↦ here t h ] | inr f ↦ other f ]
      where
        -- this one
        here : event_with_look_touches_node e r ≡ true → k ≤ made → count_touching_events m (remaining r k known made (e ∷ es)) ≡ more (nat_lt k d) e m + count_touching_events m (remaining r k next then es)
        here t h =
            drops m (nat_lt k d) e (count_touching_events m (remaining r k known made (e ∷ es))) (count_touching_events m (remaining r k next then es))
            (ap (nat_lt k) (depth_own known r made e t) ∙ lt-ltb k (made + 1) (omega (arith, h)))
            (ap (count_touching_events m) (remaining_later r k known made (e ∷ es) g ∙ ap (λ (z : ℕ). events_after_rewind (e ∷ es) r (suc z)) (let q : k - made ≡ 0 = omega (arith, h) in q)
            ∙ ap (remaining_events_or_all (e ∷ es)) (place-first e es r t) ∙ kept_alike (event_with_look_touches_node e) (above next k) es same
            ∙ sym (remaining_marked r k next then es (let q = one_step e r made t in omega (arith, q, h)))))
          where
            by_touch : (n : ℕ) (b : Bool) → b ≡ nat_lt k (cond b d (known n))
            by_touch n true = sym (ap (nat_lt k) (depth_own known r made e t) ∙ lt-ltb k (made + 1) (omega (arith, h)))
            by_touch n false = sym (le-ltb k (known n) (let q : known n ≤ made = most n in omega (arith, q, g)))

            same : (n : ℕ) → event_with_look_touches_node e n ≡ above next k n
            same n = by_touch n (event_with_look_touches_node e n) ∙ ap (nat_lt k) (sym (is n))

        -- one of its steps before
        past : event_with_look_touches_node e r ≡ true → made < k → count_touching_events m (remaining r k known made (e ∷ es)) ≡ more (nat_lt k d) e m + count_touching_events m (remaining r k next then es)
        past t l =
            let q : then ≡ made + 1 = one_step e r made t in
            ap (count_touching_events m) (remaining_later r k known made (e ∷ es) g ∙ ap (λ (z : ℕ). events_after_rewind (e ∷ es) r (suc z)) (let u : k - made ≡ suc (k - then) = omega (arith, q, l) in u)
            ∙ ap (remaining_events_or_all (e ∷ es)) (place-touched e es r (k - then) t) ∙ rest_later e es (position_of_step es r (suc (k - then))))
            ∙ stays m (nat_lt k d) e (events_after_rewind es r (suc (k - then))) (count_touching_events m (remaining r k next then es))
            (ap (nat_lt k) (depth_own known r made e t) ∙ le-ltb k (made + 1) (omega (arith, l)))
            (ap (count_touching_events m) (sym (remaining_later r k next then es (omega (arith, q, l)))))

        -- no step of it
        other : event_with_look_touches_node e r ≡ false → count_touching_events m (remaining r k known made (e ∷ es)) ≡ more (nat_lt k d) e m + count_touching_events m (remaining r k next then es)
        other f =
            let q : then ≡ made = no_step e r made f in
            ap (count_touching_events m) (remaining_later r k known made (e ∷ es) g ∙ ap (remaining_events_or_all (e ∷ es)) (place-other e es r (k - made) f) ∙ rest_later e es (position_of_step es r (suc (k - made))))
            ∙ stays m (nat_lt k d) e (events_after_rewind es r (suc (k - made))) (count_touching_events m (remaining r k next then es))
            (ap (nat_lt k) (depth_other known r made e f) ∙ le-ltb k (greatest_of_node_numbers known (nodes_observed_by_event e)) (let u = greatest_most known made (nodes_observed_by_event e) most in omega (arith, u, g)))
            (ap (count_touching_events m) (ap (λ (z : ℕ). events_after_rewind es r (suc (k - z))) (sym q) ∙ sym (remaining_later r k next then es (omega (arith, q, g)))))

-- ---- the list, event by event

-- the number of steps of node m that a rollback of step k + 1 of node r leaves
abbrev pub left_by : List EventWithLook → ℕ → ℕ → ℕ → ℕ
left_by all r m k = count_touching_events m (events_after_rewind all r (suc k))

-- The list has the steps of node r on which the newest event of node m depends; of the others it is known what remains, except
-- for the events that come.
pub record IsGoing (all : List EventWithLook) (r m : ℕ) (known : ℕ → ℕ) (made count : ℕ) (left : List ℕ) (es : List EventWithLook) : Type 0 where
  pub own : known r ≡ made
  pub most : (n : ℕ) → known n ≤ made
  pub size : length left ≡ known m
  pub each : (k : ℕ) → k < length left → get_or left k 0 ≡ left_by all r m k
  pub rest : (k : ℕ) → known m ≤ k → left_by all r m k ≡ count + count_touching_events m (remaining r k known made es)

pub going_first : (all : List EventWithLook) (r m : ℕ) (known : ℕ → ℕ) → ((n : ℕ) → known n ≡ 0) → IsGoing all r m known 0 0 [] all
going_first all r m known none = record {
  own = none r;
  most = λ n. let q : known n ≡ 0 = none n in omega (arith, q);
  size = sym (none m);
  each = λ k l. absurd (omega (arith, l));
  rest = λ k l. sym (ap (count_touching_events m) (remaining_later r k known 0 all (omega arith) ∙ ap (λ (z : ℕ). events_after_rewind all r (suc z)) (let q : k - 0 ≡ k = omega arith in q))) ∙ (let y = count_touching_events m (remaining r k known 0 all) in let q : y ≡ 0 + y = omega arith in q);
}

pub going_more : (all : List EventWithLook) (r m : ℕ) (known next : ℕ → ℕ) (made count then more_count : ℕ) (left filled : List ℕ) (e : EventWithLook) (es : List EventWithLook)
    → IsGoing all r m known made count left (e ∷ es) → IsBehindOne known next r made e → IsListPaddedWith left filled (next m) count
    → then ≡ made + cond (event_with_look_touches_node e r) 1 0 → more_count ≡ count + cond (event_with_look_touches_node e m) 1 0 → IsGoing all r m next then more_count filled es
going_more all r m known next made count then more_count left filled e es g is fill steps counts =
    record { own = own; most = most; size = size; each = each; rest = rest }
  where
    d : ℕ
    d = event_depth known r made e

    at_touched : (n : ℕ) → event_with_look_touches_node e n ≡ true → next n ≡ d
    at_touched n t = is n ∙ ap (λ (z : Bool). cond z d (known n)) t

    at_other : (n : ℕ) → event_with_look_touches_node e n ≡ false → next n ≡ known n
    at_other n f = is n ∙ ap (λ (z : Bool). cond z d (known n)) f

    own : next r ≡ then
    own = elim (cases_Bool (event_with_look_touches_node e r)) [
      | inl t ↦ at_touched r t ∙ depth_own known r made e t ∙ sym (steps ∙ one_step e r made t)
      | inr f ↦ at_other r f ∙ g.own ∙ sym (steps ∙ no_step e r made f)
    ]

    no_less : made ≤ then
    no_less = omega (arith, steps)

    deepest : d ≤ then
    deepest = elim (cases_Bool (event_with_look_touches_node e r)) [
      | inl t ↦ (let q = depth_own known r made e t in let u = one_step e r made t in omega (arith, q, u, steps))
      | inr f ↦ (let q = depth_other known r made e f in let u = greatest_most known made (nodes_observed_by_event e) g.most in omega (arith, q, u, steps))
    ]

    most : (n : ℕ) → next n ≤ then
    most n = elim (cases_Bool (event_with_look_touches_node e n)) [
      | inl t ↦ (let q = at_touched n t in let u = deepest in omega (arith, q, u))
      | inr f ↦ (let q = at_other n f in let u : known n ≤ made = g.most n in let v = no_less in omega (arith, q, u, v))
    ]

    -- it sees a node that it touches
    seen : (n : ℕ) → event_with_look_touches_node e n ≡ true → known n ≤ d
    seen n t = elim (cases_Bool (event_with_look_touches_node e r)) [
      | inl u ↦ (let q = depth_own known r made e u in let v : known n ≤ made = g.most n in omega (arith, q, v))
      | inr f ↦ elim (cases_lt (greatest_of_node_numbers known (nodes_observed_by_event e)) (known n)) [
        | inl l ↦ absurd (both_ways (event_with_look_touches_node e n)
            (no_touch (above known (greatest_of_node_numbers known (nodes_observed_by_event e))) e n
            (any_above known (greatest_of_node_numbers known (nodes_observed_by_event e)) (nodes_observed_by_event e) ∙ le-ltb (greatest_of_node_numbers known (nodes_observed_by_event e)) (greatest_of_node_numbers known (nodes_observed_by_event e)) (omega arith))
            (lt-ltb (greatest_of_node_numbers known (nodes_observed_by_event e)) (known n) l)) t)
        | inr h ↦ (let q = depth_other known r made e f in omega (arith, q, h))
      ]
    ]

    grows : (n : ℕ) → known n ≤ next n
    grows n = elim (cases_Bool (event_with_look_touches_node e n)) [
      | inl t ↦ (let q = at_touched n t in let u = seen n t in omega (arith, q, u))
      | inr f ↦ (let q = at_other n f in omega (arith, q))
    ]

    size : length filled ≡ next m
    size = (let q : length filled ≡ max (length left) (next m) = fill.size in let u : length left ≡ known m = g.size in let v = grows m in omega (arith, q, u, v))

    follows : (k : ℕ) → known m ≤ k → left_by all r m k ≡ count + (more (nat_lt k d) e m + count_touching_events m (remaining r k next then es))
    follows k l = g.rest k l ∙ ap (λ (z : ℕ). count + z) (one_more r m k known next made e es g.own g.most is ∙ ap (λ (z : ℕ). more (nat_lt k d) e m + count_touching_events m (remaining r k next z es)) (sym steps))

    each : (k : ℕ) → k < length filled → get_or filled k 0 ≡ left_by all r m k
    each k l = elim (cases_lt k (length left)) [ inl h ↦ fill.same k h ∙ g.each k h | inr h ↦ fill.more k h l ∙ first h ]
      where
        first : length left ≤ k → count ≡ left_by all r m k
        first h = sym (follows k behind ∙ ap (λ (z : ℕ). count + z) (ap₂ (λ (a b : ℕ). a + b) gone none) ∙ (let q : count + (0 + 0) ≡ count = omega arith in q))
          where
            behind : known m ≤ k
            behind = (let q : length left ≡ known m = g.size in omega (arith, q, h))

            within : k < next m
            within = (let q = size in omega (arith, q, l))

            touched : event_with_look_touches_node e m ≡ true
            touched = elim (cases_Bool (event_with_look_touches_node e m)) [
              | inl t ↦ t
              | inr f ↦ absurd (let q = at_other m f in let u = within in let v = behind in omega (arith, q, u, v))
            ]

            gone : more (nat_lt k d) e m ≡ 0
            gone = ap (λ (z : Bool). more z e m) (lt-ltb k d (let q = at_touched m touched in let u = within in omega (arith, q, u)))

            none : count_touching_events m (remaining r k next then es) ≡ 0
            none =
                ap (count_touching_events m) (remaining_marked r k next then es (let u = within in let v = most m in omega (arith, u, v)))
                ∙ none_kept m (above next k) es (lt-ltb k (next m) within)

    rest : (k : ℕ) → next m ≤ k → left_by all r m k ≡ more_count + count_touching_events m (remaining r k next then es)
    rest k l =
        let y = count_touching_events m (remaining r k next then es) in
        follows k (let q = grows m in omega (arith, q, l)) ∙ ap (λ (z : ℕ). count + (z + y)) kept_one
        ∙ (let q : count + (cond (event_with_look_touches_node e m) 1 0 + y) ≡ more_count + y = omega (arith, counts) in q)
      where
        kept_one : more (nat_lt k d) e m ≡ cond (event_with_look_touches_node e m) 1 0
        kept_one = elim (cases_Bool (event_with_look_touches_node e m)) [
          | inl t ↦ ap (λ (z : Bool). more z e m) (le-ltb k d (let q = at_touched m t in omega (arith, q, l)))
          | inr f ↦ ap (λ (z : Bool). cond {A = ℕ} (nat_lt k d) 0 (cond z 1 0)) f ∙ either (nat_lt k d) ∙ sym (ap (λ (z : Bool). cond {A = ℕ} z 1 0) f)
        ]
          where
            either : (b : Bool) → cond {A = ℕ} b 0 0 ≡ 0
            either true = refl
            either false = refl

-- as one more event is taken in
pub going_taken : (all : List EventWithLook) (r m : ℕ) (known next : ℕ → ℕ) (made then : ℕ) (old new : StepsLeft) (e : EventWithLook) (es : List EventWithLook) → old.node.number ≡ m
    → IsGoing all r m known made old.count old.list.items (e ∷ es) → IsBehindOne known next r made e → IsStepsLeftUpdated old new e (event_depth known r made e)
    → then ≡ made + cond (event_with_look_touches_node e r) 1 0 → IsGoing all r m next then new.count new.list.items es
going_taken all r m known next made then old new e es of g is taken steps =
    going_more all r m known next made old.count then new.count old.list.items new.list.items e es g is filled steps (taken.count ∙ ap (λ (z : ℕ). old.count + cond {A = ℕ} (event_with_look_touches_node e z) 1 0) of)
  where
    to : (b : Bool) → event_with_look_touches_node e m ≡ b → cond b (event_depth known r made e) (length old.list.items) ≡ next m
    to true t = sym (is m ∙ ap (λ (z : Bool). cond z (event_depth known r made e) (known m)) t)
    to false f = g.size ∙ sym (is m ∙ ap (λ (z : Bool). cond z (event_depth known r made e) (known m)) f)

    filled : IsListPaddedWith old.list.items new.list.items (next m) old.count
    filled =
        subst (λ (z : ℕ). IsListPaddedWith old.list.items new.list.items z old.count)
        (ap (λ (z : ℕ). cond (event_with_look_touches_node e z) (event_depth known r made e) (length old.list.items)) of ∙ to (event_with_look_touches_node e m) refl) taken.list

pub going_last : (all : List EventWithLook) (r m : ℕ) (known : ℕ → ℕ) (made count : ℕ) (left filled : List ℕ) → IsGoing all r m known made count left [] → made ≡ count_touching_events r all
    → IsListPaddedWith left filled made count → AreStepsLeftByRollbacks all r m filled
going_last all r m known made count left filled g all_made fill = record { size = size ∙ all_made; each = each }
  where
    size : length filled ≡ made
    size = (let q : length filled ≡ max (length left) made = fill.size in let u : length left ≡ known m = g.size in let v : known m ≤ made = g.most m in omega (arith, q, u, v))

    left_at : (k : ℕ) → k < length filled → get_or filled k 0 ≡ left_by all r m k
    left_at k l = elim (cases_lt k (length left)) [
      | inl h ↦ fill.same k h ∙ g.each k h
      | inr h ↦ (
          let behind : known m ≤ k = (let q : length left ≡ known m = g.size in omega (arith, q, h)) in
          let none : count_touching_events m (remaining r k known made []) ≡ 0 = ap (count_touching_events m) (remaining_marked r k known made [] (let q = size in omega (arith, q, l))) in
          fill.more k h l ∙ sym (g.rest k behind ∙ ap (λ (z : ℕ). count + z) none ∙ (let q : count + 0 ≡ count = omega arith in q)))
    ]

    each : (k : ℕ) → k < length filled → get_or filled k 0 ≡ count_touching_events m (events_after_rewind all r (k + 1))
    each k l = left_at k l ∙ ap (λ (z : ℕ). count_touching_events m (events_after_rewind all r z)) (let q : suc k ≡ k + 1 = omega arith in q)
