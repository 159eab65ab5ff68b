-- The oldest event on which another depends directly, by the nodes that it sees.
use Rattle.std.proofs.Common.{◌≡◌, ℕ, zero, suc, Bool, true, false, ◌||◌, replicate, get_or, refl, List, [], ◌∷◌, ◌++◌, Option, Some, None, ◌∙◌, ap, ◌+◌, ◌<◌, ◌≤◌, ◌≢◌, ◌==◌, ◌⊎◌, min, cond, length, sym, subst, inl, inr, ⊎_elim, arith, slice_index_or, eq-eqb, reverse, append_assoc}
use Rattle.std.specs.List.{list_any}
use Rattle.ga_ports.specs.declared.side.Side.TheVariants.{Right, Down, Left, Up}
use Rattle.ga_grid.specs.Grid.{neighbour_number}
use Rattle.ga_event.specs.declared.event.EventWithLook.{EventWithLook}
use Rattle.ga_event.specs.Touches.{prepend_some, neighbours_of_node, looked_at_nodes, nodes_observed_by_event, observes_marked_node}
use Rattle.ga_causal.specs.Dependence.{touched_nodes, event_with_look_touches_node, event_at, dependent_flags, DependsOn, itself, through, dependence_rule, dependence_rule_at, default_event_with_look}
use Rattle.ga_causal.specs.inner.{is_optional_node_marked, least, least_of_place_and_node_place, AreOldestEventPlaces, OldestEventPlaces, oldest_place_of_node}
use Rattle.std.proofs.lemmas.Bool.{or_left, or_right, or_cases, cases_Bool, cases_lt, cases_eq, both_ways, cond-true, cond-false, eqb-true}
use Rattle.ga_causal.specs.Chains.{IsOldestCause, IsChainTo, alone, longer}
use Rattle.ga_causal.proofs.Exact.{any-mono, rule_meets, meets_rule, flag_direct, flag_itself, why_dependent, DependsOn_from_flag, flag_from_DependsOn, Earlier}
use Rattle.std.proofs.lemmas.List.{get_or_default, reverse-append}
use Rattle.ga_causal.specs.declared.chain.ChainLink.{ChainLink}

-- ---- flags of nodes

pub none_marked : (k n : ℕ) → get_or (replicate k false) n false ≡ false
none_marked zero n = refl
none_marked (suc k) zero = refl
none_marked (suc k) (suc n) = none_marked k n

-- the sides of a node, one after another
pub four_sides : (a r d l u : Bool) → ((((a || r) || d) || l) || u) ≡ (a || (r || (d || (l || (u || false)))))
four_sides true r d l u = refl
four_sides false true d l u = refl
four_sides false false true l u = refl
four_sides false false false true u = refl
four_sides false false false false true = refl
four_sides false false false false false = refl

-- ---- the nodes at which a look looks, one side after another

any_some : (marks : ℕ → Bool) (at : Option ℕ) (ns : List ℕ) → list_any marks (prepend_some at ns) ≡ (is_optional_node_marked marks at || list_any marks ns)
any_some marks None ns = refl
any_some marks (Some n) ns = refl

pub any_neighbours : (marks : ℕ → Bool) (n : ℕ) → list_any marks (neighbours_of_node n)
    ≡ (is_optional_node_marked marks (neighbour_number n Right) || (is_optional_node_marked marks (neighbour_number n Down) || (is_optional_node_marked marks (neighbour_number n Left) || (is_optional_node_marked marks (neighbour_number n Up) || false))))
unfolding neighbours_of_node
any_neighbours marks n =
    any_some marks (neighbour_number n Right) _
    ∙ ap (λ z. is_optional_node_marked marks (neighbour_number n Right) || z) (any_some marks (neighbour_number n Down) _
    ∙ ap (λ z. is_optional_node_marked marks (neighbour_number n Down) || z) (any_some marks (neighbour_number n Left) _
    ∙ ap (λ z. is_optional_node_marked marks (neighbour_number n Left) || z) (any_some marks (neighbour_number n Up) [])))

least_some : (first : ℕ → ℕ) (none : ℕ) (at : Option ℕ) (ns : List ℕ) → least first none (prepend_some at ns) ≡ least_of_place_and_node_place first at (least first none ns)
least_some first none None ns = refl
least_some first none (Some n) ns = refl

pub least_neighbours : (first : ℕ → ℕ) (none n : ℕ) → least first none (neighbours_of_node n)
    ≡ least_of_place_and_node_place first (neighbour_number n Right) (least_of_place_and_node_place first (neighbour_number n Down) (least_of_place_and_node_place first (neighbour_number n Left) (least_of_place_and_node_place first (neighbour_number n Up) none)))
unfolding neighbours_of_node
least_neighbours first none n =
    least_some first none (neighbour_number n Right) _
    ∙ ap (λ z. least_of_place_and_node_place first (neighbour_number n Right) z) (least_some first none (neighbour_number n Down) _
    ∙ ap (λ z. least_of_place_and_node_place first (neighbour_number n Down) z) (least_some first none (neighbour_number n Left) _
    ∙ ap (λ z. least_of_place_and_node_place first (neighbour_number n Left) z) (least_some first none (neighbour_number n Up) [])))

or_over : (x y z w : Bool) → y ≡ (z || w) → (x || y) ≡ ((x || z) || w)
or_over true y z w e = refl
or_over false y z w e = e

any-append : (marks : ℕ → Bool) (a b : List ℕ) → list_any marks (a ++ b) ≡ (list_any marks a || list_any marks b)
any-append marks [] b = refl
any-append marks (n ∷ a) b = or_over (marks n) (list_any marks (a ++ b)) (list_any marks a) (list_any marks b) (any-append marks a b)

-- what an event sees is what it touches, and at what it looks
pub meets_parts : (marks : ℕ → Bool) (cause : EventWithLook) → observes_marked_node marks cause ≡ (list_any marks (touched_nodes cause) || list_any marks (looked_at_nodes cause.event cause.look))
unfolding nodes_observed_by_event
meets_parts marks cause = any-append marks (touched_nodes cause) (looked_at_nodes cause.event cause.look)

-- among some nodes
abbrev Among : List ℕ → ℕ → Type 0
Among ns n = list_any (λ m. m == n) ns ≡ true

least_number_passing_test : (first : ℕ → ℕ) (none n : ℕ) (ns : List ℕ) → Among ns n → least first none ns ≤ first n
least_number_passing_test first none n [] t = absurd (both_ways false refl t)
least_number_passing_test first none n (m ∷ ns) t = ⊎_elim
    (λ u. let e : m ≡ n = eqb-true m n u in let h : first m ≡ first n = ap first e in omega arith)
    (λ u. let h : least first none ns ≤ first n = least_number_passing_test first none n ns u in omega arith)
    (or_cases (m == n) (list_any (λ m. m == n) ns) t)

-- a node with a place
record Found (ns : List ℕ) (place : ℕ) (first : ℕ → ℕ) : Type 0 where
  node : ℕ
  among : Among ns node
  at : first node ≡ place

found_later : (m place : ℕ) (ns : List ℕ) (first : ℕ → ℕ) → Found ns place first → Found (m ∷ ns) place first
found_later m place ns first w = record { node = w.node; among = or_right (m == w.node) (list_any (λ k. k == w.node) ns) w.among; at = w.at }

least_found : (first : ℕ → ℕ) (none : ℕ) (ns : List ℕ) → least first none ns < none → Found ns (least first none ns) first
least_found first none [] l = absurd (omega arith)
least_found first none (m ∷ ns) l = ⊎_elim
    (λ h. let e : first m ≡ min (first m) (least first none ns) = omega arith in record { node = m; among = or_left (m == m) (list_any (λ k. k == m) ns) (eq-eqb m m refl); at = e })
    (λ h. let e : least first none ns ≡ min (first m) (least first none ns) = omega arith in
    let k : least first none ns < none = omega arith in
    found_later m _ ns first (subst (λ z. Found ns z first) e (least_found first none ns k)))
    (cases_lt (first m) (least first none ns))

-- a marked node among some
record Marked (marks : ℕ → Bool) (ns : List ℕ) : Type 0 where
  node : ℕ
  among : Among ns node
  marked_nodes : marks node ≡ true

marked_of : (marks : ℕ → Bool) (ns : List ℕ) → list_any marks ns ≡ true → Marked marks ns
marked_of marks [] t = absurd (both_ways false refl t)
marked_of marks (n ∷ ns) t = ⊎_elim
    (λ u. record { node = n; among = or_left (n == n) (list_any (λ k. k == n) ns) (eq-eqb n n refl); marked_nodes = u })
    (λ u. let w = marked_of marks ns u in record { node = w.node; among = or_right (n == w.node) (list_any (λ k. k == w.node) ns) w.among; marked_nodes = w.marked_nodes })
    (or_cases (marks n) (list_any marks ns) t)

met_at : (marks : ℕ → Bool) (ns : List ℕ) (n : ℕ) → Among ns n → marks n ≡ true → list_any marks ns ≡ true
met_at marks ns n t h = any-mono (λ k. k == n) marks (λ k q. subst (λ z. marks z ≡ true) (sym (eqb-true k n q)) h) ns t

-- an event that sees a node of an older dependent one, below the limit, sees a node with no later place
least_cause : (es : List EventWithLook) (i limit none : ℕ) (first : ℕ → ℕ) (e : EventWithLook) (q : ℕ) → AreOldestEventPlaces es i limit none first → q < limit → slice_index_or (dependent_flags es i) q false ≡ true → observes_marked_node (event_with_look_touches_node (event_at es q)) e ≡ true → least first none (nodes_observed_by_event e) ≤ q
least_cause es i limit none first e q w l f m =
    let k = marked_of (event_with_look_touches_node (event_at es q)) (nodes_observed_by_event e) m in
    let a : least first none (nodes_observed_by_event e) ≤ first k.node = least_number_passing_test first none k.node (nodes_observed_by_event e) k.among in
    let b : first k.node ≤ q = w.oldest k.node q l f k.marked_nodes in
    omega arith

-- the least place, if there is one, is that of a dependent event below the limit, of which the event sees a node
record IsCause (es : List EventWithLook) (i limit : ℕ) (e : EventWithLook) (place : ℕ) : Type 0 where
  below : place < limit
  dependent : slice_index_or (dependent_flags es i) place false ≡ true
  direct : observes_marked_node (event_with_look_touches_node (event_at es place)) e ≡ true

cause_least : (es : List EventWithLook) (i limit none : ℕ) (first : ℕ → ℕ) (e : EventWithLook) → AreOldestEventPlaces es i limit none first → least first none (nodes_observed_by_event e) < none → IsCause es i limit e (least first none (nodes_observed_by_event e))
cause_least es i limit none first e w l =
    let k = least_found first none (nodes_observed_by_event e) l in
    let h : first k.node < none = subst (λ z. z < none) (sym k.at) l in
    subst (λ z. IsCause es i limit e z) k.at
    (record {
      below = w.noted k.node h;
      dependent = w.dependent k.node h;
      direct = met_at (event_with_look_touches_node (event_at es (first k.node))) (nodes_observed_by_event e) k.node k.among (w.touched k.node h);
    })

-- an event after the cause depends on it exactly where a node that it sees has a place
pub least_flag : (es : List EventWithLook) (i place none : ℕ) (first : ℕ → ℕ) → AreOldestEventPlaces es i place none first → place < length es → least first none (nodes_observed_by_event (event_at es place)) < none → slice_index_or (dependent_flags es i) place false ≡ true
least_flag es i place none first w l h =
    let k = cause_least es i place none first (event_at es place) w h in
    flag_direct es i _ place k.dependent k.below l k.direct

pub flag_least : (es : List EventWithLook) (i place none : ℕ) (first : ℕ → ℕ) → AreOldestEventPlaces es i place none first → i < place → place ≤ none → slice_index_or (dependent_flags es i) place false ≡ true → least first none (nodes_observed_by_event (event_at es place)) < none
flag_least es i place none first w l m f = ⊎_elim
    (λ e. absurd (omega arith))
    (λ k. let h : least first none (nodes_observed_by_event (event_at es place)) ≤ k.place = least_cause es i place none first (event_at es place) k.place w k.before k.flagged k.direct in
    let b : k.place < place = k.before in omega arith)
    (why_dependent es i place f)

-- the least place is that of the oldest event on which it depends directly
pub oldest_of : (es : List EventWithLook) (i to place : ℕ) (first : ℕ → ℕ) → AreOldestEventPlaces es i to to first → i < length es → place < length es → place ≤ to → place ≢ i → slice_index_or (dependent_flags es i) place false ≡ true → IsOldestCause es i place (least first to (nodes_observed_by_event (event_at es place)))
oldest_of es i to place first w l k m ne f = ⊎_elim (λ e. absurd (ne e)) go (why_dependent es i place f)
  where
    go : Earlier es (dependent_flags es i) place → IsOldestCause es i place (least first to (nodes_observed_by_event (event_at es place)))
    go u =
        let before = least first to (nodes_observed_by_event (event_at es place)) in
        let h : before ≤ u.place = least_cause es i to to first (event_at es place) u.place w (omega (arith, u.before)) u.flagged u.direct in
        let b : before < place = omega (arith, u.before) in
        let c = cause_least es i to to first (event_at es place) w (omega arith) in
        record {
          dependent = DependsOn_from_flag es i before (omega arith) c.dependent;
          direct = record { before = b; within = k; by_rule = meets_rule (event_at es before) (event_at es place) c.direct };
          oldest = λ other d s. least_cause es i to to first (event_at es place) other w (omega (arith, s.before)) (flag_from_DependsOn es i other l d) (rule_meets (event_at es other) (event_at es place) s.by_rule);
        }

-- no event depends on a later one
pub DependsOn-order : (es : List EventWithLook) (i q : ℕ) → DependsOn es i q → i ≤ q
DependsOn-order es i q itself = omega arith
DependsOn-order es i q (through {middle} d s) = let h : i ≤ middle = DependsOn-order es i middle d in omega (arith, s.before)

-- before any event is noted
pub AreOldestEventPlaces-first : (es : List EventWithLook) (i none : ℕ) (first : ℕ → ℕ) → i < none → i < length es → ((n : ℕ) → first n ≡ cond (event_with_look_touches_node (event_at es i) n) (min none i) none) → AreOldestEventPlaces es i (i + 1) none first
AreOldestEventPlaces-first es i none first l k is = record {
  noted = λ n h. (let e : first n ≡ i = at n h in omega arith);
  dependent = λ n h. subst (λ z. slice_index_or (dependent_flags es i) z false ≡ true) (sym (at n h)) (flag_itself es i k);
  touched = λ n h. subst (λ z. event_with_look_touches_node (event_at es z) n ≡ true) (sym (at n h)) (count_touching_events n h);
  oldest = λ n q m f t. (let e : q ≡ i = only q m f in let g : first n ≡ min none i = is n ∙ cond-true (event_with_look_touches_node (event_at es i) n) (min none i) none (subst (λ z. event_with_look_touches_node (event_at es z) n ≡ true) e t) in omega arith);
}
  where
    count_touching_events : (n : ℕ) → first n < none → event_with_look_touches_node (event_at es i) n ≡ true
    count_touching_events n h = ⊎_elim (λ t. t) (λ f. absurd (let e : first n ≡ none = is n ∙ cond-false (event_with_look_touches_node (event_at es i) n) (min none i) none f in omega arith)) (cases_Bool (event_with_look_touches_node (event_at es i) n))

    at : (n : ℕ) → first n < none → first n ≡ i
    at n h = let e : first n ≡ min none i = is n ∙ cond-true (event_with_look_touches_node (event_at es i) n) (min none i) none (count_touching_events n h) in omega arith

    only : (q : ℕ) → q < i + 1 → slice_index_or (dependent_flags es i) q false ≡ true → q ≡ i
    only q m f = let h : i ≤ q = DependsOn-order es i q (DependsOn_from_flag es i q (omega arith) f) in omega arith

-- an event that does not depend on the cause
pub AreOldestEventPlaces-other : (es : List EventWithLook) (i place none : ℕ) (first : ℕ → ℕ) → slice_index_or (dependent_flags es i) place false ≡ false → AreOldestEventPlaces es i place none first → AreOldestEventPlaces es i (place + 1) none first
AreOldestEventPlaces-other es i place none first free w = record {
  noted = λ n h. (let k : first n < place = w.noted n h in omega arith);
  dependent = w.dependent;
  touched = w.touched;
  oldest = λ n q m f t. elim (cases_eq q place) [
    | inl e ↦ absurd (both_ways (slice_index_or (dependent_flags es i) place false) free (subst (λ z. slice_index_or (dependent_flags es i) z false ≡ true) e f))
    | inr ne ↦ w.oldest n q (omega arith) f t
  ];
}

-- one that does
pub AreOldestEventPlaces-noted : (es : List EventWithLook) (i place none : ℕ) (first now : ℕ → ℕ) → place < none → slice_index_or (dependent_flags es i) place false ≡ true → AreOldestEventPlaces es i place none first → ((n : ℕ) → now n ≡ cond (event_with_look_touches_node (event_at es place) n) (min (first n) place) (first n)) → AreOldestEventPlaces es i (place + 1) none now
AreOldestEventPlaces-noted es i place none first now l f w is = record {
  noted = λ n h. elim (split n) [ inl e ↦ (let k : first n < place = w.noted n (subst (λ z. z < none) e h) in omega arith) | inr e ↦ (let g : now n ≡ place = e.1 in omega arith) ];
  dependent = λ n h. elim (split n) [
    | inl e ↦ subst (λ z. slice_index_or (dependent_flags es i) z false ≡ true) (sym e) (w.dependent n (subst (λ z. z < none) e h))
    | inr e ↦ subst (λ z. slice_index_or (dependent_flags es i) z false ≡ true) (sym e.1) f
  ];
  touched = λ n h. elim (split n) [
    | inl e ↦ subst (λ z. event_with_look_touches_node (event_at es z) n ≡ true) (sym e) (w.touched n (subst (λ z. z < none) e h))
    | inr e ↦ subst (λ z. event_with_look_touches_node (event_at es z) n ≡ true) (sym e.1) e.0
  ];
  oldest = λ n q m g t. elim (cases_eq q place) [
    | inl e ↦ (let k : now n ≡ min (first n) place = is n ∙ cond-true (event_with_look_touches_node (event_at es place) n) (min (first n) place) (first n) (subst (λ z. event_with_look_touches_node (event_at es z) n ≡ true) e t) in omega arith)
    | inr ne ↦ (let k : first n ≤ q = w.oldest n q (omega arith) g t in let h : now n ≤ first n = lower n in omega arith)
  ];
}
  where
    lower : (n : ℕ) → now n ≤ first n
    lower n = ⊎_elim
        (λ t. let k : now n ≡ min (first n) place = is n ∙ cond-true (event_with_look_touches_node (event_at es place) n) (min (first n) place) (first n) t in omega arith)
        (λ t. let k : now n ≡ first n = is n ∙ cond-false (event_with_look_touches_node (event_at es place) n) (min (first n) place) (first n) t in omega arith)
        (cases_Bool (event_with_look_touches_node (event_at es place) n))

    split : (n : ℕ) → (now n ≡ first n) ⊎ ((event_with_look_touches_node (event_at es place) n ≡ true) × (now n ≡ place))
    split n = ⊎_elim
        (λ t. let k : now n ≡ min (first n) place = is n ∙ cond-true (event_with_look_touches_node (event_at es place) n) (min (first n) place) (first n) t in
        ⊎_elim (λ h. inl (omega arith)) (λ h. inr (t, omega arith)) (cases_lt (first n) place))
        (λ t. inl (is n ∙ cond-false (event_with_look_touches_node (event_at es place) n) (min (first n) place) (first n) t))
        (cases_Bool (event_with_look_touches_node (event_at es place) n))

-- ---- The oldest places, as the code reads and writes them.

-- ---- chains made from their end

-- one link more, before those that were found
pub goes_on_longer : (es : List EventWithLook) (i to at before : ℕ) (link : ChainLink) (found now : List ChainLink) → at ≢ i → IsOldestCause es i at before → link ≡ record { place = at; rule = dependence_rule_at es before at } → now ≡ found ++ link ∷ [] → ((links : List ChainLink) → IsChainTo es i at links → IsChainTo es i to (links ++ reverse found)) → (links : List ChainLink) → IsChainTo es i before links → IsChainTo es i to (links ++ reverse now)
goes_on_longer es i to at before link found now ne o e n goes links h =
    let last : ChainLink = record { place = at; rule = dependence_rule_at es before at } in
    let p : reverse now ≡ last ∷ reverse found = ap reverse n ∙ reverse-append found (link ∷ []) ∙ ap (λ z. z ∷ reverse found) e in
    subst (λ z. IsChainTo es i to z) (append_assoc links (last ∷ []) (reverse found) ∙ ap (λ z. links ++ z) (sym p))
    (goes (links ++ last ∷ []) (longer ne o h))

-- the first link ends the search
pub goes_on_first : (es : List EventWithLook) (i to at : ℕ) (found now all : List ChainLink) → at ≡ i → now ≡ found ++ record { place = i; rule = 0 } ∷ [] → all ≡ reverse now → ((links : List ChainLink) → IsChainTo es i at links → IsChainTo es i to (links ++ reverse found)) → IsChainTo es i to all
goes_on_first es i to at found now all e n a goes =
    let first : ChainLink = record { place = i; rule = 0 } in
    subst (λ z. IsChainTo es i to z) (sym (a ∙ ap reverse n ∙ reverse-append found (first ∷ [])))
    (goes (first ∷ []) (subst (λ z. IsChainTo es i z (first ∷ [])) (sym e) alone))

pub rule_read : (es : List EventWithLook) (before at rule : ℕ) (e f : EventWithLook) → before < length es → at < length es → e ≡ get_or es before e → f ≡ get_or es at f → rule ≡ dependence_rule e f → rule ≡ dependence_rule_at es before at
rule_read es before at rule e f l k h j r =
    let p : event_at es before ≡ e = get_or_default es before default_event_with_look e l ∙ sym h in
    let q : event_at es at ≡ f = get_or_default es at default_event_with_look f k ∙ sym j in
    r ∙ ap (λ z. dependence_rule z f) (sym p) ∙ ap (λ z. dependence_rule (event_at es before) z) (sym q)

pub event_read : (es : List EventWithLook) (place : ℕ) (e : EventWithLook) → place < length es → e ≡ get_or es place e → event_at es place ≡ e
event_read es place e l h = get_or_default es place default_event_with_look e l ∙ sym h

least_read : (es : List EventWithLook) (place to : ℕ) (firsts : OldestEventPlaces) (e : EventWithLook) (found : ℕ) → firsts.none ≡ to → place < length es → e ≡ get_or es place e → found ≡ least (oldest_place_of_node firsts) firsts.none (nodes_observed_by_event e) → found ≡ least (oldest_place_of_node firsts) to (nodes_observed_by_event (event_at es place))
least_read es place to firsts e found n l r f =
    f ∙ ap (λ z. least (oldest_place_of_node firsts) z (nodes_observed_by_event e)) n ∙ ap (λ z. least (oldest_place_of_node firsts) to (nodes_observed_by_event z)) (sym (event_read es place e l r))

least_most : (first : ℕ → ℕ) (none : ℕ) (ns : List ℕ) → least first none ns ≤ none
least_most first none [] = omega arith
least_most first none (n ∷ ns) = let h : least first none ns ≤ none = least_most first none ns in omega arith

-- the cause is noted first
pub noted_first : (es : List EventWithLook) (i to : ℕ) (fresh now : OldestEventPlaces) (e : EventWithLook) → i < to → i < length es → e ≡ get_or es i e → ((n : ℕ) → oldest_place_of_node fresh n ≡ to) → ((n : ℕ) → oldest_place_of_node now n ≡ cond (event_with_look_touches_node e n) (min (oldest_place_of_node fresh n) i) (oldest_place_of_node fresh n)) → AreOldestEventPlaces es i (i + 1) to (oldest_place_of_node now)
noted_first es i to fresh now e l k r none is =
    AreOldestEventPlaces-first es i to (oldest_place_of_node now) l k
    (λ n. is n ∙ ap (λ z. cond (event_with_look_touches_node e n) (min z i) z) (none n) ∙ ap (λ z. cond (event_with_look_touches_node z n) (min to i) to) (sym (event_read es i e k r)))

-- an event that sees a node with a place is noted
pub noted_more : (es : List EventWithLook) (i place to : ℕ) (firsts now : OldestEventPlaces) (e : EventWithLook) (found : ℕ) → AreOldestEventPlaces es i place to (oldest_place_of_node firsts) → firsts.none ≡ to → place < length es → place < to → e ≡ get_or es place e → found ≡ least (oldest_place_of_node firsts) firsts.none (nodes_observed_by_event e) → found < to → ((n : ℕ) → oldest_place_of_node now n ≡ cond (event_with_look_touches_node e n) (min (oldest_place_of_node firsts n) place) (oldest_place_of_node firsts n)) → AreOldestEventPlaces es i (place + 1) to (oldest_place_of_node now)
noted_more es i place to firsts now e found w n l k r f h is =
    let low : least (oldest_place_of_node firsts) to (nodes_observed_by_event (event_at es place)) < to = subst (λ z. z < to) (least_read es place to firsts e found n l r f) h in
    AreOldestEventPlaces-noted es i place to (oldest_place_of_node firsts) (oldest_place_of_node now) k (least_flag es i place to (oldest_place_of_node firsts) w l low) w
    (λ m. is m ∙ ap (λ z. cond (event_with_look_touches_node z m) (min (oldest_place_of_node firsts m) place) (oldest_place_of_node firsts m)) (sym (event_read es place e l r)))

-- another is not
pub noted_none : (es : List EventWithLook) (i place to : ℕ) (firsts : OldestEventPlaces) (e : EventWithLook) (found : ℕ) → AreOldestEventPlaces es i place to (oldest_place_of_node firsts) → firsts.none ≡ to → i < place → place < length es → place < to → e ≡ get_or es place e → found ≡ least (oldest_place_of_node firsts) firsts.none (nodes_observed_by_event e) → to ≤ found → AreOldestEventPlaces es i (place + 1) to (oldest_place_of_node firsts)
noted_none es i place to firsts e found w n a l k r f h = ⊎_elim
    (λ t. absurd (
    let low : least (oldest_place_of_node firsts) to (nodes_observed_by_event (event_at es place)) < to = flag_least es i place to (oldest_place_of_node firsts) w a (omega arith) t in
    let is : found ≡ least (oldest_place_of_node firsts) to (nodes_observed_by_event (event_at es place)) = least_read es place to firsts e found n l r f in
    omega arith))
    (λ free. AreOldestEventPlaces-other es i place to (oldest_place_of_node firsts) free w)
    (cases_Bool (slice_index_or (dependent_flags es i) place false))

-- the place read is that of the oldest cause
pub oldest_read : (es : List EventWithLook) (i to at : ℕ) (firsts : OldestEventPlaces) (e : EventWithLook) (before : ℕ) → AreOldestEventPlaces es i to to (oldest_place_of_node firsts) → firsts.none ≡ to → i < length es → at < length es → at ≤ to → at ≢ i → slice_index_or (dependent_flags es i) at false ≡ true → e ≡ get_or es at e → before ≡ least (oldest_place_of_node firsts) firsts.none (nodes_observed_by_event e) → IsOldestCause es i at before
oldest_read es i to at firsts e before w n l k m ne t r f =
    subst (λ z. IsOldestCause es i at z) (sym (least_read es at to firsts e before n k r f)) (oldest_of es i to at (oldest_place_of_node firsts) w l k m ne t)

-- no place is read for an event that does not depend on the cause, and else one is
pub none_read : (es : List EventWithLook) (i to : ℕ) (firsts : OldestEventPlaces) (e : EventWithLook) (found : ℕ) → AreOldestEventPlaces es i to to (oldest_place_of_node firsts) → firsts.none ≡ to → i < to → to < length es → e ≡ get_or es to e → found ≡ least (oldest_place_of_node firsts) firsts.none (nodes_observed_by_event e) → found ≡ to → DependsOn es i to → ⊥
none_read es i to firsts e found w n a l r f h d =
    let low : least (oldest_place_of_node firsts) to (nodes_observed_by_event (event_at es to)) < to = flag_least es i to to (oldest_place_of_node firsts) w a (omega arith) (flag_from_DependsOn es i to (omega arith) d) in
    let is : found ≡ least (oldest_place_of_node firsts) to (nodes_observed_by_event (event_at es to)) = least_read es to to firsts e found n l r f in
    omega arith

pub some_read : (es : List EventWithLook) (i to : ℕ) (firsts : OldestEventPlaces) (e : EventWithLook) (found : ℕ) → AreOldestEventPlaces es i to to (oldest_place_of_node firsts) → firsts.none ≡ to → to < length es → e ≡ get_or es to e → found ≡ least (oldest_place_of_node firsts) firsts.none (nodes_observed_by_event e) → found ≢ to → slice_index_or (dependent_flags es i) to false ≡ true
some_read es i to firsts e found w n l r f h =
    let is : found ≡ least (oldest_place_of_node firsts) to (nodes_observed_by_event (event_at es to)) = least_read es to to firsts e found n l r f in
    let most : least (oldest_place_of_node firsts) to (nodes_observed_by_event (event_at es to)) ≤ to = least_most (oldest_place_of_node firsts) to (nodes_observed_by_event (event_at es to)) in
    least_flag es i to to (oldest_place_of_node firsts) w l (omega arith)
