-- If each list that can be made is a prefix of a list in another order, the list has no race.
use Rattle.ga_causal.specs.Equivalence as equivalence
use Rattle.std.proofs.Common.{◌≡◌, ℕ, Bool, true, false, cond, inl, inr, List, [], ◌∷◌, ◌++◌, Option, Some, None, IsSome, refl, sym, ◌∙◌, ap, subst}
use Rattle.std.specs.List.{list_any}
use Rattle.std.proofs.lemmas.Bool.{cases_Bool, false_from_ne_true}
use Rattle.std.proofs.lemmas.Option.{same_Some}
use Rattle.ga_node.specs.Record.{NodeRecord}
use Rattle.ga_event.specs.declared.event.Event.{Event}
use Rattle.ga_event.specs.Touches.{event_nodes, touches}
use Rattle.ga_event.specs.Apply.{event_result, replay, MadeEventOutcome, event_with_look_on_chip}
use Rattle.ga_causal.specs.Words.{outside_word_of_event, local_history_with_outside_words}
use Rattle.ga_causal.proofs.Equivalences.{touched_of, AreApart-sym, sees_touched}
use Rattle.ga_races.specs.Orders.{IsEnabled, AreReorderings, IsRace, HasNoRace, same, swapped, later, joined}
use Rattle.ga_races.proofs.Independence.{replay_more, first_of, still_enabled, apart-sym, any_of, independent_of, can_back}
use Rattle.ga_races.proofs.Orders.{order_replay, order_read, Completed, is_some_of, enabled_after, some_of}
use Rattle.ga_causal.specs.Equivalence.{AreIndependentEvents, AreEquivalentLists}
use Rattle.ga_causal.proofs.Words.{same_received, after_is}
use Rattle.ga_causal.proofs.Runs.{replay_equivalent}

-- the run after a list

pub replay_into : (fs ys : List Event) (c now : List NodeRecord) → replay c fs ≡ Some now → replay c (fs ++ ys) ≡ replay now ys
replay_into [] ys c now h = ap (λ d. replay d ys) (same_Some c now h)
replay_into (e ∷ fs) ys c now h = let p = first_of c e fs now h in replay_more c e (fs ++ ys) p.can ∙ replay_into fs ys (event_result c e).0 now p.then

pub read_into : (n : ℕ) (fs ys : List Event) (c now : List NodeRecord) → replay c fs ≡ Some now → local_history_with_outside_words n c (fs ++ ys) ≡ local_history_with_outside_words n c fs ++ local_history_with_outside_words n now ys
read_into n [] ys c now h = ap (λ d. local_history_with_outside_words n d ys) (same_Some c now h)
read_into n (e ∷ fs) ys c now h =
    let p = first_of c e fs now h in
    go (touches e n) (read_into n fs ys (event_result c e).0 now p.then)
  where
    go : (b : Bool) → local_history_with_outside_words n (event_result c e).0 (fs ++ ys) ≡ local_history_with_outside_words n (event_result c e).0 fs ++ local_history_with_outside_words n now ys
        → cond b ((e, outside_word_of_event c e) ∷ local_history_with_outside_words n (event_result c e).0 (fs ++ ys)) (local_history_with_outside_words n (event_result c e).0 (fs ++ ys)) ≡ cond b ((e, outside_word_of_event c e) ∷ local_history_with_outside_words n (event_result c e).0 fs) (local_history_with_outside_words n (event_result c e).0 fs) ++ local_history_with_outside_words n now ys
    go true k = ap (λ (z : List (Event × Option ℕ)). (e, outside_word_of_event c e) ∷ z) k
    go false k = k

pub read_touched : (n : ℕ) (c : List NodeRecord) (e : Event) (es : List Event) → touches e n ≡ true → local_history_with_outside_words n c (e ∷ es) ≡ (e, outside_word_of_event c e) ∷ local_history_with_outside_words n (event_result c e).0 es
read_touched n c e es t = ap (λ (b : Bool). cond b ((e, outside_word_of_event c e) ∷ local_history_with_outside_words n (event_result c e).0 es) (local_history_with_outside_words n (event_result c e).0 es)) t

pub read_past : (n : ℕ) (c : List NodeRecord) (e : Event) (es : List Event) → touches e n ≡ false → local_history_with_outside_words n c (e ∷ es) ≡ local_history_with_outside_words n (event_result c e).0 es
read_past n c e es t = ap (λ (b : Bool). cond b ((e, outside_word_of_event c e) ∷ local_history_with_outside_words n (event_result c e).0 es) (local_history_with_outside_words n (event_result c e).0 es)) t

-- lists that begin alike continue alike
abbrev pub Entry : Type 0
Entry = Event × Option ℕ

first_entry : List Entry → Option Entry
first_entry [] = None
first_entry (x ∷ xs) = Some x

others_of : List Entry → List Entry
others_of [] = []
others_of (x ∷ xs) = xs

pub next_same : (xs : List Entry) (a b : Entry) (ys zs : List Entry) → xs ++ a ∷ ys ≡ xs ++ b ∷ zs → a ≡ b
unfolding first_entry others_of
next_same [] a b ys zs h = same_Some a b (ap first_entry h)
next_same (x ∷ xs) a b ys zs h = next_same xs a b ys zs (ap others_of h)

-- of two continuations, both of which lead to the one list in another order, the node's next entry is the same
next_entry : (n : ℕ) (c now : List NodeRecord) (es before ys zs : List Event) (a b : Entry) (us vs : List Entry) → replay c before ≡ Some now
    → AreReorderings c es (before ++ ys) → AreReorderings c es (before ++ zs) → local_history_with_outside_words n now ys ≡ a ∷ us → local_history_with_outside_words n now zs ≡ b ∷ vs → a ≡ b
next_entry n c now es before ys zs a b us vs led h k p q =
    next_same (local_history_with_outside_words n c before) a b us vs
    (ap (λ (z : List Entry). local_history_with_outside_words n c before ++ z) (sym p) ∙ sym (read_into n before ys c now led) ∙ sym (order_read n c es (before ++ ys) h)
    ∙ order_read n c es (before ++ zs) k ∙ read_into n before zs c now led ∙ ap (λ (z : List Entry). local_history_with_outside_words n c before ++ z) q)

abbrev AllComplete : List NodeRecord → List Event → Type 0
AllComplete c es = (fs : List Event) → IsSome (replay c fs) → Completed c es fs

-- the list with another continuation
again : (fs ys others : List Event) → fs ++ (ys ++ others) ≡ (fs ++ ys) ++ others
again [] ys others = refl
again (e ∷ fs) ys others = ap (λ (z : List Event). e ∷ z) (again fs ys others)

go_on : (c now last : List NodeRecord) (es before ys : List Event) → AllComplete c es → replay c before ≡ Some now → replay now ys ≡ Some last → (others : List Event) × AreReorderings c es (before ++ (ys ++ others))
go_on c now last es before ys all led h =
    let k = all (before ++ ys) (is_some_of (replay c (before ++ ys)) last (replay_into before ys c now led ∙ h)) in
    (k.0, subst (λ (z : List Event). AreReorderings c es z) (sym (again before ys k.0)) k.1)

module _ (c last : List NodeRecord) (es : List Event) (led : replay c es ≡ Some last) (all : AllComplete c es) (step other : Event) (r : IsRace c es step other) where
  can_step : IsEnabled r.now step
  can_step = enabled_after r.before c r.now step r.later r.led (is_some_of (replay c (r.before ++ step ∷ r.later)) last (sym (order_replay c es (r.before ++ step ∷ r.later) r.order) ∙ led))

  in_common : (n : ℕ) → touches step n ≡ true → touches other n ≡ true → ⊥
  in_common n t u =
      let k = go_on c r.now (event_result r.now other).0 es r.before (other ∷ []) all r.led (replay_more r.now other [] r.can) in
      r.differ (ap (λ (z : Entry). z.0) (next_entry n c r.now es r.before (step ∷ r.later) (other ∷ k.0) _ _ _ _ r.led r.order k.1 (read_touched n r.now step r.later t) (read_touched n r.now other k.0 u)))

  same_first : ((n : ℕ) → touches step n ≡ true → touches other n ≡ false) → outside_word_of_event (event_result r.now other).0 step ≡ outside_word_of_event r.now step
  same_first apart =
      let t = touched_of step in
      let k = go_on c r.now (event_result (event_result r.now other).0 step).0 es r.before (other ∷ step ∷ []) all r.led
      (replay_more r.now other (step ∷ []) r.can ∙ replay_more (event_result r.now other).0 step [] (still_enabled r.now step other apart r.can can_step)) in
      ap (λ (z : Entry). z.1) (next_entry t.node c r.now es r.before (other ∷ step ∷ k.0) (step ∷ r.later) _ _ _ _ r.led k.1 r.order
      (read_past t.node r.now other (step ∷ k.0) (apart t.node t.is) ∙ read_touched t.node (event_result r.now other).0 step k.0 t.is) (read_touched t.node r.now step r.later t.is))

  same_second : ((n : ℕ) → touches step n ≡ true → touches other n ≡ false) → outside_word_of_event (event_result r.now step).0 other ≡ outside_word_of_event r.now other
  same_second apart =
      let back = apart-sym step other apart in
      let t = touched_of other in
      let k = go_on c r.now (event_result (event_result r.now step).0 other).0 es r.before (step ∷ other ∷ []) all r.led
      (replay_more r.now step (other ∷ []) can_step ∙ replay_more (event_result r.now step).0 other [] (still_enabled r.now other step back can_step r.can)) in
      let m = go_on c r.now (event_result r.now other).0 es r.before (other ∷ []) all r.led (replay_more r.now other [] r.can) in
      ap (λ (z : Entry). z.1) (next_entry t.node c r.now es r.before (step ∷ other ∷ k.0) (other ∷ m.0) _ _ _ _ r.led k.1 m.1
      (read_past t.node r.now step (other ∷ k.0) (back t.node t.is) ∙ read_touched t.node (event_result r.now step).0 other k.0 t.is) (read_touched t.node r.now other m.0 t.is))

  no_such : ⊥
  no_such = elim (cases_Bool (list_any (touches step) (event_nodes other))) [
    | inl t ↦ (let k = any_of (touches step) (event_nodes other) t in in_common k.node k.marked_nodes k.listed)
    | inr none ↦ (let apart = independent_of step other none in r.bound (record { apart = apart; first = same_first apart; second = same_second apart }))
  ]

pub no_race_of : (c last : List NodeRecord) (es : List Event) → replay c es ≡ Some last → AllComplete c es → HasNoRace c es
no_race_of c last es led all step other r = no_such c last es led all step other r

-- ---- swaps of neighbours that see none of each other's nodes are swaps of independent neighbours

apart_nodes : (c : List NodeRecord) (e f : Event) → AreIndependentEvents (event_with_look_on_chip c e) (event_with_look_on_chip c f) → (n : ℕ) → touches e n ≡ true → touches f n ≡ false
apart_nodes c e f h n t = false_from_ne_true (touches f n) (λ u. h.first n t (sees_touched (event_with_look_on_chip c f) n u))

-- the word of the first is the same after the second
word_behind : (c : List NodeRecord) (e f : Event) → AreIndependentEvents (event_with_look_on_chip c e) (event_with_look_on_chip c f) → IsEnabled c e → IsEnabled c f → outside_word_of_event (event_result c f).0 e ≡ outside_word_of_event c e
word_behind c e f h cane canf =
    let apart = apart_nodes c e f h in
    let k = touched_of e in
    let last = (event_result (event_result c e).0 f).0 in
    let runs : replay c (e ∷ f ∷ []) ≡ Some last = replay_more c e (f ∷ []) cane ∙ replay_more (event_result c e).0 f [] (still_enabled c f e (apart-sym e f apart) cane canf) in
    let alike : local_history_with_outside_words k.node c (e ∷ f ∷ []) ≡ local_history_with_outside_words k.node c (f ∷ e ∷ []) = same_received c last (e ∷ f ∷ []) (f ∷ e ∷ []) k.node runs (equivalence.swapped h) in
    let one = read_touched k.node c e (f ∷ []) k.is in
    let two = read_past k.node c f (e ∷ []) (apart k.node k.is) ∙ read_touched k.node (event_result c f).0 e [] k.is in
    sym (ap (λ (z : Entry). z.1) (next_same [] (e, outside_word_of_event c e) (e, outside_word_of_event (event_result c f).0 e) _ _ (sym one ∙ alike ∙ two)))

pub order_of : (c : List NodeRecord) (xs ys : List Event) → AreEquivalentLists c xs ys → IsSome (replay c xs) → AreReorderings c xs ys
order_of c xs ys equivalence.same some = same
order_of c xs ys (equivalence.swapped {e} {f} {xs = zs} h) some =
    let a = some_of (replay c (e ∷ f ∷ zs)) some in
    let p = first_of c e (f ∷ zs) a.0 a.1 in
    let q = first_of (event_result c e).0 f zs a.0 p.then in
    let apart = apart_nodes c e f h in
    let canf = can_back c f e (apart-sym e f apart) p.can q.can in
    swapped p.can canf (record { apart = apart; first = word_behind c e f h p.can canf; second = word_behind c f e (AreApart-sym (event_with_look_on_chip c e) (event_with_look_on_chip c f) h) canf p.can })
order_of c xs ys (equivalence.later {now} {e} {told} {xs = us} {ys = vs} h k) some =
    let a = some_of (replay c (e ∷ us)) some in
    let p = first_of c e us a.0 a.1 in
    let at : (event_result c e).0 ≡ now = ap (λ (z : List NodeRecord × MadeEventOutcome). z.0) (after_is c now e told h) in
    later p.can (subst (λ d. AreReorderings d us vs) (sym at) (order_of now us vs k (is_some_of (replay now us) a.0 (ap (λ d. replay d us) (sym at) ∙ p.then))))
order_of c xs ys (equivalence.joined {ys = zs} h k) some =
    joined (order_of c xs zs h some) (order_of c zs ys k (subst (λ (o : Option (List NodeRecord)). IsSome o) (replay_equivalent c xs zs h) some))
