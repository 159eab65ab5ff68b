-- A clock made of earlier ones.
use Rattle.std.proofs.Common.{◌≡◌, ℕ, zero, suc, ◌+◌, ◌<◌, ◌≤◌, max, ◌⊎◌, ◌↔◌, Bool, true, false, ◌||◌, cond, inl, inr, List, [], ◌∷◌, length, take, All, Contains, refl, sym, ◌∙◌, ap, subst, arith}
use Rattle.std.specs.Prelude.{slice_index_or}
use Rattle.std.specs.List.{list_any}
use Rattle.std.proofs.Math.Nat.{le-max_left, le-max_right}
use Rattle.std.proofs.lemmas.Bool.{cases_lt, cases_order, both_ways, or_left}
use Rattle.ga_event.specs.Touches.{event_nodes, touches}
use Rattle.ga_causal.specs.Steps.{count_touching_events, IsKthStep}
use Rattle.ga_races.specs.HappensBefore.{TraceAction, events_with_looks_of_trace_actions, trace_action_at, is_look_changed_by, are_dependent_actions, HappensDirectlyBefore, HappensBefore, directly, through, IsVectorClock, joined_clock, clock_at_place}
use Rattle.ga_races.proofs.Independence.{any_at}
use Rattle.ga_races.proofs.Moves.{tally, tally_is, tally_grows, before_within, IsTallied, tallied_of}
use Rattle.ga_races.proofs.Tallies.{tally_up}

happens_trans : (xs : List TraceAction) (i j k : ℕ) → HappensBefore xs i j → HappensBefore xs j k → HappensBefore xs i k
happens_trans xs i j k h (directly d) = through h d
happens_trans xs i j k h (through {middle} g d) = through (happens_trans xs i j middle h g) d

-- the last link of what happens before
last_of : (xs : List TraceAction) (i j : ℕ) → HappensBefore xs i j → (m : ℕ) × ((i ≡ m) ⊎ HappensBefore xs i m) × HappensDirectlyBefore xs m j
last_of xs i j (directly d) = (i, inl refl, d)
last_of xs i j (through {middle} h d) = (middle, inr h, d)

most : (known : List (ℕ × (ℕ → ℕ))) (n k : ℕ) (d : ℕ × (ℕ → ℕ)) → k < length known → (slice_index_or known k d).1 n ≤ joined_clock known n
most [] n k d l = absurd (omega (arith, l))
most (p ∷ known) n zero d l = le-max_left (p.1 n) (joined_clock known n)
most (p ∷ known) n (suc k) d l =
    let a : (slice_index_or known k d).1 n ≤ joined_clock known n = most known n k d (omega (arith, l)) in
    let b : joined_clock known n ≤ max (p.1 n) (joined_clock known n) = le-max_right (p.1 n) (joined_clock known n) in
    omega (arith, a, b)

-- one of them has as much
record IsOne (known : List (ℕ × (ℕ → ℕ))) (n k : ℕ) : Type 0 where
  at : ℕ
  within : at < length known
  is : (d : ℕ × (ℕ → ℕ)) → k ≤ (slice_index_or known at d).1 n

one_of : (known : List (ℕ × (ℕ → ℕ))) (n k : ℕ) → 0 < k → k ≤ joined_clock known n → IsOne known n k
one_of [] n k p l = absurd (omega (arith, p, l))
one_of (c ∷ known) n k p l = elim (cases_lt (c.1 n) k) [
  | inl less ↦ (let r = one_of known n k p (rest (c.1 n) (joined_clock known n) less l) in
      record { at = suc r.at; within = let m : r.at < length known = r.within in omega (arith, m); is = r.is })
  | inr enough ↦ record { at = 0; within = omega arith; is = λ d. enough }
]
  where
    rest : (x y : ℕ) → x < k → k ≤ max x y → k ≤ y
    rest x y a b = elim (cases_lt y k) [
      | inl z ↦ absurd (omega (arith, a, z, b))
      | inr z ↦ z
    ]

common : (a b : TraceAction) (n : ℕ) → touches a.cause.event n ≡ true → touches b.cause.event n ≡ true → are_dependent_actions a b ≡ true
common a b n t u = or_left (list_any (touches a.cause.event) (event_nodes b.cause.event)) (is_look_changed_by a b || is_look_changed_by b a) (any_at (touches a.cause.event) (event_nodes b.cause.event) n u t)

pub in_order : (xs : List TraceAction) (i j n : ℕ) → i < j → j < length xs → touches (trace_action_at xs i).cause.event n ≡ true → touches (trace_action_at xs j).cause.event n ≡ true → HappensBefore xs i j
in_order xs i j n l m t u = directly (record { before = l; within = m; bound = common (trace_action_at xs i) (trace_action_at xs j) n t u })

tally_next : (n : ℕ) (xs : List TraceAction) (i : ℕ) → i < length xs → touches (trace_action_at xs i).cause.event n ≡ true → tally n xs (i + 1) ≡ suc (tally n xs i)
tally_next n xs i l t = subst (λ (z : ℕ). tally n xs z ≡ suc (tally n xs i)) (let e : suc i ≡ i + 1 = omega arith in e) (go xs i l t)
  where
    first : (ys : List TraceAction) → tally n ys 0 ≡ 0
    first [] = refl
    first (y ∷ ys) = refl

    go : (ys : List TraceAction) (j : ℕ) → j < length ys → touches (trace_action_at ys j).cause.event n ≡ true → tally n ys (suc j) ≡ suc (tally n ys j)
    go [] j k u = absurd (omega (arith, k))
    go (y ∷ ys) zero k u = ap (λ (b : Bool). cond b 1 0 + tally n ys 0) u ∙ (let z : tally n ys 0 ≡ 0 = first ys in let g : 1 + tally n ys 0 ≡ 1 = omega (arith, z) in g)
    go (y ∷ ys) (suc j) k u = more (cond (touches y.cause.event n) 1 0) (tally n ys (suc j)) (tally n ys j) (go ys j (omega (arith, k)) u)
      where
        more : (x a b : ℕ) → a ≡ suc b → x + a ≡ suc (x + b)
        more x a b h = omega (arith, h)

module _ (xs : List TraceAction) (place : ℕ) (known : List (ℕ × (ℕ → ℕ))) (inside : place < length xs)
    (clocks : All (λ (p : ℕ × (ℕ → ℕ)). HappensDirectlyBefore xs p.0 place × IsVectorClock xs p.0 p.1) known)
    (covered : (m : ℕ) → HappensDirectlyBefore xs m place → (p : ℕ × (ℕ → ℕ)) × Contains known p × ((m ≡ p.0) ⊎ HappensBefore xs m p.0)) where
  -- its own steps are counted
  own : (n k step : ℕ) → touches (trace_action_at xs place).cause.event n ≡ true → IsTallied xs n k step → (k ≤ count_touching_events n (take (place + 1) (events_with_looks_of_trace_actions xs))) ↔ ((step ≡ place) ⊎ HappensBefore xs step place)
  own n k step t s = (forth, back)
    where
      count : count_touching_events n (take (place + 1) (events_with_looks_of_trace_actions xs)) ≡ suc (tally n xs place)
      count = tally_is n xs (place + 1) ∙ tally_next n xs place inside t

      forth : k ≤ count_touching_events n (take (place + 1) (events_with_looks_of_trace_actions xs)) → (step ≡ place) ⊎ HappensBefore xs step place
      forth l = elim (cases_order step place) [
        | inl q ↦ inl q
        | inr (inl b) ↦ inr (directly (record { before = b; within = inside; bound = common (trace_action_at xs step) (trace_action_at xs place) n s.touched t }))
        | inr (inr b) ↦ (let g : tally n xs place < tally n xs step = tally_grows n xs place step b inside t in
            let e : suc (tally n xs step) ≡ k = s.before in absurd (omega (arith, g, e, l, count)))
      ]

      back : (step ≡ place) ⊎ HappensBefore xs step place → k ≤ count_touching_events n (take (place + 1) (events_with_looks_of_trace_actions xs))
      back h =
          let b : step ≤ place = at_most h in
          let g : tally n xs step ≤ tally n xs place = tally_up n xs step place b in
          let e : suc (tally n xs step) ≡ k = s.before in
          omega (arith, g, e, count)
        where
          at_most : (step ≡ place) ⊎ HappensBefore xs step place → step ≤ place
          at_most (inl q) = omega (arith, q)
          at_most (inr z) = let b : step < place = (before_within xs step place z).0 in omega (arith, b)

  -- and those of other nodes are those of an earlier clock
  of_others : (n k step : ℕ) → touches (trace_action_at xs place).cause.event n ≡ false → IsKthStep (events_with_looks_of_trace_actions xs) n k step → (k ≤ joined_clock known n) ↔ ((step ≡ place) ⊎ HappensBefore xs step place)
  of_others n k step f s = (forth, back)
    where
      tallied : IsTallied xs n k step
      tallied = tallied_of xs n k step s

      forth : k ≤ joined_clock known n → (step ≡ place) ⊎ HappensBefore xs step place
      forth l =
          let e : suc (tally n xs step) ≡ k = tallied.before in
          let r = one_of known n k (omega (arith, e)) l in
          let d : ℕ × (ℕ → ℕ) = (0, λ m. 0) in
          let p = clocks r.at d r.within in
          inr (on p.0 ((p.1 n k step s).0 (r.is d)))
        where
          on : {m : ℕ} → HappensDirectlyBefore xs m place → (step ≡ m) ⊎ HappensBefore xs step m → HappensBefore xs step place
          on {m} b (inl q) = directly (subst (λ (z : ℕ). HappensDirectlyBefore xs z place) (sym q) b)
          on {m} b (inr h) = through h b

      back : (step ≡ place) ⊎ HappensBefore xs step place → k ≤ joined_clock known n
      back (inl q) = absurd (both_ways (touches (trace_action_at xs place).cause.event n) f (subst (λ (z : ℕ). touches (trace_action_at xs z).cause.event n ≡ true) q tallied.touched))
      back (inr h) =
          let m = last_of xs step place h in
          let c = covered m.0 m.2 in
          let p = clocks c.1.0 c.0 c.1.1 in
          let a : c.0.1 n ≤ joined_clock known n = subst (λ (z : ℕ × (ℕ → ℕ)). z.1 n ≤ joined_clock known n) c.1.2 (most known n c.1.0 c.0 c.1.1) in
          let b : k ≤ c.0.1 n = (subst (λ (z : ℕ × (ℕ → ℕ)). IsVectorClock xs z.0 z.1) c.1.2 p.1 n k step s).1 (chain m.1 c.2) in
          omega (arith, a, b)
        where
          chain : {m q : ℕ} → (step ≡ m) ⊎ HappensBefore xs step m → (m ≡ q) ⊎ HappensBefore xs m q → (step ≡ q) ⊎ HappensBefore xs step q
          chain {m} {q} (inl e) (inl g) = inl (e ∙ g)
          chain {m} {q} (inl e) (inr g) = inr (subst (λ (z : ℕ). HappensBefore xs z q) (sym e) g)
          chain {m} {q} (inr e) (inl g) = inr (subst (HappensBefore xs step) g e)
          chain {m} {q} (inr e) (inr g) = inr (happens_trans xs step m q e g)

  pub clock_of : IsVectorClock xs place (clock_at_place xs place known)
  clock_of n k step s = go (touches (trace_action_at xs place).cause.event n) refl
    where
      go : (b : Bool) → touches (trace_action_at xs place).cause.event n ≡ b → (k ≤ cond b (count_touching_events n (take (place + 1) (events_with_looks_of_trace_actions xs))) (joined_clock known n)) ↔ ((step ≡ place) ⊎ HappensBefore xs step place)
      go true t = own n k step t (tallied_of xs n k step s)
      go false f = of_others n k step f s
