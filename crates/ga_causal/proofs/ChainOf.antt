-- The chain that is computed is the one that is found.
use Rattle.std.proofs.Common.{◌≡◌, ℕ, ◌<◌, ◌≤◌, ◌≢◌, ◌⊎◌, List, [], ◌∷◌, ◌++◌, length, refl, sym, ◌∙◌, ap, ap₂, subst, inl, inr, ⊎_elim, arith, zero, suc, ◌==◌, Bool, true, false, not, cond, ◌+◌, ◌-◌, drop, Some, None, option_map, length-drop, Option, Result, Ok, Err, IfOk}
use Rattle.ga_event.specs.declared.event.EventWithLook.{EventWithLook}
use Rattle.ga_causal.specs.declared.chain.ChainLink.{ChainLink}
use Rattle.ga_causal.specs.Dependence.{dependence_rule_at, event_at, dependent_flags, DependsOn, itself, through, default_event_with_look, dependence_rule, DependsDirectly, event_with_look_touches_node, position_of_step}
use Rattle.ga_causal.specs.Chains.{IsNextChainLink, AreNextChainLinks, IsChain, IsOldestCause, IsChainTo, alone, longer, IsChainAnswer, is_direct_link_from_cause, least_number_passing_test, oldest_cause, chain_links_to_effect, chain_from_cause}
use Rattle.std.specs.Prelude.{nat_lt, slice_index_or}
use Rattle.std.proofs.lemmas.Bool.{cases_Bool, cases_lt, cases_eq, both_ways, cond-true, cond-false, le-ltb, lt-ltb, eq-eqb, ne_eqb, and_from, and_parts}
use Rattle.ga_causal.proofs.Exact.{meets_rule, why_dependent, DependsOn_from_flag, flag_from_DependsOn, flagged_within, Earlier}
use Rattle.std.proofs.lemmas.List.{get_or-drop}
use Rattle.ga_causal.specs.Steps.{count_touching_events}
use Rattle.ga_causal.proofs.OldestEventPlaces.{DependsOn-order}
use Rattle.ga_causal.proofs.LocalHistories.{place-other, place-touched}
use Rattle.ga_causal.proofs.Places.{on_by, on_by-zero, touching_yes, touching_no}

-- ---- the chain is one, and is a chain

abbrev first_link : ℕ → ChainLink
first_link i = record { place = i; rule = 0 }

abbrev last_link : List EventWithLook → ℕ → ℕ → ChainLink
last_link es before place = record { place = place; rule = dependence_rule_at es before place }

record EndsBy (es : List EventWithLook) (i place : ℕ) (links : List ChainLink) : Type 0 where
  before : ℕ
  others : List ChainLink
  differs : place ≢ i
  oldest : IsOldestCause es i place before
  chain : IsChainTo es i before others
  is : links ≡ others ++ last_link es before place ∷ []

taken_apart : (es : List EventWithLook) (i place : ℕ) (links : List ChainLink) → IsChainTo es i place links → ((place ≡ i) × (links ≡ first_link i ∷ [])) ⊎ EndsBy es i place links
taken_apart es i place links alone = inl (refl, refl)
taken_apart es i place links (longer {before} {links = others} ne o h) = inr (record { before = before; others = others; differs = ne; oldest = o; chain = h; is = refl })

same_before : (es : List EventWithLook) (i place a b : ℕ) → IsOldestCause es i place a → IsOldestCause es i place b → a ≡ b
same_before es i place a b x y =
    let p : a ≤ b = x.oldest b y.dependent y.direct in
    let q : b ≤ a = y.oldest a x.dependent x.direct in
    omega arith

pub chain_one : (es : List EventWithLook) (i place : ℕ) (xs ys : List ChainLink) → IsChainTo es i place xs → IsChainTo es i place ys → xs ≡ ys
chain_one es i place xs ys alone k = ⊎_elim (λ p. sym p.1) (λ w. absurd (w.differs refl)) (taken_apart es i place ys k)
chain_one es i place xs ys (longer {before} {links = others} ne o h) k = ⊎_elim
    (λ p. absurd (ne p.0))
    (λ w. let e : before ≡ w.before = same_before es i place before w.before o w.oldest in
    let g : others ≡ w.others = chain_one es i before others w.others h (subst (λ z. IsChainTo es i z w.others) (sym e) w.chain) in
    ap₂ (λ (z : List ChainLink) (b : ℕ). z ++ last_link es b place ∷ []) g e ∙ sym w.is)
    (taken_apart es i place ys k)

abbrev place_after : ℕ → List ChainLink → ℕ
place_after place [] = place
place_after place (link ∷ links) = place_after link.place links

linked_more : (es : List EventWithLook) (b : ℕ) (links : List ChainLink) (link : ChainLink) → AreNextChainLinks es b links → IsNextChainLink es (place_after b links) link → AreNextChainLinks es b (links ++ link ∷ [])
linked_more es b [] link h n = (n, tt)
linked_more es b (x ∷ links) link h n = (h.0, linked_more es x.place links link h.1 n)

after_more : (b : ℕ) (links : List ChainLink) (link : ChainLink) → place_after b (links ++ link ∷ []) ≡ link.place
after_more b [] link = refl
after_more b (x ∷ links) link = after_more x.place links link

record BeginsAt (es : List EventWithLook) (i place : ℕ) (links : List ChainLink) : Type 0 where
  others : List ChainLink
  is : links ≡ first_link i ∷ others
  linked : AreNextChainLinks es i others
  ends : place_after i others ≡ place

begins_at : (es : List EventWithLook) (i place : ℕ) (links : List ChainLink) → IsChainTo es i place links → BeginsAt es i place links
begins_at es i place links alone = record { others = []; is = refl; linked = tt; ends = refl }
begins_at es i place links (longer {before} {links = others} ne o h) =
    let w = begins_at es i before others h in
    record {
      others = w.others ++ last_link es before place ∷ [];
      is = ap (λ z. z ++ last_link es before place ∷ []) w.is;
      linked = linked_more es i w.others (last_link es before place) w.linked (subst (λ z. IsNextChainLink es z (last_link es before place)) (sym w.ends) (o.direct, refl));
      ends = after_more i w.others (last_link es before place);
    }

pub chain_chain : (es : List EventWithLook) (i place : ℕ) (links : List ChainLink) → i < length es → IsChainTo es i place links → IsChain es links
chain_chain es i place links l h =
    let w = begins_at es i place links h in
    subst (λ z. IsChain es z) (sym w.is) (l, refl, w.linked)

-- the least number below a bound that passes a test
record IsLeast (test : ℕ → Bool) (n least : ℕ) : Type 0 where
  within : least ≤ n
  passes : least < n → test least ≡ true
  first : (m : ℕ) → m < n → test m ≡ true → least ≤ m

least_more : (test : ℕ → Bool) (n least : ℕ) → IsLeast test n least → IsLeast test (suc n) (cond (nat_lt least n) least (cond (test n) n (suc n)))
least_more test n least h = ⊎_elim
    (λ l. subst (IsLeast test (suc n)) (sym (cond-true (nat_lt least n) least (cond (test n) n (suc n)) (lt-ltb least n l))) (record {
      within = omega arith;
      passes = λ m. h.passes l;
      first = λ m b t. ⊎_elim (λ k. h.first m k t) (λ k. let e : n ≤ m = k in omega (arith, l)) (cases_lt m n);
    }))
    (λ l. subst (IsLeast test (suc n)) (sym (cond-false (nat_lt least n) least (cond (test n) n (suc n)) (le-ltb least n l)))
    (at_end (test n) refl l))
    (cases_lt least n)
  where
    at_end : (b : Bool) → test n ≡ b → n ≤ least → IsLeast test (suc n) (cond b n (suc n))
    at_end true e l = record {
      within = omega arith;
      passes = λ m. e;
      first = λ m b t. ⊎_elim (λ k. let q : least ≤ m = h.first m k t in omega arith) (λ k. k) (cases_lt m n);
    }
    at_end false e l = record {
      within = omega arith;
      passes = λ m. absurd (omega (arith, m));
      first = λ m b t. ⊎_elim
          (λ k. let q : least ≤ m = h.first m k t in absurd (omega arith))
          (λ k. let q : m ≡ n = omega arith in absurd (both_ways (test n) e (subst (λ z. test z ≡ true) q t)))
          (cases_lt m n);
    }

least_is : (test : ℕ → Bool) (n : ℕ) → IsLeast test n (least_number_passing_test test n)
least_is test zero = record { within = omega arith; passes = λ l. absurd (omega (arith, l)); first = λ m l t. absurd (omega (arith, l)) }
least_is test (suc n) = least_more test n (least_number_passing_test test n) (least_is test n)

-- the test is that of the definition
not_zero : (n : ℕ) → n ≢ 0 → not (n == 0) ≡ true
not_zero n h = ap not (ne_eqb n 0 h)

not_zero_of : (n : ℕ) → not (n == 0) ≡ true → n ≢ 0
not_zero_of n h e = both_ways false refl (subst (λ z. not z ≡ true) (eq-eqb n 0 e) h)

leads_from : (es : List EventWithLook) (i q p : ℕ) → slice_index_or (dependent_flags es i) p false ≡ true → dependence_rule_at es p q ≢ 0 → is_direct_link_from_cause es i q p ≡ true
leads_from es i q p f r = and_from (slice_index_or (dependent_flags es i) p false) (not (dependence_rule_at es p q == 0)) f (not_zero (dependence_rule_at es p q) r)

-- the oldest cause of a dependent event that is not the first
oldest_is : (es : List EventWithLook) (i q : ℕ) → i < length es → q < length es → q ≢ i → slice_index_or (dependent_flags es i) q false ≡ true → IsOldestCause es i q (oldest_cause es i q)
oldest_is es i q k l ne f = ⊎_elim (λ e. absurd (ne e)) (λ w. found w) (why_dependent es i q f)
  where
    found : Earlier es (dependent_flags es i) q → IsOldestCause es i q (oldest_cause es i q)
    found w =
        let h : IsLeast (is_direct_link_from_cause es i q) q (oldest_cause es i q) = least_is (is_direct_link_from_cause es i q) q in
        let a : oldest_cause es i q ≤ w.place = h.first w.place w.before (leads_from es i q w.place w.flagged (meets_rule (event_at es w.place) (event_at es q) w.direct)) in
        let b : oldest_cause es i q < q = omega (arith, w.before) in
        let t = and_parts (slice_index_or (dependent_flags es i) (oldest_cause es i q) false) (not (dependence_rule_at es (oldest_cause es i q) q == 0)) (h.passes b) in
        record {
          dependent = DependsOn_from_flag es i (oldest_cause es i q) (omega arith) t.0;
          direct = record { before = b; within = l; by_rule = not_zero_of (dependence_rule_at es (oldest_cause es i q) q) t.1 };
          oldest = λ other d s. h.first other s.before (leads_from es i q other (flag_from_DependsOn es i other k d) s.by_rule);
        }

links_chain : (most : ℕ) (es : List EventWithLook) (i q : ℕ) → q < most → i < length es → q < length es → slice_index_or (dependent_flags es i) q false ≡ true → IsChainTo es i q (chain_links_to_effect most es i q)
unfolding chain_links_to_effect
links_chain zero es i q u k l f = absurd (omega arith)
links_chain (suc most) es i q u k l f = ⊎_elim
    (λ e. subst (λ z. IsChainTo es i q z) (sym (cond-true (q == i) (record { place = i; rule = 0 } ∷ []) _ (eq-eqb q i e)))
    (subst (λ z. IsChainTo es i z (record { place = i; rule = 0 } ∷ [])) (sym e) alone))
    (λ ne. let o : IsOldestCause es i q (oldest_cause es i q) = oldest_is es i q k l ne f in
    let b : oldest_cause es i q < q = o.direct.before in
    subst (λ z. IsChainTo es i q z) (sym (cond-false (q == i) (record { place = i; rule = 0 } ∷ []) _ (ne_eqb q i ne)))
    (longer ne o (links_chain most es i (oldest_cause es i q) (omega arith) k (omega arith) (flag_from_DependsOn es i (oldest_cause es i q) k o.dependent))))
    (cases_eq q i)

pub chain_found : (es : List EventWithLook) (i q : ℕ) → i < length es → IsChainAnswer es i q (chain_from_cause es i q)
unfolding chain_from_cause
chain_found es i q k = ⊎_elim
    (λ f. subst (λ z. IsChainAnswer es i q z) (sym (cond-true (slice_index_or (dependent_flags es i) q false) (Some (chain_links_to_effect (suc q) es i q)) None f)) (links_chain (suc q) es i q (omega arith) k (flagged_within es i q f) f))
    (λ f. subst (λ z. IsChainAnswer es i q z) (sym (cond-false (slice_index_or (dependent_flags es i) q false) (Some (chain_links_to_effect (suc q) es i q)) None f))
    (λ d. both_ways (slice_index_or (dependent_flags es i) q false) f (flag_from_DependsOn es i q k d)))
    (cases_Bool (slice_index_or (dependent_flags es i) q false))

-- an answer that is found is the one
chained : (es : List EventWithLook) (i q : ℕ) (links : List ChainLink) → IsChainTo es i q links → DependsOn es i q
chained es i q links alone = itself
chained es i q links (longer ne o h) = through o.dependent o.direct

found_one : (es : List EventWithLook) (i q : ℕ) (x y : Option (List ChainLink)) → IsChainAnswer es i q x → IsChainAnswer es i q y → x ≡ y
found_one es i q None None f g = refl
found_one es i q None (Some ys) f g = absurd (f (chained es i q ys g))
found_one es i q (Some xs) None f g = absurd (g (chained es i q xs f))
found_one es i q (Some xs) (Some ys) f g = ap Some (chain_one es i q xs ys f g)

pub chain_is : (es : List EventWithLook) (i q : ℕ) (answer : Option (List ChainLink)) → i < length es → IsChainAnswer es i q answer → answer ≡ chain_from_cause es i q
chain_is es i q answer k f = found_one es i q answer (chain_from_cause es i q) f (chain_found es i q k)

-- ---- Dependence in the last events of a list: what comes before the cause has no part in it.

event_later : (es : List EventWithLook) (k p : ℕ) → event_at (drop k es) p ≡ event_at es (k + p)
event_later es k p = get_or-drop k es p default_event_with_look

rule_later : (es : List EventWithLook) (k p q : ℕ) → dependence_rule_at (drop k es) p q ≡ dependence_rule_at es (k + p) (k + q)
rule_later es k p q = ap₂ dependence_rule (event_later es k p) (event_later es k q)

direct_up : (es : List EventWithLook) (k p q : ℕ) → DependsDirectly (drop k es) p q → DependsDirectly es (k + p) (k + q)
direct_up es k p q s =
    let n : length (drop k es) ≡ length es - k = length-drop k es in
    record { before = omega (arith, s.before); within = omega (arith, n, s.within, s.before); by_rule = λ h. s.by_rule (rule_later es k p q ∙ h) }

direct_down : (es : List EventWithLook) (k p q : ℕ) → k ≤ p → DependsDirectly es p (k + q) → DependsDirectly (drop k es) (p - k) q
direct_down es k p q l s =
    let n : length (drop k es) ≡ length es - k = length-drop k es in
    let b : p < k + q = s.before in
    let w : k + q < length es = s.within in
    record {
      before = omega (arith, l, b);
      within = omega (arith, n, w);
      by_rule = λ h. s.by_rule (ap (λ (z : ℕ). dependence_rule_at es z (k + q)) (let e : p ≡ k + (p - k) = omega (arith, l) in e) ∙ sym (rule_later es k (p - k) q) ∙ h);
    }

depends_up : (es : List EventWithLook) (k i j : ℕ) → DependsOn (drop k es) i j → DependsOn es (k + i) (k + j)
depends_up es k i j itself = itself
depends_up es k i j (through {middle} d s) = through (depends_up es k i middle d) (direct_up es k middle j s)

depends_down : (es : List EventWithLook) (k i j : ℕ) → DependsOn es (k + i) j → DependsOn (drop k es) i (j - k)
depends_down es k i j itself = subst (DependsOn (drop k es) i) (let e : i ≡ k + i - k = omega arith in e) itself
depends_down es k i j (through {middle} d s) =
    let l : k + i ≤ middle = DependsOn-order es (k + i) middle d in
    let b : middle < j = s.before in
    through (depends_down es k i middle d)
    (direct_down es k middle (j - k) (omega (arith, l)) (subst (DependsDirectly es middle) (let e : j ≡ k + (j - k) = omega (arith, l, b) in e) s))

-- the oldest cause stays the oldest
pub oldest_later : (all es : List EventWithLook) (k i at before : ℕ) → drop k all ≡ es → IsOldestCause es i at before → IsOldestCause all (k + i) (k + at) (k + before)
oldest_later all es k i at before is found =
    let o : IsOldestCause (drop k all) i at before = subst (λ z. IsOldestCause z i at before) (sym is) found in
    record {
      dependent = depends_up all k i before o.dependent;
      direct = direct_up all k before at o.direct;
      oldest = λ other d s.
          let l : k + i ≤ other = DependsOn-order all (k + i) other d in
          let q : before ≤ other - k = o.oldest (other - k) (depends_down all k i other d) (direct_down all k other at (omega (arith, l)) s) in
          omega (arith, l, q);
    }

-- what does not depend on the cause there doesn't in the whole list
pub none_later : (all es : List EventWithLook) (k i at : ℕ) → drop k all ≡ es → ¬ DependsOn es i at → ¬ DependsOn all (k + i) (k + at)
none_later all es k i at is none d =
    none (subst (λ z. DependsOn z i at) is (subst (DependsOn (drop k all) i) (let e : k + at - k ≡ at = omega arith in e) (depends_down all k i (k + at) d)))

pub rule_there : (all es : List EventWithLook) (k p q : ℕ) → drop k all ≡ es → dependence_rule_at es p q ≡ dependence_rule_at all (k + p) (k + q)
rule_there all es k p q is = ap (λ z. dependence_rule_at z p q) (sym is) ∙ rule_later all k p q

-- nothing comes before the whole list
pub in_whole : {E : Type 0} → (es : List EventWithLook) (i at : ℕ) (answer : Result (Option (List ChainLink)) E)
    → IfOk answer (λ found. (all : List EventWithLook) → drop 0 all ≡ es → IsChainAnswer all (0 + i) (0 + at) found) → IfOk answer (IsChainAnswer es i at)
in_whole es i at (Ok found) h =
    subst (λ (z : ℕ). IsChainAnswer es z at found) (let e : 0 + i ≡ i = omega arith in e) (subst (λ (z : ℕ). IsChainAnswer es (0 + i) z found) (let e : 0 + at ≡ at = omega arith in e) (h es refl))
in_whole es i at (Err why) h = h

-- a step that is not in the first part of a list is in the second, with the number that remains
on_suc : (k : ℕ) (o : Option ℕ) → option_map suc (on_by k o) ≡ on_by (suc k) o
on_suc k None = refl
on_suc k (Some q) = ap Some (let e : suc (k + q) ≡ suc k + q = omega arith in e)

later_from : (m j : ℕ) (xs ys : List EventWithLook) → count_touching_events m xs ≤ j → position_of_step (xs ++ ys) m (suc j) ≡ on_by (length xs) (position_of_step ys m (suc (j - count_touching_events m xs)))
later_from m j [] ys l = sym (on_by-zero (position_of_step ys m (suc (j - 0))) ∙ ap (λ (z : ℕ). position_of_step ys m (suc z)) (let e : j - 0 ≡ j = omega arith in e))
later_from m zero (e ∷ es) ys l = ⊎_elim
    (λ yes. absurd (let a = touching_yes m e es yes in omega (arith, a, l)))
    (λ no. let a = touching_no m e es no in
    place-other e (es ++ ys) m 0 no ∙ ap (option_map suc) (later_from m 0 es ys (omega (arith, a, l))) ∙ on_suc (length es) (position_of_step ys m (suc (0 - count_touching_events m es)))
    ∙ ap (λ (z : ℕ). on_by (suc (length es)) (position_of_step ys m (suc (0 - z)))) (sym a))
    (cases_Bool (event_with_look_touches_node e m))
later_from m (suc j) (e ∷ es) ys l = ⊎_elim
    (λ yes. let a = touching_yes m e es yes in
    place-touched e (es ++ ys) m j yes ∙ ap (option_map suc) (later_from m j es ys (omega (arith, a, l))) ∙ on_suc (length es) (position_of_step ys m (suc (j - count_touching_events m es)))
    ∙ ap (λ (z : ℕ). on_by (suc (length es)) (position_of_step ys m (suc z))) (let h : j - count_touching_events m es ≡ suc j - count_touching_events m (e ∷ es) = omega (arith, a) in h))
    (λ no. let a = touching_no m e es no in
    place-other e (es ++ ys) m (suc j) no ∙ ap (option_map suc) (later_from m (suc j) es ys (omega (arith, a, l))) ∙ on_suc (length es) (position_of_step ys m (suc (suc j - count_touching_events m es)))
    ∙ ap (λ (z : ℕ). on_by (suc (length es)) (position_of_step ys m (suc (suc j - z)))) (sym a))
    (cases_Bool (event_with_look_touches_node e m))

pub place_later : (m j : ℕ) (xs ys : List EventWithLook) → count_touching_events m xs < j → position_of_step (xs ++ ys) m j ≡ on_by (length xs) (position_of_step ys m (j - count_touching_events m xs))
place_later m zero xs ys l = absurd (omega (arith, l))
place_later m (suc j) xs ys l =
    later_from m j xs ys (omega (arith, l)) ∙ ap (λ (z : ℕ). on_by (length xs) (position_of_step ys m z)) (let h : suc (j - count_touching_events m xs) ≡ suc j - count_touching_events m xs = omega (arith, l) in h)
