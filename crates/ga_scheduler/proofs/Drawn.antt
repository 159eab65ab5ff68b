-- The nodes that pass a test, in their order, and the one that a schedule chooses of them.
use Rattle.std.proofs.Common.{◌≡◌, ℕ, zero, suc, ◌+◌, ◌-◌, ◌%◌, ◌<◌, ◌≤◌, Bool, true, false, List, [], ◌∷◌, ◌++◌, length, get_or, refl, sym, ◌∙◌, ap, subst, arith, inl, inr, true≢false, cond}
use Rattle.std.specs.Prelude.{Option, Some, None, option_map, IfSome}
use Rattle.std.specs.List.{slice_get}
use Rattle.std.proofs.lemmas.Bool.{cases_lt, cases_eq, cases_Bool}
use Rattle.std.proofs.lemmas.List.{length-append, get_or_append_left, get_or-append_right}
use Rattle.std.proofs.lemmas.Option.{slice_get-get_or, slice_get_past}
use Rattle.std.proofs.Math.Nat.{mod-lt}
use Rattle.rand_xoshiro.specs.SplitMix64.{mix_u64}
use Rattle.ga_grid.specs.Grid.{node_id}
use Rattle.ga_grid.specs.declared.node_id.NodeId.{NodeId}
use Rattle.ga_grid.proofs.NodeIds.{node_id-number}
use Rattle.ga_races.specs.Orders.{first_node_from_that_passes_test}
use Rattle.ga_races.proofs.Ready.{first_same, none_of}
use Rattle.ga_scheduler.specs.declared.schedule.ScheduleOrder.{ScheduleOrder}
use Rattle.ga_scheduler.specs.declared.schedule.ScheduleOrder.TheVariants.{Rounds, Greedy, Random}
use Rattle.ga_scheduler.specs.declared.schedule.Schedule.{Schedule}
use Rattle.ga_scheduler.specs.declared.numbers.NumberSet.{NumberSet}
use Rattle.ga_scheduler.specs.declared.drawing.Known.{Known}
use Rattle.ga_scheduler.specs.Schedules.{passing_numbers_below, random_node, next_node_by_order}
use Rattle.ga_scheduler.specs.inner.{IsOnlyReadyNode, IsReadySetKnowledgeTrue, is_random_order}

-- ---- the numbers that pass a test

pub numbers_zero : (f : ℕ → Bool) → passing_numbers_below f 0 ≡ []
unfolding passing_numbers_below
numbers_zero f = refl

-- one number more, by whether it passes
numbers_more : (f : ℕ → Bool) (n : ℕ) → passing_numbers_below f (suc n) ≡ cond (f n) (passing_numbers_below f n ++ n ∷ []) (passing_numbers_below f n)
unfolding passing_numbers_below
numbers_more f n = refl

numbers_with : (f : ℕ → Bool) (n : ℕ) → f n ≡ true → passing_numbers_below f (suc n) ≡ passing_numbers_below f n ++ n ∷ []
numbers_with f n is = numbers_more f n ∙ ap (λ b. cond b (passing_numbers_below f n ++ n ∷ []) (passing_numbers_below f n)) is

numbers_without : (f : ℕ → Bool) (n : ℕ) → f n ≡ false → passing_numbers_below f (suc n) ≡ passing_numbers_below f n
numbers_without f n is = numbers_more f n ∙ ap (λ b. cond b (passing_numbers_below f n ++ n ∷ []) (passing_numbers_below f n)) is

-- numbers of which none passes
numbers_skip : (f : ℕ → Bool) (from d : ℕ) → ((m : ℕ) → from ≤ m → m < d + from → f m ≡ false) → passing_numbers_below f (d + from) ≡ passing_numbers_below f from
numbers_skip f from zero none = ap (passing_numbers_below f) (let e : 0 + from ≡ from = omega arith in e)
numbers_skip f from (suc d) none =
    ap (passing_numbers_below f) (let e : suc d + from ≡ suc (d + from) = omega arith in e)
    ∙ numbers_without f (d + from) (none (d + from) (omega arith) (omega arith))
    ∙ numbers_skip f from d (λ m l h. none m l (omega arith))

pub numbers_end : (f : ℕ → Bool) (from to : ℕ) → from ≤ to → ((m : ℕ) → from ≤ m → m < to → f m ≡ false) → passing_numbers_below f from ≡ passing_numbers_below f to
numbers_end f from to l none =
    let e : (to - from) + from ≡ to = omega (arith, l) in
    sym (numbers_skip f from (to - from) (λ m a b. none m a (omega (arith, e, b)))) ∙ ap (passing_numbers_below f) e

-- the next one that passes
pub numbers_next : (f : ℕ → Bool) (from n : ℕ) → from ≤ n → f n ≡ true → ((m : ℕ) → from ≤ m → m < n → f m ≡ false) → passing_numbers_below f from ++ n ∷ [] ≡ passing_numbers_below f (n + 1)
numbers_next f from n l is none =
    ap (λ (z : List ℕ). z ++ n ∷ []) (numbers_end f from n l none) ∙ sym (numbers_with f n is) ∙ ap (passing_numbers_below f) (let e : suc n ≡ n + 1 = omega arith in e)

pub numbers_few : (f : ℕ → Bool) (n : ℕ) → length (passing_numbers_below f n) ≤ n
numbers_few f zero = subst (λ (z : List ℕ). length z ≤ 0) (sym (numbers_zero f)) (omega arith)
numbers_few f (suc n) = elim (cases_Bool (f n)) [
  | inl is ↦ (
      let before = numbers_few f n in
      let e : length (passing_numbers_below f (suc n)) ≡ length (passing_numbers_below f n) + 1 = ap length (numbers_with f n is) ∙ length-append (passing_numbers_below f n) (n ∷ []) in omega (arith, before, e)
      )
  | inr not ↦ (let before = numbers_few f n in let e : length (passing_numbers_below f (suc n)) ≡ length (passing_numbers_below f n) = ap length (numbers_without f n not) in omega (arith, before, e))
]

pub numbers_small : (f : ℕ → Bool) (n i : ℕ) → i < length (passing_numbers_below f n) → get_or (passing_numbers_below f n) i 0 < n
numbers_small f zero i l = absurd (let e : length (passing_numbers_below f 0) ≡ 0 = ap length (numbers_zero f) in omega (arith, l, e))
numbers_small f (suc n) i l = elim (cases_Bool (f n)) [
  | inl is ↦ subst (λ (z : List ℕ). get_or z i 0 < suc n) (sym (numbers_with f n is)) (elim (cases_lt i (length (passing_numbers_below f n))) [
    | inl less ↦ (let e = get_or_append_left (passing_numbers_below f n) (n ∷ []) 0 i less in let before = numbers_small f n i less in omega (arith, e, before))
    | inr more ↦ (
        let size : length (passing_numbers_below f (suc n)) ≡ length (passing_numbers_below f n) + 1 = ap length (numbers_with f n is) ∙ length-append (passing_numbers_below f n) (n ∷ []) in
        let place : i - length (passing_numbers_below f n) ≡ 0 = omega (arith, size, l, more) in
        let e : get_or (passing_numbers_below f n ++ n ∷ []) i 0 ≡ n =
        get_or-append_right (passing_numbers_below f n) (n ∷ []) (length (passing_numbers_below f n)) i 0 refl more ∙ ap (λ (k : ℕ). get_or (n ∷ []) k 0) place in
        omega (arith, e)
        )
  ])
  | inr not ↦ (
      let size : length (passing_numbers_below f (suc n)) ≡ length (passing_numbers_below f n) = ap length (numbers_without f n not) in
      let before = numbers_small f n i (omega (arith, size, l)) in
      let e : get_or (passing_numbers_below f (suc n)) i 0 ≡ get_or (passing_numbers_below f n) i 0 = ap (λ (z : List ℕ). get_or z i 0) (numbers_without f n not) in omega (arith, e, before)
      )
]

numbers_same : (f g : ℕ → Bool) (n : ℕ) → ((m : ℕ) → m < n → f m ≡ g m) → passing_numbers_below f n ≡ passing_numbers_below g n
numbers_same f g zero same = numbers_zero f ∙ sym (numbers_zero g)
numbers_same f g (suc n) same =
    let before = numbers_same f g n (λ m l. same m (omega arith)) in
    numbers_more f n
    ∙ ap (λ b. cond b (passing_numbers_below f n ++ n ∷ []) (passing_numbers_below f n)) (same n (omega arith))
    ∙ ap (λ (z : List ℕ). cond (g n) (z ++ n ∷ []) z) before
    ∙ sym (numbers_more g n)

-- where there is none, each number fails the test
numbers_quiet : (f : ℕ → Bool) (n m : ℕ) → length (passing_numbers_below f n) ≡ 0 → m < n → f m ≡ false
numbers_quiet f zero m none l = absurd (omega (arith, l))
numbers_quiet f (suc n) m none l = elim (cases_Bool (f n)) [
  | inl is ↦ absurd (let e : length (passing_numbers_below f (suc n)) ≡ length (passing_numbers_below f n) + 1 = ap length (numbers_with f n is) ∙ length-append (passing_numbers_below f n) (n ∷ []) in omega (arith, e, none))
  | inr not ↦ elim (cases_lt m n) [
    | inl less ↦ numbers_quiet f n m (sym (ap length (numbers_without f n not)) ∙ none) less
    | inr more ↦ (let e : m ≡ n = omega (arith, l, more) in ap f e ∙ not)
  ]
]

-- ---- the node that is drawn

-- the number at the place
pub drawn_is : (f : ℕ → Bool) (word place : ℕ) (numbers : List ℕ) (node : NodeId) → numbers ≡ passing_numbers_below f 144 → place ≡ word % length numbers → 0 < length numbers
    → node.number ≡ get_or numbers place 0 → Some node ≡ random_node f word
drawn_is f word place numbers node listed at some is =
    let within : word % length (passing_numbers_below f 144) < length (passing_numbers_below f 144) = mod-lt word (subst (λ (z : List ℕ). 0 < length z) listed some) in
    let here : place ≡ word % length (passing_numbers_below f 144) = at ∙ ap (λ (z : List ℕ). word % length z) listed in
    let same : node.number ≡ get_or (passing_numbers_below f 144) (word % length (passing_numbers_below f 144)) 0 =
    is ∙ ap (λ (z : List ℕ). get_or z place 0) listed ∙ ap (λ (k : ℕ). get_or (passing_numbers_below f 144) k 0) here in
    ap Some (sym (node_id-number node) ∙ ap node_id same)
    ∙ sym (ap (option_map node_id) (slice_get-get_or (passing_numbers_below f 144) (word % length (passing_numbers_below f 144)) 0 within))

-- there is none
pub drawn_none : (f : ℕ → Bool) (word : ℕ) → length (passing_numbers_below f 144) ≡ 0 → None ≡ random_node f word
drawn_none f word none =
    sym (ap (option_map node_id) (slice_get_past (passing_numbers_below f 144) (word % length (passing_numbers_below f 144)) (omega (arith, none))))

drawn_quiet : (f : ℕ → Bool) (word : ℕ) → random_node f word ≡ None → length (passing_numbers_below f 144) ≡ 0
drawn_quiet f word h = elim (cases_eq (length (passing_numbers_below f 144)) 0) [
  | inl none ↦ none
  | inr some ↦ absurd (
      let within : word % length (passing_numbers_below f 144) < length (passing_numbers_below f 144) = mod-lt word (omega (arith, some)) in
      let found = ap (option_map node_id) (slice_get-get_or (passing_numbers_below f 144) (word % length (passing_numbers_below f 144)) 0 within) in
      let q : Some (node_id (get_or (passing_numbers_below f 144) (word % length (passing_numbers_below f 144)) 0)) ≡ None = sym found ∙ h in cc
      )
]

-- ---- the node that a schedule chooses

pub chosen_same : (order : ScheduleOrder) (schedule : Schedule) (f g : ℕ → Bool) → ((m : ℕ) → m < 144 → f m ≡ g m) → next_node_by_order order schedule f ≡ next_node_by_order order schedule g
chosen_same Rounds schedule f g same = first_same f g schedule.turn.number 144 same
chosen_same Greedy schedule f g same = first_same f g schedule.turn.number 144 same
chosen_same Random schedule f g same =
    ap (λ (z : List ℕ). option_map node_id (slice_get z ((mix_u64 schedule.generator).0 % length z))) (numbers_same f g 144 same)

-- where it draws, and where it doesn't
pub drawn_chosen : (order : ScheduleOrder) (schedule : Schedule) (f : ℕ → Bool) → true ≡ is_random_order order → random_node f (mix_u64 schedule.generator).0 ≡ next_node_by_order order schedule f
drawn_chosen Rounds schedule f is = absurd (true≢false is)
drawn_chosen Greedy schedule f is = absurd (true≢false is)
drawn_chosen Random schedule f is = refl

pub first_chosen : (order : ScheduleOrder) (schedule : Schedule) (f : ℕ → Bool) → false ≡ is_random_order order → first_node_from_that_passes_test f schedule.turn.number 144 ≡ next_node_by_order order schedule f
first_chosen Rounds schedule f is = refl
first_chosen Greedy schedule f is = refl
first_chosen Random schedule f is = absurd (true≢false (sym is))

-- none from the turn on, round the chip
none_in_turn : (f : ℕ → Bool) (turn : NodeId) → first_node_from_that_passes_test f turn.number 144 ≡ None → (n : ℕ) → n < 144 → f n ≡ false
none_in_turn f turn none n l = elim (cases_lt n turn.number) [
  | inl less ↦ (let e : (turn.number + (n + 144 - turn.number)) % 144 ≡ n = omega arith in ap f (sym e) ∙ none_of f turn.number 144 (n + 144 - turn.number) none (omega arith))
  | inr more ↦ (let e : (turn.number + (n - turn.number)) % 144 ≡ n = omega arith in ap f (sym e) ∙ none_of f turn.number 144 (n - turn.number) none (omega arith))
]

-- where it chooses none, each fails the test
pub none_passes : (order : ScheduleOrder) (schedule : Schedule) (f : ℕ → Bool) → next_node_by_order order schedule f ≡ None → (n : ℕ) → n < 144 → f n ≡ false
none_passes Rounds schedule f none n l = none_in_turn f schedule.turn none n l
none_passes Greedy schedule f none n l = none_in_turn f schedule.turn none n l
none_passes Random schedule f none n l = numbers_quiet f 144 n (drawn_quiet f (mix_u64 schedule.generator).0 none) l

-- ---- what is known of the nodes

pub nothing_known : (ready : NumberSet) (known : Known) → known.alone ≡ None → known.is_listed ≡ false → IsReadySetKnowledgeTrue ready known
nothing_known ready known none not = record {
  alone = subst (λ (o : Option NodeId). IfSome o (IsOnlyReadyNode ready)) (sym none) tt;
  listed = λ is. absurd (true≢false (sym is ∙ not));
}
