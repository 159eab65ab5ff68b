-- Entries of the return stack that are followed back over a step.
use Rattle.std.proofs.Common.{◌≡◌, ◌<◌, ◌+◌, ◌-◌, ◌==◌, ◌++◌, ℕ, zero, suc, Bool, true, false, ◌&&◌, cond, List, [], ◌∷◌, map, Option, Some, None, refl, sym, ap, ◌∙◌, append-nil, append_assoc, arith}
use Rattle.std.specs.Prelude.{filter, option_map, unwrap_or}
use Rattle.std.specs.List.{range_with_len}
use Rattle.std.proofs.lemmas.Bool.{ne_eqb}
use Rattle.std.proofs.lemmas.List.{map-append}
use Rattle.std.proofs.lemmas.List.FromFn.{filter_of_map_range_with_len_more}
use Rattle.ga_grid.specs.declared.node_id.NodeId.{NodeId}
use Rattle.ga_lab.specs.Machine.{MachineState}
use Rattle.ga_dap_views.specs.Calls.{step_pushing_return_entry, is_call_step, open_call}
use Rattle.ga_dap_views.specs.declared.calls.OpenCall.{OpenCall}
use Rattle.ga_dap_views.specs.declared.calls.Window.{Window}
use Rattle.ga_dap_views.specs.declared.calls.ReturnStackEffect.{ReturnStackEffect}
use Rattle.ga_dap_views.specs.declared.calls.ReturnStackEffect.TheVariants as shift
use Rattle.ga_dap_views.specs.inner.{return_stack_effect_of_step, return_entry_index_before_effect, is_call_return_stack_effect, mapped_values_that_are_calls, new_call_entry_at_window_start, IsCallWindowBeforeStep}
use Rattle.ga_dap_views.proofs.Shifts.{shifted, calls_so}

same_map : (f g : ℕ → ℕ) (a b n : ℕ) → ((i : ℕ) → i < n → f (a + i) ≡ g (b + i)) → map f (range_with_len a n) ≡ map g (range_with_len b n)
same_map f g a b zero same = refl
same_map f g a b (suc n) same =
    let first : f a ≡ g b = ap f (let e : a ≡ a + 0 = omega arith in e) ∙ same 0 (omega arith) ∙ ap g (let e : b + 0 ≡ b = omega arith in e) in
    let rest : map f (range_with_len (a + 1) n) ≡ map g (range_with_len (b + 1) n) =
    same_map f g (a + 1) (b + 1) n (λ i lt. ap f (let e : a + 1 + i ≡ a + suc i = omega arith in e) ∙ same (suc i) (omega arith) ∙ ap g (let e : b + suc i ≡ b + 1 + i = omega arith in e)) in
    ap (λ (z : ℕ). z ∷ map f (range_with_len (a + 1) n)) first ∙ ap (λ (z : List ℕ). g b ∷ z) rest

same_picked : (calls : ℕ → Bool) (f g : ℕ → ℕ) (a b n : ℕ) → ((i : ℕ) → i < n → f (a + i) ≡ g (b + i)) → mapped_values_that_are_calls calls f a n ≡ mapped_values_that_are_calls calls g b n
same_picked calls f g a b n same = ap (filter calls) (same_map f g a b n same)

-- where an entry comes from, by what the step did
abbrev came : ReturnStackEffect → (ℕ → ℕ) → ℕ → ℕ → ℕ
came by f new p = unwrap_or (option_map f (return_entry_index_before_effect by p)) new

came_from : (by : ReturnStackEffect) (f : ℕ → ℕ) (new p from : ℕ) → return_entry_index_before_effect by p ≡ Some from → came by f new p ≡ f from
came_from by f new p from is = ap (λ (o : Option ℕ). unwrap_or (option_map f o) new) is

-- none of them is new
pub all_before : (by : ReturnStackEffect) (calls : ℕ → Bool) (f : ℕ → ℕ) (new a b n : ℕ) → new_call_entry_at_window_start by a new ≡ [] → ((i : ℕ) → i < n → return_entry_index_before_effect by (a + i) ≡ Some (b + i))
    → mapped_values_that_are_calls calls (came by f new) a n ≡ new_call_entry_at_window_start by a new ++ mapped_values_that_are_calls calls f b n
all_before by calls f new a b n none moves =
    same_picked calls (came by f new) f a b n (λ i lt. came_from by f new (a + i) (b + i) (moves i lt)) ∙ ap (λ (xs : List ℕ). xs ++ mapped_values_that_are_calls calls f b n) (sym none)

with_first : (called : Bool) (new : ℕ) (rest : List ℕ) → cond called (new ∷ rest) rest ≡ cond (called && (0 == 0)) (new ∷ []) [] ++ rest
with_first true new rest = refl
with_first false new rest = refl

-- the first of them is new
pub first_new : (by : ReturnStackEffect) (calls : ℕ → Bool) (f : ℕ → ℕ) (new a b n m : ℕ) → a ≡ 0 → n ≡ suc m → calls new ≡ is_call_return_stack_effect by → return_entry_index_before_effect by 0 ≡ None
    → ((i : ℕ) → i < m → return_entry_index_before_effect by (1 + i) ≡ Some (b + i)) → mapped_values_that_are_calls calls (came by f new) a n ≡ new_call_entry_at_window_start by a new ++ mapped_values_that_are_calls calls f b m
first_new by calls f new a b n m top more called none moves =
    let g = came by f new in
    let rest : mapped_values_that_are_calls calls g 1 m ≡ mapped_values_that_are_calls calls f b m = same_picked calls g f 1 b m (λ i lt. came_from by f new (1 + i) (b + i) (moves i lt)) in
    let new_is : g 0 ≡ new = ap (λ (o : Option ℕ). unwrap_or (option_map f o) new) none in
    ap (λ (z : ℕ). mapped_values_that_are_calls calls g z n) top
    ∙ ap (mapped_values_that_are_calls calls g 0) more
    ∙ ap (λ (z : ℕ). filter calls (z ∷ map g (range_with_len 1 m))) new_is
    ∙ ap (λ (z : Bool). cond z (new ∷ mapped_values_that_are_calls calls g 1 m) (mapped_values_that_are_calls calls g 1 m)) called
    ∙ with_first (is_call_return_stack_effect by) new (mapped_values_that_are_calls calls g 1 m)
    ∙ ap (λ (xs : List ℕ). new_call_entry_at_window_start by 0 new ++ xs) rest
    ∙ ap (λ (z : ℕ). new_call_entry_at_window_start by z new ++ mapped_values_that_are_calls calls f b m) (sym top)

-- ---- each kind of step

below_top : (p : ℕ) → 0 < p → (p == 0) ≡ false
below_top p some = ne_eqb p 0 (λ is. omega arith)

stays_put : (some other : Option ℕ) (p : ℕ) → 0 < p → cond (p == 0) some other ≡ other
stays_put some other p below = ap (λ (b : Bool). cond b some other) (below_top p below)

-- the window begins below the top
pub none_first : (by : ReturnStackEffect) (a new : ℕ) → 0 < a → new_call_entry_at_window_start by a new ≡ []
none_first by a new some = go (is_call_return_stack_effect by)
  where
    go : (called : Bool) → cond (called && (a == 0)) (new ∷ []) [] ≡ []
    go true = ap (λ (b : Bool). cond b (new ∷ []) []) (below_top a some)
    go false = refl

pub pushed_down : (a i : ℕ) → 0 < a → return_entry_index_before_effect shift.Pushes (a + i) ≡ Some (a - 1 + i)
pushed_down a i some = stays_put None (Some (a + i - 1)) (a + i) (omega arith) ∙ ap Some (let e : a + i - 1 ≡ a - 1 + i = omega arith in e)

pub pushed_first : (i : ℕ) → return_entry_index_before_effect shift.Pushes (1 + i) ≡ Some (0 + i)
pushed_first i = stays_put None (Some (1 + i - 1)) (1 + i) (omega arith) ∙ ap Some (let e : 1 + i - 1 ≡ 0 + i = omega arith in e)

pub kept_below : (a i : ℕ) → 0 < a → return_entry_index_before_effect shift.Replaces (a + i) ≡ Some (a + i)
kept_below a i some = stays_put None (Some (a + i)) (a + i) (omega arith)

pub popped_up : (a i : ℕ) → a + i < 8 → return_entry_index_before_effect shift.Pops (a + i) ≡ Some (a + 1 + i)
popped_up a i low = ap (λ (b : Bool). cond b None (Some (a + i + 1))) (ne_eqb (a + i) 8 (λ is. omega arith)) ∙ ap Some (let e : a + i + 1 ≡ a + 1 + i = omega arith in e)

-- the last of them is a copy that a pop left
pub last_copy : (calls : ℕ → Bool) (f : ℕ → ℕ) (new a n m : ℕ) → n ≡ m + 1 → a + m ≡ 8 → calls new ≡ false
    → mapped_values_that_are_calls calls (came shift.Pops f new) a n ≡ mapped_values_that_are_calls calls f (a + 1) m
last_copy calls f new a n m more last called =
    let g = came shift.Pops f new in
    let rest : mapped_values_that_are_calls calls g a m ≡ mapped_values_that_are_calls calls f (a + 1) m =
    same_picked calls g f a (a + 1) m (λ i lt. came_from shift.Pops f new (a + i) (a + 1 + i) (popped_up a i (omega arith))) in
    ap (mapped_values_that_are_calls calls g a) more
    ∙ filter_of_map_range_with_len_more calls g a m 8 last
    ∙ ap (λ (z : Bool). mapped_values_that_are_calls calls g a m ++ cond z (new ∷ []) []) called
    ∙ append-nil (mapped_values_that_are_calls calls g a m)
    ∙ rest

open_back : (s : MachineState) (node : NodeId) (k a n : ℕ) (by : ReturnStackEffect) → by ≡ return_stack_effect_of_step s node.number k
    → mapped_values_that_are_calls (is_call_step s node) (step_pushing_return_entry s node (suc k)) a n ≡ mapped_values_that_are_calls (is_call_step s node) (came by (step_pushing_return_entry s node k) (suc k)) a n
open_back s node k a n by is =
    same_picked (is_call_step s node) (step_pushing_return_entry s node (suc k)) (came by (step_pushing_return_entry s node k) (suc k)) a a n
    (λ i lt. ap (λ (o : Option ℕ). unwrap_or (option_map (step_pushing_return_entry s node k) o) (suc k)) (shifted s node.number k (a + i) ∙ ap (λ (z : ReturnStackEffect). return_entry_index_before_effect z (a + i)) (sym is)))

-- the calls that are listed, and those still to be followed
abbrev pub Follows : MachineState → NodeId → List OpenCall → List OpenCall → ℕ → ℕ → ℕ → Type 0
Follows s node all told step a n = all ≡ told ++ map (open_call s node) (mapped_values_that_are_calls (is_call_step s node) (step_pushing_return_entry s node step) a n)

-- over a step
pub call_on : (s : MachineState) (node : NodeId) (step : ℕ) (by : ReturnStackEffect) (window before : Window) (all told more : List OpenCall) → 0 < step → by ≡ return_stack_effect_of_step s node.number (step - 1)
    → IsCallWindowBeforeStep by window before → Follows s node all told step window.place window.left → more ≡ told ++ map (open_call s node) (new_call_entry_at_window_start by window.place step)
    → Follows s node all more (step - 1) before.place before.left
call_on s node step by window before all told more some is moves follows grown =
    let k : ℕ = step - 1 in
    let at : step ≡ suc k = omega arith in
    let calling = is_call_step s node in
    let f = open_call s node in
    let rest : List ℕ = mapped_values_that_are_calls calling (step_pushing_return_entry s node k) before.place before.left in
    follows
    ∙ ap (λ (z : ℕ). told ++ map f (mapped_values_that_are_calls calling (step_pushing_return_entry s node z) window.place window.left)) at
    ∙ ap (λ (z : List ℕ). told ++ map f z) (open_back s node k window.place window.left by is)
    ∙ ap (λ (z : List ℕ). told ++ map f z) (moves calling (step_pushing_return_entry s node k) (suc k) (calls_so s node k ∙ ap is_call_return_stack_effect (sym is)))
    ∙ ap (λ (z : List OpenCall). told ++ z) (map-append f (new_call_entry_at_window_start by window.place (suc k)) rest)
    ∙ sym (append_assoc told (map f (new_call_entry_at_window_start by window.place (suc k))) (map f rest))
    ∙ ap (λ (z : ℕ). (told ++ map f (new_call_entry_at_window_start by window.place z)) ++ map f rest) (sym at)
    ∙ ap (λ (z : List OpenCall). z ++ map f rest) (sym grown)

-- nothing is left of a window, and nothing is put by none of the steps
pub none_left : (s : MachineState) (node : NodeId) (all told : List OpenCall) (step a n : ℕ) → n ≡ 0 → Follows s node all told step a n → told ≡ all
none_left s node all told step a n none follows =
    sym (follows ∙ ap (λ (z : ℕ). told ++ map (open_call s node) (mapped_values_that_are_calls (is_call_step s node) (step_pushing_return_entry s node step) a z)) none ∙ append-nil told)

none_put : (s : MachineState) (node : NodeId) (a n : ℕ) → mapped_values_that_are_calls (is_call_step s node) (step_pushing_return_entry s node 0) a n ≡ []
none_put s node a zero = refl
none_put s node a (suc n) = none_put s node (a + 1) n

pub none_before : (s : MachineState) (node : NodeId) (all told : List OpenCall) (step a n : ℕ) → step ≡ 0 → Follows s node all told step a n → told ≡ all
none_before s node all told step a n first follows =
    sym (follows
    ∙ ap (λ (z : ℕ). told ++ map (open_call s node) (mapped_values_that_are_calls (is_call_step s node) (step_pushing_return_entry s node z) a n)) first
    ∙ ap (λ (z : List ℕ). told ++ map (open_call s node) z) (none_put s node a n)
    ∙ append-nil told)

-- the new entry is that of a call and first in the window, or it is not
pub put_none : (by : ReturnStackEffect) (a new : ℕ) → (is_call_return_stack_effect by && a == 0) ≡ false → new_call_entry_at_window_start by a new ≡ []
put_none by a new is = ap (λ (b : Bool). cond b (new ∷ []) []) is

pub put_one : (by : ReturnStackEffect) (a new : ℕ) → (is_call_return_stack_effect by && a == 0) ≡ true → new_call_entry_at_window_start by a new ≡ new ∷ []
put_one by a new is = ap (λ (b : Bool). cond b (new ∷ []) []) is
