-- The first of a list that passes a test, and lists that grow by one.
use Rattle.std.proofs.Common.{◌≡◌, ℕ, zero, suc, ◌+◌, ◌<◌, ◌≤◌, Bool, true, false, cond, List, [], ◌∷◌, ◌++◌, length, map, take, drop, get_or, Some, None, refl, sym, ◌∙◌, ap, subst, arith, inl, inr}
use Rattle.std.specs.Prelude.{Contains, ◌⊎◌, ◌||◌}
use Rattle.std.specs.List.{All, find, list_any, slice_get}
use Rattle.std.proofs.Math.Seq.{drop-cons}
use Rattle.std.proofs.lemmas.Option.{same_Some, none-some}
use Rattle.std.proofs.lemmas.Bool.{or_left, or_right}
use Rattle.std.proofs.lemmas.List.{map_more}
use Rattle.std.proofs.lemmas.List.Elements.{All-nil, All-cons, All-head, All-tail}

-- ---- at a place

drop_at : {X : Type 0} (xs : List X) (i : ℕ) (x : X) → i < length xs → x ≡ get_or xs i x → drop i xs ≡ x ∷ drop (i + 1) xs
drop_at xs i x l is =
    drop-cons xs i x l
    ∙ ap (λ y. y ∷ drop (suc i) xs) (sym is)
    ∙ ap (λ (n : ℕ). x ∷ drop n xs) (let e : suc i ≡ i + 1 = omega arith in e)

pub found_at : {X : Type 0} (p : X → Bool) (xs : List X) (i : ℕ) (x : X) → i < length xs → x ≡ get_or xs i x → p x ≡ true → find p (drop i xs) ≡ Some x
found_at p xs i x l is passes = ap (find p) (drop_at xs i x l is) ∙ ap (λ (b : Bool). cond b (Some x) (find p (drop (i + 1) xs))) passes

pub passed_at : {X : Type 0} (p : X → Bool) (xs : List X) (i : ℕ) (x : X) → i < length xs → x ≡ get_or xs i x → p x ≡ false → find p (drop i xs) ≡ find p (drop (i + 1) xs)
passed_at p xs i x l is passes = ap (find p) (drop_at xs i x l is) ∙ ap (λ (b : Bool). cond b (Some x) (find p (drop (i + 1) xs))) passes

pub mapped_more : {X Y : Type 0} (f : X → Y) (xs : List X) (i : ℕ) (x : X) (y : Y) (ys more : List Y) → i < length xs → x ≡ get_or xs i x → ys ≡ map f (take i xs) → y ≡ f x → more ≡ ys ++ y ∷ []
    → more ≡ map f (take (i + 1) xs)
mapped_more f xs i x y ys more l is mapped same grown =
    grown ∙ ap (λ z. z ++ y ∷ []) mapped ∙ ap (λ z. map f (take i xs) ++ z ∷ []) (same ∙ ap f is) ∙ sym (map_more f xs i x l)

pub drop_all : {X : Type 0} (xs : List X) (i : ℕ) → length xs ≤ i → drop i xs ≡ []
drop_all [] zero l = refl
drop_all [] (suc i) l = refl
drop_all (x ∷ xs) zero l = absurd (omega (arith, l))
drop_all (x ∷ xs) (suc i) l = drop_all xs i (omega (arith, l))

-- ---- whether there is one

pub found_in : {X : Type 0} (p : X → Bool) (xs : List X) (x : X) → find p xs ≡ Some x → Contains xs x × (p x ≡ true)
found_in p [] x is = absurd (none-some x is)
found_in p (y ∷ ys) x is = go (p y) refl is (found_in p ys x)
  where
    later : Contains ys x × (p x ≡ true) → Contains (y ∷ ys) x × (p x ≡ true)
    later found = ((suc found.0.0, (let l = found.0.1 in omega (arith, l)), found.0.2), found.1)

    go : (b : Bool) → p y ≡ b → cond b (Some y) (find p ys) ≡ Some x → (find p ys ≡ Some x → Contains ys x × (p x ≡ true)) → Contains (y ∷ ys) x × (p x ≡ true)
    go true passes h on = let same = same_Some y x h in ((0, omega arith, same), sym (ap p same) ∙ passes)
    go false passes h on = later (on h)

pub skipped : {X : Type 0} (p : X → Bool) (xs : List X) (n : ℕ) → All (λ x. p x ≡ false) (take n xs) → find p xs ≡ find p (drop n xs)
skipped p [] zero none = refl
skipped p [] (suc n) none = refl
skipped p (x ∷ xs) zero none = refl
skipped p (x ∷ xs) (suc n) none =
    ap (λ (b : Bool). cond b (Some x) (find p xs)) (All-head (λ y. p y ≡ false) x (take n xs) none)
    ∙ skipped p xs n (All-tail (λ y. p y ≡ false) x (take n xs) none)

pub none_pass : {X : Type 0} (p : X → Bool) (xs : List X) → find p xs ≡ None → All (λ x. p x ≡ false) xs
none_pass p [] is = All-nil (λ x. p x ≡ false)
none_pass p (x ∷ xs) is = go (p x) refl is (none_pass p xs)
  where
    go : (b : Bool) → p x ≡ b → cond b (Some x) (find p xs) ≡ None → (find p xs ≡ None → All (λ x. p x ≡ false) xs) → All (λ x. p x ≡ false) (x ∷ xs)
    go true passes h on = absurd (none-some x (sym h))
    go false passes h on = All-cons (λ x. p x ≡ false) x xs passes (on h)

-- ---- a list that grows by one

pub got_old : {X : Type 0} (xs : List X) (x y : X) (i : ℕ) → slice_get (xs ++ x ∷ []) i ≡ Some y → (slice_get xs i ≡ Some y) ⊎ ((i ≡ length xs) × (x ≡ y))
got_old [] x y zero is = inr (refl, same_Some x y is)
got_old [] x y (suc i) is = absurd (none-some y is)
got_old (z ∷ xs) x y zero is = inl is
got_old (z ∷ xs) x y (suc i) is = go (got_old xs x y i is)
  where
    go : (slice_get xs i ≡ Some y) ⊎ ((i ≡ length xs) × (x ≡ y)) → (slice_get xs i ≡ Some y) ⊎ ((suc i ≡ suc (length xs)) × (x ≡ y))
    go (inl there) = inl there
    go (inr last) = inr (ap suc last.0, last.1)

pub any_at : {X : Type 0} (p : X → Bool) (xs : List X) (x : X) (i : ℕ) → slice_get xs i ≡ Some x → p x ≡ true → list_any p xs ≡ true
any_at p [] x i is passes = absurd (none-some x is)
any_at p (y ∷ xs) x zero is passes = or_left (p y) (list_any p xs) (ap p (same_Some y x is) ∙ passes)
any_at p (y ∷ xs) x (suc i) is passes = or_right (p y) (list_any p xs) (any_at p xs x i is passes)

pub all_at : {X : Type 0} (P : X → Type 0) (xs : List X) (x : X) (i : ℕ) → slice_get xs i ≡ Some x → All P xs → P x
all_at P [] x i is all = absurd (none-some x is)
all_at P (y ∷ xs) x zero is all = subst P (same_Some y x is) (All-head P y xs all)
all_at P (y ∷ xs) x (suc i) is all = all_at P xs x i is (All-tail P y xs all)

-- an item that passes, at its place
pub record PassesAt {X : Type 0} (p : X → Bool) (xs : List X) : Type 0 where
  pub place : ℕ
  pub item : X
  pub there : slice_get xs place ≡ Some item
  pub passes : p item ≡ true

pub some_at : {X : Type 0} (p : X → Bool) (xs : List X) → list_any p xs ≡ true → PassesAt p xs
some_at p [] is = absurd (cc)
some_at p (y ∷ xs) is = go (p y) refl is (some_at p xs)
  where
    go : (b : Bool) → p y ≡ b → (b || list_any p xs) ≡ true → (list_any p xs ≡ true → PassesAt p xs) → PassesAt p (y ∷ xs)
    go true passes h on = record { place = 0; item = y; there = refl; passes = passes }
    go false passes h on = let found = on h in record { place = suc found.place; item = found.item; there = found.there; passes = found.passes }
