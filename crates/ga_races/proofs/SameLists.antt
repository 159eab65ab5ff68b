-- Lists that are the same in each place.
use Rattle.std.proofs.Common.{◌≡◌, ℕ, ◌<◌, List, length, get_or, sym, ◌∙◌, subst}
use Rattle.std.proofs.lemmas.List.{ext_get_or}

pub same_lists : (xs ys : List ℕ) (n : ℕ) → length xs ≡ n → length ys ≡ n → ((k : ℕ) → k < n → get_or xs k 0 ≡ get_or ys k 0) → xs ≡ ys
same_lists xs ys n a b h = ext_get_or 0 xs ys (a ∙ sym b) (λ k l. h k (subst (λ (z : ℕ). k < z) a l))
