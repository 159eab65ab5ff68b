-- A list of values, and the items that it is.
use Rattle.std.proofs.Common.{◌≡◌, List, [], ◌∷◌, refl, ap}
use Rattle.serde_json.specs.Data.{Data}
use Rattle.serde_json.specs.View.{items_of}
use Rattle.ga_dap_queries.specs.Arguments.{values_of_items}

pub listed : (xs : List Data) → values_of_items (items_of xs) ≡ xs
listed [] = refl
listed (x ∷ xs) = ap (λ (z : List Data). x ∷ z) (listed xs)
