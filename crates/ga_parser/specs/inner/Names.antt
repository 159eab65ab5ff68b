-- The numbers of labels by their names.
use Rattle.std.specs.Prelude.{ℕ, ◌≡◌, true, List, bytes_eq}
use Rattle.std.specs.HashMap.{HashMap, get_by}
use denote.Ref.{Bor}
use Rattle.ga_parser.specs.Saying.{has_bytes}
use Rattle.ga_parser.specs.Asking.{LabelContent, known_label_number}

-- the map has for each name the first label with it
abbrev pub AreLabelNumbersByName : {S : Type 0} → HashMap (Bor (List ℕ)) ℕ S → List LabelContent → Type 0
AreLabelNumbersByName names labels = (name : List ℕ) → has_bytes name ≡ true → get_by (λ key. bytes_eq name key.now) names ≡ known_label_number labels name
