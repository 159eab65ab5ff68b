-- Fields that are added to a row one part after another.
use Rattle.std.proofs.Common.{◌≡◌, List, ◌++◌, ◌∙◌, ap, append_assoc}
use Rattle.ga_json.specs.Fields.{NamedValue}

regrouped : (old a b c d : List NamedValue) → (((old ++ a) ++ b) ++ c) ++ d ≡ old ++ (((a ++ b) ++ c) ++ d)
regrouped old a b c d = simp append_assoc

pub four_appended : (old a b c d a' c' d' n1 n2 n3 n4 : List NamedValue) → n1 ≡ old ++ a' → a' ≡ a → n2 ≡ n1 ++ b → n3 ≡ n2 ++ c' → c' ≡ c → n4 ≡ n3 ++ d' → d' ≡ d → n4 ≡ old ++ (((a ++ b) ++ c) ++ d)
four_appended old a b c d a' c' d' n1 n2 n3 n4 e1 ea e2 e3 ec e4 ed =
    e4
    ∙ ap (λ (z : List NamedValue). n3 ++ z) ed
    ∙ ap (λ (z : List NamedValue). z ++ d)
    (e3
    ∙ ap (λ (z : List NamedValue). n2 ++ z) ec
    ∙ ap (λ (z : List NamedValue). z ++ c) (e2 ∙ ap (λ (z : List NamedValue). z ++ b) (e1 ∙ ap (λ (z : List NamedValue). old ++ z) ea)))
    ∙ regrouped old a b c d
