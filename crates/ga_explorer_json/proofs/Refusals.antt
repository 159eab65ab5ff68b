-- The objects of refused commands.
use Rattle.std.proofs.Common.{◌≡◌, ℕ, zero, suc, List, [], ◌∷◌, ◌++◌, take, codes, refl, ap, ◌∙◌}
use Rattle.ga_text.specs.Lines.{Text}
use Rattle.ga_grid.specs.declared.node_id.NodeId.{NodeId}
use Rattle.ga_lab.specs.declared.fault.LabFault.{LabFault}
use Rattle.ga_explorer_json.specs.Refusals.{refusal_json, refusal_json_about_step}

pub refused_as : (command : Text) (code other_code : ℕ) (why other_why hint other_hint : Text) → code ≡ other_code → why ≡ other_why → hint ≡ other_hint
    → refusal_json command code why hint ≡ refusal_json command other_code other_why other_hint
refused_as command code other_code why other_why hint other_hint e f h =
    ap (λ (z : ℕ). refusal_json command z why hint) e ∙ ap (λ (z : Text). refusal_json command other_code z hint) f
    ∙ ap (λ (z : Text). refusal_json command other_code other_why z) h

pub counted : (command : Text) (node : NodeId) (count other : ℕ) (why : LabFault) → count ≡ other → refusal_json_about_step command node count why ≡ refusal_json_about_step command node other why
counted command node count other why e = ap (λ (z : ℕ). refusal_json_about_step command node z why) e

-- ---- a text that is added as far as there is room

take_front : (n : ℕ) (a b : List ℕ) → take n (take n a ++ b) ≡ take n (a ++ b)
take_front zero a b = refl
take_front (suc n) [] b = refl
take_front (suc n) (x ∷ a) b = ap (λ (rest : List ℕ). x ∷ rest) (take_front n a b)

pub noted : (line a b new : List ℕ) → line ≡ take 201 a → new ≡ take 201 (line ++ b) → new ≡ take 201 (a ++ b)
noted line a b new e f = f ∙ ap (λ (z : List ℕ). take 201 (z ++ b)) e ∙ take_front 201 a b

-- a text before others, added part by part
pub seven_parts : (first second third fourth fifth sixth seventh number word hint : List ℕ)
    → first ≡ take 201 (codes "no ") → second ≡ take 201 (first ++ number) → third ≡ take 201 (second ++ codes " ") → fourth ≡ take 201 (third ++ word)
    → fifth ≡ take 201 (fourth ++ codes ": ") → sixth ≡ take 201 (fifth ++ hint) → seventh ≡ take 201 (sixth ++ codes "\n")
    → seventh ≡ take 201 (codes "no " ++ number ++ codes " " ++ word ++ codes ": " ++ hint ++ codes "\n")
seven_parts first second third fourth fifth sixth seventh number word hint a b c d e f g =
    let front : List ℕ = codes "no " in
    let blank : List ℕ = codes " " in
    let colon : List ℕ = codes ": " in
    let feed : List ℕ = codes "\n" in
    let two = noted first front number second a b in
    let three = noted second (front ++ number) blank third two c in
    let four = noted third ((front ++ number) ++ blank) word fourth three d in
    let five = noted fourth (((front ++ number) ++ blank) ++ word) colon fifth four e in
    let six = noted fifth ((((front ++ number) ++ blank) ++ word) ++ colon) hint sixth five f in
    noted sixth (((((front ++ number) ++ blank) ++ word) ++ colon) ++ hint) feed seventh six g
