-- A ring's line, one node more at a time.
use Rattle.std.proofs.Common.{◌≡◌, ◌≢◌, ℕ, zero, suc, ◌<◌, ◌≤◌, ◌==◌, true, false, List, [], ◌++◌, Option, Some, None, refl, ◌∙◌, append_assoc, arith}
use Rattle.std.specs.Prelude.{nat_le, option_map, codes}
use Rattle.std.proofs.lemmas.List.{append-nil}
use Rattle.std.proofs.lemmas.Bool.Decides.{nat_tests}
use Rattle.ga_node.specs.Record.{NodeRecord}
use Rattle.ga_explorer_text.specs.Waiting.{name_text_of_node, only_awaited_neighbour, wait_cycle_node_names, wait_cycle_line}

-- a line that was begun, with the names that are left
abbrev pub closed : List ℕ → Option (List ℕ) → List ℕ
closed out None = []
closed out (Some names) = out ++ names ++ codes "\n"

pub begun : (first : ℕ) (names : Option (List ℕ)) → closed (codes "ring " ++ name_text_of_node first) names ≡ wait_cycle_line first names
begun first None = refl
begun first (Some names) = append_assoc (codes "ring ") (name_text_of_node first) (names ++ codes "\n")

-- nobody is awaited alone, or as many nodes were followed as there are
pub not_closed : (chip : List NodeRecord) (first left : ℕ) (next : Option ℕ) (out whole : List ℕ) → next ≡ None
    → closed out (wait_cycle_node_names chip first left next) ≡ whole → [] ≡ whole
unfolding wait_cycle_node_names
not_closed chip first left None out whole e h = h
not_closed chip first left (Some m) out whole e h = absurd (cc)

pub none_left : (chip : List NodeRecord) (first left : ℕ) (next : Option ℕ) (out whole : List ℕ) → left ≡ 0
    → closed out (wait_cycle_node_names chip first left next) ≡ whole → [] ≡ whole
unfolding wait_cycle_node_names
none_left chip first zero None out whole e h = h
none_left chip first zero (Some m) out whole e h = h
none_left chip first (suc left) next out whole e h = absurd (cc)

-- it comes back
pub back : (chip : List NodeRecord) (first left m : ℕ) (out whole : List ℕ) → 0 < left → m ≡ first
    → closed out (wait_cycle_node_names chip first left (Some m)) ≡ whole → out ++ codes "\n" ≡ whole
unfolding wait_cycle_node_names
back chip first zero m out whole l e h = absurd (omega arith)
back chip first (suc left) m out whole l e h =
    let same : (m == first) ≡ true = grind (arith, nat_tests) in
    rw append-nil at (rw same at h)

-- it comes to a lower node
pub lower : (chip : List NodeRecord) (first left m : ℕ) (out whole : List ℕ) → 0 < left → m < first
    → closed out (wait_cycle_node_names chip first left (Some m)) ≡ whole → [] ≡ whole
unfolding wait_cycle_node_names
lower chip first zero m out whole l e h = absurd (omega arith)
lower chip first (suc left) m out whole l e h =
    let other : (m == first) ≡ false = grind (arith, nat_tests) in
    let less : nat_le m first ≡ true = grind (arith, nat_tests) in
    rw (other, less) at h

longer : (m : ℕ) (out : List ℕ) (names : Option (List ℕ))
    → closed ((out ++ codes " ") ++ name_text_of_node m) names ≡ closed out (option_map (λ more. codes " " ++ name_text_of_node m ++ more) names)
longer m out None = refl
longer m out (Some names) = simp append_assoc

-- it continues
pub goes_on : (chip : List NodeRecord) (first left more m : ℕ) (next : Option ℕ) (out new whole : List ℕ) → left ≡ suc more → m ≢ first → first ≤ m
    → next ≡ only_awaited_neighbour chip m → new ≡ (out ++ codes " ") ++ name_text_of_node m
    → closed out (wait_cycle_node_names chip first left (Some m)) ≡ whole → closed new (wait_cycle_node_names chip first more next) ≡ whole
unfolding wait_cycle_node_names
goes_on chip first zero more m next out new whole l d e f g h = absurd (cc)
goes_on chip first (suc left) more m next out new whole l d e f g h =
    let other : (m == first) ≡ false = grind (arith, nat_tests) in
    let greater : nat_le m first ≡ false = grind (arith, nat_tests) in
    let same : more ≡ left = omega arith in
    let was : closed out (option_map (λ names. codes " " ++ name_text_of_node m ++ names) (wait_cycle_node_names chip first left (only_awaited_neighbour chip m))) ≡ whole = rw (other, greater) at h in
    rw (g, f, same) (longer m out (wait_cycle_node_names chip first left (only_awaited_neighbour chip m)) ∙ was)
