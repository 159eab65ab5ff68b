-- The objects of an answer, one more.
use Rattle.std.proofs.Common.{◌≡◌, ℕ, zero, suc, ◌+◌, ◌-◌, ◌<◌, Bool, true, false, List, ◌++◌, length, get_or, drop, Option, None, refl, sym, ◌∙◌, ap, arith}
use Rattle.std.proofs.lemmas.List.{drop_more}
use Rattle.ga_json.specs.Values.{item, no_items}
use Rattle.ga_json.specs.Fields.{json_object}
use Rattle.ga_state_ends.specs.Decisions.{EndDecision}
use Rattle.ga_state_ends.specs.declared.end_kind.EndKind.{EndKind}
use Rattle.ga_state_expectations.specs.declared.source.LineExpectation.{LineExpectation}
use Rattle.ga_check_report.specs.declared.outcome.ExpectationOutcome.{ExpectationOutcome}
use Rattle.ga_check_report.specs.declared.outcome.ExpectationOutcome.TheVariants.{Unknown}
use Rattle.ga_check_report.specs.EndTexts.{node_end_at}
use Rattle.ga_check_report.specs.EndJson.{is_listed_node_end, node_row_fields, end_node_row, end_node_rows, optional_json_row, end_kind_and_decision_objects, end_kinds_objects}
use Rattle.ga_check_report.specs.ExpectationJson.{expectation_with_decision_objects, expectation_objects}
use Rattle.std.specs.Prelude.{slice_index_or}

pub next_objects : (file : List ℕ) (outcomes : List ExpectationOutcome) (decisions : List (Option EndDecision)) (expectations : List LineExpectation) (i : ℕ)
    (one : LineExpectation) (outcome : ExpectationOutcome) (decision : Option EndDecision) → one ≡ get_or expectations i one → i < length expectations
    → outcome ≡ get_or outcomes i Unknown → decision ≡ get_or decisions i None
    → expectation_objects file outcomes decisions i (drop i expectations)
    ≡ expectation_with_decision_objects file (i + 1) one outcome decision ++ expectation_objects file outcomes decisions (i + 1) (drop (i + 1) expectations)
next_objects file outcomes decisions expectations i one outcome decision at within is decides =
    let rest = expectation_objects file outcomes decisions (i + 1) (drop (i + 1) expectations) in
    ap (expectation_objects file outcomes decisions i) (drop_more expectations i one within)
    ∙ ap (λ (x : LineExpectation). expectation_with_decision_objects file (i + 1) x (get_or outcomes i Unknown) (get_or decisions i None) ++ rest) (sym at)
    ∙ ap (λ (x : ExpectationOutcome). expectation_with_decision_objects file (i + 1) one x (get_or decisions i None) ++ rest) (sym is)
    ∙ ap (λ (x : Option EndDecision). expectation_with_decision_objects file (i + 1) one outcome x ++ rest) (sym decides)

pub next_kind : (file : List ℕ) (decisions : List (Option EndDecision)) (kinds : List EndKind) (i : ℕ) (default : EndKind) (decision : Option EndDecision) → i < length kinds
    → decision ≡ get_or decisions i None
    → end_kinds_objects file decisions i (drop i kinds) ≡ end_kind_and_decision_objects file (i + 1) (get_or kinds i default) decision ++ end_kinds_objects file decisions (i + 1) (drop (i + 1) kinds)
next_kind file decisions kinds i default decision within is =
    ap (end_kinds_objects file decisions i) (drop_more kinds i default within)
    ∙ ap (λ (d : Option EndDecision). end_kind_and_decision_objects file (i + 1) (get_or kinds i default) d ++ end_kinds_objects file decisions (i + 1) (drop (i + 1) kinds)) (sym is)

-- ---- the rows of nodes

abbrev is_listed : EndKind → ℕ → Bool
is_listed kind n = is_listed_node_end (node_end_at kind.nodes n) (slice_index_or kind.unclean n false)

rows_more : (kind : EndKind) (n more : ℕ) → end_node_rows kind n (suc more) ≡ end_node_row kind n (end_node_rows kind (n + 1) more)
unfolding end_node_rows
rows_more kind n more = refl

pub rows_none : (kind : EndKind) (n more : ℕ) → more ≡ 0 → end_node_rows kind n more ≡ no_items
unfolding end_node_rows
rows_none kind n zero is = refl
rows_none kind n (suc more) is = absurd (omega arith)

rows_next : (kind : EndKind) (n more : ℕ) (listed : Bool) → more ≡ suc (143 - n) → is_listed kind n ≡ listed
    → end_node_rows kind n more ≡ optional_json_row listed (node_row_fields kind n) (end_node_rows kind (n + 1) (143 - n))
rows_next kind n more listed is l =
    ap (end_node_rows kind n) is ∙ rows_more kind n (143 - n) ∙ ap (λ (b : Bool). optional_json_row b (node_row_fields kind n) (end_node_rows kind (n + 1) (143 - n))) l

-- the node has a row
pub row_taken : (kind : EndKind) (n : ℕ) → n < 144 → is_listed kind n ≡ true
    → end_node_rows kind n (144 - n) ≡ item (json_object (node_row_fields kind n)) (end_node_rows kind (n + 1) (144 - (n + 1)))
row_taken kind n within l =
    let first : 144 - n ≡ suc (143 - n) = omega arith in
    let rest : 143 - n ≡ 144 - (n + 1) = omega arith in
    rows_next kind n (144 - n) true first l ∙ ap (λ (k : ℕ). item (json_object (node_row_fields kind n)) (end_node_rows kind (n + 1) k)) rest

-- it has none
pub row_left_out : (kind : EndKind) (n : ℕ) → n < 144 → is_listed kind n ≡ false → end_node_rows kind n (144 - n) ≡ end_node_rows kind (n + 1) (144 - (n + 1))
row_left_out kind n within l =
    let first : 144 - n ≡ suc (143 - n) = omega arith in
    let rest : 143 - n ≡ 144 - (n + 1) = omega arith in
    rows_next kind n (144 - n) false first l ∙ ap (λ (k : ℕ). end_node_rows kind (n + 1) k) rest
