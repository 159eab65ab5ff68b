-- Lines that are listed one after another.
use Rattle.std.proofs.Common.{◌≡◌, ℕ, suc, ◌+◌, ◌-◌, ◌/◌, ◌%◌, ◌<◌, ◌≤◌, ◌==◌, true, false, ◌&&◌, List, [], ◌∷◌, ◌++◌, length, map, take, get_or, Some, None, refl, sym, ◌∙◌, ap, subst, arith, append_assoc, append-nil, length-append, inl, inr}
use Rattle.std.specs.Prelude.{is_none, nat_lt, nat_le, ◌⊎◌}
use Rattle.std.proofs.Math.Nat.{zero-mod, zero-div}
use Rattle.std.specs.List.{All, find}
use Rattle.std.proofs.lemmas.Bool.{eq-eqb, ne_eqb, le-leb, lt-ltb, and_from, or_left, or_right, not_from_true, not_from_false, not-false, cond-false, cond-true, cases_eq}
use Rattle.std.proofs.lemmas.List.{take-append-le, map-append, get_or-map}
use Rattle.std.proofs.lemmas.List.Elements.{All-push, All-weaker, All-more, All-append, All-map}
use Rattle.std.proofs.lemmas.List.Folds.{list_any-append}
use Rattle.ga_event.specs.Flow.{is_same_node_part, kind_of_node_part, index_of_node_part}
use Rattle.ga_lab.specs.Machine.{MachineState}
use Rattle.ga_provenance.specs.declared.value.PartValue.{PartValue}
use Rattle.ga_provenance.specs.declared.lines.ProvenanceLine.{ProvenanceLine}
use Rattle.ga_provenance.specs.declared.lines.UsedValue.{UsedValue}
use Rattle.ga_provenance.specs.Origins.{origin_of_value}
use Rattle.ga_provenance.specs.Sources.{value_sources}
use Rattle.ga_provenance.specs.Lines.{oldest_value_of_run, is_at_run_period, is_value_in_run, is_value_listed, provenance_line_of_use, values_used_by_line, values_used_by_lines, values_due_for_listing, is_unlisted_use, next_unlisted_use, append_next_provenance_line, first_provenance_lines, AreProvenanceLinesOf, IsLineOfMovedValue}
use Rattle.ga_provenance.specs.inner.{HasValuePartInRange, origin_of_used_value}
use Rattle.ga_provenance.proofs.Finding.{found_at, skipped, drop_all}

-- ---- the newest value of a line is listed

pub same_part_true : (value : PartValue) → is_same_node_part value.part value.part ≡ true
same_part_true value =
    and_from (kind_of_node_part value.part == kind_of_node_part value.part) (index_of_node_part value.part == index_of_node_part value.part) (eq-eqb (kind_of_node_part value.part) (kind_of_node_part value.part) refl) (eq-eqb (index_of_node_part value.part) (index_of_node_part value.part) refl)

newest_at : (line : ProvenanceLine) → 0 < line.count → is_at_run_period line (line.value.step - line.value.step) ≡ true
newest_at line some = go (cases_eq line.period 0)
  where
    back : line.value.step - line.value.step ≡ 0
    back = omega arith

    go : (line.period ≡ 0) ⊎ (line.period ≡ 0 → ⊥) → is_at_run_period line (line.value.step - line.value.step) ≡ true
    go (inl single) =
        cond-true (line.period == 0) (line.value.step - line.value.step == 0) _ (eq-eqb line.period 0 single)
        ∙ eq-eqb (line.value.step - line.value.step) 0 back
    go (inr more) =
        cond-false (line.period == 0) (line.value.step - line.value.step == 0) (((line.value.step - line.value.step) % line.period == 0) && nat_lt ((line.value.step - line.value.step) / line.period) line.count) (ne_eqb line.period 0 more)
        ∙ ap (λ (k : ℕ). (k % line.period == 0) && nat_lt (k / line.period) line.count) back
        ∙ and_from (0 % line.period == 0) (nat_lt (0 / line.period) line.count) (eq-eqb (0 % line.period) 0 (zero-mod line.period))
        (ap (λ (k : ℕ). nat_lt k line.count) (zero-div line.period) ∙ lt-ltb 0 line.count some)

pub newest_in_run : (line : ProvenanceLine) → 0 < line.count → is_value_in_run line line.value ≡ true
newest_in_run line some =
    and_from (line.value.node.number == line.value.node.number) (is_same_node_part line.value.part line.value.part && (nat_le line.value.step line.value.step && is_at_run_period line (line.value.step - line.value.step)))
    (eq-eqb line.value.node.number line.value.node.number refl)
    (and_from (is_same_node_part line.value.part line.value.part) (nat_le line.value.step line.value.step && is_at_run_period line (line.value.step - line.value.step)) (same_part_true line.value)
    (and_from (nat_le line.value.step line.value.step) (is_at_run_period line (line.value.step - line.value.step)) (le-leb line.value.step line.value.step (omega arith)) (newest_at line some)))

-- ---- a listing with one more line

pub grown_lines : (s : MachineState) (value : PartValue) (lines more : List ProvenanceLine) (usage : UsedValue) (line : ProvenanceLine) → lines ≡ first_provenance_lines s value (length lines) → next_unlisted_use s value lines ≡ Some usage → line ≡ provenance_line_of_use s lines usage → more ≡ lines ++ line ∷ []
    → more ≡ first_provenance_lines s value (length more)
grown_lines s value lines more usage line first next is grown =
    grown
    ∙ ap (λ (l : ProvenanceLine). lines ++ l ∷ []) is
    ∙ ap (append_next_provenance_line s lines) (sym next)
    ∙ ap (λ (l : List ProvenanceLine). append_next_provenance_line s l (next_unlisted_use s value l)) first
    ∙ ap (first_provenance_lines s value) (let a = ap length grown in let b = length-append lines (line ∷ []) in let e : suc (length lines) ≡ length more = omega (arith, a, b) in e)

used_more : (s : MachineState) (user : ℕ) (lines : List ProvenanceLine) (line : ProvenanceLine) → values_used_by_lines s user (lines ++ line ∷ []) ≡ values_used_by_lines s user lines ++ values_used_by_line (user + length lines) (value_sources s (oldest_value_of_run line))
used_more s user [] line = append-nil (values_used_by_line user (value_sources s (oldest_value_of_run line))) ∙ ap (λ (k : ℕ). values_used_by_line k (value_sources s (oldest_value_of_run line))) (let e : user ≡ user + 0 = omega arith in e)
used_more s user (first ∷ lines) line =
    ap (λ z. values_used_by_line user (value_sources s (oldest_value_of_run first)) ++ z) (used_more s (suc user) lines line)
    ∙ sym (append_assoc (values_used_by_line user (value_sources s (oldest_value_of_run first))) (values_used_by_lines s (suc user) lines) (values_used_by_line (suc user + length lines) (value_sources s (oldest_value_of_run line))))
    ∙ ap (λ (k : ℕ). (values_used_by_line user (value_sources s (oldest_value_of_run first)) ++ values_used_by_lines s (suc user) lines) ++ values_used_by_line k (value_sources s (oldest_value_of_run line))) (let e : suc user + length lines ≡ user + suc (length lines) = omega arith in e)

pub grown_uses : (s : MachineState) (value : PartValue) (lines more : List ProvenanceLine) (line : ProvenanceLine) (uses grown : List UsedValue) (user : ℕ) (sources : List PartValue) → uses ≡ values_due_for_listing s value lines → more ≡ lines ++ line ∷ []
    → user ≡ length more → sources ≡ value_sources s (oldest_value_of_run line) → grown ≡ uses ++ values_used_by_line user sources → grown ≡ values_due_for_listing s value more
grown_uses s value lines more line uses grown user sources is more_is user_is of grown_is =
    grown_is
    ∙ ap (λ (k : ℕ). uses ++ values_used_by_line k sources) (let a = ap length more_is in let b = length-append lines (line ∷ []) in let e : user ≡ 1 + length lines = omega (arith, a, b, user_is) in e)
    ∙ ap (λ (z : List PartValue). uses ++ values_used_by_line (1 + length lines) z) of
    ∙ ap (λ (z : List UsedValue). z ++ values_used_by_line (1 + length lines) (value_sources s (oldest_value_of_run line))) is
    ∙ ap (λ (z : List UsedValue). record { user = 0; used = value } ∷ z) (sym (used_more s 1 lines line))
    ∙ ap (values_due_for_listing s value) (sym more_is)

-- ---- the values that were listed before stay listed

still_listed : (s : MachineState) (lines : List ProvenanceLine) (line : ProvenanceLine) (usage : UsedValue) → is_unlisted_use s lines usage ≡ false → is_unlisted_use s (lines ++ line ∷ []) usage ≡ false
still_listed s lines line usage is =
    not_from_true (is_value_listed (lines ++ line ∷ []) (origin_of_value s usage.used))
    (list_any-append (λ (l : ProvenanceLine). is_value_in_run l (origin_of_value s usage.used)) lines (line ∷ [])
    ∙ or_left (is_value_listed lines (origin_of_value s usage.used)) (is_value_listed (line ∷ []) (origin_of_value s usage.used)) (not-false (is_value_listed lines (origin_of_value s usage.used)) is))

now_listed : (s : MachineState) (lines : List ProvenanceLine) (line : ProvenanceLine) (usage : UsedValue) → line.value ≡ origin_of_value s usage.used → 0 < line.count → is_unlisted_use s (lines ++ line ∷ []) usage ≡ false
now_listed s lines line usage is some =
    not_from_true (is_value_listed (lines ++ line ∷ []) (origin_of_value s usage.used))
    (list_any-append (λ (l : ProvenanceLine). is_value_in_run l (origin_of_value s usage.used)) lines (line ∷ [])
    ∙ or_right (is_value_listed lines (origin_of_value s usage.used)) (is_value_listed (line ∷ []) (origin_of_value s usage.used))
    (or_left (is_value_in_run line (origin_of_value s usage.used)) false (ap (is_value_in_run line) (sym is) ∙ newest_in_run line some)))

abbrev pub AreListed : MachineState → List ProvenanceLine → List UsedValue → Type 0
AreListed s lines uses = All (λ (usage : UsedValue). is_unlisted_use s lines usage ≡ false) uses

pub passed_more : (s : MachineState) (lines : List ProvenanceLine) (uses : List UsedValue) (next : ℕ) (usage : UsedValue) (value : PartValue) → next < length uses → usage ≡ get_or uses next usage → value ≡ origin_of_value s usage.used → is_value_listed lines value ≡ true
    → AreListed s lines (take next uses) → AreListed s lines (take (next + 1) uses)
passed_more s lines uses next usage value l is made listed passed =
    All-more (λ (u : UsedValue). is_unlisted_use s lines u ≡ false) uses next usage l passed
    (ap (is_unlisted_use s lines) (sym is) ∙ not_from_true (is_value_listed lines (origin_of_value s usage.used)) (ap (is_value_listed lines) (sym made) ∙ listed))

pub passed_next : (s : MachineState) (lines more : List ProvenanceLine) (line : ProvenanceLine) (uses grown added : List UsedValue) (next : ℕ) (usage : UsedValue) → next < length uses → usage ≡ get_or uses next usage → more ≡ lines ++ line ∷ []
    → line ≡ provenance_line_of_use s lines usage → grown ≡ uses ++ added → AreListed s lines (take next uses) → AreListed s more (take (next + 1) grown)
passed_next s lines more line uses grown added next usage l is more_is line_is grown_is passed =
    subst (λ (z : List UsedValue). AreListed s more (take (next + 1) z)) (sym grown_is)
    (subst (AreListed s more) (sym (take-append-le (next + 1) uses added (omega (arith, l))))
    (subst (λ (z : List ProvenanceLine). AreListed s z (take (next + 1) uses)) (sym more_is)
    (All-more (λ (u : UsedValue). is_unlisted_use s (lines ++ line ∷ []) u ≡ false) uses next usage l
    (All-weaker (λ (u : UsedValue). is_unlisted_use s lines u ≡ false) (λ (u : UsedValue). is_unlisted_use s (lines ++ line ∷ []) u ≡ false) (still_listed s lines line) (take next uses) passed)
    (ap (is_unlisted_use s (lines ++ line ∷ [])) (sym is) ∙ now_listed s lines line usage (ap (λ (z : ProvenanceLine). z.value) line_is) (subst (λ (z : ProvenanceLine). 0 < z.count) (sym line_is) (omega arith))))))

-- ---- the next used value that isn't listed

pub next_is_here : (s : MachineState) (value : PartValue) (lines : List ProvenanceLine) (uses : List UsedValue) (next : ℕ) (usage : UsedValue) (origin : PartValue) → uses ≡ values_due_for_listing s value lines → AreListed s lines (take next uses) → next < length uses → usage ≡ get_or uses next usage
    → origin ≡ origin_of_value s usage.used → is_value_listed lines origin ≡ false → next_unlisted_use s value lines ≡ Some usage
next_is_here s value lines uses next usage origin is passed l at made listed =
    ap (find (is_unlisted_use s lines)) (sym is)
    ∙ skipped (is_unlisted_use s lines) uses next passed
    ∙ found_at (is_unlisted_use s lines) uses next usage l at (not_from_false (is_value_listed lines (origin_of_value s usage.used)) (ap (is_value_listed lines) (sym made) ∙ listed))

pub none_next : (s : MachineState) (value : PartValue) (lines : List ProvenanceLine) (uses : List UsedValue) (next : ℕ) → uses ≡ values_due_for_listing s value lines → AreListed s lines (take next uses) → length uses ≤ next → next_unlisted_use s value lines ≡ None
none_next s value lines uses next is passed l =
    ap (find (is_unlisted_use s lines)) (sym is) ∙ skipped (is_unlisted_use s lines) uses next passed ∙ ap (find (is_unlisted_use s lines)) (drop_all uses next l)

pub lines_cut : (s : MachineState) (value : PartValue) (lines : List ProvenanceLine) (usage : UsedValue) → lines ≡ first_provenance_lines s value (length lines) → next_unlisted_use s value lines ≡ Some usage → AreProvenanceLinesOf s value lines false
lines_cut s value lines usage first next = record { first = first; whole = ap is_none (sym next) }

pub lines_whole : (s : MachineState) (value : PartValue) (lines : List ProvenanceLine) → lines ≡ first_provenance_lines s value (length lines) → next_unlisted_use s value lines ≡ None → AreProvenanceLinesOf s value lines true
lines_whole s value lines first next = record { first = first; whole = ap is_none (sym next) }

-- ---- values that were moved

pub moved_more : (s : MachineState) (lines more : List ProvenanceLine) (usage : UsedValue) (line : ProvenanceLine) → line ≡ provenance_line_of_use s lines usage → HasValuePartInRange usage.used → more ≡ lines ++ line ∷ [] → All (IsLineOfMovedValue s) lines → All (IsLineOfMovedValue s) more
moved_more s lines more usage line is part grown moved =
    subst (All (IsLineOfMovedValue s)) (sym grown) (All-push (IsLineOfMovedValue s) lines line moved (subst (IsLineOfMovedValue s) (sym is) (refl, part)))

pub parts_more : (uses grown : List UsedValue) (user : ℕ) (values : List PartValue) → grown ≡ uses ++ values_used_by_line user values → All HasValuePartInRange values → All (λ (u : UsedValue). HasValuePartInRange u.used) uses → All (λ (u : UsedValue). HasValuePartInRange u.used) grown
parts_more uses grown user values is of parts =
    subst (All (λ (u : UsedValue). HasValuePartInRange u.used)) (sym is)
    (All-append (λ (u : UsedValue). HasValuePartInRange u.used) uses (values_used_by_line user values) parts (All-map (λ (u : UsedValue). HasValuePartInRange u.used) (λ (value : PartValue). record { user = user; used = value }) values of))

-- ---- the values that are used, as the steps made them

pub read_origin : (s : MachineState) (uses : List UsedValue) (origins : List PartValue) (next : ℕ) (usage : UsedValue) (origin : PartValue) → origins ≡ map (origin_of_used_value s) uses → next < length uses → usage ≡ get_or uses next usage → origin ≡ get_or origins next origin
    → origin ≡ origin_of_value s usage.used
read_origin s uses origins next usage origin is l used made =
    made
    ∙ ap (λ (z : List PartValue). get_or z next origin) is
    ∙ get_or-map (origin_of_used_value s) uses next usage origin l
    ∙ ap (origin_of_used_value s) (sym used)

origins_used : (s : MachineState) (user : ℕ) (values : List PartValue) → map (origin_of_used_value s) (values_used_by_line user values) ≡ map (origin_of_value s) values
origins_used s user [] = refl
origins_used s user (value ∷ values) = ap (λ (z : List PartValue). origin_of_value s value ∷ z) (origins_used s user values)

pub more_origins : (s : MachineState) (uses grown : List UsedValue) (user : ℕ) (origins more : List PartValue) (values made : List PartValue) → origins ≡ map (origin_of_used_value s) uses → grown ≡ uses ++ values_used_by_line user values → more ≡ origins ++ made
    → made ≡ map (origin_of_value s) values → more ≡ map (origin_of_used_value s) grown
more_origins s uses grown user origins more values made is grown_is more_is made_is =
    more_is
    ∙ ap (λ (z : List PartValue). z ++ made) is
    ∙ ap (λ (z : List PartValue). map (origin_of_used_value s) uses ++ z) (made_is ∙ sym (origins_used s user values))
    ∙ sym (map-append (origin_of_used_value s) uses (values_used_by_line user values))
    ∙ ap (map (origin_of_used_value s)) (sym grown_is)
