-- The values that lines list: each once, of the provenance alone, and by all lines the whole provenance.
use Rattle.std.proofs.Common.{◌≡◌, ℕ, zero, suc, ◌+◌, ◌-◌, ◌*◌, ◌<◌, ◌≤◌, Bool, true, false, ◌||◌, List, [], ◌∷◌, ◌++◌, length, map, take, Some, None, refl, sym, ◌∙◌, ap, subst, arith, append_assoc, append-nil, inl, inr}
use Rattle.std.specs.Prelude.{Option, option_map, option_to_list, is_none, Contains, ◌⊎◌}
use Rattle.std.specs.List.{All, list_any, list_all, slice_get}
use Rattle.std.proofs.Math.Nat.{suc-mul, mul-le-mul_right}
use Rattle.std.proofs.Math.Seq.{take-append_seam}
use Rattle.std.proofs.lemmas.Option.{none-some}
use Rattle.std.proofs.lemmas.Bool.{and_parts, not-false, or_cases, cases_order, both_ways}
use Rattle.std.proofs.lemmas.List.Elements.{All-nil, All-cons, All-push, All-weaker, All-append, All-map, All-contains, All-contains_itself, All-head, All-tail}
use Rattle.ga_causal.specs.Dependence.{position_of_step}
use Rattle.ga_lab.specs.Machine.{MachineState, machine_events_with_looks}
use Rattle.ga_provenance.specs.declared.value.PartValue.{PartValue}
use Rattle.ga_provenance.specs.declared.lines.ProvenanceLine.{ProvenanceLine}
use Rattle.ga_provenance.specs.declared.lines.UsedValue.{UsedValue}
use Rattle.ga_provenance.specs.Origins.{origin_of_value}
use Rattle.ga_provenance.specs.Sources.{is_same_value, value_sources, IsLoadedOrCauseOfValue}
use Rattle.ga_provenance.specs.Lines.{IsProvenance, origin, source, source_origins, are_values_among, value_in_run_at, oldest_value_of_run, is_value_in_run, is_value_listed, provenance_line_of_use, values_used_by_line, values_used_by_lines, values_due_for_listing, is_unlisted_use, next_unlisted_use, first_provenance_lines, AreProvenanceLinesOf, IsValueListedAt}
use Rattle.ga_provenance.proofs.Causes.{provenance_caused}
use Rattle.ga_provenance.proofs.Finding.{found_in, none_pass, got_old, any_at, all_at, some_at}
use Rattle.ga_provenance.proofs.Runs.{same_value, is_next}
use Rattle.ga_provenance.proofs.Listed.{IsRun, IsNewRun, new_run, in_run, at_listed, listed_somewhere, each_listing, runs_of}

-- ---- fewer lines are the first of more

-- the lines that more have after fewer
record Goes (s : MachineState) (value : PartValue) (few more : ℕ) : Type 0 where
  rest : List ProvenanceLine
  whole : first_provenance_lines s value more ≡ first_provenance_lines s value few ++ rest

goes_on : (s : MachineState) (value : PartValue) (few added : ℕ) → Goes s value few (added + few)
goes_on s value few zero = record { rest = []; whole = ap (first_provenance_lines s value) (let e : 0 + few ≡ few = omega arith in e) ∙ sym (append-nil (first_provenance_lines s value few)) }
goes_on s value few (suc added) = go (goes_on s value few added)
  where
    go : Goes s value few (added + few) → Goes s value few (suc added + few)
    go on =
        let last = option_to_list (option_map (provenance_line_of_use s (first_provenance_lines s value (added + few))) (next_unlisted_use s value (first_provenance_lines s value (added + few)))) in
        record {
          rest = on.rest ++ last;
          whole = ap (first_provenance_lines s value) (let e : suc added + few ≡ suc (added + few) = omega arith in e) ∙ ap (λ (z : List ProvenanceLine). z ++ last) on.whole ∙ append_assoc (first_provenance_lines s value few) on.rest last;
        }

pub lines_join : (s : MachineState) (value : PartValue) (lines more : List ProvenanceLine) (is_whole is_more_whole : Bool) → AreProvenanceLinesOf s value lines is_whole → AreProvenanceLinesOf s value more is_more_whole → length lines ≤ length more → take (length lines) more ≡ lines
lines_join s value lines more is_whole is_more_whole are are_more l = go (goes_on s value (length lines) (length more - length lines))
  where
    go : Goes s value (length lines) ((length more - length lines) + length lines) → take (length lines) more ≡ lines
    go on =
        ap (take (length lines)) (are_more.first ∙ ap (first_provenance_lines s value) (let e : length more ≡ (length more - length lines) + length lines = omega (arith, l) in e) ∙ on.whole ∙ ap (λ (z : List ProvenanceLine). z ++ on.rest) (sym are.first))
        ∙ take-append_seam lines on.rest

-- ---- each value once

-- two places of a run have different steps
places_apart : (s : MachineState) (line : ProvenanceLine) (at place : ℕ) → IsRun s line → at < place → place < line.count → value_in_run_at line at ≡ value_in_run_at line place → ⊥
places_apart s line at place run less l same =
    let steps : line.value.step - at * line.period ≡ line.value.step - place * line.period = ap (λ (v : PartValue). v.step) same in
    let some = run.apart (omega (arith, l, less)) in
    let within = run.within place l in
    let product = suc-mul at line.period in
    let more = mul-le-mul_right line.period (let e : suc at ≤ place = omega (arith, less) in e) in
    omega (arith, steps, some, within, product, more)

same_place : (s : MachineState) (line : ProvenanceLine) (at place : ℕ) → IsRun s line → at < line.count → place < line.count → value_in_run_at line at ≡ value_in_run_at line place → at ≡ place
same_place s line at place run l m same = go (cases_order at place)
  where
    go : (at ≡ place) ⊎ ((at < place) ⊎ (place < at)) → at ≡ place
    go (inl is) = is
    go (inr (inl less)) = absurd (places_apart s line at place run less m same)
    go (inr (inr more)) = absurd (places_apart s line place at run more l (sym same))

abbrev IsOnce : List ProvenanceLine → Type 0
IsOnce lines = (line other at place : ℕ) (listed : PartValue) → IsValueListedAt lines line at listed → IsValueListedAt lines other place listed → (line ≡ other) × (at ≡ place)

record AreOnce (s : MachineState) (lines : List ProvenanceLine) : Type 0 where
  runs : All (IsRun s) lines
  once : IsOnce lines

-- a place in a listing with one more line is one in the listing, or in this line
record IsLast (lines : List ProvenanceLine) (last : ProvenanceLine) (line at : ℕ) (listed : PartValue) : Type 0 where
  number : line ≡ length lines
  within : at < last.count
  same : value_in_run_at last at ≡ listed

old_or_last : (lines : List ProvenanceLine) (last : ProvenanceLine) (line at : ℕ) (listed : PartValue) → IsValueListedAt (lines ++ last ∷ []) line at listed → IsValueListedAt lines line at listed ⊎ IsLast lines last line at listed
old_or_last lines last line at listed is = go (got_old lines last is.found line is.there)
  where
    go : (slice_get lines line ≡ Some is.found) ⊎ ((line ≡ length lines) × (last ≡ is.found)) → IsValueListedAt lines line at listed ⊎ IsLast lines last line at listed
    go (inl there) = inl (record { found = is.found; there = there; within = is.within; same = is.same })
    go (inr new) =
        inr (record {
          number = new.0;
          within = subst (λ (l : ProvenanceLine). at < l.count) (sym new.1) is.within;
          same = ap (λ (l : ProvenanceLine). value_in_run_at l at) new.1 ∙ is.same;
        })

not_both : (s : MachineState) (lines : List ProvenanceLine) (last : ProvenanceLine) (line at place other : ℕ) (listed : PartValue) → All (IsRun s) lines → IsNewRun s lines last → IsValueListedAt lines line at listed → IsLast lines last other place listed → ⊥
not_both s lines last line at place other listed runs new old is =
    both_ways (is_value_listed lines listed) (ap (is_value_listed lines) (sym is.same) ∙ new.new place is.within) (at_listed s lines line at listed runs old)

once_more : (s : MachineState) (lines : List ProvenanceLine) (last : ProvenanceLine) → AreOnce s lines → IsNewRun s lines last → IsOnce (lines ++ last ∷ [])
once_more s lines last are new line other at place listed first second = go (old_or_last lines last line at listed first) (old_or_last lines last other place listed second)
  where
    go : IsValueListedAt lines line at listed ⊎ IsLast lines last line at listed → IsValueListedAt lines other place listed ⊎ IsLast lines last other place listed → (line ≡ other) × (at ≡ place)
    go (inl a) (inl b) = are.once line other at place listed a b
    go (inl a) (inr b) = absurd (not_both s lines last line at place other listed are.runs new a b)
    go (inr a) (inl b) = absurd (not_both s lines last other place at line listed are.runs new b a)
    go (inr a) (inr b) = (a.number ∙ sym b.number, same_place s last at place new.run a.within b.within (a.same ∙ sym b.same))

none_once : IsOnce []
none_once line other at place listed first second = absurd (none-some first.found first.there)

pub listed_once : (s : MachineState) (value : PartValue) (lines : List ProvenanceLine) (whole : Bool) → AreProvenanceLinesOf s value lines whole → (line other at place : ℕ) (listed : PartValue) → IsValueListedAt lines line at listed → IsValueListedAt lines other place listed
    → (line ≡ other) × (at ≡ place)
listed_once s value lines whole are =
    (subst (AreOnce s) (sym are.first) (each_listing s value (AreOnce s) (record { runs = All-nil (IsRun s); once = none_once })
    (λ ls usage held next. let new = new_run s value ls usage next in record { runs = All-push (IsRun s) ls (provenance_line_of_use s ls usage) held.runs new.run; once = once_more s ls (provenance_line_of_use s ls usage) held new }) (length lines))).once

-- ---- listed values are of the provenance

abbrev IsOfProvenance : MachineState → PartValue → ProvenanceLine → Type 0
IsOfProvenance s value line = (at : ℕ) → at < line.count → IsProvenance s value (value_in_run_at line at)

unmapped : {X Y : Type 0} (P : Y → Type 0) (f : X → Y) (xs : List X) → All P (map f xs) → All (λ x. P (f x)) xs
unmapped P f [] all = All-nil (λ x. P (f x))
unmapped P f (x ∷ xs) all = All-cons (λ y. P (f y)) x xs (All-head P (f x) (map f xs) all) (unmapped P f xs (All-tail P (f x) (map f xs) all))

abbrev IsUseOfProvenance : MachineState → PartValue → UsedValue → Type 0
IsUseOfProvenance s value usage = IsProvenance s value (origin_of_value s usage.used)

sources_of_provenance : (s : MachineState) (value v : PartValue) (user : ℕ) → IsProvenance s value v → All (IsUseOfProvenance s value) (values_used_by_line user (value_sources s v))
sources_of_provenance s value v user of =
    All-map (IsUseOfProvenance s value) (λ (x : PartValue). record { user = user; used = x }) (value_sources s v)
    (unmapped (IsProvenance s value) (origin_of_value s) (value_sources s v)
    (All-weaker (Contains (source_origins s v)) (IsProvenance s value) (source of) (source_origins s v) (All-contains_itself (source_origins s v))))

used_of_provenance : (s : MachineState) (value : PartValue) (user : ℕ) (lines : List ProvenanceLine) → All (IsRun s) lines → All (IsOfProvenance s value) lines → All (IsUseOfProvenance s value) (values_used_by_lines s user lines)
used_of_provenance s value user [] runs of = All-nil (IsUseOfProvenance s value)
used_of_provenance s value user (line ∷ lines) runs of =
    let some = (All-head (IsRun s) line lines runs).some in
    All-append (IsUseOfProvenance s value) (values_used_by_line user (value_sources s (oldest_value_of_run line))) (values_used_by_lines s (suc user) lines)
    (sources_of_provenance s value (oldest_value_of_run line) user (All-head (IsOfProvenance s value) line lines of (line.count - 1) (omega (arith, some))))
    (used_of_provenance s value (suc user) lines (All-tail (IsRun s) line lines runs) (All-tail (IsOfProvenance s value) line lines of))

run_of_provenance : (s : MachineState) (value : PartValue) (line : ProvenanceLine) → IsRun s line → IsProvenance s value (value_in_run_at line 0) → IsOfProvenance s value line
run_of_provenance s value line run of zero l = of
run_of_provenance s value line run of (suc at) l =
    source (run_of_provenance s value line run of at (omega (arith, l))) (value_in_run_at line (suc at)) (is_next s (value_in_run_at line at) (value_in_run_at line (suc at)) (run.next at l)).source

newest_at_0 : (line : ProvenanceLine) → line.value ≡ value_in_run_at line 0
newest_at_0 line = ap (λ (k : ℕ). record { node = line.value.node; step = k; part = line.value.part }) (let e : line.value.step ≡ line.value.step - 0 * line.period = omega arith in e)

record AreOfProvenance (s : MachineState) (value : PartValue) (lines : List ProvenanceLine) : Type 0 where
  runs : All (IsRun s) lines
  provenance : All (IsOfProvenance s value) lines

provenance_more : (s : MachineState) (value : PartValue) (lines : List ProvenanceLine) (usage : UsedValue) → AreOfProvenance s value lines → next_unlisted_use s value lines ≡ Some usage → AreOfProvenance s value (lines ++ provenance_line_of_use s lines usage ∷ [])
provenance_more s value lines usage are next =
    let run = (new_run s value lines usage next).run in
    let listed = (found_in (is_unlisted_use s lines) (values_due_for_listing s value lines) usage next).0 in
    let uses = All-cons (IsUseOfProvenance s value) (record { user = 0; used = value }) (values_used_by_lines s 1 lines) origin (used_of_provenance s value 1 lines are.runs are.provenance) in
    let used = All-contains (IsUseOfProvenance s value) (values_due_for_listing s value lines) usage uses listed in
    record {
      runs = All-push (IsRun s) lines (provenance_line_of_use s lines usage) are.runs run;
      provenance = All-push (IsOfProvenance s value) lines (provenance_line_of_use s lines usage) are.provenance
          (run_of_provenance s value (provenance_line_of_use s lines usage) run (subst (IsProvenance s value) (newest_at_0 (provenance_line_of_use s lines usage)) used));
    }

lines_of_provenance : (s : MachineState) (value : PartValue) (lines : List ProvenanceLine) (whole : Bool) → AreProvenanceLinesOf s value lines whole → AreOfProvenance s value lines
lines_of_provenance s value lines whole are =
    subst (AreOfProvenance s value) (sym are.first)
    (each_listing s value (AreOfProvenance s value) (record { runs = All-nil (IsRun s); provenance = All-nil (IsOfProvenance s value) }) (provenance_more s value) (length lines))

listed_at_provenance : (s : MachineState) (value : PartValue) (lines : List ProvenanceLine) (whole : Bool) → AreProvenanceLinesOf s value lines whole → (line at : ℕ) (listed : PartValue) → IsValueListedAt lines line at listed → IsProvenance s value listed
listed_at_provenance s value lines whole are line at listed is =
    subst (IsProvenance s value) is.same (all_at (IsOfProvenance s value) lines is.found line is.there (lines_of_provenance s value lines whole are).provenance at is.within)

pub listed_caused : (s : MachineState) (value : PartValue) (place : ℕ) (lines : List ProvenanceLine) (whole : Bool) → position_of_step (machine_events_with_looks s) value.node.number value.step ≡ Some place → AreProvenanceLinesOf s value lines whole
    → (line at : ℕ) (listed : PartValue) → IsValueListedAt lines line at listed → IsLoadedOrCauseOfValue s value listed
listed_caused s value place lines whole is are line at listed there = provenance_caused s value listed place is (listed_at_provenance s value lines whole are line at listed there)

pub listed_sound : (s : MachineState) (value : PartValue) (lines : List ProvenanceLine) (whole : Bool) → AreProvenanceLinesOf s value lines whole → (listed : PartValue) → is_value_listed lines listed ≡ true → IsProvenance s value listed
listed_sound s value lines whole are listed is =
    let somewhere = listed_somewhere s lines listed (runs_of s value lines whole are) is in listed_at_provenance s value lines whole are somewhere.line somewhere.at listed somewhere.listed

-- ---- all lines miss nothing

none_of : {X : Type 0} (o : Option X) → true ≡ is_none o → o ≡ None
none_of None is = refl
none_of (Some x) is = absurd (cc)

abbrev IsListedUse : MachineState → List ProvenanceLine → UsedValue → Type 0
IsListedUse s lines usage = is_value_listed lines (origin_of_value s usage.used) ≡ true

uses_listed : (s : MachineState) (value : PartValue) (lines : List ProvenanceLine) → AreProvenanceLinesOf s value lines true → All (IsListedUse s lines) (values_due_for_listing s value lines)
uses_listed s value lines are =
    All-weaker (λ (usage : UsedValue). is_unlisted_use s lines usage ≡ false) (IsListedUse s lines) (λ usage is. not-false (is_value_listed lines (origin_of_value s usage.used)) is) (values_due_for_listing s value lines)
    (none_pass (is_unlisted_use s lines) (values_due_for_listing s value lines) (none_of (next_unlisted_use s value lines) are.whole))

pub queried_listed : (s : MachineState) (value : PartValue) (lines : List ProvenanceLine) → AreProvenanceLinesOf s value lines true → is_value_listed lines (origin_of_value s value) ≡ true
queried_listed s value lines are = All-head (IsListedUse s lines) (record { user = 0; used = value }) (values_used_by_lines s 1 lines) (uses_listed s value lines are)

halves : {X : Type 0} (P : X → Type 0) (xs ys : List X) → All P (xs ++ ys) → All P xs × All P ys
halves P [] ys all = (All-nil P, all)
halves P (x ∷ xs) ys all = let rest = halves P xs ys (All-tail P x (xs ++ ys) all) in (All-cons P x xs (All-head P x (xs ++ ys) all) rest.0, rest.1)

-- the values from which the oldest of each line was made
abbrev AreListedSources : MachineState → List ProvenanceLine → PartValue → Type 0
AreListedSources s lines v = All (λ (x : PartValue). is_value_listed lines x ≡ true) (source_origins s v)

used_listed : (s : MachineState) (lines rest : List ProvenanceLine) (user : ℕ) → All (IsListedUse s lines) (values_used_by_lines s user rest) → All (λ (line : ProvenanceLine). AreListedSources s lines (oldest_value_of_run line)) rest
used_listed s lines [] user all = All-nil (λ (line : ProvenanceLine). AreListedSources s lines (oldest_value_of_run line))
used_listed s lines (line ∷ rest) user all =
    let parts = halves (IsListedUse s lines) (values_used_by_line user (value_sources s (oldest_value_of_run line))) (values_used_by_lines s (suc user) rest) all in
    All-cons (λ (l : ProvenanceLine). AreListedSources s lines (oldest_value_of_run l)) line rest
    (All-map (λ (x : PartValue). is_value_listed lines x ≡ true) (origin_of_value s) (value_sources s (oldest_value_of_run line))
    (unmapped (IsListedUse s lines) (λ (x : PartValue). record { user = user; used = x }) (value_sources s (oldest_value_of_run line)) parts.0))
    (used_listed s lines rest (suc user) parts.1)

-- those of a value are the next one of its run and those of that one
among_listed : (s : MachineState) (lines : List ProvenanceLine) (next : PartValue) (others values : List PartValue) → is_value_listed lines next ≡ true → All (λ (x : PartValue). is_value_listed lines x ≡ true) others → are_values_among next others values ≡ true
    → All (λ (x : PartValue). is_value_listed lines x ≡ true) values
among_listed s lines next others [] is all among = All-nil (λ (x : PartValue). is_value_listed lines x ≡ true)
among_listed s lines next others (x ∷ values) is all among =
    let tests = and_parts (is_same_value x next || list_any (is_same_value x) others) (list_all (λ it. is_same_value it next || list_any (is_same_value it) others) values) among in
    All-cons (λ (y : PartValue). is_value_listed lines y ≡ true) x values (go (or_cases (is_same_value x next) (list_any (is_same_value x) others) tests.0)) (among_listed s lines next others values is all tests.1)
  where
    go : (is_same_value x next ≡ true) ⊎ (list_any (is_same_value x) others ≡ true) → is_value_listed lines x ≡ true
    go (inl same) = ap (is_value_listed lines) (same_value x next same) ∙ is
    go (inr other) = let found = some_at (is_same_value x) others other in ap (is_value_listed lines) (same_value x found.item found.passes) ∙ all_at (λ (y : PartValue). is_value_listed lines y ≡ true) others found.item found.place found.there all

run_listed : (s : MachineState) (lines : List ProvenanceLine) (line : ProvenanceLine) (number : ℕ) → All (IsRun s) lines → slice_get lines number ≡ Some line → AreListedSources s lines (oldest_value_of_run line) → (left at : ℕ) → left + suc at ≡ line.count
    → AreListedSources s lines (value_in_run_at line at)
run_listed s lines line number runs there oldest zero at is = subst (λ (k : ℕ). AreListedSources s lines (value_in_run_at line k)) (let e : line.count - 1 ≡ at = omega (arith, is) in e) oldest
run_listed s lines line number runs there oldest (suc left) at is =
    let run = all_at (IsRun s) lines line number there runs in
    let next = is_next s (value_in_run_at line at) (value_in_run_at line (suc at)) (run.next at (omega (arith, is))) in
    among_listed s lines (value_in_run_at line (suc at)) (source_origins s (value_in_run_at line (suc at))) (source_origins s (value_in_run_at line at))
    (any_at (λ (l : ProvenanceLine). is_value_in_run l (value_in_run_at line (suc at))) lines line number there (in_run s line (suc at) run (omega (arith, is))))
    (run_listed s lines line number runs there oldest left (suc at) (omega (arith, is)))
    next.among

pub sources_listed : (s : MachineState) (value : PartValue) (lines : List ProvenanceLine) → AreProvenanceLinesOf s value lines true → (line at : ℕ) (listed : PartValue) → IsValueListedAt lines line at listed → All (λ (x : PartValue). is_value_listed lines x ≡ true) (source_origins s listed)
sources_listed s value lines are line at listed is =
    let within = is.within in
    let uses = All-tail (IsListedUse s lines) (record { user = 0; used = value }) (values_used_by_lines s 1 lines) (uses_listed s value lines are) in
    let oldest = all_at (λ (l : ProvenanceLine). AreListedSources s lines (oldest_value_of_run l)) lines is.found line is.there (used_listed s lines lines 1 uses) in
    subst (AreListedSources s lines) is.same (run_listed s lines is.found line (runs_of s value lines true are) is.there oldest (is.found.count - suc at) at (omega (arith, within)))

pub provenance_listed : (s : MachineState) (value : PartValue) (lines : List ProvenanceLine) → AreProvenanceLinesOf s value lines true → (found : PartValue) → IsProvenance s value found → is_value_listed lines found ≡ true
provenance_listed s value lines are found origin = queried_listed s value lines are
provenance_listed s value lines are found (source {value = v} of x in_sources) =
    let somewhere = listed_somewhere s lines v (runs_of s value lines true are) (provenance_listed s value lines are v of) in
    All-contains (λ (y : PartValue). is_value_listed lines y ≡ true) (source_origins s v) x (sources_listed s value lines are somewhere.line somewhere.at v somewhere.listed) in_sources
