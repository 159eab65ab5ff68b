-- What is listed: the values of the runs of lines, each once, and of the provenance alone.
use Rattle.std.proofs.Common.{◌≡◌, ℕ, zero, suc, ◌+◌, ◌-◌, ◌*◌, ◌/◌, ◌%◌, ◌<◌, ◌≤◌, ◌==◌, Bool, true, false, not, ◌&&◌, cond, List, [], ◌∷◌, ◌++◌, length, Some, None, refl, sym, ◌∙◌, ap, subst, arith, append-nil, inl, inr}
use Rattle.std.specs.Prelude.{Option, nat_lt, nat_le, ◌⊎◌}
use Rattle.std.specs.List.{All}
use Rattle.std.proofs.Math.Nat.{suc-mul, mul-div_cancel, mul-mod_left, mul-le-mul_right, mul_comm, div-add-mod}
use Rattle.std.proofs.lemmas.Bool.{eq-eqb, ne_eqb, eqb-true, le-leb, leb-true, lt-ltb, ltb-true, and_from, and_parts, not-true, cond-false, cond-true, cases_eq}
use Rattle.std.proofs.lemmas.List.Elements.{All-nil, All-push}
use Rattle.ga_grid.specs.declared.node_id.NodeId.{NodeId}
use Rattle.ga_grid.proofs.NodeIds.{NodeId-same}
use Rattle.ga_event.specs.Flow.{is_same_node_part}
use Rattle.ga_event.proofs.Following.{same_part}
use Rattle.ga_lab.specs.Machine.{MachineState}
use Rattle.ga_provenance.specs.declared.value.PartValue.{PartValue}
use Rattle.ga_provenance.specs.declared.lines.ProvenanceLine.{ProvenanceLine}
use Rattle.ga_provenance.specs.declared.lines.UsedValue.{UsedValue}
use Rattle.ga_provenance.specs.Origins.{value_made_by_step, origin_of_value}
use Rattle.ga_provenance.specs.Lines.{next_value_in_run, value_in_run_at, is_at_run_period, is_value_in_run, is_value_listed, is_follower_in_run, follower_count_from_next_value, follower_count_in_value_run, provenance_line_of_run, provenance_line_of_use, values_due_for_listing, is_unlisted_use, next_unlisted_use, append_next_provenance_line, first_provenance_lines, AreProvenanceLinesOf, IsValueListedAt}
use Rattle.ga_provenance.proofs.Finding.{found_in, any_at, all_at, some_at}
use Rattle.ga_provenance.proofs.GrowingLines.{same_part_true}
use Rattle.ga_provenance.proofs.Runs.{same_values, IsNext, is_next, first_period, all_followers, steps_before}

-- ---- the values that follow one in a run

pub record AreFollowers (s : MachineState) (lines : List ProvenanceLine) (p : ℕ) (v : PartValue) (count : ℕ) : Type 0 where
  pub within : count * p ≤ v.step
  pub apart : 0 < count → 0 < p
  pub next : (at : ℕ) → at < count → next_value_in_run s (steps_before v (at * p)) ≡ Some (steps_before v (suc at * p))
  pub new : (at : ℕ) → at < count → is_value_listed lines (steps_before v (suc at * p)) ≡ false

no_followers : (s : MachineState) (lines : List ProvenanceLine) (p : ℕ) (v : PartValue) → AreFollowers s lines p v 0
no_followers s lines p v = record { within = omega arith; apart = λ l. absurd (omega (arith, l)); next = λ at l. absurd (omega (arith, l)); new = λ at l. absurd (omega (arith, l)) }

-- a value with those that follow the next one
one_follows : (s : MachineState) (lines : List ProvenanceLine) (p : ℕ) (v w : PartValue) (count : ℕ) → next_value_in_run s v ≡ Some w → is_follower_in_run lines p v w ≡ true → AreFollowers s lines p w count → AreFollowers s lines p v (suc count)
one_follows s lines p v w count next follows rest =
    record {
      within = (let a = suc-mul count p in let b = rest.within in omega (arith, a, b, period, earlier));
      apart = λ l. omega (arith, period, earlier);
      next = next_at;
      new = new_at;
    }
  where
    is : IsNext s v w
    is = is_next s v w next

    tests : ((v.step - w.step == p) ≡ true) × (not (is_value_listed lines w) ≡ true)
    tests = and_parts (v.step - w.step == p) (not (is_value_listed lines w)) follows

    period : v.step - w.step ≡ p
    period = eqb-true (v.step - w.step) p tests.0

    earlier : w.step < v.step
    earlier = is.earlier

    moved : (at : ℕ) → steps_before w (at * p) ≡ steps_before v (suc at * p)
    moved at =
        same_values (steps_before w (at * p)) (steps_before v (suc at * p)) (ap (λ (n : NodeId). n.number) is.node)
        (let a = suc-mul at p in omega (arith, a, period, earlier)) is.part

    first : v ≡ steps_before v (0 * p)
    first = same_values v (steps_before v (0 * p)) refl (omega arith) refl

    second : w ≡ steps_before v (1 * p)
    second = same_values w (steps_before v (1 * p)) (ap (λ (n : NodeId). n.number) is.node) (omega (arith, period, earlier)) is.part

    next_at : (at : ℕ) → at < suc count → next_value_in_run s (steps_before v (at * p)) ≡ Some (steps_before v (suc at * p))
    next_at zero l = ap (next_value_in_run s) (sym first) ∙ next ∙ ap Some second
    next_at (suc at) l = ap (next_value_in_run s) (sym (moved at)) ∙ rest.next at (omega (arith, l)) ∙ ap Some (moved (suc at))

    new_at : (at : ℕ) → at < suc count → is_value_listed lines (steps_before v (suc at * p)) ≡ false
    new_at zero l = ap (is_value_listed lines) (sym second) ∙ not-true (is_value_listed lines w) tests.1
    new_at (suc at) l = ap (is_value_listed lines) (sym (moved (suc at))) ∙ rest.new at (omega (arith, l))

are_followers : (s : MachineState) (lines : List ProvenanceLine) (p most : ℕ) (v : PartValue) → AreFollowers s lines p v (follower_count_in_value_run s lines p most v)
are_followers s lines p zero v = no_followers s lines p v
are_followers s lines p (suc most) v = go (next_value_in_run s v) refl (are_followers s lines p most)
  where
    by : (w : PartValue) → next_value_in_run s v ≡ Some w → AreFollowers s lines p w (follower_count_in_value_run s lines p most w) → (b : Bool) → is_follower_in_run lines p v w ≡ b
        → AreFollowers s lines p v (cond b (suc (follower_count_in_value_run s lines p most w)) 0)
    by w e rest true follows = one_follows s lines p v w (follower_count_in_value_run s lines p most w) e follows rest
    by w e rest false follows = no_followers s lines p v

    go : (o : Option PartValue) → next_value_in_run s v ≡ o → ((w : PartValue) → AreFollowers s lines p w (follower_count_in_value_run s lines p most w)) → AreFollowers s lines p v (follower_count_from_next_value (is_follower_in_run lines p v) (follower_count_in_value_run s lines p most) o)
    go None e rest = no_followers s lines p v
    go (Some w) e rest = by w e (rest w) (is_follower_in_run lines p v w) refl

-- ---- the run of a line

pub record IsRun (s : MachineState) (line : ProvenanceLine) : Type 0 where
  pub some : 0 < line.count
  pub within : (at : ℕ) → at < line.count → at * line.period ≤ line.value.step
  pub apart : 1 < line.count → 0 < line.period
  pub single : line.count ≡ 1 → line.period ≡ 0
  pub next : (at : ℕ) → suc at < line.count → next_value_in_run s (value_in_run_at line at) ≡ Some (value_in_run_at line (suc at))

-- and none of its values is listed before
pub record IsNewRun (s : MachineState) (before : List ProvenanceLine) (line : ProvenanceLine) : Type 0 where
  pub run : IsRun s line
  pub new : (at : ℕ) → at < line.count → is_value_listed before (value_in_run_at line at) ≡ false

new_run_of : (s : MachineState) (lines : List ProvenanceLine) (usage : UsedValue) (v : PartValue) (p count : ℕ) → is_value_listed lines v ≡ false → AreFollowers s lines p v count → IsNewRun s lines (provenance_line_of_run usage v p count)
new_run_of s lines usage v p zero unlisted of =
    record {
      run = record {
        some = omega arith;
        within = λ at l. (let e : at * 0 ≡ 0 = omega arith in omega (arith, e));
        apart = λ l. absurd (omega (arith, l));
        single = λ e. refl;
        next = λ at l. absurd (omega (arith, l));
      };
      new = λ at l. ap (is_value_listed lines) (same_values (value_in_run_at (provenance_line_of_run usage v p zero) at) v refl (let e : at * 0 ≡ 0 = omega arith in omega (arith, e)) refl) ∙ unlisted;
    }
new_run_of s lines usage v p (suc count) unlisted of =
    record {
      run = record {
        some = omega arith;
        within = λ at l. (let a : at * cond (suc count == 0) 0 p ≡ at * p = ap (λ (k : ℕ). at * k) period in let b = mul-le-mul_right p (let c : at ≤ suc count = omega (arith, l) in c) in let d = of.within in omega (arith, a, b, d));
        apart = λ l. (let a = of.apart (omega arith) in omega (arith, a, period));
        single = λ e. absurd (omega (arith, e));
        next = λ at l. ap (next_value_in_run s) (here at) ∙ of.next at (omega (arith, l)) ∙ ap Some (sym (here (suc at)));
      };
      new = new_at;
    }
  where
    period : cond (suc count == 0) 0 p ≡ p
    period = cond-false (suc count == 0) 0 p (ne_eqb (suc count) 0 (λ e. omega (arith, e)))

    here : (at : ℕ) → value_in_run_at (provenance_line_of_run usage v p (suc count)) at ≡ steps_before v (at * p)
    here at = ap (λ (k : ℕ). steps_before v (at * k)) period

    new_at : (at : ℕ) → at < suc (suc count) → is_value_listed lines (value_in_run_at (provenance_line_of_run usage v p (suc count)) at) ≡ false
    new_at zero l = ap (is_value_listed lines) (same_values (value_in_run_at (provenance_line_of_run usage v p (suc count)) 0) v refl (omega arith) refl) ∙ unlisted
    new_at (suc at) l = ap (is_value_listed lines) (here (suc at)) ∙ of.new at (omega (arith, l))

pub new_run : (s : MachineState) (value : PartValue) (lines : List ProvenanceLine) (usage : UsedValue) → next_unlisted_use s value lines ≡ Some usage → IsNewRun s lines (provenance_line_of_use s lines usage)
new_run s value lines usage next =
    let made = origin_of_value s usage.used in
    let unlisted = not-true (is_value_listed lines made) (found_in (is_unlisted_use s lines) (values_due_for_listing s value lines) usage next).1 in
    new_run_of s lines usage made (first_period s made) (all_followers s lines made) unlisted (are_followers s lines (first_period s made) made.step made)

-- ---- a value is in a run where it is at a place of it

period_at : (line : ProvenanceLine) (at back : ℕ) → 0 < line.period → back ≡ at * line.period → at < line.count → is_at_run_period line back ≡ true
period_at line at back some is l =
    cond-false (line.period == 0) (back == 0) ((back % line.period == 0) && nat_lt (back / line.period) line.count) (ne_eqb line.period 0 (λ e. omega (arith, e, some)))
    ∙ ap (λ (k : ℕ). (k % line.period == 0) && nat_lt (k / line.period) line.count) is
    ∙ and_from (at * line.period % line.period == 0) (nat_lt (at * line.period / line.period) line.count) (eq-eqb (at * line.period % line.period) 0 (mul-mod_left at line.period))
    (ap (λ (k : ℕ). nat_lt k line.count) (mul-div_cancel at some) ∙ lt-ltb at line.count l)

single_at : (line : ProvenanceLine) (back : ℕ) → line.period ≡ 0 → back ≡ 0 → is_at_run_period line back ≡ true
single_at line back single is = cond-true (line.period == 0) (back == 0) _ (eq-eqb line.period 0 single) ∙ eq-eqb back 0 is

in_run_by : (line : ProvenanceLine) (k back : ℕ) → k ≤ line.value.step → back ≡ line.value.step - k → is_at_run_period line back ≡ true → is_value_in_run line (value_made_by_step line.value.node k line.value.part) ≡ true
in_run_by line k back l is at =
    and_from (line.value.node.number == line.value.node.number) (is_same_node_part line.value.part line.value.part && (nat_le k line.value.step && is_at_run_period line (line.value.step - k))) (eq-eqb line.value.node.number line.value.node.number refl)
    (and_from (is_same_node_part line.value.part line.value.part) (nat_le k line.value.step && is_at_run_period line (line.value.step - k)) (same_part_true line.value)
    (and_from (nat_le k line.value.step) (is_at_run_period line (line.value.step - k)) (le-leb k line.value.step l) (ap (is_at_run_period line) (sym is) ∙ at)))

pub in_run : (s : MachineState) (line : ProvenanceLine) (at : ℕ) → IsRun s line → at < line.count → is_value_in_run line (value_in_run_at line at) ≡ true
in_run s line at run l = go (cases_eq line.period 0)
  where
    within : at * line.period ≤ line.value.step
    within = run.within at l

    go : (line.period ≡ 0) ⊎ (line.period ≡ 0 → ⊥) → is_value_in_run line (value_in_run_at line at) ≡ true
    go (inl single) =
        let none : at * line.period ≡ 0 = ap (λ (k : ℕ). at * k) single ∙ (let e : at * 0 ≡ 0 = omega arith in e) in
        in_run_by line (line.value.step - at * line.period) 0 (omega arith) (omega (arith, none)) (single_at line 0 single refl)
    go (inr more) =
        let some : 0 < line.period = (let m = more in positive line.period m) in
        in_run_by line (line.value.step - at * line.period) (at * line.period) (omega arith) (omega (arith, within)) (period_at line at (at * line.period) some refl l)
      where
        positive : (k : ℕ) → (k ≡ 0 → ⊥) → 0 < k
        positive zero none = absurd (none refl)
        positive (suc k) none = omega arith

-- a place in the run of a line
pub record IsPlace (line : ProvenanceLine) (value : PartValue) : Type 0 where
  pub at : ℕ
  pub within : at < line.count
  pub same : value_in_run_at line at ≡ value

place_of : (s : MachineState) (line : ProvenanceLine) (value : PartValue) → IsRun s line → line.value.node ≡ value.node → line.value.part ≡ value.part → value.step ≤ line.value.step → is_at_run_period line (line.value.step - value.step) ≡ true → IsPlace line value
place_of s line value run node part l at_period = go (cases_eq line.period 0)
  where
    back : ℕ
    back = line.value.step - value.step

    go : (line.period ≡ 0) ⊎ (line.period ≡ 0 → ⊥) → IsPlace line value
    go (inl single) =
        let none : back ≡ 0 = eqb-true back 0 (sym (cond-true (line.period == 0) (back == 0) ((back % line.period == 0) && nat_lt (back / line.period) line.count) (eq-eqb line.period 0 single)) ∙ at_period) in
        record { at = 0; within = run.some; same = same_values (value_in_run_at line 0) value (ap (λ (n : NodeId). n.number) node) (omega (arith, none, l)) part }
    go (inr more) =
        let tests = and_parts (back % line.period == 0) (nat_lt (back / line.period) line.count)
        (sym (cond-false (line.period == 0) (back == 0) ((back % line.period == 0) && nat_lt (back / line.period) line.count) (ne_eqb line.period 0 more)) ∙ at_period) in
        let rest : back % line.period ≡ 0 = eqb-true (back % line.period) 0 tests.0 in
        let whole : line.period * (back / line.period) + back % line.period ≡ back = div-add-mod back line.period in
        let turned : line.period * (back / line.period) ≡ back / line.period * line.period = mul_comm line.period (back / line.period) in
        record { at = back / line.period; within = ltb-true (back / line.period) line.count tests.1; same = same_values (value_in_run_at line (back / line.period)) value (ap (λ (n : NodeId). n.number) node) (omega (arith, rest, whole, turned, l)) part }

pub place_in : (s : MachineState) (line : ProvenanceLine) (value : PartValue) → IsRun s line → is_value_in_run line value ≡ true → IsPlace line value
place_in s line value run is =
    let one = and_parts (line.value.node.number == value.node.number) (is_same_node_part line.value.part value.part && (nat_le value.step line.value.step && is_at_run_period line (line.value.step - value.step))) is in
    let two = and_parts (is_same_node_part line.value.part value.part) (nat_le value.step line.value.step && is_at_run_period line (line.value.step - value.step)) one.1 in
    let three = and_parts (nat_le value.step line.value.step) (is_at_run_period line (line.value.step - value.step)) two.1 in
    place_of s line value run (NodeId-same line.value.node value.node (eqb-true line.value.node.number value.node.number one.0)) (same_part line.value.part value.part two.0) (leb-true value.step line.value.step three.0) three.1

pub at_listed : (s : MachineState) (lines : List ProvenanceLine) (line at : ℕ) (value : PartValue) → All (IsRun s) lines → IsValueListedAt lines line at value → is_value_listed lines value ≡ true
at_listed s lines line at value runs is =
    any_at (λ (l : ProvenanceLine). is_value_in_run l value) lines is.found line is.there
    (ap (is_value_in_run is.found) (sym is.same) ∙ in_run s is.found at (all_at (IsRun s) lines is.found line is.there runs) is.within)

-- a value is listed at some place
pub record IsListedSomewhere (lines : List ProvenanceLine) (value : PartValue) : Type 0 where
  pub line : ℕ
  pub at : ℕ
  pub listed : IsValueListedAt lines line at value

pub listed_somewhere : (s : MachineState) (lines : List ProvenanceLine) (value : PartValue) → All (IsRun s) lines → is_value_listed lines value ≡ true → IsListedSomewhere lines value
listed_somewhere s lines value runs is =
    let found = some_at (λ (l : ProvenanceLine). is_value_in_run l value) lines is in
    let place = place_in s found.item value (all_at (IsRun s) lines found.item found.place found.there runs) found.passes in
    record { line = found.place; at = place.at; listed = record { found = found.item; there = found.there; within = place.within; same = place.same } }

-- ---- what holds of each listing

-- what holds of no lines, and with the next line if it holds without, holds of all first lines
pub each_listing : (s : MachineState) (value : PartValue) (P : List ProvenanceLine → Type 0) → P [] → ((lines : List ProvenanceLine) (usage : UsedValue) → P lines → next_unlisted_use s value lines ≡ Some usage → P (lines ++ provenance_line_of_use s lines usage ∷ []))
    → (count : ℕ) → P (first_provenance_lines s value count)
each_listing s value P none more zero = none
each_listing s value P none more (suc count) = go (next_unlisted_use s value (first_provenance_lines s value count)) refl (each_listing s value P none more count)
  where
    go : (o : Option UsedValue) → next_unlisted_use s value (first_provenance_lines s value count) ≡ o → P (first_provenance_lines s value count) → P (append_next_provenance_line s (first_provenance_lines s value count) o)
    go None e held = subst P (sym (append-nil (first_provenance_lines s value count))) held
    go (Some usage) e held = more (first_provenance_lines s value count) usage held e

pub first_runs : (s : MachineState) (value : PartValue) (count : ℕ) → All (IsRun s) (first_provenance_lines s value count)
first_runs s value = each_listing s value (All (IsRun s)) (All-nil (IsRun s)) (λ lines usage runs next. All-push (IsRun s) lines (provenance_line_of_use s lines usage) runs (new_run s value lines usage next).run)

pub runs_of : (s : MachineState) (value : PartValue) (lines : List ProvenanceLine) (whole : Bool) → AreProvenanceLinesOf s value lines whole → All (IsRun s) lines
runs_of s value lines whole are = subst (All (IsRun s)) (sym are.first) (first_runs s value (length lines))
