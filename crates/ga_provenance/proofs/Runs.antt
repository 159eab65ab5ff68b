-- The runs of values: what follows in one, and how many.
use Rattle.std.proofs.Common.{◌≡◌, ℕ, zero, suc, ◌+◌, ◌-◌, ◌*◌, ◌<◌, ◌≤◌, ◌==◌, Bool, true, false, not, ◌&&◌, ◌||◌, cond, List, Some, None, refl, sym, ◌∙◌, ap, arith}
use Rattle.std.specs.Prelude.{Option, Contains, nat_lt}
use Rattle.std.proofs.lemmas.Option.{same_Some, none-some}
use Rattle.std.proofs.lemmas.Bool.{ltb-true, eqb-true, eq-eqb, ne_eqb, and_parts, and_from, cond-false}
use Rattle.std.proofs.Math.Nat.{suc-mul}
use Rattle.ga_grid.specs.declared.node_id.NodeId.{NodeId}
use Rattle.ga_grid.proofs.NodeIds.{NodeId-same}
use Rattle.ga_event.specs.Flow.{is_same_node_part}
use Rattle.ga_event.proofs.Following.{same_part}
use Rattle.ga_lab.specs.Machine.{MachineState}
use Rattle.ga_provenance.specs.declared.value.PartValue.{PartValue}
use Rattle.ga_provenance.specs.declared.lines.ProvenanceLine.{ProvenanceLine}
use Rattle.ga_provenance.specs.declared.lines.UsedValue.{UsedValue}
use Rattle.ga_provenance.specs.Origins.{value_made_by_step, origin_of_value}
use Rattle.ga_provenance.specs.Sources.{is_same_value}
use Rattle.ga_provenance.specs.Lines.{source_origins, is_same_opcode_event, event_that_made_value, is_same_opcode_repetition, are_values_among, is_next_value_in_run, next_value_in_run, oldest_value_of_run, is_value_listed, is_follower_in_run, follower_count_from_next_value, follower_count_in_value_run, steps_to_next_value, provenance_line_of_run, provenance_line_of_use}
use Rattle.ga_provenance.specs.inner.{follows_oldest_in_run, following_value_in_run}
use Rattle.ga_provenance.proofs.Finding.{found_in}

-- ---- values that are the same

pub same_values : (v w : PartValue) → v.node.number ≡ w.node.number → v.step ≡ w.step → v.part ≡ w.part → v ≡ w
same_values v w node step part =
    ap (λ (n : NodeId). value_made_by_step n v.step v.part) (NodeId-same v.node w.node node)
    ∙ ap (λ (k : ℕ). value_made_by_step w.node k v.part) step
    ∙ ap (value_made_by_step w.node w.step) part

pub same_value : (v w : PartValue) → is_same_value v w ≡ true → v ≡ w
same_value v w is =
    let one = and_parts (v.node.number == w.node.number) ((v.step == w.step) && is_same_node_part v.part w.part) is in
    let two = and_parts (v.step == w.step) (is_same_node_part v.part w.part) one.1 in
    same_values v w (eqb-true v.node.number w.node.number one.0) (eqb-true v.step w.step two.0) (same_part v.part w.part two.1)

-- ---- the next value of a run

pub record IsNext (s : MachineState) (v w : PartValue) : Type 0 where
  pub node : w.node ≡ v.node
  pub part : w.part ≡ v.part
  pub later : 0 < w.step
  pub earlier : w.step < v.step
  pub among : are_values_among w (source_origins s w) (source_origins s v) ≡ true
  pub source : Contains (source_origins s v) w

pub is_next : (s : MachineState) (v w : PartValue) → next_value_in_run s v ≡ Some w → IsNext s v w
is_next s v w is =
    let found = found_in (is_next_value_in_run s v) (source_origins s v) w is in
    let all = and_parts (is_same_opcode_repetition s v w) (are_values_among w (source_origins s w) (source_origins s v)) found.1 in
    let some = and_parts (nat_lt 0 w.step) (nat_lt w.step v.step && ((v.node.number == w.node.number) && (is_same_node_part v.part w.part && is_same_opcode_event (event_that_made_value s v) (event_that_made_value s w)))) all.0 in
    let before = and_parts (nat_lt w.step v.step) ((v.node.number == w.node.number) && (is_same_node_part v.part w.part && is_same_opcode_event (event_that_made_value s v) (event_that_made_value s w))) some.1 in
    let nodes = and_parts (v.node.number == w.node.number) (is_same_node_part v.part w.part && is_same_opcode_event (event_that_made_value s v) (event_that_made_value s w)) before.1 in
    let parts = and_parts (is_same_node_part v.part w.part) (is_same_opcode_event (event_that_made_value s v) (event_that_made_value s w)) nodes.1 in
    record {
      node = sym (NodeId-same v.node w.node (eqb-true v.node.number w.node.number nodes.0));
      part = sym (same_part v.part w.part parts.0);
      later = ltb-true 0 w.step some.0;
      earlier = ltb-true w.step v.step before.0;
      among = all.1;
      source = found.0;
    }

-- whether a value is next, by what a search found
pub not_next : (s t : MachineState) (v x : PartValue) → t ≡ s → is_same_opcode_repetition t v x ≡ false → is_next_value_in_run s v x ≡ false
not_next s t v x same is = ap (λ (b : Bool). b && are_values_among x (source_origins s x) (source_origins s v)) (ap (λ (z : MachineState). is_same_opcode_repetition z v x) (sym same) ∙ is)

pub next_by : (s t : MachineState) (v x further : PartValue) (among : Bool) (found origins others : List PartValue) → t ≡ s → is_same_opcode_repetition t v x ≡ true → further ≡ x → found ≡ origins → origins ≡ source_origins t further → others ≡ source_origins s v
    → among ≡ are_values_among x found others → is_next_value_in_run s v x ≡ among
next_by s t v x further among found origins others same is value found_is traced of by =
    ap (λ (b : Bool). b && are_values_among x (source_origins s x) (source_origins s v)) (ap (λ (z : MachineState). is_same_opcode_repetition z v x) (sym same) ∙ is)
    ∙ ap (λ (l : List PartValue). are_values_among x l (source_origins s v)) (sym (found_is ∙ traced ∙ ap (λ (z : MachineState). source_origins z further) same ∙ ap (source_origins s) value))
    ∙ ap (are_values_among x found) (sym of)
    ∙ sym by

-- ---- how many follow

none_of_few : (s : MachineState) (lines : List ProvenanceLine) (p n : ℕ) (v : PartValue) → v.step ≡ 0 → follower_count_in_value_run s lines p n v ≡ 0
none_of_few s lines p zero v is = refl
none_of_few s lines p (suc n) v is = go (next_value_in_run s v) refl
  where
    go : (o : Option PartValue) → next_value_in_run s v ≡ o → follower_count_from_next_value (is_follower_in_run lines p v) (follower_count_in_value_run s lines p n) o ≡ 0
    go None e = refl
    go (Some w) e = let next = is_next s v w e in absurd (let l = next.earlier in omega (arith, l, is))

pub same_count : (s : MachineState) (lines : List ProvenanceLine) (p m n : ℕ) (v : PartValue) → v.step ≤ m → v.step ≤ n → follower_count_in_value_run s lines p m v ≡ follower_count_in_value_run s lines p n v
same_count s lines p zero n v l k = sym (none_of_few s lines p n v (omega (arith, l)))
same_count s lines p (suc m) zero v l k = none_of_few s lines p (suc m) v (omega (arith, k))
same_count s lines p (suc m) (suc n) v l k = go (next_value_in_run s v) refl (same_count s lines p m n)
  where
    go : (o : Option PartValue) → next_value_in_run s v ≡ o → ((w : PartValue) → w.step ≤ m → w.step ≤ n → follower_count_in_value_run s lines p m w ≡ follower_count_in_value_run s lines p n w)
        → follower_count_from_next_value (is_follower_in_run lines p v) (follower_count_in_value_run s lines p m) o ≡ follower_count_from_next_value (is_follower_in_run lines p v) (follower_count_in_value_run s lines p n) o
    go None e before = refl
    go (Some w) e before =
        let earlier = (is_next s v w e).earlier in
        ap (λ (z : ℕ). cond (is_follower_in_run lines p v w) (suc z) 0) (before w (omega (arith, l, earlier)) (omega (arith, k, earlier)))

pub one_more : (s : MachineState) (lines : List ProvenanceLine) (p : ℕ) (v w : PartValue) → next_value_in_run s v ≡ Some w → is_follower_in_run lines p v w ≡ true → follower_count_in_value_run s lines p v.step v ≡ suc (follower_count_in_value_run s lines p w.step w)
one_more s lines p v w next follows = go v.step refl
  where
    earlier : w.step < v.step
    earlier = (is_next s v w next).earlier

    go : (n : ℕ) → v.step ≡ n → follower_count_in_value_run s lines p n v ≡ suc (follower_count_in_value_run s lines p w.step w)
    go zero is = absurd (let l = earlier in omega (arith, l, is))
    go (suc n) is =
        ap (follower_count_from_next_value (is_follower_in_run lines p v) (follower_count_in_value_run s lines p n)) next
        ∙ ap (λ (b : Bool). cond b (suc (follower_count_in_value_run s lines p n w)) 0) follows
        ∙ ap suc (same_count s lines p n w.step w (let l = earlier in omega (arith, l, is)) (omega arith))

pub no_more : (s : MachineState) (lines : List ProvenanceLine) (p : ℕ) (v : PartValue) → ((w : PartValue) → next_value_in_run s v ≡ Some w → is_follower_in_run lines p v w ≡ false) → follower_count_in_value_run s lines p v.step v ≡ 0
no_more s lines p v none = go v.step
  where
    by : (n : ℕ) (o : Option PartValue) → next_value_in_run s v ≡ o → follower_count_from_next_value (is_follower_in_run lines p v) (follower_count_in_value_run s lines p n) o ≡ 0
    by n None e = refl
    by n (Some w) e = ap (λ (b : Bool). cond b (suc (follower_count_in_value_run s lines p n w)) 0) (none w e)

    go : (n : ℕ) → follower_count_in_value_run s lines p n v ≡ 0
    go zero = refl
    go (suc n) = by n (next_value_in_run s v) refl

-- ---- a run that grows

-- the number of steps between the values of the run of a value
abbrev pub first_period : MachineState → PartValue → ℕ
first_period s value = steps_to_next_value value (next_value_in_run s value)

-- the number of values that follow in it
abbrev pub all_followers : MachineState → List ProvenanceLine → PartValue → ℕ
all_followers s lines value = follower_count_in_value_run s lines (first_period s value) value.step value

-- the value `n` periods before another
abbrev pub steps_before : PartValue → ℕ → PartValue
steps_before value back = value_made_by_step value.node (value.step - back) value.part

-- a line of a run that continues from its oldest value
pub record IsGrowing (s : MachineState) (lines : List ProvenanceLine) (value : PartValue) (count period : ℕ) (oldest : PartValue) : Type 0 where
  pub places : ℕ
  pub counts : count ≡ suc places
  pub counted : places + follower_count_in_value_run s lines (first_period s value) oldest.step oldest ≡ all_followers s lines value
  pub single : places ≡ 0 → period ≡ 0
  pub more : 0 < places → period ≡ first_period s value
  pub node : oldest.node ≡ value.node
  pub part : oldest.part ≡ value.part
  pub within : places * first_period s value + oldest.step ≡ value.step
  pub few : places + oldest.step ≤ value.step

pub one_value : (s : MachineState) (lines : List ProvenanceLine) (value : PartValue) → IsGrowing s lines value 1 0 value
one_value s lines value = record { places = 0; counts = refl; counted = omega arith; single = λ e. refl; more = λ l. absurd (omega (arith, l)); node = refl; part = refl; within = omega arith; few = omega arith }

oldest_is : (s : MachineState) (lines : List ProvenanceLine) (value oldest : PartValue) (count period : ℕ) (g : IsGrowing s lines value count period oldest) → g.places ≡ 0 → oldest ≡ value
oldest_is s lines value oldest count period g none =
    same_values oldest value (ap (λ (n : NodeId). n.number) g.node)
    (let w = g.within in let z : g.places * first_period s value ≡ 0 = ap (λ (k : ℕ). k * first_period s value) none ∙ (let q : 0 * first_period s value ≡ 0 = omega arith in q) in omega (arith, w, z)) g.part

-- the value that follows is as many steps before as the first was
follows_so : (s : MachineState) (lines : List ProvenanceLine) (value oldest w : PartValue) (line : ProvenanceLine) (g : IsGrowing s lines value line.count line.period oldest) → next_value_in_run s oldest ≡ Some w
    → ((line.count == 1) || (oldest.step - w.step == line.period)) ≡ (oldest.step - w.step == first_period s value)
follows_so s lines value oldest w line g next = go g.places refl
  where
    go : (k : ℕ) → g.places ≡ k → ((line.count == 1) || (oldest.step - w.step == line.period)) ≡ (oldest.step - w.step == first_period s value)
    go zero none =
        let same = oldest_is s lines value oldest line.count line.period g none in
        let period : first_period s value ≡ oldest.step - w.step = ap (first_period s) (sym same) ∙ ap (steps_to_next_value oldest) next in
        let one : (line.count == 1) ≡ true = eq-eqb line.count 1 (g.counts ∙ ap suc none) in
        ap (λ (b : Bool). b || (oldest.step - w.step == line.period)) one ∙ sym (eq-eqb (oldest.step - w.step) (first_period s value) (sym period))
    go (suc k) some =
        let other : (line.count == 1) ≡ false = ne_eqb line.count 1 (λ e. let c = g.counts in omega (arith, c, e, some)) in
        ap (λ (b : Bool). b || (oldest.step - w.step == line.period)) other
        ∙ ap (λ (z : ℕ). oldest.step - w.step == z) (g.more (omega (arith, some)))

-- what follows, taken apart
pub record Follows (s : MachineState) (lines : List ProvenanceLine) (line : ProvenanceLine) (oldest w : PartValue) : Type 0 where
  pub next : next_value_in_run s oldest ≡ Some w
  pub test : follows_oldest_in_run lines line oldest w ≡ true

pub follows : (s : MachineState) (lines : List ProvenanceLine) (line : ProvenanceLine) (oldest w : PartValue) → following_value_in_run lines line oldest (next_value_in_run s oldest) ≡ Some w → Follows s lines line oldest w
follows s lines line oldest w is = go (next_value_in_run s oldest) refl is
  where
    by : (x : PartValue) → next_value_in_run s oldest ≡ Some x → (b : Bool) → follows_oldest_in_run lines line oldest x ≡ b → cond b (Some x) None ≡ Some w → Follows s lines line oldest w
    by x e true test h = let same = same_Some x w h in record { next = e ∙ ap Some same; test = ap (follows_oldest_in_run lines line oldest) (sym same) ∙ test }
    by x e false test h = absurd (none-some w h)

    go : (o : Option PartValue) → next_value_in_run s oldest ≡ o → following_value_in_run lines line oldest o ≡ Some w → Follows s lines line oldest w
    go None e h = absurd (none-some w h)
    go (Some x) e h = by x e (follows_oldest_in_run lines line oldest x) refl h

pub grown : (s : MachineState) (lines : List ProvenanceLine) (value oldest w : PartValue) (line : ProvenanceLine) → IsGrowing s lines value line.count line.period oldest
    → following_value_in_run lines line oldest (next_value_in_run s oldest) ≡ Some w → IsGrowing s lines value (line.count + 1) (oldest.step - w.step) w
grown s lines value oldest w line g is =
    let f = follows s lines line oldest w is in
    let next = is_next s oldest w f.next in
    let tests = and_parts ((line.count == 1) || (oldest.step - w.step == line.period)) (not (is_value_listed lines w)) f.test in
    let test : (oldest.step - w.step == first_period s value) ≡ true = sym (follows_so s lines value oldest w line g f.next) ∙ tests.0 in
    let period : oldest.step - w.step ≡ first_period s value = eqb-true (oldest.step - w.step) (first_period s value) test in
    let more = one_more s lines (first_period s value) oldest w f.next (and_from (oldest.step - w.step == first_period s value) (not (is_value_listed lines w)) test tests.1) in
    let counted = g.counted in
    let counts = g.counts in
    let within = g.within in
    let few = g.few in
    let earlier = next.earlier in
    let product : suc g.places * first_period s value ≡ g.places * first_period s value + first_period s value = suc-mul g.places (first_period s value) in
    record {
      places = suc g.places;
      counts = omega (arith, counts);
      counted = omega (arith, counted, more);
      single = λ none. absurd (omega (arith, none));
      more = λ l. period;
      node = next.node ∙ g.node;
      part = next.part ∙ g.part;
      within = omega (arith, product, within, period, earlier);
      few = omega (arith, few, earlier);
    }

pub ended : (s : MachineState) (lines : List ProvenanceLine) (value oldest : PartValue) (line : ProvenanceLine) → (g : IsGrowing s lines value line.count line.period oldest)
    → following_value_in_run lines line oldest (next_value_in_run s oldest) ≡ None → g.places ≡ all_followers s lines value
ended s lines value oldest line g is =
    let none = no_more s lines (first_period s value) oldest not_follower in
    let counted = g.counted in
    omega (arith, counted, none)
  where
    not_follower : (w : PartValue) → next_value_in_run s oldest ≡ Some w → is_follower_in_run lines (first_period s value) oldest w ≡ false
    not_follower w next =
        let same = follows_so s lines value oldest w line g next in
        let no : follows_oldest_in_run lines line oldest w ≡ false = by (follows_oldest_in_run lines line oldest w) refl (ap (following_value_in_run lines line oldest) (sym next) ∙ is) in
        ap (λ (b : Bool). b && not (is_value_listed lines w)) (sym same) ∙ no
      where
        by : (b : Bool) → follows_oldest_in_run lines line oldest w ≡ b → cond b (Some w) None ≡ None → follows_oldest_in_run lines line oldest w ≡ false
        by true test h = absurd (none-some w (sym h))
        by false test h = test

-- the line is that of the run, and its oldest value is the one that was found last
pub record IsLine (s : MachineState) (lines : List ProvenanceLine) (usage : UsedValue) (line : ProvenanceLine) (oldest : PartValue) : Type 0 where
  pub line_is : line ≡ provenance_line_of_use s lines usage
  pub oldest_is : oldest ≡ oldest_value_of_run (provenance_line_of_use s lines usage)

pub line_so : (s : MachineState) (lines : List ProvenanceLine) (usage : UsedValue) (line : ProvenanceLine) (oldest : PartValue) → line.user ≡ usage.user → line.used ≡ usage.used → line.value ≡ origin_of_value s usage.used
    → IsGrowing s lines (origin_of_value s usage.used) line.count line.period oldest → following_value_in_run lines line oldest (next_value_in_run s oldest) ≡ None → IsLine s lines usage line oldest
line_so s lines usage line oldest user used value g is =
    let made = origin_of_value s usage.used in
    let f = all_followers s lines made in
    let p = first_period s made in
    let places = ended s lines made oldest line g is in
    let count : line.count ≡ suc f = g.counts ∙ ap suc places in
    let period : line.period ≡ cond (f == 0) 0 p = by f places in
    let same : line ≡ provenance_line_of_use s lines usage = fields line (provenance_line_of_use s lines usage) user value used count period in
    record { line_is = same; oldest_is = at f places }
  where
    by : (f : ℕ) → g.places ≡ f → line.period ≡ cond (f == 0) 0 (first_period s (origin_of_value s usage.used))
    by zero none = g.single none
    by (suc f) some = g.more (omega (arith, some)) ∙ sym (cond-false (suc f == 0) 0 (first_period s (origin_of_value s usage.used)) (ne_eqb (suc f) 0 (λ e. omega (arith, e))))

    fields : (a b : ProvenanceLine) → a.user ≡ b.user → a.value ≡ b.value → a.used ≡ b.used → a.count ≡ b.count → a.period ≡ b.period → a ≡ b
    fields a b user value used count period = λ i. record { user = user i; value = value i; used = used i; count = count i; period = period i }

    at : (f : ℕ) → g.places ≡ f → oldest ≡ oldest_value_of_run (provenance_line_of_run usage (origin_of_value s usage.used) (first_period s (origin_of_value s usage.used)) f)
    at zero none =
        same_values oldest (oldest_value_of_run (provenance_line_of_run usage (origin_of_value s usage.used) (first_period s (origin_of_value s usage.used)) zero)) (ap (λ (n : NodeId). n.number) g.node)
        (let same = ap (λ (v : PartValue). v.step) (oldest_is s lines (origin_of_value s usage.used) oldest line.count line.period g none) in omega (arith, same)) g.part
    at (suc f) some =
        let p = first_period s (origin_of_value s usage.used) in
        let product : (suc (suc f) - 1) * cond (suc f == 0) 0 p ≡ g.places * p =
        ap (λ (k : ℕ). (suc (suc f) - 1) * k) (cond-false (suc f == 0) 0 p (ne_eqb (suc f) 0 (λ e. omega (arith, e))))
        ∙ ap (λ (k : ℕ). k * p) (let e : suc (suc f) - 1 ≡ g.places = omega (arith, some) in e) in
        let within = g.within in
        same_values oldest (oldest_value_of_run (provenance_line_of_run usage (origin_of_value s usage.used) p (suc f))) (ap (λ (n : NodeId). n.number) g.node)
        (omega (arith, product, within)) g.part

-- what a search found to follow, by the machine that it was asked of
pub follows_by : (s t : MachineState) (lines : List ProvenanceLine) (line : ProvenanceLine) (oldest : PartValue) (found o : Option PartValue) → t ≡ s → found ≡ following_value_in_run lines line oldest (next_value_in_run t oldest) → found ≡ o
    → following_value_in_run lines line oldest (next_value_in_run s oldest) ≡ o
follows_by s t lines line oldest found o same is e = ap (λ (z : MachineState). following_value_in_run lines line oldest (next_value_in_run z oldest)) (sym same) ∙ sym is ∙ e
