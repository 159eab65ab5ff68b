-- The search for the event that broke an expectation.
use Rattle.std.proofs.Common.{◌≡◌, ◌∙◌, ℕ, ◌+◌, ◌<◌, ◌≤◌, max, ◌||◌, Bool, true, false, cond, List, [], ◌∷◌, drop, length, get_or, Option, Some, None, refl, sym, ap, arith, add-one}
use Rattle.std.proofs.lemmas.List.{drop_more, drop_all}
use Rattle.std.specs.Prelude.{IfSome, is_some}
use Rattle.ga_grid.specs.declared.node_id.NodeId.{NodeId}
use Rattle.ga_event.specs.Told.{made_event_at_place}
use Rattle.ga_event.specs.declared.made.MadeEvent.{MadeEvent}
use Rattle.ga_lab.specs.Machine.{MachineState, machine_events_with_outcomes, earlier_state}
use Rattle.ga_scheduler.specs.Words.{link_transfer_count}
use Rattle.ga_scheduler.specs.Oldest.{earlier_place}
use Rattle.ga_scheduler.proofs.OldestEvents.{earlier_assoc, earlier_none}
use Rattle.ga_state_conditions.specs.declared.condition.StateCondition.{StateCondition}
use Rattle.ga_state_links.specs.declared.expectation.LinkExpectation.{LinkExpectation}
use Rattle.ga_state_expectations.specs.declared.source.LineExpectation.{LineExpectation}
use Rattle.ga_state_expectations.specs.Violations.{is_unexpected_transfer}
use Rattle.ga_state_expectations.specs.Breaking.{is_unexpected_optional_transfer, is_unexpected_transfer_at, oldest_unexpected_transfer, oldest_event_of_never_condition, oldest_event_of_never, oldest_violation, later_place, place_if_considered, newest_breach, breaks_expectation, breaks_one_expectation, line_broken_by_newest_event}

-- ---- words over a link

pub unexpected_at : (expected : LinkExpectation) (s : MachineState) (n words : ℕ) (m : MadeEvent) (h : Bool) → made_event_at_place (machine_events_with_outcomes s) n ≡ Some m
    → link_transfer_count (earlier_state s (n + 1)) expected.from.number expected.to.number ≡ words → h ≡ is_unexpected_transfer expected words m → is_unexpected_transfer_at expected s n ≡ h
unexpected_at expected s n words m h is count here =
    ap (λ (o : Option MadeEvent). is_unexpected_optional_transfer expected o (earlier_state s (n + 1))) is ∙ ap (λ (k : ℕ). is_unexpected_transfer expected k m) count ∙ sym here

-- one event back
pub one_back : (expected : LinkExpectation) (s : MachineState) (n m : ℕ) (b : Bool) (found old total : Option ℕ) → m + 1 ≡ n → is_unexpected_transfer_at expected s m ≡ b → found ≡ cond b (Some m) None
    → earlier_place (oldest_unexpected_transfer expected s n) old ≡ total → earlier_place (oldest_unexpected_transfer expected s m) (earlier_place found old) ≡ total
one_back expected s n m b found old total e h is same =
    let before : Option ℕ = oldest_unexpected_transfer expected s m in
    let more : oldest_unexpected_transfer expected s n ≡ earlier_place before (cond b (Some m) None) =
    ap (oldest_unexpected_transfer expected s) (sym e ∙ add-one m) ∙ ap (λ (z : Bool). earlier_place before (cond z (Some m) None)) h in
    ap (λ (z : Option ℕ). earlier_place before (earlier_place z old)) is
    ∙ sym (earlier_assoc before (cond b (Some m) None) old)
    ∙ sym (ap (λ (z : Option ℕ). earlier_place z old) more)
    ∙ same

-- no event is left
pub none_left_back : (expected : LinkExpectation) (s : MachineState) (n : ℕ) (old total : Option ℕ) → n ≤ 0 → earlier_place (oldest_unexpected_transfer expected s n) old ≡ total → old ≡ total
none_left_back expected s n old total l same =
    sym (ap (λ (k : ℕ). earlier_place (oldest_unexpected_transfer expected s k) old) (let e : n ≡ 0 = omega (arith, l) in e)) ∙ same

-- ---- conditions that should never hold

pub one_condition_more : (all : List StateCondition) (s : MachineState) (i : ℕ) (old next total : Option ℕ) (d : StateCondition) → i < length all
    → next ≡ earlier_place old (oldest_event_of_never_condition (get_or all i d) s) → earlier_place old (oldest_event_of_never (drop i all) s) ≡ total
    → earlier_place next (oldest_event_of_never (drop (i + 1) all) s) ≡ total
one_condition_more all s i old next total d l e same =
    let here : Option ℕ = oldest_event_of_never_condition (get_or all i d) s in
    let rest : Option ℕ = oldest_event_of_never (drop (i + 1) all) s in
    let parts : oldest_event_of_never (drop i all) s ≡ earlier_place here rest = ap (λ z. oldest_event_of_never z s) (drop_more all i d l) in
    ap (λ (z : Option ℕ). earlier_place z rest) e ∙ earlier_assoc old here rest ∙ sym (ap (λ (z : Option ℕ). earlier_place old z) parts) ∙ same

pub no_condition_more : (all : List StateCondition) (s : MachineState) (i : ℕ) (old total : Option ℕ) → length all ≤ i → earlier_place old (oldest_event_of_never (drop i all) s) ≡ total → old ≡ total
no_condition_more all s i old total l same = sym (earlier_none old) ∙ sym (ap (λ z. earlier_place old (oldest_event_of_never z s)) (drop_all i all l)) ∙ same

-- ---- the newest breach

pub later_none : (o : Option ℕ) → later_place o None ≡ o
later_none None = refl
later_none (Some x) = refl

pub later_assoc : (a b c : Option ℕ) → later_place (later_place a b) c ≡ later_place a (later_place b c)
later_assoc None b c = refl
later_assoc (Some x) None c = refl
later_assoc (Some x) (Some y) None = refl
later_assoc (Some x) (Some y) (Some z) = ap (λ (n : ℕ). Some n) (let e : max (max x y) z ≡ max x (max y z) = omega arith in e)

pub one_line_more : (all : List LineExpectation) (only : Option NodeId) (s : MachineState) (i : ℕ) (old next total : Option ℕ) (d : LineExpectation) → i < length all
    → next ≡ later_place old (place_if_considered only s (oldest_violation (get_or all i d).expectation s)) → later_place old (newest_breach (drop i all) only s) ≡ total
    → later_place next (newest_breach (drop (i + 1) all) only s) ≡ total
one_line_more all only s i old next total d l e same =
    let here : Option ℕ = place_if_considered only s (oldest_violation (get_or all i d).expectation s) in
    let rest : Option ℕ = newest_breach (drop (i + 1) all) only s in
    let parts : newest_breach (drop i all) only s ≡ later_place here rest = ap (λ z. newest_breach z only s) (drop_more all i d l) in
    ap (λ (z : Option ℕ). later_place z rest) e ∙ later_assoc old here rest ∙ sym (ap (λ (z : Option ℕ). later_place old z) parts) ∙ same

pub no_line_more : (all : List LineExpectation) (only : Option NodeId) (s : MachineState) (i : ℕ) (old total : Option ℕ) → length all ≤ i → later_place old (newest_breach (drop i all) only s) ≡ total → old ≡ total
no_line_more all only s i old total l same = sym (later_none old) ∙ sym (ap (λ z. later_place old (newest_breach z only s)) (drop_all i all l)) ∙ same

-- a bound of two places is one of the later
pub later_within : (a b : Option ℕ) (n : ℕ) → IfSome a (λ p. p < n) → IfSome b (λ p. p < n) → IfSome (later_place a b) (λ p. p < n)
later_within None b n h k = k
later_within (Some x) None n h k = h
later_within (Some x) (Some y) n h k = omega (arith, h, k)

-- ---- the line of the first expectation that the newest event broke

pub broken_by_line : (all : List LineExpectation) (s : MachineState) → breaks_one_expectation all s ≡ is_some (line_broken_by_newest_event all s)
broken_by_line [] s = refl
broken_by_line (one ∷ others) s = go (breaks_expectation one.expectation s) (broken_by_line others s)
  where
    go : (b : Bool) → breaks_one_expectation others s ≡ is_some (line_broken_by_newest_event others s)
        → (b || breaks_one_expectation others s) ≡ is_some (cond b (Some one.line) (line_broken_by_newest_event others s))
    go true rest = refl
    go false rest = rest
