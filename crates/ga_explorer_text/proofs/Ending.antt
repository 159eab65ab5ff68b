-- Taking out the nodes that have ended.
use Rattle.std.proofs.Common.{◌≡◌, ℕ, ◌+◌, ◌<◌, Bool, true, false, ◌&&◌, ◌||◌, List, length, set, get_or-set_other, Some, None, true≢false, refl, sym, ◌∙◌, ap, subst, arith, ⊎_elim}
use Rattle.std.specs.Prelude.{Option, not, replicate}
use Rattle.std.proofs.lemmas.Bool.{cases_eq}
use Rattle.std.proofs.lemmas.List.{get_or-replicate}
use Rattle.std.proofs.lemmas.Grind.{get_or-set_at}
use Rattle.ga_ports.specs.declared.side.Side.{Side}
use Rattle.ga_ports.specs.declared.side.Side.TheVariants.{Right, Down, Left, Up}
use Rattle.ga_node.specs.Record.{NodeRecord}
use Rattle.ga_node.specs.declared.wait.Wait.{Wait}
use Rattle.ga_node.specs.declared.wait.Wait.TheVariants as wait
use Rattle.ga_grid.specs.Grid.{neighbour_number}
use Rattle.ga_grid.specs.Chip.{node_record_at}
use Rattle.ga_causal.specs.Dependence.{is_node_flagged}
use Rattle.ga_races.specs.Acts.{awaits_side, IsMarkedSubset}
use Rattle.ga_event.proofs.Nexts.{neighbour_number-within}
use Rattle.ga_explorer_text.specs.Ended.{is_absent_or_ended, awaits_only_ended_on_side, awaits_any_neighbour, awaits_only_ended_nodes, is_ended_wait, has_node_ended, AreMarksClosedUnderEnding, is_not_live_node}

-- where more nodes are marked, more have ended
or_more : (a b c : Bool) → (b ≡ true → c ≡ true) → (a || b) ≡ true → (a || c) ≡ true
or_more true b c more h = refl
or_more false b c more h = more h

and_more : (a b c : Bool) → (b ≡ true → c ≡ true) → (a && b) ≡ true → (a && c) ≡ true
and_more true b c more h = more h
and_more false b c more h = h

more_ended : (marks others : ℕ → Bool) (n : ℕ) (side : Side) (o : Option ℕ) → n < 144 → neighbour_number n side ≡ o → IsMarkedSubset marks others → is_absent_or_ended marks o ≡ true → is_absent_or_ended others o ≡ true
more_ended marks others n side None within near subset h = refl
more_ended marks others n side (Some m) within near subset h = subset m (neighbour_number-within n m side within near) h

more_on : (chip : List NodeRecord) (marks others : ℕ → Bool) (n : ℕ) (side : Side) → n < 144 → IsMarkedSubset marks others
    → awaits_only_ended_on_side chip marks n side ≡ true → awaits_only_ended_on_side chip others n side ≡ true
more_on chip marks others n side within subset h =
    or_more (not (awaits_side (node_record_at chip n).wait side)) _ _ (more_ended marks others n side (neighbour_number n side) within refl subset) h

all_more : (a b x y p q v w : Bool) → (a ≡ true → p ≡ true) → (b ≡ true → q ≡ true) → (x ≡ true → v ≡ true) → (y ≡ true → w ≡ true)
    → (a && (b && (x && y))) ≡ true → (p && (q && (v && w))) ≡ true
all_more true true true true p q v w f g h i t = rw (f refl, g refl, h refl, i refl) refl
all_more false b x y p q v w f g h i t = absurd (true≢false (sym t))
all_more true false x y p q v w f g h i t = absurd (true≢false (sym t))
all_more true true false y p q v w f g h i t = absurd (true≢false (sym t))
all_more true true true false p q v w f g h i t = absurd (true≢false (sym t))

more_awaited : (chip : List NodeRecord) (marks others : ℕ → Bool) (n : ℕ) → n < 144 → IsMarkedSubset marks others → awaits_only_ended_nodes chip marks n ≡ true → awaits_only_ended_nodes chip others n ≡ true
more_awaited chip marks others n within subset h =
    and_more (awaits_any_neighbour chip n) _ _
    (all_more _ _ _ _ _ _ _ _ (more_on chip marks others n Right within subset) (more_on chip marks others n Down within subset)
    (more_on chip marks others n Left within subset) (more_on chip marks others n Up within subset)) h

more_by : (waits : Wait) (a b : Bool) → (a ≡ true → b ≡ true) → is_ended_wait waits a ≡ true → is_ended_wait waits b ≡ true
more_by (wait.Fetch sides) a b more h = refl
more_by (wait.Read sides) a b more h = more h
more_by (wait.Write side) a b more h = absurd (true≢false (sym h))
more_by wait.Nothing a b more h = absurd (true≢false (sym h))

pub more_end : (chip : List NodeRecord) (marks others : ℕ → Bool) (n : ℕ) → n < 144 → IsMarkedSubset marks others → has_node_ended chip marks n ≡ true → has_node_ended chip others n ≡ true
unfolding has_node_ended
more_end chip marks others n within subset h = more_by (node_record_at chip n).wait _ _ (more_awaited chip marks others n within subset) h

-- a node more that has ended, in each closed set
pub one_more_ended : (chip : List NodeRecord) (live : List Bool) (at n : ℕ) (others : ℕ → Bool) → length live ≡ 144 → at ≡ n → n < 144
    → has_node_ended chip (is_not_live_node live) n ≡ true → AreMarksClosedUnderEnding chip others → IsMarkedSubset (is_not_live_node live) others → IsMarkedSubset (is_not_live_node (set live at false)) others
one_more_ended chip live at n others size e l h closed subset = λ m k t. ⊎_elim
    (λ q. subst (λ (z : ℕ). others z ≡ true) (sym (q ∙ e)) (closed n l (more_end chip (is_not_live_node live) others n l subset h)))
    (λ ne. subset m k (sym (ap not (get_or-set_other live at m false false ne)) ∙ t))
    (cases_eq m at)

-- at first none has ended
pub none_ended : (n : ℕ) → n < 144 → is_not_live_node (replicate 144 true) n ≡ true → ⊥
none_ended n l h = true≢false (sym h ∙ ap not (get_or-replicate 144 n true false l))

-- if no live node has ended, the set is closed
pub closed_last : (chip : List NodeRecord) (live : List Bool) → ((n : ℕ) → n < 144 → is_node_flagged live n ≡ true → has_node_ended chip (is_not_live_node live) n ≡ false) → AreMarksClosedUnderEnding chip (is_not_live_node live)
closed_last chip live none n l h = by_mark (is_node_flagged live n) refl
  where
    by_mark : (b : Bool) → is_node_flagged live n ≡ b → is_not_live_node live n ≡ true
    by_mark true e = absurd (true≢false (sym h ∙ none n l e))
    by_mark false e = ap not e

-- the flags below a number are set, and so is one more
pub flagged_more : (flags : List Bool) (number at : ℕ) (b : Bool) (f : ℕ → Bool) → length flags ≡ 144 → number < 144 → at ≡ number → b ≡ f at
    → ((n : ℕ) → n < number → is_node_flagged flags n ≡ f n) → (n : ℕ) → n < number + 1 → is_node_flagged (set flags number b) n ≡ f n
flagged_more flags number at b f size l e is before n k = ⊎_elim
    (λ q. get_or-set_at flags number n b false q (omega (arith, size, l)) ∙ is ∙ ap f (e ∙ sym q))
    (λ ne. get_or-set_other flags number n b false ne ∙ before n (omega (arith, k, ne)))
    (cases_eq n number)
