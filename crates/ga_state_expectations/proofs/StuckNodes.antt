-- The first node that should never be stuck, and is deadlocked.
use Rattle.std.proofs.Common.{◌≡◌, ◌∙◌, ℕ, ◌+◌, ◌<◌, ◌≤◌, Bool, true, false, cond, List, drop, length, get_or, Option, Some, None, refl, sym, ap}
use Rattle.std.proofs.lemmas.List.{drop_more, drop_all}
use Rattle.ga_grid.specs.declared.node_id.NodeId.{NodeId}
use Rattle.ga_state_conditions.specs.declared.condition.StateCondition.{StateCondition}
use Rattle.ga_state_conditions.specs.declared.condition.StateCondition.TheVariants.{HoldsAfterEvent, NodeIsStuck}
use Rattle.ga_state_expectations.specs.Statuses.{node_if_stuck, first_stuck_node}

by_mark : (b : Bool) (node n : NodeId) (others : Option NodeId) → cond b (Some node) None ≡ Some n → cond b (Some node) others ≡ Some n
by_mark true node n others h = h
by_mark false node n others h = absurd (cc)

not_by_mark : (b : Bool) (node : NodeId) (others : Option NodeId) → cond b (Some node) None ≡ None → cond b (Some node) others ≡ others
not_by_mark true node others h = absurd (cc)
not_by_mark false node others h = refl

stuck_here : (marks : ℕ → Bool) (one : StateCondition) (others : Option NodeId) (n : NodeId) → node_if_stuck marks one None ≡ Some n → node_if_stuck marks one others ≡ Some n
stuck_here marks (HoldsAfterEvent until) others n h = absurd (cc)
stuck_here marks (NodeIsStuck node) others n h = by_mark (marks node.number) node n others h

stuck_not : (marks : ℕ → Bool) (one : StateCondition) (others : Option NodeId) → node_if_stuck marks one None ≡ None → node_if_stuck marks one others ≡ others
stuck_not marks (HoldsAfterEvent until) others h = refl
stuck_not marks (NodeIsStuck node) others h = not_by_mark (marks node.number) node others h

pub found_here : (marks : ℕ → Bool) (all : List StateCondition) (i : ℕ) (d : StateCondition) (n : NodeId) (total : Option NodeId) → i < length all → Some n ≡ node_if_stuck marks (get_or all i d) None
    → first_stuck_node marks (drop i all) ≡ total → Some n ≡ total
found_here marks all i d n total l here same =
    sym (ap (first_stuck_node marks) (drop_more all i d l) ∙ stuck_here marks (get_or all i d) (first_stuck_node marks (drop (i + 1) all)) n (sym here)) ∙ same

pub none_here : (marks : ℕ → Bool) (all : List StateCondition) (i : ℕ) (d : StateCondition) (total : Option NodeId) → i < length all → None ≡ node_if_stuck marks (get_or all i d) None
    → first_stuck_node marks (drop i all) ≡ total → first_stuck_node marks (drop (i + 1) all) ≡ total
none_here marks all i d total l here same =
    sym (ap (first_stuck_node marks) (drop_more all i d l) ∙ stuck_not marks (get_or all i d) (first_stuck_node marks (drop (i + 1) all)) (sym here)) ∙ same

pub no_more : (marks : ℕ → Bool) (all : List StateCondition) (i : ℕ) (total : Option NodeId) → length all ≤ i → first_stuck_node marks (drop i all) ≡ total → None ≡ total
no_more marks all i total l same = sym (ap (first_stuck_node marks) (drop_all i all l)) ∙ same
