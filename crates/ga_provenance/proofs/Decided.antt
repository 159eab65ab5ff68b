-- The newest step of a node that a value decided; and that it is a cause, as where the value was made.
use Rattle.std.proofs.Common.{◌≡◌, ℕ, zero, suc, ◌<◌, ◌≤◌, ◌%◌, Bool, true, false, [], Some, None, refl, sym, ◌∙◌, ap, subst, arith, inr}
use Rattle.std.specs.Prelude.{Option, option_map, option_and_then, option_to_list, unwrap_or}
use Rattle.std.specs.List.{slice_get, All}
use Rattle.std.proofs.lemmas.List.Elements.{All-head}
use Rattle.std.proofs.lemmas.Option.{same_Some, none-some}
use Rattle.ga_slots.specs.declared.op.Op.{Op}
use Rattle.ga_slots.specs.declared.op.Op.TheVariants as op
use Rattle.ga_slots.specs.Codes.{opcode_of_code}
use Rattle.ga_node.specs.declared.kind.OwnEventKind.{OwnEventKind}
use Rattle.ga_node.specs.declared.kind.OwnEventKind.TheVariants as kind
use Rattle.ga_grid.specs.declared.node_id.NodeId.{NodeId}
use Rattle.ga_event.specs.declared.made.MadeEvent.{MadeEvent}
use Rattle.ga_event.specs.declared.made.MadeEvent.TheVariants.{Own, Pass}
use Rattle.ga_causal.specs.Dependence.{itself, position_of_step}
use Rattle.ga_lab.specs.Machine.{MachineState, machine_events_with_looks, history_of_node}
use Rattle.ga_event.specs.declared.flow.part.NodePart.{NodePart}
use Rattle.ga_event.specs.declared.flow.part.NodePart.TheVariants as part
use Rattle.ga_event.specs.Flow.{ValueFlow, CopiedFromPart, From, IsNodePartInRange, top_data_part, node_part_value}
use Rattle.ga_provenance.specs.declared.value.PartValue.{PartValue}
use Rattle.ga_provenance.specs.declared.deciding.BranchDecision.{BranchDecision}
use Rattle.ga_provenance.specs.Origins.{value_made_by_step, node_after_steps, value_flow_at_step, origin_of_value, IsMovedValue}
use Rattle.ga_provenance.specs.Sources.{source_of_sent_word, IsCauseOfValue, IsLoadedOrCauseOfValue}
use Rattle.ga_provenance.specs.Deciding.{port_code_source, brings_port_code_at, has_port_code, instruction_part_if_port_code, tested_opcode_part, part_tested_by_event, value_that_decided_event, decision_of_step, step_decision, branch_decision_at, newer_decision, newest_decision}
use Rattle.ga_provenance.specs.inner.{IsMadeOwnEventOfKind}
use Rattle.ga_provenance.proofs.Causes.{earlier, earlier_step, named_origin, named_sender}

abbrev some_decision : ℕ → MadeEvent → PartValue → ℕ → PartValue → Option BranchDecision
some_decision step told tested word source = Some (record { step = step; made = told; tested = tested; word = word; source = source })

-- a step of the node's own, with the word that it tested
pub own_so : (s : MachineState) (node : NodeId) (k step word : ℕ) (told : MadeEvent) (kind : OwnEventKind) (at : NodePart) (source : PartValue) → IsMadeOwnEventOfKind kind told → Some at ≡ part_tested_by_event s node k kind
    → step ≡ suc k → word ≡ node_part_value 0 (node_after_steps s node.number k) at → source ≡ origin_of_value s (value_made_by_step node k at)
    → Some (record { step = step; made = told; tested = value_made_by_step node k at; word = word; source = source }) ≡ step_decision s node k told
own_so s node k step word (Own other j ran) kind at source own tested is held from =
    let told : MadeEvent = Own other j ran in
    ap (λ (x : ℕ). some_decision x told (value_made_by_step node k at) word source) is
    ∙ ap (λ (y : ℕ). some_decision (suc k) told (value_made_by_step node k at) y source) held
    ∙ ap (λ (z : PartValue). some_decision (suc k) told (value_made_by_step node k at) (node_part_value 0 (node_after_steps s node.number k) at) z) from
    ∙ ap (λ (o : Option NodePart). option_map (decision_of_step s k told) (option_map (value_made_by_step node k) o)) (tested ∙ ap (part_tested_by_event s node k) (sym own))
own_so s node k step word (Pass w i r j passed) kind at source own tested is held from = absurd own

-- the newest step that brought an instruction word, or an earlier one
pub came_last : (s : MachineState) (n left k : ℕ) (came : Bool) → suc k ≡ left → Some came ≡ brings_port_code_at s n k → came ≡ has_port_code s n left
came_last s n left k came is e = ap (λ (o : Option Bool). unwrap_or o (has_port_code s n k)) e ∙ ap (has_port_code s n) is

pub came_before : (s : MachineState) (n left k : ℕ) → suc k ≡ left → None ≡ brings_port_code_at s n k → has_port_code s n k ≡ has_port_code s n left
came_before s n left k is e = ap (λ (o : Option Bool). unwrap_or o (has_port_code s n k)) e ∙ ap (has_port_code s n) is

-- the last of some steps is it, or an earlier one
pub decided_last : (s : MachineState) (node : NodeId) (left k : ℕ) (d : BranchDecision) → suc k ≡ left → Some d ≡ branch_decision_at s node k → Some d ≡ newest_decision s node left
decided_last s node left k d is e = ap (λ (o : Option BranchDecision). newer_decision o (newest_decision s node k)) e ∙ ap (newest_decision s node) is

pub decided_before : (s : MachineState) (node : NodeId) (left k : ℕ) → suc k ≡ left → None ≡ branch_decision_at s node k → newest_decision s node k ≡ newest_decision s node left
decided_before s node left k is e = ap (λ (o : Option BranchDecision). newer_decision o (newest_decision s node k)) e ∙ ap (newest_decision s node) is

-- ---- causes

code_sent : (told : Option MadeEvent) (flow : ValueFlow) (value : PartValue) → port_code_source told flow ≡ Some value → source_of_sent_word told ≡ Some value
code_sent told (CopiedFromPart part.OutsideWord) value h = h
code_sent told (CopiedFromPart (part.Data at)) value h = absurd (none-some _ h)
code_sent told (CopiedFromPart (part.Return at)) value h = absurd (none-some _ h)
code_sent told (CopiedFromPart (part.Ram at)) value h = absurd (none-some _ h)
code_sent told (CopiedFromPart (part.Rom at)) value h = absurd (none-some _ h)
code_sent told (CopiedFromPart part.A) value h = absurd (none-some _ h)
code_sent told (CopiedFromPart part.B) value h = absurd (none-some _ h)
code_sent told (CopiedFromPart part.P) value h = absurd (none-some _ h)
code_sent told (CopiedFromPart part.I) value h = absurd (none-some _ h)
code_sent told (CopiedFromPart part.Io) value h = absurd (none-some _ h)
code_sent told (CopiedFromPart part.Carry) value h = absurd (none-some _ h)
code_sent told (CopiedFromPart part.Slot) value h = absurd (none-some _ h)
code_sent told (CopiedFromPart part.Wait) value h = absurd (none-some _ h)
code_sent told (CopiedFromPart part.Stop) value h = absurd (none-some _ h)
code_sent told (From parts) value h = absurd (none-some _ h)

-- the step itself, and the value before it
step_named : (s : MachineState) (node : NodeId) (step k place : ℕ) (at : NodePart) → position_of_step (machine_events_with_looks s) node.number step ≡ Some place → k ≤ step
    → IsLoadedOrCauseOfValue s (value_made_by_step node step top_data_part) (value_made_by_step node k at)
step_named s node step k place at is less =
    let asked = value_made_by_step node step top_data_part in
    earlier s asked asked (value_made_by_step node k at) refl less (inr (record { cause = place; effect = place; cause_place = is; effect_place = is; depends = itself }))

-- the value by which it was decided
tested_named : (s : MachineState) (node : NodeId) (step k place : ℕ) (told : MadeEvent) (value : PartValue) → position_of_step (machine_events_with_looks s) node.number step ≡ Some place → suc k ≤ step
    → slice_get (history_of_node s node.number) k ≡ Some told → value_that_decided_event s node k told ≡ Some value → IsLoadedOrCauseOfValue s (value_made_by_step node step top_data_part) value
tested_named s node step k place (Own other j kind) value is less at h = go (part_tested_by_event s node k kind) h
  where
    go : (o : Option NodePart) → option_map (value_made_by_step node k) o ≡ Some value → IsLoadedOrCauseOfValue s (value_made_by_step node step top_data_part) value
    go None e = absurd (none-some _ e)
    go (Some tested) e = subst (IsLoadedOrCauseOfValue s (value_made_by_step node step top_data_part)) (same_Some _ _ e) (step_named s node step k place tested is (omega (arith, less)))
tested_named s node step k place (Pass w i r j word) value is less at h =
    let asked = value_made_by_step node step top_data_part in
    let told = slice_get (history_of_node s node.number) k in
    let sent = code_sent told (value_flow_at_step s node.number k part.I) value h in
    let all = named_sender s asked (value_made_by_step node (suc k) top_data_part) k refl (step_named s node step (suc k) place top_data_part is less) told refl in
    All-head (IsLoadedOrCauseOfValue s asked) value [] (subst (λ (o : Option PartValue). All (IsLoadedOrCauseOfValue s asked) (option_to_list o)) sent all)

-- a step as made, and the value that decided it
record IsToldSo (s : MachineState) (node : NodeId) (k : ℕ) (d : BranchDecision) : Type 0 where
  made : MadeEvent
  value : PartValue
  there : slice_get (history_of_node s node.number) k ≡ Some made
  tested : value_that_decided_event s node k made ≡ Some value
  same : decision_of_step s k made value ≡ d

told_so : (s : MachineState) (node : NodeId) (k : ℕ) (d : BranchDecision) (told : MadeEvent) → slice_get (history_of_node s node.number) k ≡ Some told
    → (o : Option PartValue) → value_that_decided_event s node k told ≡ o → option_map (decision_of_step s k told) o ≡ Some d → IsToldSo s node k d
told_so s node k d told at None tested e = absurd (none-some _ e)
told_so s node k d told at (Some value) tested e = record { made = told; value = value; there = at; tested = tested; same = same_Some _ _ e }

told_decided : (s : MachineState) (node : NodeId) (k : ℕ) (d : BranchDecision) → branch_decision_at s node k ≡ Some d → IsToldSo s node k d
told_decided s node k d h = go (slice_get (history_of_node s node.number) k) refl h
  where
    go : (o : Option MadeEvent) → slice_get (history_of_node s node.number) k ≡ o → option_and_then (step_decision s node k) o ≡ Some d → IsToldSo s node k d
    go None at e = absurd (none-some _ e)
    go (Some told) at e = told_so s node k d told at (value_that_decided_event s node k told) refl e

pub step_cause : (s : MachineState) (node : NodeId) (step k place : ℕ) (d : BranchDecision) → position_of_step (machine_events_with_looks s) node.number step ≡ Some place → k < step → branch_decision_at s node k ≡ Some d
    → IsCauseOfValue s (value_made_by_step node d.step top_data_part) (value_made_by_step node step top_data_part)
step_cause s node step k place d is less h =
    let asked = value_made_by_step node step top_data_part in
    let told = told_decided s node k d h in
    let cause = earlier_step s asked asked (value_made_by_step node (suc k) top_data_part) k refl refl (omega (arith, less)) (record { cause = place; effect = place; cause_place = is; effect_place = is; depends = itself }) in
    subst (λ (x : BranchDecision). IsCauseOfValue s (value_made_by_step node x.step top_data_part) asked) told.same cause

pub source_cause : (s : MachineState) (node : NodeId) (step k place : ℕ) (d : BranchDecision) → position_of_step (machine_events_with_looks s) node.number step ≡ Some place → k < step → branch_decision_at s node k ≡ Some d
    → IsLoadedOrCauseOfValue s (value_made_by_step node step top_data_part) d.source
source_cause s node step k place d is less h =
    let asked = value_made_by_step node step top_data_part in
    let told = told_decided s node k d h in
    let named = named_origin s asked told.value (tested_named s node step k place told.made told.value is (omega (arith, less)) told.there told.tested) in
    subst (λ (x : BranchDecision). IsLoadedOrCauseOfValue s asked x.source) told.same named

-- ---- the value that decided a step was only moved since it was made

code_part : (came : Bool) (at : NodePart) → instruction_part_if_port_code came ≡ Some at → IsNodePartInRange at
code_part true at h = subst IsNodePartInRange (same_Some _ _ h) tt
code_part false at h = absurd (none-some _ h)

opcode_part : (s : MachineState) (node : NodeId) (k : ℕ) (o : Op) (at : NodePart) → tested_opcode_part s node k o ≡ Some at → IsNodePartInRange at
opcode_part s node k op.Jump at h = code_part (has_port_code s node.number k) at h
opcode_part s node k op.Call at h = code_part (has_port_code s node.number k) at h
opcode_part s node k op.Return at h = subst IsNodePartInRange (same_Some _ _ h) (omega arith)
opcode_part s node k op.Execute at h = subst IsNodePartInRange (same_Some _ _ h) (omega arith)
opcode_part s node k op.Unext at h = subst IsNodePartInRange (same_Some _ _ h) (omega arith)
opcode_part s node k op.Next at h = subst IsNodePartInRange (same_Some _ _ h) (omega arith)
opcode_part s node k op.If at h = subst IsNodePartInRange (same_Some _ _ h) (omega arith)
opcode_part s node k op.MinusIf at h = subst IsNodePartInRange (same_Some _ _ h) (omega arith)
opcode_part s node k o at h = absurd (none-some _ h)

kind_part : (s : MachineState) (node : NodeId) (k : ℕ) (what : OwnEventKind) (at : NodePart) → part_tested_by_event s node k what ≡ Some at → IsNodePartInRange at
kind_part s node k kind.Fetch at h = absurd (none-some _ h)
kind_part s node k (kind.Run code) at h = opcode_part s node k (opcode_of_code (code % 32)) at h
kind_part s node k kind.Wait at h = absurd (none-some _ h)
kind_part s node k (kind.Stop number) at h = absurd (none-some _ h)

tested_part_of : (s : MachineState) (node : NodeId) (k : ℕ) (told : MadeEvent) (value : PartValue) → value_that_decided_event s node k told ≡ Some value → IsNodePartInRange value.part
tested_part_of s node k (Own other j what) value h = go (part_tested_by_event s node k what) refl h
  where
    go : (o : Option NodePart) → part_tested_by_event s node k what ≡ o → option_map (value_made_by_step node k) o ≡ Some value → IsNodePartInRange value.part
    go None is e = absurd (none-some _ e)
    go (Some at) is e = subst (λ (v : PartValue). IsNodePartInRange v.part) (same_Some _ _ e) (kind_part s node k what at is)
tested_part_of s node k (Pass w i r j word) value h = go (slice_get (history_of_node s node.number) k) (code_sent (slice_get (history_of_node s node.number) k) (value_flow_at_step s node.number k part.I) value h)
  where
    go : (o : Option MadeEvent) → source_of_sent_word o ≡ Some value → IsNodePartInRange value.part
    go None e = absurd (none-some _ e)
    go (Some (Own other j what)) e = absurd (none-some _ e)
    go (Some (Pass w i r j word)) e = subst (λ (v : PartValue). IsNodePartInRange v.part) (same_Some _ _ e) (omega arith)

at_moved : (s : MachineState) (node : NodeId) (k : ℕ) (d : BranchDecision) → branch_decision_at s node k ≡ Some d → IsMovedValue s d.source d.tested
at_moved s node k d h =
    let told = told_decided s node k d h in
    subst (λ (x : BranchDecision). IsMovedValue s x.source x.tested) told.same (refl, tested_part_of s node k told.made told.value told.tested)

pub decision_moved : (s : MachineState) (node : NodeId) (left : ℕ) (d : BranchDecision) → newest_decision s node left ≡ Some d → IsMovedValue s d.source d.tested
decision_moved s node zero d h = absurd (none-some _ h)
decision_moved s node (suc k) d h = go (branch_decision_at s node k) refl (λ e. decision_moved s node k d e) h
  where
    go : (o : Option BranchDecision) → branch_decision_at s node k ≡ o → (newest_decision s node k ≡ Some d → IsMovedValue s d.source d.tested) → newer_decision o (newest_decision s node k) ≡ Some d → IsMovedValue s d.source d.tested
    go None is before e = before e
    go (Some other) is before e = at_moved s node k d (is ∙ e)
