-- Steps of a node that hit a breakpoint.
use Rattle.std.proofs.Common.{◌≡◌, ◌∙◌, ℕ, suc, ◌<◌, ◌≤◌, ◌+◌, ◌-◌, Bool, true, false, ◌&&◌, cond, take, Option, Some, None, refl, sym, ap, subst, arith}
use Rattle.std.specs.Int.{from_bool}
use Rattle.ga_node.specs.Record.{NodeRecord}
use Rattle.ga_grid.specs.Chip.{node_record_at}
use Rattle.ga_grid.specs.declared.node_id.NodeId.{NodeId}
use Rattle.ga_event.specs.Told.{count_steps}
use Rattle.ga_lab.specs.Machine.{MachineState, NodeAtStep, node_at_step, chip_of_machine, earlier_state}
use Rattle.ga_provenance.specs.Origins.{node_after_steps}
use Rattle.ga_provenance.proofs.Made.{stood_of}
use Rattle.ga_dap_breakpoints.specs.declared.breakpoint.Breakpoint.{Breakpoint}
use Rattle.ga_dap_breakpoints.specs.declared.condition.HitCondition.{HitCondition}
use Rattle.ga_dap_breakpoints.specs.Conditions.{meets_hit_condition}
use Rattle.ga_dap_breakpoints.specs.Reversing.{is_hit_step, hit_count_among_steps, newest_matching_hit}

-- a node that was walked back
pub stands_so : (s : MachineState) (node : NodeId) (walk : NodeAtStep) (step reached : ℕ) (behind : NodeRecord) → walk ≡ node_at_step s node step → reached ≡ walk.step
    → reached ≤ count_steps walk.node.number walk.machine.kept
    → ((place : ℕ) → count_steps walk.node.number (take place walk.machine.kept) ≡ walk.step → behind ≡ node_record_at (chip_of_machine (earlier_state walk.machine place)) walk.node.number)
    → behind ≡ node_after_steps s node.number step
stands_so s node walk step reached behind at is within h =
    let inside : step ≤ count_steps node.number s.kept =
    subst (λ (z : NodeAtStep). z.step ≤ count_steps z.node.number z.machine.kept) at (subst (λ (z : ℕ). z ≤ count_steps walk.node.number walk.machine.kept) is within) in
    stood_of s node walk step behind at inside h

-- ---- one step more

pub hit_more : (s : MachineState) (node : NodeId) (one : Breakpoint) (step : ℕ) (hit : Bool) → 0 < step → hit ≡ is_hit_step s node one (step - 1)
    → hit_count_among_steps s node one step ≡ hit_count_among_steps s node one (step - 1) + from_bool hit
hit_more s node one step hit some is =
    let k : ℕ = step - 1 in
    let here : step ≡ suc k = omega arith in
    ap (hit_count_among_steps s node one) here ∙ ap (λ (b : Bool). hit_count_among_steps s node one k + from_bool b) (sym is)

pub no_hits : (s : MachineState) (node : NodeId) (one : Breakpoint) (step : ℕ) → step ≡ 0 → hit_count_among_steps s node one step ≡ 0
no_hits s node one step first = ap (hit_count_among_steps s node one) first

asked_so : (hits : Option HitCondition) (a b : ℕ) → ((h : HitCondition) → hits ≡ Some h → a ≡ b) → meets_hit_condition hits a ≡ meets_hit_condition hits b
asked_so None a b f = refl
asked_so (Some h) a b f = ap (meets_hit_condition (Some h)) (f h refl)

newest_so : (s : MachineState) (node : NodeId) (one : Breakpoint) (step number : ℕ) (hit asks : Bool) → 0 < step → hit ≡ is_hit_step s node one (step - 1)
    → asks ≡ (hit && meets_hit_condition one.hits number) → ((h : HitCondition) → one.hits ≡ Some h → number ≡ hit_count_among_steps s node one step)
    → newest_matching_hit s node one step ≡ cond asks (Some step) (newest_matching_hit s node one (step - 1))
newest_so s node one step number hit asks some is asked counted =
    let k : ℕ = step - 1 in
    let here : step ≡ suc k = omega arith in
    let e : k + 1 ≡ step = omega arith in
    let counts : meets_hit_condition one.hits (hit_count_among_steps s node one (k + 1)) ≡ meets_hit_condition one.hits number =
    ap (λ (z : ℕ). meets_hit_condition one.hits (hit_count_among_steps s node one z)) e ∙ sym (asked_so one.hits number (hit_count_among_steps s node one step) counted) in
    ap (newest_matching_hit s node one) here
    ∙ ap (λ (b : Bool). cond (b && meets_hit_condition one.hits (hit_count_among_steps s node one (k + 1))) (Some (k + 1)) (newest_matching_hit s node one k)) (sym is)
    ∙ ap (λ (b : Bool). cond (hit && b) (Some (k + 1)) (newest_matching_hit s node one k)) counts
    ∙ ap (λ (b : Bool). cond b (Some (k + 1)) (newest_matching_hit s node one k)) (sym asked)
    ∙ ap (λ (z : ℕ). cond asks (Some z) (newest_matching_hit s node one k)) e

pub newest_here : (s : MachineState) (node : NodeId) (one : Breakpoint) (step number : ℕ) (hit asks : Bool) → 0 < step → hit ≡ is_hit_step s node one (step - 1)
    → asks ≡ (hit && meets_hit_condition one.hits number) → ((h : HitCondition) → one.hits ≡ Some h → number ≡ hit_count_among_steps s node one step) → asks ≡ true
    → newest_matching_hit s node one step ≡ Some step
newest_here s node one step number hit asks some is asked counted here =
    newest_so s node one step number hit asks some is asked counted ∙ ap (λ (b : Bool). cond b (Some step) (newest_matching_hit s node one (step - 1))) here

pub newest_before : (s : MachineState) (node : NodeId) (one : Breakpoint) (step number : ℕ) (hit asks : Bool) → 0 < step → hit ≡ is_hit_step s node one (step - 1)
    → asks ≡ (hit && meets_hit_condition one.hits number) → ((h : HitCondition) → one.hits ≡ Some h → number ≡ hit_count_among_steps s node one step) → asks ≡ false
    → newest_matching_hit s node one step ≡ newest_matching_hit s node one (step - 1)
newest_before s node one step number hit asks some is asked counted here =
    newest_so s node one step number hit asks some is asked counted ∙ ap (λ (b : Bool). cond b (Some step) (newest_matching_hit s node one (step - 1))) here

pub newest_never : (s : MachineState) (node : NodeId) (one : Breakpoint) (step : ℕ) → step ≡ 0 → newest_matching_hit s node one step ≡ None
newest_never s node one step first = ap (newest_matching_hit s node one) first
