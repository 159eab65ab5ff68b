use Rattle.std.proofs.Common.{◌≤◌, ℕ, ◌-◌, ap, ◌∙◌, arith}
use Rattle.std.specs.List.{slice_get}
use Rattle.ga_node.specs.Record.{NodeRecord, record_of_node}
use Rattle.ga_event.specs.Told.{count_steps}
use Rattle.ga_lab.specs.Machine.{history_of_node}
use Rattle.ga_provenance.specs.Origins.{node_after_steps}
use Rattle.ga_provenance.proofs.Made.{then_of}
use Rattle.ga_explorer_text.specs.Around.{step_registers_text}
use Rattle.ga_explorer_text.proofs.source_suffix.StepContext.place_line.Goals as goal

pub returns-in-Some : goal.returns-in-Some
returns-in-Some c =
    let s = c.args.self.now.lab.now in
    let node = c.args.self.now.node in
    let near = c.args.self.now.near in
    let k : ℕ = c.step-step.result in
    let within : near.step ≤ count_steps near.node.number near.machine.kept = omega (arith, c.step-step.ensures.value, c.step-step.ensures.within) in
    let behind = then_of s node near (record_of_node c.node.result.now) c.args.self.now.stands within c.node.ensures in
    c.step_registers_line.ensures
    ∙ ap (λ o. step_registers_text node k o (record_of_node c.node.result.now)) c.in-Some.ensures
    ∙ ap (λ (n : NodeRecord). step_registers_text node k (slice_get (history_of_node s node.number) (k - 1)) n) behind
    ∙ ap (λ (n : ℕ). step_registers_text node n (slice_get (history_of_node s node.number) (n - 1)) (node_after_steps s node.number near.step)) c.step-step.ensures.value

pub returns-in-None : goal.returns-in-None
returns-in-None c =
    let s = c.args.self.now.lab.now in
    let node = c.args.self.now.node in
    let behind = node_after_steps s node.number c.args.self.now.near.step in
    c.new.ensures
    ∙ ap (λ o. step_registers_text node c.step-step.result o behind) c.in-None.ensures
    ∙ ap (λ (n : ℕ). step_registers_text node n (slice_get (history_of_node s node.number) (n - 1)) behind) c.step-step.ensures.value
