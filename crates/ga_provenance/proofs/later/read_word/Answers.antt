use Rattle.std.proofs.Common.{◌≡◌, ℕ, ◌+◌, ◌-◌, Some, length, arith, ap, sym, subst, ◌∙◌}
use Rattle.std.proofs.lemmas.List.{length-map}
use Rattle.ga_node.specs.Record.{HasValidListSizes, record_of_node}
use Rattle.ga_event.specs.declared.flow.part.NodePart.TheVariants.{Ram}
use Rattle.ga_event.specs.Flow.{IsNodePartInRange}
use Rattle.ga_lab.specs.Machine.{chip_of_machine}
use Rattle.ga_provenance.specs.Origins.{node_after_steps}
use Rattle.ga_provenance.specs.inner.{HasMachineAllNodes}
use Rattle.ga_provenance.proofs.Made.{stood_of}
use Rattle.ga_provenance.proofs.Ran.{due_told, whole_machine}
use Rattle.ga_provenance.proofs.Words.{own_copied, sizes_before}
use Rattle.ga_provenance.proofs.later.read_word.Goals as goal
use Rattle.ga_provenance.proofs.later.read_word.Goals.{in-Fetch, in-Run}

pub has_read_cell-requires-clause-due : goal.has_read_cell-requires-clause-due
has_read_cell-requires-clause-due c =
    let own = c.in-Own in
    due_told c.args.lab.now c.args.node.number c.args.place own.step own.node own.kind c.in_ok-due.due (sym c.in_ok-kind.ensures ∙ ap Some own.is) c.in_ok-due.ensures

pub returns-in_ok-word : goal.returns-in_ok-word
returns-in_ok-word c =
    let s = c.args.lab.now in
    let n = c.args.node.number in
    let place = c.args.place in
    let own = c.in-Own in
    let steps = c.steps-steps.result in
    let whole : HasMachineAllNodes s = whole_machine s (chip_of_machine s) c.chip.ensures.replays (sym (ap length c.chip.ensures.value) ∙ length-map c.chip.result.now record_of_node ∙ c.node.ensures.size) in
    let there = stood_of s c.args.node c.walk_node_from_step.result steps (record_of_node c.node-2.result.now) c.walk_node_from_step.ensures (omega (arith, c.steps-steps.ensures.steps)) c.node-2.ensures in
    let now : HasValidListSizes (node_after_steps s n steps) = subst HasValidListSizes there c.has_valid_list_sizes.ensures.lists in
    let before : HasValidListSizes (node_after_steps s n (place + (steps - place))) =
    subst (λ (z : ℕ). HasValidListSizes (node_after_steps s n z)) (let e : steps ≡ place + (steps - place) = omega (arith, c.if-place-steps.false) in e) now in
    let has : HasValidListSizes (node_after_steps s n place) = sizes_before s n place (steps - place) whole (omega (arith, c.if-place-steps.false, c.steps-steps.ensures.told)) before in
    let inside : IsNodePartInRange c.match-due.part = elim c.match-due.branch [
      | in-Fetch w ↦ subst IsNodePartInRange (sym w.part-is) tt
      | in-Run w ↦ subst IsNodePartInRange (sym w.part-is) (omega arith)
    ] in
    c.in_ok-word.ensures
    ∙ own_copied s n place own.step own.node own.kind whole (sym c.in_ok-kind.ensures ∙ ap Some own.is) has c.match-due.part (Ram c.args.cell) inside c.requires (c.has_read_cell.ensures c.if-has_read_cell.true)
