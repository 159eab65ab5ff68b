use Rattle.std.proofs.Common.{◌≡◌, ℕ, ◌+◌, ◌-◌, length, arith, ap, sym, subst, ◌∙◌}
use Rattle.std.proofs.lemmas.List.{length-map}
use Rattle.ga_node.specs.Record.{HasValidListSizes, record_of_node}
use Rattle.ga_lab.specs.Machine.{chip_of_machine}
use Rattle.ga_provenance.specs.inner.{HasMachineAllNodes}
use Rattle.ga_provenance.specs.Origins.{node_after_steps}
use Rattle.ga_provenance.proofs.Made.{stood_of}
use Rattle.ga_provenance.proofs.Ran.{whole_machine}
use Rattle.ga_provenance.proofs.Words.{sizes_before}
use Rattle.ga_explorer_text.proofs.Words.{word_there}
use Rattle.ga_explorer_text.proofs.source_suffix.StepContext.word_of_use.Goals as goal

pub word_after_steps-requires : goal.word_after_steps-requires
word_after_steps-requires c = omega (arith, c.min.ensures, c.steps-steps.ensures.steps)

pub returns : goal.returns
returns c =
    let s = c.args.self.now.lab.now in
    let used = c.args.used in
    let n = used.node.number in
    let steps = c.steps-steps.result in
    let place = c.min.result in
    let whole : HasMachineAllNodes s = whole_machine s (chip_of_machine s) c.chip.ensures.replays (sym (ap length c.chip.ensures.value) ∙ length-map c.chip.result.now record_of_node ∙ c.node.ensures.size) in
    let there = stood_of s used.node c.walk_node_from_step.result steps (record_of_node c.node-2.result.now) c.walk_node_from_step.ensures (omega (arith, c.steps-steps.ensures.steps)) c.node-2.ensures in
    let now : HasValidListSizes (node_after_steps s n steps) = subst HasValidListSizes there c.has_valid_list_sizes.ensures.lists in
    let before : HasValidListSizes (node_after_steps s n (place + (steps - place))) =
    subst (λ (z : ℕ). HasValidListSizes (node_after_steps s n z)) (let e : steps ≡ place + (steps - place) = omega (arith, c.min.ensures) in e) now in
    c.word_after_steps.ensures
    ∙ word_there s used place steps whole c.min.ensures c.steps-steps.ensures.steps c.steps-steps.ensures.told c.requires.part
    (sizes_before s n place (steps - place) whole (omega (arith, c.min.ensures, c.steps-steps.ensures.told)) before) c.requires.apart
