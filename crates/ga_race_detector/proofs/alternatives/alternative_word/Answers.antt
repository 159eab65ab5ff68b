use Rattle.std.proofs.Common.{◌≡◌, ℕ, Option, Some, slice_index, take, ◌∙◌, ap, subst}
use Rattle.ga_node.specs.Record.{NodeRecord, record_of_node}
use Rattle.ga_grid.specs.Chip.{node_record_at}
use Rattle.ga_event.specs.Apply.{replay}
use Rattle.ga_lab.specs.Machine.{MachineState, chip_of_machine, earlier_state, state_after_rewind}
use Rattle.ga_race_detector.specs.Races.{word_offered_by_neighbour, word_offered_over_side}
use Rattle.ga_race_detector.proofs.Standing.{IsBehind, is_rewound}
use Rattle.ga_race_detector.proofs.alternatives.alternative_word.Goals as goal

-- src/others.rt:49:1
pub returns-in-Some-clause-word : goal.returns-in-Some-clause-word
returns-in-Some-clause-word c =
    let s = c.args.lab.now in
    let n = c.args.node.number in
    let k = c.args.step in
    let m = c.in-Some.other.number in
    let side = c.args.side in
    let same = c.forecast_rollback.ensures.same in
    let all : (place : ℕ) → replay s.load (take place s.kept) ≡ Some (chip_of_machine (earlier_state s place)) =
    subst (λ (z : MachineState). (place : ℕ) → replay z.load (take place z.kept) ≡ Some (chip_of_machine (earlier_state z place))) same c.behind-reader.ensures.replays in
    let reader = is_rewound s n k n (slice_index c.in-Ok.going.steps n) (record_of_node c.behind-reader.result) all (c.in-Ok.ensures.steps n)
    (subst (λ (z : MachineState). IsBehind z (slice_index c.in-Ok.going.steps n) n (record_of_node c.behind-reader.result)) same c.behind-reader.ensures.value) in
    let writer = is_rewound s n k m (slice_index c.in-Ok.going.steps m) (record_of_node c.behind-writer.result) all (c.in-Ok.ensures.steps m)
    (subst (λ (z : MachineState). IsBehind z (slice_index c.in-Ok.going.steps m) m (record_of_node c.behind-writer.result)) same c.behind-writer.ensures.value) in
    c.word_offered_over_side.ensures.value
    ∙ ap (λ (z : NodeRecord). word_offered_over_side z (record_of_node c.behind-writer.result) side) reader
    ∙ ap (λ (z : NodeRecord). word_offered_over_side (node_record_at (chip_of_machine (state_after_rewind s n k)) n) z side) writer
    ∙ ap (λ (o : Option ℕ). word_offered_by_neighbour (chip_of_machine (state_after_rewind s n k)) n side o) c.in-Some.ensures.value
