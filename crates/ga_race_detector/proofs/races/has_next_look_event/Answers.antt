use Rattle.std.proofs.Common.{◌∙◌, ◌||◌, ap, sym}
use Rattle.ga_grid.specs.Chip.{records_of_chip}
use Rattle.ga_race_detector.specs.Races.{is_next_event_look}
use Rattle.ga_race_detector.proofs.Racing.{next_more, next_none}
use Rattle.ga_race_detector.proofs.races.has_next_look_event.Goals.{then-is_next_event_look, else-is_next_event_look}
use Rattle.ga_race_detector.proofs.races.has_next_look_event.Goals as goal

pub nodes-init : goal.nodes-init
nodes-init c = next_none (records_of_chip c.args.chip.now)

pub nodes-preserved : goal.nodes-preserved
nodes-preserved c =
    let chip = records_of_chip c.args.chip.now in
    let more = next_more chip c.nodes.number c.nodes.looks c.is_next_event_look.result c.nodes.invariant (c.is_next_event_look.ensures ∙ ap (is_next_event_look chip) c.new.ensures) in
    elim c.if-is_next_event_look.branch [
      | then-is_next_event_look w ↦ w.looks-is ∙ w.if-is_next_event_look.true ∙ sym (ap (λ b. b || c.nodes.looks) w.if-is_next_event_look.true) ∙ more
      | else-is_next_event_look w ↦ w.looks-is ∙ sym (ap (λ b. b || c.nodes.looks) w.if-is_next_event_look.false) ∙ more
    ]
