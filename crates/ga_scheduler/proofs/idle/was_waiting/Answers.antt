use Rattle.std.proofs.Common.{◌≡◌, refl, sym, ap, ◌∙◌}
use Rattle.ga_node.specs.Record.{record_of_node}
use Rattle.ga_grid.specs.Chip.{node_record_at}
use Rattle.ga_scheduler.specs.Idle.{record_of_unloaded_waiting_node}
use Rattle.ga_scheduler.proofs.idle.was_waiting.Goals as goal

pub returns-in-Some : goal.returns-in-Some
returns-in-Some c =
    let here : record_of_node c.in-Some.at ≡ node_record_at c.args.lab.now.load c.args.node.number = c.in-Some.ensures.value 0 refl in (
      λ t. sym here ∙ c.is_waiting.ensures.0 t ∙ ap record_of_unloaded_waiting_node c.initial_p.ensures.value,
      λ e. c.is_waiting.ensures.1 (here ∙ e ∙ ap record_of_unloaded_waiting_node (sym c.initial_p.ensures.value)),
    )
