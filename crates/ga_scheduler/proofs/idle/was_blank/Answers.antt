use Rattle.std.proofs.Common.{◌≡◌, refl, sym, ap, ◌∙◌}
use Rattle.ga_node.specs.Record.{record_of_node, record_at_load_defaults}
use Rattle.ga_grid.specs.Chip.{node_record_at}
use Rattle.ga_scheduler.proofs.idle.was_blank.Goals as goal

pub returns-in-Some : goal.returns-in-Some
returns-in-Some c =
    let here : record_of_node c.in-Some.at ≡ node_record_at c.args.lab.now.load c.args.node.number = c.in-Some.ensures.value 0 refl in (
      λ t. sym here ∙ c.is_fresh.ensures.0 t ∙ ap record_at_load_defaults c.initial_p.ensures.value,
      λ e. c.is_fresh.ensures.1 (here ∙ e ∙ ap record_at_load_defaults (sym c.initial_p.ensures.value)),
    )
