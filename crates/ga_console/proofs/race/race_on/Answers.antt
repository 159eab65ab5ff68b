use Rattle.std.proofs.Common.{map, sym, ◌∙◌}
use Rattle.std.proofs.lemmas.List.{length-map}
use Rattle.ga_grid.specs.Chip.{records_of_chip}
use Rattle.ga_console.proofs.Races.{is_race, race_count}
use Rattle.ga_console.proofs.race.race_on.Goals as goal

pub returns-in-Ok-race : goal.returns-in-Ok-race
returns-in-Ok-race g c =
    let load = records_of_chip c.args.chip in
    let lists = c.in-Ok.lists in
    let calls = map (λ v. v.items) lists.items in
    let closed = c.in-Ok-race.closed in
    let size = length-map lists.items (λ v. v.items) ∙ sym lists.ok.0 ∙ c.in-Ok.ensures.count in (
      race_count load c.args.limit c.args.workers c.args.calls calls closed size c.in-Ok.ensures.lists c.in-Ok-race.ensures,
      is_race load c.args.limit c.args.workers c.args.calls calls closed size c.in-Ok.ensures.lists c.in-Ok-race.ensures,
    )
