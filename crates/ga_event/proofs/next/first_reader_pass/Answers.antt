use Rattle.std.proofs.Common.{sym, ◌∙◌}
use Rattle.ga_grid.specs.Chip.{records_of_chip}
use Rattle.ga_event.proofs.Nexts.{first_pass_over_sides-skip}
use Rattle.ga_event.proofs.next.first_reader_pass.Goals as goal

pub loop-side-preserved : goal.loop-side-preserved
loop-side-preserved c =
    sym (first_pass_over_sides-skip (records_of_chip c.args.chip.now) c.args.reader c.args.sides _ c.loop-side.side-index c.loop-side-test.true (sym c.reader_pass_over_set.ensures ∙ c.in_default.is))
    ∙ c.loop-side.invariant
