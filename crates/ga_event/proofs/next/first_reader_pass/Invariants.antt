use Rattle.std.proofs.Common.{◌≡◌, drop}
use Rattle.ga_grid.specs.Chip.{records_of_chip}
use Rattle.ga_event.specs.Next.{first_pass_over_sides, first_reader_pass}
use Rattle.ga_event.proofs.next.first_reader_pass.Given as goal

-- no pass is ready over the sides so far
abbrev pub invariant-loop-side : goal.invariant-loop-side
invariant-loop-side l = first_pass_over_sides (records_of_chip l.chip) l.reader l.sides (drop l.side-index l.side-items) ≡ first_reader_pass (records_of_chip l.chip) l.reader l.sides
