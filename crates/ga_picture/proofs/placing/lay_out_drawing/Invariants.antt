use Rattle.ga_picture.proofs.Running.{AreBefore}
use Rattle.ga_picture.proofs.Laid.{AreLaid}
use Rattle.ga_picture.proofs.placing.lay_out_drawing.Given as goal

abbrev pub invariant-items : goal.invariant-items
invariant-items l = record { runs : AreBefore l.items l.place l.runs; laid : AreLaid l.items l.fn.fold l.nodes.items l.place l.rows.items }
