use Rattle.std.proofs.Common.{length}
use Rattle.ga_json.proofs.Says.{SaysUpTo}
use Rattle.ga_json.specs.Diagnostics.{diagnostics_json}
use Rattle.ga_json.proofs.diagnostics.write_diagnostics.Given as goal

abbrev pub invariant-lines : goal.invariant-lines
invariant-lines g l = SaysUpTo g.W.Write.contents l.fn.writer l.writer (diagnostics_json l.file l.text) (diagnostics_json l.file l.rest)

abbrev pub decreases-lines : goal.decreases-lines
decreases-lines g l = length l.rest
