use Rattle.ga_debug_info.proofs.FieldLemmas.{AreLines}
use Rattle.ga_debug_info.proofs.unrepresented.lines_of.Given as goal

abbrev pub invariant-loop-number : goal.invariant-loop-number
invariant-loop-number l = AreLines l.fn.chip l.text.items l.number
