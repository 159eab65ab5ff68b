use Rattle.std.proofs.Common.{drop}
use Rattle.ga_json.specs.Compact.{escaped_text}
use Rattle.ga_json.proofs.Says.{SaysUpTo}
use Rattle.ga_json.proofs.strings.write_escaped.Given as goal

abbrev pub invariant-bytes : goal.invariant-bytes
invariant-bytes g l = SaysUpTo g.W.Write.contents l.fn.writer l.writer (escaped_text l.text) (escaped_text (drop l.byte-index l.text))
