use Rattle.std.proofs.Common.{drop, false}
use Rattle.ga_json.specs.inner.{json_fields_text}
use Rattle.ga_json.proofs.Says.{SaysUpTo}
use Rattle.ga_json.proofs.fields.write_fields.Given as goal

abbrev pub invariant-fields : goal.invariant-fields
invariant-fields g l = SaysUpTo g.W.Write.contents l.fn.writer l.writer (json_fields_text false l.fields) (json_fields_text l.later (drop l.field-index l.fields))
