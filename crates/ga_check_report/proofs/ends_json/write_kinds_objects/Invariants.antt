use Rattle.std.proofs.Common.{drop}
use Rattle.ga_json.proofs.Says.{SaysUpTo}
use Rattle.ga_check_report.specs.EndJson.{end_kinds_objects}
use Rattle.ga_check_report.proofs.ends_json.write_kinds_objects.Given as goal

abbrev pub invariant-kinds : goal.invariant-kinds
invariant-kinds g l =
    SaysUpTo g.W.Write.contents l.fn.writer l.writer (end_kinds_objects l.file l.found.decisions 0 l.kinds) (end_kinds_objects l.file l.found.decisions l.place (drop l.place l.kinds))
