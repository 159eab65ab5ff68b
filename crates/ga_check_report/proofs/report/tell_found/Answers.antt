use Rattle.ga_check_report.specs.Checking.WritesEndsReport.{all, none}
use Rattle.ga_check_report.proofs.report.tell_found.Goals as goal

pub returns-then-asked-eq0 : goal.returns-then-asked-eq0
returns-then-asked-eq0 g c = λ before held.
    let sent = c.tell_all.ensures before held in
    (sent.0, sent.1, all c.args.found.now c.requires c.if-asked-eq0.true sent.2)

pub returns-else-has_kind : goal.returns-else-has_kind
returns-else-has_kind g c = λ before held.
    let sent = c.tell_none.ensures before held in
    (sent.0, sent.1, none c.args.found.now c.requires (c.has_kind.ensures.missing c.if-has_kind.false) sent.2)
