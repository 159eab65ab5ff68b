use Rattle.std.proofs.Common.{sym, subst}
use Rattle.std.specs.Prelude.{IfNone}
use Rattle.ga_state_ends.specs.Ends.{EndSearchResult}
use Rattle.ga_state_links.specs.Places.{HasNoLinkBreach}
use Rattle.ga_check_report.specs.Outcomes.{IsOutcomeOfSearchFindings, IsLinkWordsBreach}
use Rattle.ga_check_report.proofs.LinkBreaches.{from_load}
use Rattle.ga_check_report.proofs.link_breach.judge_link.Goals as goal

pub link_outcome-requires : goal.link_outcome-requires
link_outcome-requires c =
    subst (λ (f : EndSearchResult). IfNone c.in-Ok.breach (HasNoLinkBreach f c.args.expected.now)) (sym c.find_link_breach.ensures.same) c.in-Ok.ensures.none

pub returns-in-Ok-clause-known : goal.returns-in-Ok-clause-known
returns-in-Ok-clause-known c = λ load are.
    subst (λ (f : EndSearchResult). IsOutcomeOfSearchFindings f (HasNoLinkBreach f c.args.expected.now) (IsLinkWordsBreach load c.args.expected.now) c.link_outcome.result) c.find_link_breach.ensures.same
    (c.link_outcome.ensures load (from_load load c.args.found.now c.args.expected.now c.in-Ok.breach c.in-Ok.ensures.breach are))
