use Rattle.std.proofs.Common.{sym, subst}
use Rattle.std.specs.Prelude.{IfNone}
use Rattle.ga_lab.specs.Machine.{chip_of_machine}
use Rattle.ga_state_ends.specs.Ends.{EndSearchResult, AreEndsOfChip}
use Rattle.ga_state_links.specs.Places.{HasNoLinkBreach}
use Rattle.ga_check_report.proofs.LinkBreaches.{from_load}
use Rattle.ga_check_report.proofs.link_breach.tell_link.Goals as goal

pub tell_by_breach-requires-clause-breach : goal.tell_by_breach-requires-clause-breach
tell_by_breach-requires-clause-breach g c =
    from_load (chip_of_machine c.args.lab.now) c.args.found.now c.args.expected.now c.in-Ok.breach c.in-Ok.ensures.breach c.requires.ends

pub tell_by_breach-requires-clause-none : goal.tell_by_breach-requires-clause-none
tell_by_breach-requires-clause-none g c =
    subst (λ (f : EndSearchResult). IfNone c.in-Ok.breach (HasNoLinkBreach f c.args.expected.now)) (sym c.find_link_breach.ensures.same) c.in-Ok.ensures.none
