use Rattle.std.proofs.Common.{sym, subst}
use Rattle.ga_state_expectations.specs.declared.source.Expectation.{Expectation}
use Rattle.ga_check_report.specs.inner.{IsNeverOfConditions}
use Rattle.ga_check_report.proofs.breach_session.tell_never.Goals as goal

pub tell_by_event-requires-clause-said : goal.tell_by_event-requires-clause-said
tell_by_event-requires-clause-said g c =
    subst (λ (e : Expectation). IsNeverOfConditions c.as_slice-listed.result.now e) (sym c.requires.said) (sym c.as_slice-listed.ensures.value)
