use Rattle.std.proofs.Common.{◌≡◌, ◌∙◌, ℕ, ◌+◌, ap, sym, subst}
use Rattle.std.specs.Prelude.{is_some}
use Rattle.ga_grid.specs.Chip.{records_of_chip}
use Rattle.ga_lab.specs.Machine.{chip_of_machine, state_after_step, step_answer}
use Rattle.ga_scheduler.specs.inner.{HoldsExactlyReadyNodes, KeepsReadySetRight, IsReadySetRefreshed, newest_event_report}
use Rattle.ga_scheduler.specs.Words.{transfers_over_link_by_event, link_transfer_count}
use Rattle.ga_scheduler.proofs.WordCounts.{counted_step}
use Rattle.ga_scheduler.proofs.Newest.{newest_step}
use Rattle.ga_scheduler.proofs.Stepping.{stepped_ready, answered_ok, answered_err}
use Rattle.ga_scheduler.proofs.running.make.Goals as goal

pub returns-in-Ok-clause-ok : goal.returns-in-Ok-clause-ok
returns-in-Ok-clause-ok c = answered_ok (step_answer c.args.lab.now c.args.node) c.in-Ok.made c.in-Ok.ensures.answer

pub returns-in-Ok-clause-ready : goal.returns-in-Ok-clause-ready
returns-in-Ok-clause-ready c =
    let here : records_of_chip c.chip.result.now ≡ chip_of_machine (state_after_step c.args.lab.now c.args.node) = c.chip.ensures.value ∙ ap chip_of_machine c.in-Ok.ensures.ok in
    subst (λ z. HoldsExactlyReadyNodes (chip_of_machine z) c.refresh.new.ready) (sym c.in-Ok.ensures.ok)
    (stepped_ready c.args.lab.now c.args.node c.in-Ok.made c.args.ready.now c.refresh.new.ready c.requires.replays
    (answered_ok (step_answer c.args.lab.now c.args.node) c.in-Ok.made c.in-Ok.ensures.answer) c.requires.ready
    (subst (λ z. KeepsReadySetRight z c.args.ready.now c.refresh.new.ready) here c.refresh.ensures.kept)
    (subst (λ z. IsReadySetRefreshed z c.in-Ok.made c.refresh.new.ready) here c.refresh.ensures.around))

pub returns-in-Ok-clause-replays : goal.returns-in-Ok-clause-replays
returns-in-Ok-clause-replays c = ap is_some c.chip.ensures.replays

pub returns-in-Err-clause-refused : goal.returns-in-Err-clause-refused
returns-in-Err-clause-refused c = answered_err (step_answer c.args.lab.now c.args.node) c.in-Err.why c.in-Err.ensures.answer

pub returns-in-Ok-clause-words : goal.returns-in-Ok-clause-words
returns-in-Ok-clause-words c =
    subst (λ z. (writer reader : ℕ) → link_transfer_count z writer reader ≡ link_transfer_count c.args.lab.now writer reader + transfers_over_link_by_event writer reader c.in-Ok.made) (sym c.in-Ok.ensures.ok)
    (counted_step c.args.lab.now c.args.node c.in-Ok.made c.requires.replays
    (answered_ok (step_answer c.args.lab.now c.args.node) c.in-Ok.made c.in-Ok.ensures.answer))

pub returns-in-Ok-clause-newest : goal.returns-in-Ok-clause-newest
returns-in-Ok-clause-newest c =
    ap newest_event_report c.in-Ok.ensures.ok
    ∙ newest_step c.args.lab.now c.args.node c.in-Ok.made c.requires.replays
    (answered_ok (step_answer c.args.lab.now c.args.node) c.in-Ok.made c.in-Ok.ensures.answer)
