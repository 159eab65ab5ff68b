use Rattle.ga_check_report.proofs.JudgingLemmas.{all_undone, kept_within}
use Rattle.ga_check_report.proofs.judging.judge_and_undo.Goals as goal

pub undo_to-requires : goal.undo_to-requires
undo_to-requires c =
    kept_within c.args.lab.now c.judge.new.lab c.in_ok-outcome.ensures.led.0 c.counts-kept.result.kept c.counts-kept.ensures.kept c.in_ok-outcome.ensures.led.1

pub returns-clause-undone : goal.returns-clause-undone
returns-clause-undone c =
    all_undone c.args.lab.now c.judge.new.lab c.undo_to.new.lab c.in_ok-outcome.ensures.led.0 c.counts-kept.result.kept c.counts-kept.ensures.kept c.in_ok-outcome.ensures.led.1 c.undo_to.ensures
