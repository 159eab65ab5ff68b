use Rattle.ga_source.proofs.Recovering.{one_skipped}
use Rattle.ga_source.proofs.recovery.recover_first.Goals as goal

pub returns-in_ok-push-in-Err-clause-faults : goal.returns-in_ok-push-in-Err-clause-faults
returns-in_ok-push-in-Err-clause-faults c =
    one_skipped c.args.begun.now c.args.words.now c.skipped_length.result c.in-Err.fault c.args.faults.now.items c.push.new.self.items c.in-Err.ensures.refused c.in_ok-push-in-Err.ensures.items c.skipped_length.ensures.left
