use Rattle.ga_causal.proofs.Runs.{run_rest}
use Rattle.ga_causal.proofs.Equivalences.{steps_rest, seen_rest}
use Rattle.ga_causal.proofs.laws.rest_after_rollback_replays.Goals as goal

pub returns-clause-told : goal.returns-clause-told
returns-clause-told c = run_rest

pub returns-clause-steps : goal.returns-clause-steps
returns-clause-steps c = steps_rest

pub returns-clause-seen : goal.returns-clause-seen
returns-clause-seen c = seen_rest
