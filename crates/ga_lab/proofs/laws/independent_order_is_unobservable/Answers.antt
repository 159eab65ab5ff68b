use Rattle.ga_lab.proofs.Alike as Alike
use Rattle.ga_lab.proofs.Again.{some_reached}
use Rattle.ga_lab.proofs.laws.independent_order_is_unobservable.Goals as goal

pub returns-clause-chip : goal.returns-clause-chip
returns-clause-chip c = Alike.same_chip

pub returns-clause-account : goal.returns-clause-account
returns-clause-account c s z n h = Alike.same_account s z n (some_reached s h)

pub returns-clause-history : goal.returns-clause-history
returns-clause-history c s z n h = Alike.same_history s z n (some_reached s h)

pub returns-clause-step : goal.returns-clause-step
returns-clause-step c = Alike.same_step

pub returns-clause-rollback : goal.returns-clause-rollback
returns-clause-rollback c s z n k h = Alike.same_rewind s z n k (some_reached s h)
