use Rattle.std.proofs.Common.{length}
use Rattle.ga_scheduler.proofs.Backing.{newest_found, none_found}
use Rattle.ga_scheduler.proofs.laws.back_until_finds_newest.Goals as goal

pub returns-clause-some : goal.returns-clause-some
returns-clause-some c = λ until only s place h. newest_found until only s (length s.kept) place h

pub returns-clause-none : goal.returns-clause-none
returns-clause-none c = λ until only s h. none_found until only s (length s.kept) h
