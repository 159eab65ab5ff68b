use Rattle.std.proofs.lemmas.List.{get_or-replicate, length-replicate}
use Rattle.std.proofs.Common.{ℕ}
use Rattle.ga_picture.proofs.Running.{none_counted}
use Rattle.ga_picture.proofs.independent.NodeActivity.new.Goals as goal

pub returns-clause-none : goal.returns-clause-none
returns-clause-none c = record { steps = λ n l. get_or-replicate 144 n 0 0 l; touched = c.none.ensures; held = c.none-2.ensures; looking = c.none-3.ensures }

pub returns-clause-few : goal.returns-clause-few
returns-clause-few c = record { size = length-replicate {A = ℕ} 144 0; few = none_counted }
