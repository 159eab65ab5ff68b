use Rattle.std.proofs.Common.{◌≤◌, ◌∙◌, length, ap, subst, arith}
use Rattle.ga_lab.specs.Machine.{BackwardState}
use Rattle.ga_lab.proofs.Stepping.{kept_count}
use Rattle.ga_lab.proofs.lab.backward.BackwardReader.place.Goals as goal

pub returns-clause-value : goal.returns-clause-value
returns-clause-value c = c.place.ensures.value ∙ ap (λ (t : BackwardState). t.place) c.self.view_is

pub returns-clause-within : goal.returns-clause-within
returns-clause-within c =
    let many = kept_count c.self.inside.chip.now c.self.inside.walk.book in
    subst (λ (t : BackwardState). c.place.result ≤ length t.machine.kept) c.self.view_is (omega (arith, many, c.place.ensures.within))
