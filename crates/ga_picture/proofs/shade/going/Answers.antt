use Rattle.std.proofs.Common.{length, ◌∙◌, ap, ◌≡◌}
use Rattle.std.proofs.lemmas.Result.{IfOk-weaker}
use Rattle.ga_causal.specs.Dependence.{dependent_flags}
use Rattle.ga_causal.proofs.Exact.{length-dependent_flags}
use Rattle.ga_picture.proofs.shade.going.Goals as goal

pub returns-in-Some-clause-size : goal.returns-in-Some-clause-size
returns-in-Some-clause-size c = IfOk-weaker c.find_dependents.result
    (λ flags. flags.items ≡ dependent_flags c.args.events.now c.in-Some.place)
    (λ flags. length flags.items ≡ length c.args.events.now)
    (λ flags h. ap length h ∙ length-dependent_flags c.args.events.now c.in-Some.place)
    c.find_dependents.ensures.flags
