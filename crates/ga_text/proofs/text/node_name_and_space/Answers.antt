use Rattle.std.proofs.Common.{ℕ, List, [], ◌∷◌, ◌++◌, ap, refl}
use Rattle.ga_text.proofs.DigitLemmas.{name_four, name_blank}
use Rattle.ga_text.proofs.TextLemmas.{name_spelled}
use Rattle.ga_text.proofs.text.node_name_and_space.Goals as goal

pub returns-clause-named : goal.returns-clause-named
returns-clause-named c = λ node e.
    let t = name_four node.number node.in_range in
    rw (← e, t.0, t.1, t.2, t.3) (ap (λ (text : List ℕ). text ++ 32 ∷ []) (name_spelled node))

pub returns-clause-none : goal.returns-clause-none
returns-clause-none c = λ past.
    let t = name_blank c.args.number past c.ranges.number.fits in
    rw (t.0, t.1, t.2, t.3) refl
