use Rattle.std.proofs.Common.{◌≡◌, ◌<◌, ◌≤◌, ◌-◌, ◌⊎◌, inl, inr, ℕ, List, length, length-drop, drop, sym, ap, ◌∙◌, arith}
use Rattle.std.specs.Prelude.{min}
use Rattle.std.proofs.lemmas.Bool.{cases_lt}
use Rattle.std.proofs.lemmas.List.{drop_all, take_all}
use Rattle.ga_explorer_json.proofs.source.after_mark.Goals as goal

dropped : (text : List ℕ) (k : ℕ) → k ≡ min (length text) 3 → drop k text ≡ drop 3 text
dropped text k e = by_length (cases_lt (length text) 3)
  where
    by_length : (length text < 3) ⊎ (3 ≤ length text) → drop k text ≡ drop 3 text
    by_length (inl l) = drop_all k text (omega (arith, e, l)) ∙ sym (drop_all 3 text (omega (arith, l)))
    by_length (inr l) = ap (λ (m : ℕ). drop m text) (let f : k ≡ 3 = omega (arith, e, l) in f)

pub returns : goal.returns
returns c =
    let text : List ℕ = c.args.text.now in
    take_all (length text - c.min-mark.result) (drop c.min-mark.result text) (omega (arith, length-drop c.min-mark.result text))
    ∙ dropped text c.min-mark.result c.min-mark.ensures
