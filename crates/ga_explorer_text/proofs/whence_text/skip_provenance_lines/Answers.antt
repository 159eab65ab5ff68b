use Rattle.std.proofs.Common.{◌≡◌, ◌<◌, ◌≤◌, ◌-◌, ◌⊎◌, inl, inr, ℕ, List, length, length-drop, drop, sym, ap, ◌∙◌, arith}
use Rattle.std.specs.Prelude.{min}
use Rattle.std.proofs.lemmas.Bool.{cases_lt}
use Rattle.std.proofs.lemmas.List.{drop_all, take_all}
use Rattle.ga_explorer_text.proofs.whence_text.skip_provenance_lines.Goals as goal

dropped : {A : Type 0} (xs : List A) (n k : ℕ) → k ≡ min (length xs) n → drop k xs ≡ drop n xs
dropped xs n k e = by_length (cases_lt (length xs) n)
  where
    by_length : (length xs < n) ⊎ (n ≤ length xs) → drop k xs ≡ drop n xs
    by_length (inl l) = drop_all k xs (omega (arith, e, l)) ∙ sym (drop_all n xs (omega (arith, l)))
    by_length (inr l) = ap (λ (m : ℕ). drop m xs) (let f : k ≡ n = omega (arith, e, l) in f)

pub returns : goal.returns
returns c =
    take_all (length c.args.lines.now - c.min-skipped.result) (drop c.min-skipped.result c.args.lines.now) (omega (arith, length-drop c.min-skipped.result c.args.lines.now))
    ∙ dropped c.args.lines.now c.args.skipped c.min-skipped.result c.min-skipped.ensures
