use Rattle.std.proofs.Common.{ℕ, List, ◌++◌, ◌∙◌, ap, append_assoc}
use Rattle.std.specs.Prelude.{codes, decimal}
use Rattle.ga_check_report.proofs.outcome_text.push_session_option.Goals as goal

pub returns-clause-text : goal.returns-clause-text
returns-clause-text c =
    c.push_number.ensures.text ∙ ap (λ (z : List ℕ). z ++ decimal c.args.number) c.push_text.ensures.text
    ∙ append_assoc c.args.out.now.items (codes ": --session ") (decimal c.args.number)
