use Rattle.std.specs.Prelude.{codes}
use Rattle.std.proofs.Common.{◌≡◌, ℕ, ◌++◌, ap, ◌∙◌, arith}
use Rattle.ga_word.specs.Word.{hex_digits_of_word}
use Rattle.ga_explorer_text.proofs.passed_text.push_value.Goals as goal

pub returns-clause-text : goal.returns-clause-text
returns-clause-text c =
    let same : c.from_low_bits.result ≡ c.args.value = omega (arith, c.from_low_bits.ensures, c.requires.small) in
    c.push_spaced_word.ensures.text ∙ ap (λ (n : ℕ). c.args.out.now.items ++ (codes " " ++ hex_digits_of_word n)) same
