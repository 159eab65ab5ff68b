-- Sides that are read from a text one after another.
use Rattle.std.proofs.Common.{◌≡◌, ◌∙◌, ℕ, zero, suc, false, true, Option, Some, None, Result, Ok, Err, sym, ap}
use Rattle.std.proofs.lemmas.Bool.{cond-true, cond-false}
use Rattle.ga_text.specs.Lines.{Text}
use Rattle.ga_ports.specs.declared.side.Side.{Side}
use Rattle.ga_state_expectations.specs.declared.cause.ExpectationFaultCause.{ExpectationFaultCause}
use Rattle.ga_state_expectations.specs.declared.cause.ExpectationFaultCause.TheVariants.{NoSuchSide, TooManySides}
use Rattle.ga_state_expectations.specs.Spelling.{split_first_word, is_text_without_words, parsed_side_name, side_set_with_side, parsed_sides_after_side, parsed_sides_within}

-- the sides of a text whose first word and others are these
pub first_word : (more sides : ℕ) (text word rest : Text) (side : Option Side) → split_first_word text ≡ (word, rest) → parsed_side_name word ≡ side
    → parsed_sides_within (suc more) sides text ≡ parsed_sides_after_side (parsed_sides_within more) sides side rest
unfolding parsed_sides_within
first_word more sides text word rest side splits is =
    ap (λ (parts : Text × Text). parsed_sides_after_side (parsed_sides_within more) sides (parsed_side_name parts.0) parts.1) splits
    ∙ ap (λ (z : Option Side). parsed_sides_after_side (parsed_sides_within more) sides z rest) is

pub no_side : (more sides : ℕ) (text word rest : Text) (whole : Result ℕ ExpectationFaultCause) → split_first_word text ≡ (word, rest) → parsed_side_name word ≡ None
    → parsed_sides_within (suc more) sides text ≡ whole → whole ≡ Err NoSuchSide
no_side more sides text word rest whole splits is e = sym e ∙ first_word more sides text word rest None splits is

pub last_side : (more sides : ℕ) (text word rest : Text) (side : Side) (whole : Result ℕ ExpectationFaultCause) → split_first_word text ≡ (word, rest)
    → parsed_side_name word ≡ Some side → is_text_without_words rest ≡ true → parsed_sides_within (suc more) sides text ≡ whole → whole ≡ Ok (side_set_with_side sides side)
last_side more sides text word rest side whole splits is none e =
    sym e ∙ (first_word more sides text word rest (Some side) splits is
    ∙ cond-true (is_text_without_words rest) (Ok (side_set_with_side sides side)) (parsed_sides_within more (side_set_with_side sides side) rest) none)

pub next_side : (more sides : ℕ) (text word rest : Text) (side : Side) (whole : Result ℕ ExpectationFaultCause) → split_first_word text ≡ (word, rest)
    → parsed_side_name word ≡ Some side → is_text_without_words rest ≡ false → parsed_sides_within (suc more) sides text ≡ whole
    → parsed_sides_within more (side_set_with_side sides side) rest ≡ whole
next_side more sides text word rest side whole splits is some e =
    sym (first_word more sides text word rest (Some side) splits is
    ∙ cond-false (is_text_without_words rest) (Ok (side_set_with_side sides side)) (parsed_sides_within more (side_set_with_side sides side) rest) some) ∙ e

pub many_sides : (sides : ℕ) (text : Text) (whole : Result ℕ ExpectationFaultCause) → parsed_sides_within zero sides text ≡ whole → whole ≡ Err TooManySides
unfolding parsed_sides_within
many_sides sides text whole e = sym e
