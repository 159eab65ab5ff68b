use Rattle.std.proofs.Common.{◌≡◌, Some, sym, ◌∙◌, ap, subst, arith}
use Rattle.ga_image.specs.Spelling.{line_form, Words}
use Rattle.ga_image.specs.inner.{form_of_parsed_line, AreFieldWords}
use Rattle.ga_image.proofs.Spelled.{form_spelled}
use Rattle.ga_image.proofs.Spellings.{codes_spelled, behind}
use Rattle.ga_image.proofs.parser.Parser.read_line.Goals as goal

pub read_field-requires : goal.read_field-requires
read_field-requires c =
    let meaning : line_form c.args.text.now ≡ Some (Words c.in-Words.field c.in-Words.words.items) = sym c.in-Some.ensures ∙ ap (λ l. Some (form_of_parsed_line l)) c.in-Words.is in
    let codes = codes_spelled c.args.text.now c.in-Words.field c.in-Words.words.items (form_spelled c.args.text.now (Words c.in-Words.field c.in-Words.words.items) meaning) in
    record {
      few = omega arith;
      codes = subst (AreFieldWords c.in-Words.field) (sym c.as_slice.ensures.value) codes;
      «open» = behind c.args.self.now.stage c.in_default.not-Header c.in_default-stage.not-Ended;
    }
