use Rattle.std.proofs.Common.{subst}
use Rattle.std.specs.Prelude.{string_bytes}
use Rattle.ga_picture.specs.Picture.{AreRaceMarks, IsSvgPicture}
use Rattle.ga_picture.proofs.view.written.Goals as goal

pub returns-in-Ok-format_svg-clause-ok : goal.returns-in-Ok-format_svg-clause-ok
returns-in-Ok-format_svg-clause-ok c = record {
  drawing = c.in_ok-drawing.drawing;
  is = c.in_ok-drawing.ensures;
  marks = c.in_ok-marks.marks.items;
  raced = subst (λ z. AreRaceMarks c.args.lab.now c.args.view z c.in_ok-marks.marks.items) c.as_slice.ensures.value c.in_ok-marks.ensures.ok;
  written = subst (λ z. IsSvgPicture c.in_ok-drawing.drawing.rows.items z (string_bytes c.in-Ok-format_svg.text)) c.as_slice-3.ensures.value c.in-Ok-format_svg.ensures;
}
