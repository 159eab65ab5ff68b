use Rattle.std.specs.Prelude.{not}
use Rattle.std.proofs.Common.{◌≡◌, ◌∙◌, Bool, List, [], true, false, refl, true≢false, sym, rules}
use Rattle.ga_lab.specs.Machine.{MachineState}
use Rattle.ga_picture.specs.declared.view.PictureView.{PictureView}
use Rattle.ga_picture.specs.declared.placing.PictureRow.{PictureRow}
use Rattle.ga_picture.specs.declared.race_marks.RaceMark.{RaceMark}
use Rattle.ga_picture.specs.Picture.{AreRaceMarks}
use Rattle.ga_picture.proofs.view.race_marks.Goals as goal

is_off : (b : Bool) → not b ≡ true → b ≡ false
is_off true h = absurd (true≢false (sym h))
is_off false h = refl

-- without the option there are no marks
none_marked : (s : MachineState) (view : PictureView) (rows : List PictureRow) (marks : List RaceMark) → view.races ≡ false → marks ≡ [] → AreRaceMarks s view rows marks
none_marked s view rows marks off none = record {
  readings = [];
  told = search rules;
  found = λ on. absurd (true≢false (sym on ∙ off));
  are = rw off none;
}

pub returns-then-not-view-clause-ok : goal.returns-then-not-view-clause-ok
returns-then-not-view-clause-ok c = none_marked c.args.lab.now c.args.view c.args.rows.now c.new.result.items (is_off c.args.view.races c.if-not-view.true) c.new.ensures.items
