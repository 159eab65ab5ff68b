use Rattle.std.proofs.Common.{◌<◌, ◌≤◌, ◌++◌, [], List, ℕ, length, take, sym, ◌∙◌, ap, subst, arith}
use Rattle.std.specs.Prelude.{string_bytes}
use Rattle.ga_picture.specs.declared.race_marks.RaceMark.{RaceMark}
use Rattle.ga_picture.specs.Picture.{race_group_tag, race_group_tags, AreSvgGroups}
use Rattle.ga_picture.proofs.Laid.{AreBehind, behind_more, classes_next, classes_all}
use Rattle.ga_picture.proofs.text.races.Goals as goal

abbrev class_at : RaceMark → List ℕ
class_at mark = race_group_tag

pub marks-preserved : goal.marks-preserved
marks-preserved c =
    let marks = c.args.marks.now in
    let at = c.marks.mark-index in
    let here : at < length marks = omega arith in
    subst (λ z. AreBehind [] z (string_bytes c.push_str.new.self))
    (sym (classes_next class_at marks at c.mark-item.result here c.mark-item.is))
    (behind_more [] (race_group_tags (take at marks)) race_group_tag (string_bytes c.marks.text) (string_bytes c.in_ok-group.group)
    (string_bytes c.push_str.new.self) c.marks.invariant c.in_ok-group.ensures
    (c.in_ok-push_str.ensures.bytes ∙ ap (λ z. string_bytes c.marks.text ++ z) c.as_str.ensures.value))

pub returns : goal.returns
returns c =
    let marks = c.args.marks.now in
    let past : length marks ≤ c.marks.mark-index = omega arith in
    let all = classes_all class_at marks c.marks.mark-index [] (string_bytes c.marks.text) past c.marks.invariant in
    subst (λ z. AreSvgGroups (race_group_tags marks) z) (sym all.2) all.1
