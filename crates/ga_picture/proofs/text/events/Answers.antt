use Rattle.std.proofs.Common.{◌<◌, ◌≤◌, ◌++◌, List, ℕ, length, take, sym, ◌∙◌, ap, subst, arith}
use Rattle.std.specs.Prelude.{string_bytes}
use Rattle.ga_picture.specs.declared.placing.PictureRow.{PictureRow}
use Rattle.ga_picture.specs.Drawing.{shade_of_shape}
use Rattle.ga_picture.specs.Picture.{shade_group_tag, row_group_tags}
use Rattle.ga_picture.proofs.Laid.{AreBehind, behind_more, classes_next, classes_all}
use Rattle.ga_picture.proofs.text.events.Goals as goal

abbrev class_at : PictureRow → List ℕ
class_at row = shade_group_tag (shade_of_shape row.shape)

pub rows-preserved : goal.rows-preserved
rows-preserved c =
    let rows = c.args.drawing.now.rows.items in
    let here : c.rows.at < length rows = omega (arith, c.rows-test.true, c.len-at-end.ensures) in
    subst (λ z. AreBehind (string_bytes c.in_ok-text.text) z (string_bytes c.push_str.new.self))
    (sym (classes_next class_at rows c.rows.at c.index-row.result.now here c.index-row.ensures))
    (behind_more (string_bytes c.in_ok-text.text) (row_group_tags (take c.rows.at rows)) (class_at c.index-row.result.now) (string_bytes c.rows.text) (string_bytes c.in_ok-group.group)
    (string_bytes c.push_str.new.self) c.rows.invariant c.in_ok-group.ensures
    (c.in_ok-push_str.ensures.bytes ∙ ap (λ z. string_bytes c.rows.text ++ z) c.as_str.ensures.value))

pub returns : goal.returns
returns c =
    let rows = c.args.drawing.now.rows.items in
    let past : length rows ≤ c.rows.at = omega (arith, c.rows-test.false, c.len-at-end.ensures) in
    let all = classes_all class_at rows c.rows.at (string_bytes c.in_ok-text.text) (string_bytes c.rows.text) past c.rows.invariant in
    (string_bytes c.in_ok-text.text, all.0, all.1, all.2)
