use Rattle.std.proofs.Common.{sym, subst, ap, ◌∙◌, Result, Ok, Err}
use Rattle.std.specs.Prelude.{IfOk}
use Rattle.std.specs.List.{All}
use Rattle.std.proofs.lemmas.Result.{IfOk-weaker}
use Rattle.ga_causal.specs.Dependence.{is_node_flagged}
use Rattle.ga_picture.specs.Drawing.{IsDrawingOfItems}
use Rattle.ga_picture.specs.Picture.{IsPictureOfEvents, is_node_ready}
use Rattle.ga_picture.specs.Items.{IsOwnEventIfPlain}
use Rattle.ga_picture.proofs.Listed.{drawn_simple}
use Rattle.ga_picture.proofs.view.drawn.Goals as goal

both_ok : {X Y : Type 0} (r : Result X Y) (P Q : X → Type 0) → IfOk r P → IfOk r Q → IfOk r (λ x. P x × Q x)
both_ok (Ok x) P Q p q = (p, q)
both_ok (Err y) P Q p q = p

pub lay_out_drawing-requires : goal.lay_out_drawing-requires
lay_out_drawing-requires c = record {
  simple = subst (λ z. All IsOwnEventIfPlain z) (sym c.as_slice-2.ensures.value)
      (drawn_simple c.as_slice.result.now (is_node_flagged c.ready_nodes-ready.result) (is_node_flagged c.find_idle_nodes-idle.result) c.args.view _ _ c.in_ok-items.ensures);
}

pub returns : goal.returns
returns c =
    let a = c.in_ok-items.ensures in
    IfOk-weaker c.lay_out_drawing.result _ _
    (λ drawing d. record {
      ready = is_node_flagged c.ready_nodes-ready.result;
      are_ready = λ n l. c.ready_nodes-ready.ensures n l ∙ ap (λ z. is_node_ready z n) c.chip.ensures.value;
      idle = is_node_flagged c.find_idle_nodes-idle.result;
      are_idle = c.find_idle_nodes-idle.ensures;
      drawn = subst (λ z. IsPictureOfEvents z (is_node_flagged c.ready_nodes-ready.result) (is_node_flagged c.find_idle_nodes-idle.result) c.args.view drawing)
          (c.as_slice.ensures.value ∙ c.in_ok-causes.ensures.kept) (record {
            shades = a.shades;
            shaded = a.shaded;
            alone = a.listed.alone;
            are_alone = a.listed.are_alone;
            told = d.1 ∙ a.listed.tells;
            drawn = subst (λ z. IsDrawingOfItems z c.args.view.fold drawing) (c.as_slice-2.ensures.value ∙ a.listed.are) d.0;
          });
    })
    (both_ok c.lay_out_drawing.result _ _ c.lay_out_drawing.ensures.drawn c.lay_out_drawing.ensures.told)
