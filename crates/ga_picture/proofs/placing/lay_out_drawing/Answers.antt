use Rattle.std.proofs.Common.{◌≡◌, ◌+◌, ◌<◌, true, false, length, refl, sym, ap, ◌∙◌, subst, arith}
use Rattle.std.proofs.lemmas.List.{get_or_default}
use Rattle.ga_causal.specs.Dependence.{event_with_look_touches_node}
use Rattle.ga_picture.specs.declared.item.PictureItem.{PictureItem}
use Rattle.ga_picture.specs.declared.placing.PictureRow.{PictureRow}
use Rattle.ga_picture.specs.Drawing.{IsShapeOfEvent, IsPictureRow}
use Rattle.ga_picture.specs.Items.{acting_node_of_event, picture_item_at_index, default_picture_item, IsOwnEventIfPlain, run_length_before, run_event_count_before, run_event_count_after, folded_event_count_at, row_event_positions_below}
use Rattle.ga_picture.specs.inner.{run_length_in_shade}
use Rattle.ga_picture.proofs.Listed.{touched_below}
use Rattle.ga_picture.proofs.Running.{before_first, before_more, behind_few, count_few}
use Rattle.ga_picture.proofs.Laid.{AreLaid, laid_none, laid_more, laid_same, steps_are, row_is, is_in, steps_shown}
use Rattle.ga_picture.proofs.placing.lay_out_drawing.Goals.{then-has_event_own_row+in_ok-push, else-has_event_own_row}
use Rattle.ga_picture.proofs.placing.lay_out_drawing.Goals as goal

pub items-init : goal.items-init
items-init c = record {
  runs = before_first c.args.items.now c.new-runs.result c.new-runs.ensures.sizes c.new-runs.ensures.none;
  laid = laid_none c.args.items.now c.args.fold c.in_ok-nodes.field-0.nodes.items c.new-rows.result.items c.new-rows.ensures.items;
}

pub folded_event_count-steps-requires : goal.folded_event_count-steps-requires
folded_event_count-steps-requires c =
    let items = c.args.items.now in
    let place = c.items.place in
    let within : place < length items = omega arith in
    let size : length c.in_ok-behind.behind.items ≡ length items = c.in_ok-behind.ensures.size in
    let near : place < length c.in_ok-behind.behind.items = omega arith in
    let behind : c.index.result.now ≡ run_event_count_after items place =
    c.index.ensures ∙ get_or_default c.in_ok-behind.behind.items place c.index.result.now 0 near ∙ c.in_ok-behind.ensures.exact place within in
    omega (arith, count_few c.items.runs c.acting_node_of_event.result.number c.index-items-place.result.shade place c.items.invariant.runs.within, behind_few items place within)

pub pass-requires-clause-few : goal.pass-requires-clause-few
pass-requires-clause-few c = λ n. omega (arith, c.items.invariant.runs.within n)

pub pass-requires-clause-simple : goal.pass-requires-clause-simple
pass-requires-clause-simple c =
    let within : c.items.place < length c.args.items.now = omega arith in
    subst IsOwnEventIfPlain (sym c.index-items-place.is) (c.requires.simple c.items.place c.index-items-place.result within)

pub items-preserved : goal.items-preserved
items-preserved c =
    let items = c.args.items.now in
    let place = c.items.place in
    let fold = c.args.fold in
    let lines = c.in_ok-nodes.field-0.nodes.items in
    let item = c.index-items-place.result in
    let before = c.count-before.result in
    let steps = c.folded_event_count-steps.result in
    let within : place < length items = omega arith in
    let here : picture_item_at_index items place ≡ item = get_or_default items place default_picture_item item within ∙ sym c.index-items-place.is in
    let simple : IsOwnEventIfPlain item = subst IsOwnEventIfPlain (sym c.index-items-place.is) (c.requires.simple place item within) in
    let node : acting_node_of_event item.cause.event < 144 = subst (λ z. z < 144) c.acting_node_of_event.ensures c.acting_node_of_event.result.in_range in
    let size : length c.in_ok-behind.behind.items ≡ length items = c.in_ok-behind.ensures.size in
    let near : place < length c.in_ok-behind.behind.items = omega arith in
    let behind : c.index.result.now ≡ run_event_count_after items place =
    c.index.ensures ∙ get_or_default c.in_ok-behind.behind.items place c.index.result.now 0 near ∙ c.in_ok-behind.ensures.exact place within in
    let front : before ≡ run_event_count_before items place =
    c.count-before.ensures ∙ ap (λ z. run_length_in_shade c.items.runs z item.shade) c.acting_node_of_event.ensures ∙ c.items.invariant.runs.counts (acting_node_of_event item.cause.event) item.shade node
    ∙ ap (λ (z : PictureItem). run_length_before (acting_node_of_event z.cause.event) z.shade items place) (sym here) in
    let many : steps ≡ folded_event_count_at items fold place = steps_are items fold place item before c.index.result.now steps here front behind c.folded_event_count-steps.ensures in
    let has = row_is items fold place item before steps c.has_event_own_row.result here front many c.has_event_own_row.ensures in
    record {
      runs = before_more items place c.items.runs c.pass.new.self item c.items.invariant.runs here c.pass.ensures.sizes
          (c.pass.ensures.within place c.items.invariant.runs.within) (λ n shade l. c.pass.ensures.counts n shade l);
      laid = elim c.if-has_event_own_row.branch [
        | then-has_event_own_row+in_ok-push w ↦ (
            let in_it : item.out ≡ false = is_in item.out _ c.has_event_own_row.result w.if-has_event_own_row.true c.has_event_own_row.ensures in
            let row : PictureRow = record { place = place; shape = w.shape_of.result } in
            let is : IsPictureRow items fold lines row = record {
              shape = subst (λ (z : PictureItem). IsShapeOfEvent z.cause lines w.shape_of.result) (sym here) (w.shape_of.ensures.drawn lines
                  (λ n t. c.in_ok-nodes.ensures.found n (touched_below item.cause.event n t)
                  (c.touched_by.ensures.all n place within (ap (λ (z : PictureItem). z.out) here ∙ in_it) (subst (λ (z : PictureItem). event_with_look_touches_node z.cause n ≡ true) (sym here) t))));
              shaded = w.shape_of.ensures.shaded ∙ ap (λ (z : PictureItem). z.shade) (sym here);
              steps = steps_shown item _ steps before c.index.result.now fold simple c.folded_event_count-steps.ensures w.shape_of.ensures.steps w.shape_of.ensures.one ∙ many;
            } in
            subst (λ z. AreLaid items fold lines (place + 1) z) (sym (ap (λ z. z.items) w.rows-is))
            (laid_more items fold lines place c.items.rows.items w.push.new.self.items row c.items.invariant.laid (has ∙ w.if-has_event_own_row.true) refl is w.in_ok-push.ensures.items))
        | else-has_event_own_row w ↦ (
            subst (λ z. AreLaid items fold lines (place + 1) z) (sym (ap (λ z. z.items) w.rows-is))
            (laid_same items fold lines place c.items.rows.items c.items.invariant.laid (has ∙ w.if-has_event_own_row.false)))
      ];
    }

pub returns-clause-drawn : goal.returns-clause-drawn
returns-clause-drawn c =
    let all : c.items.place ≡ length c.args.items.now = omega arith in
    record {
      places = c.items.invariant.laid.places ∙ ap (row_event_positions_below c.args.items.now c.args.fold) all;
      drawn = c.items.invariant.laid.drawn;
      needed = λ line node e. c.touched_by.ensures.needed node.number (c.in_ok-nodes.ensures.needed line node e);
      rising = c.in_ok-nodes.ensures.rising;
    }
