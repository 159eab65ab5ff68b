use Rattle.std.proofs.Common.{rules, arith, ◌≡◌, ◌∙◌, ◌<◌, None, ap, refl, length, slice_index_or}
use Rattle.std.proofs.lemmas.Grind.{common_steps}
use Rattle.ga_source.specs.Reading.{next_empty_cell_spot}
use Rattle.ga_source.proofs.Marking.{marked_as}
use Rattle.ga_source.proofs.Grouped.{passed_mark}
use Rattle.ga_source.proofs.packing.Packer.mark.Goals as goal

pub returns : goal.returns
returns c =
    let is_next = c.next_empty_cell_spot-next.ensures.value ∙ ap next_empty_cell_spot c.in_ok-close.ensures.closed.spot_stays in
    let small : c.args.label < length c.close.new.self.labels.items = search rules in
    let unknown : slice_index_or c.close.new.self.labels.items c.args.label None ≡ None = search rules in
    record {
      cell = record {
        slot = first_of (search rules, grind (arith, common_steps));
        size = first_of (search rules, grind (arith, common_steps));
      };
      walked = λ before w. marked_as c.args.self.now c.close.new.self c.next_empty_cell_spot-next.result before c.args.asked c.args.label c.requires.mark c.requires.cell w c.in_ok-close.ensures.closed is_next small unknown _ refl refl (search rules) refl;
      grouped = λ before w g. passed_mark c.args.self.now c.close.new.self before c.args.asked c.args.label c.next_empty_cell_spot-next.result.at c.requires.mark g c.in_ok-close.ensures.closed c.in_ok-close.ensures.gathered unknown _ refl refl refl refl (search rules);
    }
