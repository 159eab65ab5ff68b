use Rattle.std.proofs.Common.{rules, refl, ◌≡◌, ◌<◌, ◌≤◌, length, slice_index_or, subst}
use Rattle.std.specs.Prelude.{Err}
use Rattle.ga_source.specs.declared.group.CellGroup.{CellGroup}
use Rattle.ga_source.specs.Cells.{KeepsOtherCells}
use Rattle.ga_source.specs.inner.{group_uses_cell, IsLoadedGroup}
use Rattle.ga_source.proofs.CellGroups.{all_open, open_more, never_twice}
use Rattle.ga_source.proofs.Held.{rest_both, elsewhere_more, loaded_more, all_read}
use Rattle.ga_source.proofs.loading.load.Goals as goal

pub loop-group-preserved : goal.loop-group-preserved
loop-group-preserved c =
    let groups = c.args.packed.now.groups.items in
    let i = c.loop-group.group-index in
    let group = c.group-item.result in
    let l : c.loop-group.group-index < length c.args.packed.now.groups.items = search rules in
    let is_group : c.group-item.result ≡ slice_index_or c.args.packed.now.groups.items c.loop-group.group-index c.group-item.result = search rules in
    record {
      rest = rest_both c.args.node.now c.loop-group.node c.write_group.new.node c.loop-group.invariant.rest c.in_ok-write_group.ensures.rest;
      elsewhere = elsewhere_more c.args.node.now c.loop-group.node c.write_group.new.node groups i group l c.loop-group.invariant.elsewhere
          (subst (λ (g : CellGroup). KeepsOtherCells (λ cell. group_uses_cell cell g) c.loop-group.node c.write_group.new.node) is_group c.in_ok-write_group.ensures.elsewhere);
      loaded = loaded_more c.loop-group.node c.write_group.new.node c.loop-group.given c.write_group.new.given c.as_slice-labels.result.now groups i group l c.in_ok-write_group.ensures.kept c.loop-group.invariant.loaded
          (subst (λ (g : CellGroup). IsLoadedGroup c.write_group.new.node c.as_slice-labels.result.now c.write_group.new.given g) is_group c.in_ok-write_group.ensures.loaded);
      size = search rules;
      free = λ cells are free. open_more c.loop-group.given c.write_group.new.given cells groups i group are free l is_group c.in_ok-write_group.ensures.given (c.loop-group.invariant.free cells are free);
    }

pub returns-clause-cells_match_requests : goal.returns-clause-cells_match_requests
returns-clause-cells_match_requests c =
    let done : length c.args.packed.now.groups.items ≤ c.loop-group.group-index = search rules in
    c.requires.read c.loop-group.node
    (all_read c.loop-group.node c.args.packed.now.labels.items c.loop-group.given c.args.packed.now.groups.items c.loop-group.group-index done (search rules))

pub loop-group-init : goal.loop-group-init
loop-group-init c = record {
  rest = refl;
  elsewhere = search rules;
  loaded = search rules;
  size = c.none_given-given.ensures.size;
  free = λ cells are free. all_open c.none_given-given.result cells c.none_given-given.ensures.empty;
}

pub returns-in_err-write_group-clause-refused : goal.returns-in_err-write_group-clause-refused
returns-in_err-write_group-clause-refused c =
    let l : c.loop-group.group-index < length c.args.packed.now.groups.items = search rules in
    let is_group : c.group-item.result ≡ slice_index_or c.args.packed.now.groups.items c.loop-group.group-index c.group-item.result = search rules in
    let e : c.from_residual.result ≡ Err c.in_err-write_group.field-0.0 = search rules in
    rw e (λ cells are words free.
    never_twice c.loop-group.given cells c.args.packed.now.groups.items c.loop-group.group-index c.group-item.result are words free l is_group c.loop-group.invariant.size
    c.in_err-write_group.ensures.refused (c.loop-group.invariant.free cells are free))
