use Rattle.std.proofs.Common.{rules, ◌≡◌, ◌∙◌, ℕ, Option, ◌<◌, ◌≤◌, None, ap, subst, List, length, slice_index_or}
use Rattle.ga_parser.specs.declared.item.AssemblyItem.{AssemblyItem}
use Rattle.ga_source.specs.inner.{nothing}
use Rattle.ga_parser.specs.declared.item.Operand.TheVariants.{Number}
use Rattle.ga_source.proofs.CellGroups.{given_set, cell_item}
use Rattle.ga_source.proofs.Walking.{nil_of}
use Rattle.ga_source.proofs.Held.{written_first, written_step, written_last, slot_there, empty_loaded}
use Rattle.ga_source.proofs.loading.write_group.Goals as goal

pub returns-then-is_empty-clause-loaded : goal.returns-then-is_empty-clause-loaded
returns-then-is_empty-clause-loaded c =
    let whole : c.args.group.now.broken ≡ None = search rules in
    let size : length c.args.group.now.items.items ≡ 0 = search rules in
    empty_loaded c.args.node.now c.args.labels.now c.args.given.now c.args.group.now whole (nil_of c.args.group.now.items.items size)

pub loop-i-init : goal.loop-i-init
loop-i-init c =
    let some : 0 < length c.args.group.now.items.items = search rules in
    let done = c.in_ok-write.ensures in
    record { writing = written_first c.args.node.now c.write.new.node c.args.given.now c.write.new.given c.args.labels.now c.args.group.now c.in-Some-word_of.word c.first_spot_of_cell-spot.result some c.in-Some-word_of.ensures.word done.rest done.elsewhere done.written done.held done.kept c.first_spot_of_cell-spot.ensures; given = λ cell k is other. given_set c.args.given.now c.write.new.given c.args.group.now.address cell.0 k _ done.given is.address other }

pub spot_after_item-spot-requires : goal.spot_after_item-spot-requires
spot_after_item-spot-requires c =
    let l : c.loop-i.i < length c.args.group.now.items.items = search rules in
    let few = subst (λ (list : List AssemblyItem). length list ≤ 4) c.as_slice-items.ensures.value c.as_slice-items.ensures.fits in
    slot_there c.args.node.now c.loop-i.node c.args.given.now c.loop-i.given c.args.labels.now c.args.group.now c.loop-i.spot c.loop-i.i c.loop-i.invariant.writing l few c.requires

pub loop-i-preserved : goal.loop-i-preserved
loop-i-preserved c =
    let l : c.loop-i.i < length c.args.group.now.items.items = search rules in
    let few = subst (λ (list : List AssemblyItem). length list ≤ 4) c.as_slice-items.ensures.value c.as_slice-items.ensures.fits in
    let done = c.in_ok-write_item.ensures in
    record {
      writing = written_step c.args.node.now c.loop-i.node c.write_item.new.node c.args.given.now c.loop-i.given c.write_item.new.given c.args.labels.now c.args.group.now c.loop-i.spot c.spot_after_item-spot.result c.loop-i.i
          (slice_index_or c.as_slice-items.result.now c.loop-i.i nothing) (ap (λ (list : List AssemblyItem). slice_index_or list c.loop-i.i nothing) c.as_slice-items.ensures.value)
          c.loop-i.invariant.writing l few c.requires done.rest done.elsewhere done.has done.held done.kept c.spot_after_item-spot.ensures.value;
      given = λ cell k is other.
          let same : c.write_item.new.given ≡ c.loop-i.given = done.same (Number cell.1) (cell_item c.as_slice-items.result.now cell.1 c.loop-i.i _ (c.as_slice-items.ensures.value ∙ is.items) c.loop-i-test.true) in
          ap (λ (list : List (Option ℕ)). slice_index_or list k None) same ∙ c.loop-i.invariant.given cell k is other;
    }

pub returns-clause-rest : goal.returns-clause-rest
returns-clause-rest c = c.loop-i.invariant.writing.rest

pub returns-clause-elsewhere : goal.returns-clause-elsewhere
returns-clause-elsewhere c = c.loop-i.invariant.writing.elsewhere

pub returns-clause-kept : goal.returns-clause-kept
returns-clause-kept c = c.loop-i.invariant.writing.kept

pub returns-clause-loaded : goal.returns-clause-loaded
returns-clause-loaded c =
    let all : length c.args.group.now.items.items ≤ c.loop-i.i = search rules in
    let some : 0 < length c.args.group.now.items.items = search rules in
    let few = subst (λ (list : List AssemblyItem). length list ≤ 4) c.as_slice-items.ensures.value c.as_slice-items.ensures.fits in
    let whole : c.args.group.now.broken ≡ None = search rules in
    written_last c.args.node.now c.loop-i.node c.args.given.now c.loop-i.given c.args.labels.now c.args.group.now c.loop-i.spot c.loop-i.i c.loop-i.invariant.writing all some few c.requires whole
