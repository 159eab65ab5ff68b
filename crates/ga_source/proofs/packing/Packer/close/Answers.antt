use Rattle.std.specs.Prelude.{not, is_some}
use Rattle.std.proofs.Common.{rules, ◌≡◌, ◌∙◌, [], ap, sym, refl, length}
use Rattle.std.proofs.lemmas.Bool.{true≢false, eq-eqb}
use Rattle.ga_source.specs.declared.group.CellGroup.{CellGroup}
use Rattle.ga_source.specs.declared.packing.Packer.{Packer}
use Rattle.ga_source.proofs.CellGroups.{one_group}
use Rattle.ga_source.proofs.Walking.{closed_nothing, closed_group, nil_of, none_of}
use Rattle.ga_source.proofs.Grouped.{gathered_nothing, gathered_group}
use Rattle.ga_source.proofs.packing.Packer.close.Goals.{else-is_empty-via-then-is_empty+else-is_none, else-is_empty-via-else-is_empty}
use Rattle.ga_source.proofs.packing.Packer.close.Goals as goal

pub returns-then-is_none-clause-closed : goal.returns-then-is_none-clause-closed
returns-then-is_none-clause-closed c =
    let size : length c.args.self.now.filling.items ≡ 0 = search rules in
    closed_nothing c.args.self.now c.args.self.now refl (nil_of c.args.self.now.filling.items size) (none_of c.args.self.now.broken (c.is_none.ensures ∙ ap not c.if-is_none.true))

pub returns-clause-closed : goal.returns-clause-closed
returns-clause-closed c =
    let before = c.args.self.now in
    let after : Packer = record { groups = c.push.new.self; labels = before.labels; filling = c.replace.new.dest; lines = c.replace-2.new.dest; broken = c.replace-3.new.dest; spot = before.spot } in
    let group : CellGroup = record { address = before.spot.at; items = c.replace.result; lines = c.replace-2.result; broken = c.replace-3.result } in
    let items : c.replace.result.items ≡ before.filling.items = search rules in
    let empty : c.replace.new.dest.items ≡ [] = search rules in
    closed_group before after group c.in_ok-push.ensures.items refl items c.replace-3.ensures.value refl refl empty c.replace-3.ensures.after

pub returns-clause-cell : goal.returns-clause-cell
returns-clause-cell c = λ n cells is whole all.
    let before = c.args.self.now in
    let group : CellGroup = record { address = before.spot.at; items = c.replace.result; lines = c.replace-2.result; broken = c.replace-3.result } in
    let items : c.replace.result.items ≡ before.filling.items = search rules in
    rw c.in_ok-push.ensures.items
    (one_group cells before.groups.items (before.spot.at, n) group all (record { address = refl; items = items ∙ is; whole = c.replace-3.ensures.value ∙ whole }))

pub returns-then-is_none-clause-gathered : goal.returns-then-is_none-clause-gathered
returns-then-is_none-clause-gathered c =
    let size : length c.args.self.now.filling.items ≡ 0 = search rules in
    gathered_nothing c.args.self.now c.args.self.now refl (nil_of c.args.self.now.filling.items size)

pub returns-clause-gathered : goal.returns-clause-gathered
returns-clause-gathered c =
    let before = c.args.self.now in
    let after : Packer = record { groups = c.push.new.self; labels = before.labels; filling = c.replace.new.dest; lines = c.replace-2.new.dest; broken = c.replace-3.new.dest; spot = before.spot } in
    let group : CellGroup = record { address = before.spot.at; items = c.replace.result; lines = c.replace-2.result; broken = c.replace-3.result } in
    let items : c.replace.result.items ≡ before.filling.items = search rules in
    let lines : c.replace-2.result.items ≡ before.lines.items = search rules in
    let none : c.replace-2.new.dest.items ≡ [] = search rules in
    gathered_group before after group c.in_ok-push.ensures.items refl items lines none
    (λ empty whole. elim c.else-is_empty.branch [
      | else-is_empty-via-then-is_empty+else-is_none w ↦ absurd (true≢false (sym w.if-is_none.ensures ∙ ap is_some whole))
      | else-is_empty-via-else-is_empty w ↦ absurd (true≢false (sym (eq-eqb (length before.filling.items) 0 (ap length empty)) ∙ sym w.if-is_empty.ensures))
    ])
