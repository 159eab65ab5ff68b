use Rattle.std.proofs.Common.{◌-◌, sym, ◌∙◌, arith}
use Rattle.ga_races.proofs.Asking.{changes_first, changes_next, changes_end, changes_stop}
use Rattle.ga_races.proofs.racing_pairs.add_changes.Goals as goal

pub back-init : goal.back-init
back-init c = record { within = omega arith; more = changes_first c.args.acts.now c.args.look c.args.look c.args.list.now.items (omega arith) }

pub back-preserved : goal.back-preserved
back-preserved c = record {
  within = omega arith;
  more = changes_next c.args.acts.now c.args.look c.back.place (c.back.place - 1) c.args.list.now.items c.back.list.items c.add_change.new.list.items (omega arith) c.back.invariant.more c.in_ok-add_change.ensures;
}

pub returns-then-is_look_of_node : goal.returns-then-is_look_of_node
returns-then-is_look_of_node c =
    changes_stop c.args.acts.now c.args.look (c.back.place - 1) c.args.node.number c.args.list.now.items c.add_change.new.list.items (omega arith)
    (sym c.is_look_of_node-in-back.ensures ∙ c.if-is_look_of_node.true) (sym c.is_look_of_node.ensures ∙ c.if-not-is_look_of_node.false)
    (changes_next c.args.acts.now c.args.look c.back.place (c.back.place - 1) c.args.list.now.items c.back.list.items c.add_change.new.list.items (omega arith) c.back.invariant.more c.in_ok-add_change.ensures)

pub returns : goal.returns
returns c = changes_end c.args.acts.now c.args.look c.back.place c.args.list.now.items c.back.list.items (omega arith) c.back.invariant.more
