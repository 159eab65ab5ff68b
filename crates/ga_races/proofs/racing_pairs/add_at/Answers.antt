use Rattle.std.proofs.lemmas.Result.{on_ok_weaker}
use Rattle.ga_races.proofs.Asking.{changes_reader, own_at, pass_at}
use Rattle.ga_races.proofs.racing_pairs.add_at.Goals as goal

pub add_looks_beside-requires-in-Pass-2-clause-changes : goal.add_looks_beside-requires-in-Pass-2-clause-changes
add_looks_beside-requires-in-Pass-2-clause-changes c =
    changes_reader c.args.acts.now c.args.place c.act_at-act.result c.in-Pass.writer c.in-Pass.reader c.in-Pass.side c.act_at-act.ensures c.in-Pass.is

pub returns-in_ok-add_changes-in-Own : goal.returns-in_ok-add_changes-in-Own
returns-in_ok-add_changes-in-Own c =
    on_ok_weaker c.add_looks_beside.result
    (own_at c.args.acts.now c.args.place c.act_at-act.result c.in-Own.node c.args.list.now.items c.add_changes.new.list.items c.add_looks_beside.new.list.items c.act_at-act.ensures c.in-Own.is
    c.in_ok-add_changes-in-Own.ensures)
    c.add_looks_beside.ensures

pub returns-in_ok-add_looks_beside-in-Pass : goal.returns-in_ok-add_looks_beside-in-Pass
returns-in_ok-add_looks_beside-in-Pass c =
    on_ok_weaker c.add_looks_beside-in-Pass-2.result
    (pass_at c.args.acts.now c.args.place c.act_at-act.result c.in-Pass.writer c.in-Pass.reader c.in-Pass.side c.args.list.now.items c.add_looks_beside-in-Pass.new.list.items c.add_looks_beside-in-Pass-2.new.list.items
    c.act_at-act.ensures c.in-Pass.is c.in_ok-add_looks_beside-in-Pass.ensures)
    c.add_looks_beside-in-Pass-2.ensures
