use Rattle.std.proofs.Common.{◌∙◌, sym, subst, Option}
use Rattle.std.specs.Prelude.{IfSome}
use Rattle.ga_grid.specs.declared.node_id.NodeId.{NodeId}
use Rattle.ga_scheduler.specs.inner.{is_number_in_set, IsOnlyReadyNode}
use Rattle.ga_races.proofs.Ready.{alone_is, turn_is}
use Rattle.ga_scheduler.proofs.ready.in_turn.Goals as goal

pub returns-in-Some-clause-first : goal.returns-in-Some-clause-first
returns-in-Some-clause-first c =
    let h : IsOnlyReadyNode c.args.ready.now c.in-Some.node = subst (λ (o : Option NodeId). IfSome o (IsOnlyReadyNode c.args.ready.now)) c.in-Some.is c.requires.alone in
    alone_is (is_number_in_set c.args.ready.now) c.args.turn.number c.in-Some.node c.args.turn.in_range h.here h.others

pub returns-then-is_number_in_set-clause-first : goal.returns-then-is_number_in_set-clause-first
returns-then-is_number_in_set-clause-first c = turn_is (is_number_in_set c.args.ready.now) c.args.turn (sym c.is_number_in_set.ensures ∙ c.if-is_number_in_set.true)
