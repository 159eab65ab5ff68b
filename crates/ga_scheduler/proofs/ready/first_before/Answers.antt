use Rattle.std.proofs.Common.{Some, None, arith}
use Rattle.ga_scheduler.specs.inner.{is_number_in_set}
use Rattle.ga_races.proofs.Ready.{behind_is, none_other}
use Rattle.ga_scheduler.proofs.ready.first_before.Goals as goal

pub returns-then-node-turn-clause-first : goal.returns-then-node-turn-clause-first
returns-then-node-turn-clause-first c =
    behind_is (is_number_in_set c.args.ready.now) c.args.turn.number c.new.result.number (Some c.in-Some.node) c.args.turn.in_range c.new.ensures c.requires.ahead
    c.in-Some.ensures.is_in c.in-Some.ensures.before tt

pub returns-then-node-turn-clause-alone : goal.returns-then-node-turn-clause-alone
returns-then-node-turn-clause-alone c = record {
  here = c.in-Some.ensures.is_in;
  others = none_other (is_number_in_set c.args.ready.now) c.in-Some.node.number c.args.turn.number c.if-node-turn.true c.requires.ahead
      (λ m l h. c.in-Some.ensures.before m (omega (arith, c.new.ensures)) h);
}

pub returns-else-node-turn-clause-first : goal.returns-else-node-turn-clause-first
returns-else-node-turn-clause-first c =
    behind_is (is_number_in_set c.args.ready.now) c.args.turn.number c.new.result.number (Some c.in-Some.node) c.args.turn.in_range c.new.ensures c.requires.ahead
    c.in-Some.ensures.is_in c.in-Some.ensures.before tt

pub returns-in-None-clause-first : goal.returns-in-None-clause-first
returns-in-None-clause-first c =
    behind_is (is_number_in_set c.args.ready.now) c.args.turn.number c.new.result.number None c.args.turn.in_range c.new.ensures c.requires.ahead
    tt tt c.in-None.ensures.none
