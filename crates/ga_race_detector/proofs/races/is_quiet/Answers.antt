use Rattle.std.proofs.Common.{◌∙◌, sym, ap, arith}
use Rattle.std.specs.Prelude.{is_none, is_ok}
use Rattle.ga_grid.specs.Chip.{records_of_chip}
use Rattle.ga_races.specs.Orders.{node_has_event}
use Rattle.ga_races.proofs.Ready.{first_none}
use Rattle.ga_race_detector.proofs.Racing.{ready_some, idle_more}
use Rattle.ga_race_detector.proofs.races.is_quiet.Goals as goal

pub returns-then-is_ok : goal.returns-then-is_ok
returns-then-is_ok c = sym (ready_some (records_of_chip c.args.chip.now) c.new.result (sym (ap is_ok c.next_event.ensures) ∙ sym c.is_ok.ensures.value ∙ c.if-is_ok.true))

pub nodes-preserved : goal.nodes-preserved
nodes-preserved c =
    idle_more (records_of_chip c.args.chip.now) c.nodes.number c.new.result c.new.ensures
    (sym (ap is_ok c.next_event.ensures) ∙ sym c.is_ok.ensures.value ∙ c.if-is_ok.false) c.nodes.invariant

pub returns : goal.returns
returns c = sym (ap is_none (first_none (node_has_event (records_of_chip c.args.chip.now)) 0 144 (λ m l. c.nodes.invariant m (omega (arith, l)))))
