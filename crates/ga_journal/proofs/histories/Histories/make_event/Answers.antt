use Rattle.std.proofs.Common.{◌≡◌, Bool, true, false, None, refl, sym, ◌∙◌, ap}
use Rattle.ga_node.specs.Table.{refusal_of_own_event}
use Rattle.ga_grid.proofs.Chips.{node_record_at-records_of_chip}
use Rattle.ga_event.specs.Apply.{refusal_unless_matched}
use Rattle.ga_journal.proofs.histories.Histories.make_event.Goals as goal

matched : (b : Bool) → refusal_unless_matched b ≡ None → b ≡ true
matched true e = refl
matched false e = cc

pub make_own_event-requires-clause-ready : goal.make_own_event-requires-clause-ready
make_own_event-requires-clause-ready c = ap refusal_of_own_event (sym (node_record_at-records_of_chip c.args.chip.now c.in-Own.node.number)) ∙ (rw c.in-Own.is at c.requires.can)

pub make_pass-requires-clause-open : goal.make_pass-requires-clause-open
make_pass-requires-clause-open c = matched _ (rw c.in-Pass.is at c.requires.can)
