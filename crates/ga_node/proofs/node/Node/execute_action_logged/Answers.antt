use Rattle.std.proofs.Common.{◌∙◌, sym}
use Rattle.ga_node.specs.Record.{record_of_node}
use Rattle.ga_node.specs.Table.{changes_or_event_of_fetch, changes_or_event_of_opcode}
use Rattle.ga_node.specs.declared.due.NextAction.TheVariants as due
use Rattle.ga_node.specs.declared.kind.OwnEventKind.TheVariants as kind
use Rattle.ga_node.proofs.Saving.{own_done, is_named, event_is, event_saves}
use Rattle.ga_node.proofs.node.Node.execute_action_logged.Goals as goal

-- the event of a fetch, and of an opcode
pub returns-in-Fetch-clause-event : goal.returns-in-Fetch-clause-event
returns-in-Fetch-clause-event c =
    let is = own_done due.Fetch c.args.seen (record_of_node c.args.self.now) (sym c.in-Fetch.is ∙ c.requires.due) in
    event_is _ _ _ _ _ _ is (rw (← c.named.ensures) at (is_named kind.Fetch (changes_or_event_of_fetch c.args.seen (record_of_node c.args.self.now)) c.fetch-done.result _ _ _ c.fetch-done.ensures.done c.fetch-done.ensures.ended))

pub returns-in-Fetch-clause-saves : goal.returns-in-Fetch-clause-saves
returns-in-Fetch-clause-saves c =
    let is = own_done due.Fetch c.args.seen (record_of_node c.args.self.now) (sym c.in-Fetch.is ∙ c.requires.due) in
    event_saves _ _ _ _ _ _ is (is_named kind.Fetch (changes_or_event_of_fetch c.args.seen (record_of_node c.args.self.now)) c.fetch-done.result _ _ _ c.fetch-done.ensures.done c.fetch-done.ensures.ended)

pub returns-in-Run-clause-event : goal.returns-in-Run-clause-event
returns-in-Run-clause-event c =
    let is = own_done (due.Run c.in-Run.op) c.args.seen (record_of_node c.args.self.now) (sym c.in-Run.is ∙ c.requires.due) in
    let whole = is_named (kind.Run c.code.result) (changes_or_event_of_opcode c.in-Run.op c.args.seen (record_of_node c.args.self.now)) c.execute-done.result _ _ _ c.execute-done.ensures.done c.execute-done.ensures.ended in
    event_is _ _ _ _ _ _ is (rw (← c.named-in-Run.ensures, c.code.ensures.value) at whole)

pub returns-in-Run-clause-saves : goal.returns-in-Run-clause-saves
returns-in-Run-clause-saves c =
    let is = own_done (due.Run c.in-Run.op) c.args.seen (record_of_node c.args.self.now) (sym c.in-Run.is ∙ c.requires.due) in
    let whole = is_named (kind.Run c.code.result) (changes_or_event_of_opcode c.in-Run.op c.args.seen (record_of_node c.args.self.now)) c.execute-done.result _ _ _ c.execute-done.ensures.done c.execute-done.ensures.ended in
    event_saves _ _ _ _ _ _ is (rw (c.code.ensures.value) at whole)
