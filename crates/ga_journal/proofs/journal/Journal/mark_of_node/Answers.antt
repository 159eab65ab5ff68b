use Rattle.ga_journal.proofs.Keeping.{fits}
use Rattle.ga_journal.proofs.journal.Journal.mark_of_node.Goals as goal

pub count-requires : goal.count-requires
count-requires c = fits c.self.inside.histories c.self.inside.top c.self.inside.made c.self.inside.kept c.self.inside.limit c.args.node.number c.self.invariant.keeps
