use Rattle.std.proofs.Common.{◌∙◌}
use Rattle.std.proofs.lemmas.List.{length-map}
use Rattle.ga_journal.specs.inner.Histories.{entry_lists_of_histories, entry_records_of_held}
use Rattle.ga_journal.proofs.Recalling.{walk_whole}
use Rattle.ga_journal.proofs.histories.Histories.recall.Goals as goal

pub back_over-requires-clause-walk : goal.back_over-requires-clause-walk
back_over-requires-clause-walk c = (
  c.requires.walk.0,
  c.requires.walk.1,
  walk_whole (entry_lists_of_histories c.args.self.now) c.lengths_of-lengths.result c.args.top c.requires.walk.0 (length-map c.args.self.now entry_records_of_held ∙ c.lengths_of-lengths.ensures.nodes) c.lengths_of-lengths.ensures.all c.lengths_of-lengths.ensures.lengths c.requires.walk.2,
)

pub returns : goal.returns
returns c log long r =
    c.back_over.ensures.first log long
    (walk_whole (entry_lists_of_histories c.args.self.now) c.lengths_of-lengths.result c.args.top log (length-map c.args.self.now entry_records_of_held ∙ c.lengths_of-lengths.ensures.nodes) c.lengths_of-lengths.ensures.all c.lengths_of-lengths.ensures.lengths r)
