use Rattle.std.proofs.Common.{◌≡◌, ℕ, ◌+◌, List, length}
use Rattle.std.specs.Prelude.{flat_map}
use Rattle.ga_text.specs.Output.{IsTextWrittenOrPending}
use Rattle.ga_scheduler.specs.Words.{unlisted_transfers}
use Rattle.ga_explorer_text.specs.Texts.{transfer_line_text, transfers_text}
use Rattle.ga_explorer_text.proofs.Saying.{IsWrittenUpTo}
use Rattle.ga_explorer_text.proofs.words_text.say_linked.Given as goal

abbrev pub invariant-telling : goal.invariant-telling
invariant-telling g l = record {
  same : l.writer.stream.ghost_name ≡ l.fn.writer.stream.ghost_name;
  up_to : (before said : List ℕ) → IsTextWrittenOrPending (g.W.Write.contents l.fn.writer.stream.now) before said l.fn.writer.pending.items
      → IsWrittenUpTo (g.W.Write.contents l.writer.stream.now) before said (transfers_text l.lab l.from l.to) (flat_map (transfer_line_text l.from l.to) (unlisted_transfers l.lab l.words)) l.writer.pending.items;
  left : length (unlisted_transfers l.lab l.words) + l.counter ≡ l.count;
}
