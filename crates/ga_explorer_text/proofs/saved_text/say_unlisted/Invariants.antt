use Rattle.std.proofs.Common.{◌≡◌, ℕ, List, drop}
use Rattle.std.specs.Prelude.{flat_map}
use Rattle.ga_text.specs.Output.{IsTextWrittenOrPending}
use Rattle.ga_explorer_text.specs.Saved.{saved_session_lines, text_with_line_feed, saved_session_text}
use Rattle.ga_explorer_text.proofs.Saying.{IsWrittenUpTo}
use Rattle.ga_explorer_text.proofs.saved_text.say_unlisted.Given as goal

abbrev pub invariant-places : goal.invariant-places
invariant-places g l = (l.writer.stream.ghost_name ≡ l.fn.writer.stream.ghost_name)
    × ((before said : List ℕ) → IsTextWrittenOrPending (g.W.Write.contents l.fn.writer.stream.now) before said l.fn.writer.pending.items
    → IsWrittenUpTo (g.W.Write.contents l.writer.stream.now) before said (saved_session_text l.lab) (flat_map text_with_line_feed (drop l.place (saved_session_lines l.lab))) l.writer.pending.items)
