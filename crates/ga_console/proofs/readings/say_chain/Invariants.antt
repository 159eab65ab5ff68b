use Rattle.std.proofs.Common.{◌≡◌, ℕ, List, ◌++◌, length, take}
use Rattle.std.specs.Prelude.{flat_map}
use Rattle.ga_text.specs.Output.{IsTextWrittenOrPending}
use Rattle.ga_display.specs.Texts.{event_text, chain_header_text}
use Rattle.ga_console.proofs.readings.say_chain.Given as goal

abbrev pub invariant-events : goal.invariant-events
invariant-events g l = (l.writer.stream.ghost_name ≡ l.fn.writer.stream.ghost_name)
    × ((before said : List ℕ) → IsTextWrittenOrPending (g.W.Write.contents l.fn.writer.stream.now) before said l.fn.writer.pending.items
    → IsTextWrittenOrPending (g.W.Write.contents l.writer.stream.now) before (said ++ (chain_header_text (length l.events) ++ flat_map event_text (take l.made-index l.events))) l.writer.pending.items)
