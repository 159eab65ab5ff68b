use Rattle.ga_picture.proofs.Shaded.{AreSome}
use Rattle.ga_picture.proofs.shade.find_event_shades.Given as goal

abbrev pub invariant-events : goal.invariant-events
invariant-events l = AreSome l.events l.fn.cause l.fn.rewind l.place l.shades.items
