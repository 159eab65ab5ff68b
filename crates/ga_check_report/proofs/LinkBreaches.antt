-- Breaches of what is expected over a link, as a search finds them.
use Rattle.std.proofs.Common.{◌≡◌, Option, Some, None, Result, Ok, Err, List, subst}
use Rattle.std.specs.Prelude.{IfSome, OnOk}
use Rattle.ga_node.specs.Record.{NodeRecord}
use Rattle.ga_event.specs.declared.event.Event.{Event}
use Rattle.ga_lab.specs.Machine.{MachineState, chip_of_machine}
use Rattle.ga_state_ends.specs.Ends.{EndSearchResult, AreEndsOfChip}
use Rattle.ga_state_links.specs.declared.expectation.LinkExpectation.{LinkExpectation}
use Rattle.ga_state_links.specs.declared.expectation.LinkBreach.{LinkBreach}
use Rattle.ga_state_links.specs.LinkExpectations.{IsLinkBreach}
use Rattle.ga_state_expectations.specs.declared.source.Expectation.TheVariants.{LinkPassesWords}
use Rattle.ga_check_report.specs.Checking.{HasAppendedEvents}
use Rattle.ga_check_report.specs.Expected.{LeadsToBreach}

-- the breach is one from a load
abbrev pub BreaksFrom : List NodeRecord → LinkExpectation → LinkBreach → Type 0
BreaksFrom load expected it = IsLinkBreach load expected it.events.items it.place it.fault

pub from_load : (load : List NodeRecord) (found : EndSearchResult) (expected : LinkExpectation) (breach : Option LinkBreach)
    → IfSome breach (λ it. (chip : List NodeRecord) → AreEndsOfChip chip found → IsLinkBreach chip expected it.events.items it.place it.fault) → AreEndsOfChip load found
    → IfSome breach (BreaksFrom load expected)
from_load load found expected None breaks are = tt
from_load load found expected (Some it) breaks are = breaks load are

pub led_to_breach : {T E : Type 0} (s t : MachineState) (expected : LinkExpectation) (breach : LinkBreach) (events : List Event) (r : Result T E) → events ≡ breach.events.items
    → BreaksFrom (chip_of_machine s) expected breach → OnOk r (HasAppendedEvents s events t) → OnOk r (LeadsToBreach s (LinkPassesWords expected) t)
led_to_breach s t expected breach events (Ok done) is breaks made = (breach.events.items, breach.place, breach.fault, subst (λ (list : List Event). HasAppendedEvents s list t) is made, breaks)
led_to_breach s t expected breach events (Err why) is breaks made = tt
