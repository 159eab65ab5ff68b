use Rattle.std.proofs.Common.{◌≢◌, ◌∙◌, Some, sym, ap}
use Rattle.std.specs.Prelude.{is_some}
use Rattle.ga_race_detector.proofs.Glancing.{otherwise}
use Rattle.ga_race_detector.proofs.NearReadings.{said_of, read_again, word_there, same_reading, kept_caused, no_some}
use Rattle.ga_race_detector.proofs.readings.reading_of.Goals as goal

pub returns-in_err-other-clause-found : goal.returns-in_err-other-clause-found
returns-in_err-other-clause-found c = λ near reading g o a.
    let s = c.args.lab.now in
    let glance = c.args.glance.now in
    let said = said_of s near glance reading c.node-stands.ensures.replays g o a in
    let again = read_again s near reading glance.node glance.step glance.neighbour glance.change glance.is_look_first (kept_caused s (ap is_some c.node-stands.ensures.replays)) said o a in
    absurd (no_some c.other_io_word.result c.in_err-other.was (c.other_io_word.ensures.some again.step))

pub returns-then-get-clause-found : goal.returns-then-get-clause-found
returns-then-get-clause-found c = λ near reading g o a.
    let s = c.args.lab.now in
    let glance = c.args.glance.now in
    let said = said_of s near glance reading c.node-stands.ensures.replays g o a in
    let again = read_again s near reading glance.node glance.step glance.neighbour glance.change glance.is_look_first (kept_caused s (ap is_some c.node-stands.ensures.replays)) said o a in
    absurd (o.differ (again.other ∙ sym c.in_ok-other.ensures.is.is ∙ sym c.get.ensures.value ∙ c.if-get.true ∙ c.get-2.ensures.value ∙ g.word ∙ word_there s near reading glance.node said.node o a))

pub returns-clause-told : goal.returns-clause-told
returns-clause-told c =
    let differ : c.in_ok-other.other ≢ c.args.glance.now.word = λ q. c.if-get.false (c.get.ensures.value ∙ q ∙ sym c.get-2.ensures.value) in
    otherwise c.args.lab.now c.requires.glance.0 c.args.glance.now c.in_ok-other.other c.requires.glance.1 c.in_ok-other.ensures.is differ

pub returns-clause-found : goal.returns-clause-found
returns-clause-found c = λ near reading g o a.
    let s = c.args.lab.now in
    let glance = c.args.glance.now in
    let said = said_of s near glance reading c.node-stands.ensures.replays g o a in
    let again = read_again s near reading glance.node glance.step glance.neighbour glance.change glance.is_look_first (kept_caused s (ap is_some c.node-stands.ensures.replays)) said o a in
    ap Some (same_reading reading glance.node glance.step glance.word glance.neighbour glance.change glance.is_look_first c.in_ok-other.other said
    (g.word ∙ word_there s near reading glance.node said.node o a) (c.in_ok-other.ensures.is.is ∙ sym again.other))
