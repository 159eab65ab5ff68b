use Rattle.std.proofs.Common.{ℕ, Option, ◌∙◌, sym, ap}
use Rattle.std.specs.Prelude.{is_some}
use Rattle.ga_event.specs.Apply.{shown_neighbour_state}
use Rattle.ga_lab.specs.Machine.{chip_of_machine, state_after_rewind}
use Rattle.ga_race_detector.proofs.Posted.{rewound_shows}
use Rattle.ga_race_detector.proofs.readings.beside_behind.Goals as goal

pub returns-in-Some : goal.returns-in-Some
returns-in-Some c = λ b k around.
    let s = c.args.lab.now in
    rewound_shows s b k c.in-Some.other.number c.over.result c.args.side c.shown_at.result (ap is_some c.node-stands.ensures.replays)
    (c.over.ensures ∙ around.beside c.args.side c.in-Some.other.number (sym c.in-Some.ensures.value)) c.shown_at.ensures
    ∙ ap (λ (o : Option ℕ). shown_neighbour_state (chip_of_machine (state_after_rewind s b k)) c.args.side o) c.in-Some.ensures.value
