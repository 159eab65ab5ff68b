use Rattle.std.proofs.Common.{ℕ, List, refl}
use Rattle.ga_console.proofs.RunLemmas.{written_fresh, all_sent}
use Rattle.ga_picture.proofs.run.write_out.Goals as goal

pub returns-in-Ok : goal.returns-in-Ok
returns-in-Ok g c = λ before held.
    let text : List ℕ = c.args.picture.now in
    let done = c.in-Ok.ensures before text (written_fresh _ before text text held refl) in
    (done.sent, done.held, all_sent _ before text done)

pub returns-in-Err : goal.returns-in-Err
returns-in-Err g c = λ before held.
    let text : List ℕ = c.args.picture.now in
    let done = c.in-Err.ensures before text (written_fresh _ before text text held refl) in
    (done.sent, done.held, done.front)
