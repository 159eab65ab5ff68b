use Rattle.std.proofs.Common.{ℕ, List, refl, sym, ◌∙◌}
use Rattle.ga_console.proofs.RunLemmas.{written_fresh, all_sent}
use Rattle.ga_asm_text.proofs.assembling.write_text_with_status.Goals as goal

pub returns-in-Ok : goal.returns-in-Ok
returns-in-Ok g c = λ before held.
    let text : List ℕ = c.as_slice.result.now in
    let done = c.in-Ok.ensures before text (written_fresh _ before text text held refl) in
    (done.sent, done.held, all_sent _ before text done ∙ c.as_slice.ensures.value)

pub returns : goal.returns
returns g c = λ before held.
    let text : List ℕ = c.as_slice.result.now in
    let done = c.in-Err.ensures before text (written_fresh _ before text text held refl) in
    (done.sent, done.held, (done.front.0, sym c.as_slice.ensures.value ∙ done.front.1))
