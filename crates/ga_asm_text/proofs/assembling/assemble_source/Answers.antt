use Rattle.std.proofs.Common.{[], Some, refl, sym, ap, ◌∙◌}
use Rattle.std.proofs.lemmas.List.{append-nil}
use Rattle.ga_asm_text.proofs.Sources.{assembles, assembles_nothing, assembly_written}
use Rattle.ga_asm_text.proofs.assembling.assemble_source.Goals as goal

pub returns-in-Some : goal.returns-in-Some
returns-in-Some g c = λ left before known held.
    let got = c.in-Ok.ensures left known in
    let done = c.write_text_with_status.ensures before held in (
      got.0,
      got.1,
      done.0,
      got.2,
      got.3,
      done.1,
      assembles c.in-Ok.source.items got.4.0 got.0 got.1 done.0 c.write_text_with_status.result got.4.1 got.4.2
          (assembly_written c.in-Ok.source.items c.in-Some.image.items done.0 c.write_text_with_status.result c.in-Some.ensures done.2),
    )

pub returns-in-None : goal.returns-in-None
returns-in-None g c = λ left before known held.
    let got = c.in-Ok.ensures left known in
    (got.0, got.1, [], got.2, got.3, held ∙ ap Some (sym (append-nil before)), refl)

pub returns-in-Err : goal.returns-in-Err
returns-in-Err g c = λ left before known held.
    let got = c.in-Err.ensures left known in
    (got.0, got.1, [], got.2, got.3, held ∙ ap Some (sym (append-nil before)), assembles_nothing got.0 got.1 c.in-Err.status got.5)
