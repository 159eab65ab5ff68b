use Rattle.std.proofs.Common.{[], Some, refl, sym, ap, ◌∙◌}
use Rattle.std.proofs.lemmas.List.{append-nil}
use Rattle.ga_explorer.specs.declared.opening.OpenError.TheVariants.{Image, Source}
use Rattle.ga_explorer.proofs.beginning.open_or_refuse.Goals as goal

pub returns-in-Ok : goal.returns-in-Ok
returns-in-Ok g c = λ before held. ([], held ∙ ap Some (sym (append-nil before)), (refl, c.in-Ok.ensures.ok))

pub returns-in-Err-Image : goal.returns-in-Err-Image
returns-in-Err-Image g c = λ before held.
    let sent = c.write_image_refusal.ensures before held in
    let unopened = rw c.in-Err-Image.field-0-is at c.in-Err-Image.ensures.err in
    (sent.0, sent.1, (Image c.in-Err-Image.fault, unopened, sent.2))

pub returns-in-Err-Source : goal.returns-in-Err-Source
returns-in-Err-Source g c = λ before held.
    let unopened = rw c.in-Err-Source.field-0-is at c.in-Err-Source.ensures.err in
    ([], held ∙ ap Some (sym (append-nil before)), (Source, unopened, (refl, refl)))
