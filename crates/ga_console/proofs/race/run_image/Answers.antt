use Rattle.std.proofs.Common.{◌≢◌, length, sym, ◌∙◌, subst}
use denote.Enum.Bare.{same_false}
use Rattle.ga_image.specs.contracts.fault.ImageFaultCause.{the_type}
use Rattle.ga_image.specs.declared.fault.ImageFaultCause.TheVariants.{Memory}
use Rattle.ga_text.specs.Lines.{lines_of_text}
use Rattle.ga_image.specs.Grammar.{IsImage}
use Rattle.ga_image.specs.FirstFault.{IsFirstImageFault}
use Rattle.ga_console.proofs.Races.{races_reported, races_refused, first_fault}
use Rattle.ga_console.proofs.race.run_image.Goals as goal

pub returns-in-Some : goal.returns-in-Some
returns-in-Some g c = λ before held.
    let done = c.report.ensures before held in
    let closed = c.in-Some.closed in
    let accepted = subst (λ l. IsImage (lines_of_text l) c.in-Ok.chip) c.as_slice.ensures.value c.in-Ok.ensures.found in (
      done.0,
      done.1,
      races_reported c.args.limit c.args.workers c.args.calls c.args.image.items done.0 c.in-Ok.chip closed.lab (length closed.log.items) c.report.result accepted c.in-Some.ensures.0 c.in-Some.ensures.1 done.2,
    )

pub returns : goal.returns
returns g c = λ before held.
    let done = c.write_image_refusal.ensures before held in
    let other : c.in-Err.fault.cause ≢ Memory = λ e. same_false the_type c.in-Err.fault.cause Memory (sym c.eq.ensures ∙ c.if-eq.false) e in
    let first = subst (λ l. IsFirstImageFault (lines_of_text l) c.in-Err.fault) c.as_slice.ensures.value (first_fault c.as_slice.result.now c.in-Err.fault c.in-Err.ensures.refused other) in (
      done.0,
      done.1,
      races_refused c.args.limit c.args.workers c.args.calls c.args.image.items done.0 c.in-Err.fault c.write_image_refusal.result first done.2,
    )
