use Rattle.ga_asm_text.proofs.Sources.{listing_written}
use Rattle.ga_asm_text.proofs.listing.write_listed.Goals as goal

pub returns : goal.returns
returns g c = λ before source held is.
    let done = c.write_text_with_status-written.ensures before held in (
      done.0,
      done.1,
      listing_written source c.args.listed.text.items done.0 c.args.listed.is_faulty c.write_text_with_status-written.result c.status_behind.result c.status_behind.ensures is done.2,
    )
