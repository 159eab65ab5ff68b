use Rattle.std.proofs.Common.{[], Some, length, take, ap, ◌∙◌}
use Rattle.std.proofs.lemmas.Option.{same_Some}
use Rattle.ga_wasm.proofs.source.ga_assemble.Goals as goal

pub returns : goal.returns
returns c =
    let said = c.assemble_source-status.ensures c.args.input.now [] (ap Some c.streams-image.ensures.0) (ap Some c.streams-image.ensures.1) in
    let whole = c.as_slice-2.ensures.value ∙ same_Some c.assemble_source-status.new.writer.items said.2 said.5 in (
      said.0,
      said.1,
      said.2,
      c.assemble_source-status.result,
      said.3,
      said.6,
      c.put_front-2.ensures.count ∙ ap length whole,
      c.put_front-2.ensures.front ∙ ap (take (length c.args.output.now)) whole,
    )
