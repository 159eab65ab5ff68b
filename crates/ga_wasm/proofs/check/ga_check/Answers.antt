use Rattle.std.proofs.Common.{[], Some, length, take, ap, ◌∙◌}
use Rattle.std.proofs.lemmas.Option.{same_Some}
use Rattle.ga_wasm.proofs.check.ga_check.Goals as goal

pub returns : goal.returns
returns c =
    let said = c.check_expectations_or_ends-verdict.ensures c.args.input.now [] (ap Some c.streams-answer.ensures.0) (ap Some c.streams-answer.ensures.1) in
    let whole = c.as_slice.ensures.value ∙ same_Some c.check_expectations_or_ends-verdict.new.writer.items said.2 said.5 in (
      said.0,
      said.1,
      said.2,
      c.check_expectations_or_ends-verdict.result,
      said.3,
      said.6,
      c.put_front.ensures.count ∙ ap length whole,
      c.put_front.ensures.front ∙ ap (take (length c.args.output.now)) whole,
    )
