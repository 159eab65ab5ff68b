use Rattle.std.proofs.Common.{[], Some, length, take, ap, sym, ◌∙◌, ◌∷◌}
use Rattle.std.proofs.lemmas.Option.{same_Some}
use Rattle.ga_wasm.proofs.session.ga_session.Goals as goal

pub returns : goal.returns
returns c =
    let said = c.serve_explorer_session-status.ensures c.args.input.now [] (ap Some c.streams-answers.ensures.0) (ap Some c.streams-answers.ensures.1) in
    let whole = c.as_slice.ensures.value ∙ same_Some c.serve_explorer_session-status.new.writer.items said.2 said.5 in (
      said.0,
      said.1,
      said.2,
      c.serve_explorer_session-status.result,
      said.3,
      said.6,
      c.put_front-2.ensures.count ∙ ap length whole,
      c.put_front-2.ensures.front ∙ ap (take (length c.args.output.now)) whole,
      ap (λ n. take n c.put_front.new.output) (sym c.put_front.ensures.count) ∙ c.put_front.ensures.front ∙ ap (λ n. take (length c.args.ended.now) (n ∷ [])) c.number.ensures,
    )
