use Rattle.std.proofs.Common.{rules, ap, ◌∙◌, inl, inr, refl}
use Rattle.ga_text.specs.Output.{ready_line_text}
use Rattle.ga_console.proofs.RunLemmas.{written_fresh, serves_from}
use Rattle.ga_console.proofs.run.after_image.Goals as goal

pub returns-in-Ok : goal.returns-in-Ok
returns-in-Ok g c = λ left before known held.
    let done = c.serve_commands.ensures.serves left before ready_line_text known (written_fresh _ before ready_line_text _ (ap g.W.Write.contents c.writer_with_ready_line-said.ensures.stream ∙ held) c.writer_with_ready_line-said.ensures.said) in
    let there = done.6 in (
      done.0,
      done.1,
      done.3,
      done.4,
      done.5,
      search rules,
      inl (c.in-Ok.lab, c.in-Ok.ensures.ok, c.serve_commands.result, c.status_of_commands_end.ensures, done.2, c.serve_commands.new.session, serves_from _ _ _ _ _ _ _ _ _ _ c.open-session.ensures done.7, done.8),
    )

pub returns-in-Err : goal.returns-in-Err
returns-in-Err g c = λ left before known held.
    let sent = c.write_image_refusal.ensures before held in
    (c.args.input.now.bytes, left, sent.0, refl, known, sent.1, inr (c.in-Err.fault, c.in-Err.ensures.err, sent.2, refl))
