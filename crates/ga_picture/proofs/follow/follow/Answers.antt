use Rattle.std.proofs.Common.{rules, [], ◌++◌, Some, sym, ap, ◌∙◌, append_assoc}
use Rattle.ga_console.proofs.RunLemmas.{written_fresh}
use Rattle.ga_picture.proofs.Following.{goes_ended, goes_broken, stream_fault}
use Rattle.ga_picture.proofs.follow.follow.Goals as goal

pub returns-in-Done : goal.returns-in-Done
returns-in-Done g c = λ left before known held.
    let served = c.serve_commands-ending.ensures.serves left before [] known (written_fresh _ before [] _ (ap g.W.Write.contents c.new-said.ensures.stream ∙ held) c.new-said.ensures.nothing) in
    let there = served.6 in
    let done = sym c.status_of_commands_end.ensures ∙ c.in-Done.is in
    let last = c.reached.ensures (before ++ served.3) (search rules) in (
      served.0,
      served.1,
      served.3 ++ last.0,
      served.4,
      served.5,
      last.1 ∙ ap Some (append_assoc before served.3 last.0),
      goes_ended _ _ served.0 served.1 served.2 served.3 c.serve_commands-ending.new.session c.serve_commands-ending.result done served.7 served.8 last.0 c.reached.result last.2,
    )

pub returns-in_default : goal.returns-in_default
returns-in_default g c = λ left before known held.
    let served = c.serve_commands-ending.ensures.serves left before [] known (written_fresh _ before [] _ (ap g.W.Write.contents c.new-said.ensures.stream ∙ held) c.new-said.ensures.nothing) in
    let there = served.6 in
    let fault = stream_fault _ _ served.0 served.1 served.2 c.serve_commands-ending.new.session c.serve_commands-ending.result served.7 (λ e. c.in_default.not-Done (c.status_of_commands_end.ensures ∙ e)) in (
      served.0,
      served.1,
      served.3,
      served.4,
      served.5,
      search rules,
      goes_broken _ _ served.0 served.1 served.2 served.3 c.serve_commands-ending.new.session c.serve_commands-ending.result fault served.7 served.8,
    )
