use Rattle.std.proofs.Common.{◌∙◌, ◌+◌, ◌||◌, sym, ap, drop, arith}
use Rattle.ga_race_detector.specs.Races.{has_look_event}
use Rattle.ga_race_detector.proofs.Racing.{look_at, look_none}
use Rattle.ga_race_detector.proofs.races.has_look_event.Goals as goal

pub returns-then-cause : goal.returns-then-cause
returns-then-cause c =
    let cs = c.args.causes.now in
    let i = c.causes.cause-index in
    sym (c.causes.invariant ∙ look_at cs i c.cause-item.result (omega arith) c.cause-item.is ∙ ap (λ b. b || has_look_event (drop (i + 1) cs)) c.if-cause.true)

pub causes-preserved : goal.causes-preserved
causes-preserved c =
    let cs = c.args.causes.now in
    let i = c.causes.cause-index in
    c.causes.invariant ∙ look_at cs i c.cause-item.result (omega arith) c.cause-item.is ∙ ap (λ b. b || has_look_event (drop (i + 1) cs)) c.if-cause.false

pub returns : goal.returns
returns c = sym (c.causes.invariant ∙ look_none c.args.causes.now c.causes.cause-index (omega arith))
