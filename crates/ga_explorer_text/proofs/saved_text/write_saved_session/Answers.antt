use Rattle.std.proofs.Common.{rules, ap, ◌∙◌}
use Rattle.std.specs.Prelude.{is_some}
use Rattle.ga_explorer_text.specs.Saved.{saved_session_text}
use Rattle.ga_explorer_text.proofs.Saving.{listed_saved}
use Rattle.ga_explorer_text.proofs.Saying.{text_as}
use Rattle.ga_explorer_text.proofs.saved_text.write_saved_session.Goals as goal

pub returns-in-Ok : goal.returns-in-Ok
returns-in-Ok g c = (
  search rules,
  λ before said h.
      let done = c.say_listed.ensures.1 before said h in
      text_as c.say_listed.result _ before said done.0 (saved_session_text c.args.lab.now) c.say_listed.new.writer.pending.items
      (done.1 ∙ listed_saved c.args.lab.now c.as_slice.result.now (ap is_some c.chip-chip.ensures.replays) (c.as_slice.ensures.value ∙ c.in-Ok.ensures.ok)) done.2,
)

pub returns-in-Err : goal.returns-in-Err
returns-in-Err g c = (
  search rules,
  λ before said h.
      let done = c.say_unlisted.ensures.1 before said h in
      text_as c.say_unlisted.result _ before said done.0 (saved_session_text c.args.lab.now) c.say_unlisted.new.writer.pending.items done.1 done.2,
)
