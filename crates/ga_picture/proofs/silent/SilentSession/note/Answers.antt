use Rattle.std.proofs.Common.{[], sym, ◌∙◌, true≢false}
use Rattle.ga_picture.proofs.Following.{heard_whole, not_short}
use Rattle.ga_picture.proofs.silent.SilentSession.note.Goals.{then-self, else-self}
use Rattle.ga_picture.proofs.silent.SilentSession.note.Goals as goal

pub returns-after-self-clause-noted : goal.returns-after-self-clause-noted
returns-after-self-clause-noted c = λ answer h e. elim c.if-self.branch [
  | then-self w ↦ absurd (true≢false (sym w.if-self.true ∙ sym w.self-is ∙ e))
  | else-self w ↦ (
    w.if-self.false,
    not_short w.is_short-self.result w.as_slice.result.now answer w.is_short-self.ensures (sym w.self-is ∙ e)
        (w.as_slice.ensures.value ∙ heard_whole c.flush.new.self.stream.now.items answer c.flush.new.self.pending.items (c.in-Ok.ensures.said.1 [] answer h) c.in-Ok.ensures.sent),
  )
]
