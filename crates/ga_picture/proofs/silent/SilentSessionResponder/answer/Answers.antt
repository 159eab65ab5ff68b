use Rattle.std.proofs.Common.{rules, []}
use Rattle.ga_text.proofs.WriteLemmas.{written_pending}
use Rattle.ga_picture.proofs.Following.{silent_turn}
use Rattle.ga_picture.proofs.silent.SilentSessionResponder.answer.Goals as goal

pub returns : goal.returns
returns g c = (
  search rules,
  λ before said h.
      let heard = c.hear.ensures.heard in
      ([], silent_turn c.args.self.now c.hear.new.self c.args.line.now heard.0 c.hear.result heard.1 heard.2 c.hear.ensures.ends, written_pending _ before said _ h),
)
