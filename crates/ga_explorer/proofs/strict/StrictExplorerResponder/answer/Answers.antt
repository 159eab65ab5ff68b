use Rattle.std.proofs.Common.{true, false, refl}
use Rattle.ga_explorer.specs.declared.strict.StrictExplorer.{StrictExplorer}
use Rattle.ga_explorer.proofs.StrictLemmas.{strict_turn, plain_turn}
use Rattle.ga_explorer.proofs.strict.StrictExplorerResponder.answer.Goals as goal

pub returns-then-self : goal.returns-then-self
returns-then-self g c = (
  c.answer_strictly.ensures.answered.0,
  λ before said h.
      let done = c.answer_strictly.ensures.answered.1 before said h in
      let new : StrictExplorer = record c.args.self.now { explorer = c.answer_strictly.new.explorer; refusal = c.answer_strictly.new.refusal } in (
        done.0,
        strict_turn true c.args.self.now new c.if-self.true refl c.args.line.now done.0 c.answer_strictly.result c.answer_strictly.ensures.quit done.1,
        done.2,
      ),
)

pub returns : goal.returns
returns g c = (
  c.answer.ensures.0,
  λ before said h.
      let done = c.answer.ensures.1 before said h in
      let new : StrictExplorer = record c.args.self.now { explorer = c.answer.new.self } in (
        done.0,
        strict_turn false c.args.self.now new c.if-self.false refl c.args.line.now done.0 c.answer.result (λ quits. refl)
            (plain_turn c.args.self.now.explorer c.answer.new.self c.args.line.now done.0 c.answer.result done.1),
        done.2,
      ),
)
