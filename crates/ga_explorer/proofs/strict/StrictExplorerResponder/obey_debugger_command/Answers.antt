use Rattle.std.proofs.Common.{true, false, refl}
use Rattle.ga_explorer.specs.declared.strict.StrictExplorer.{StrictExplorer}
use Rattle.ga_explorer.proofs.StrictLemmas.{strict_command, plain_command}
use Rattle.ga_explorer.proofs.strict.StrictExplorerResponder.obey_debugger_command.Goals as goal

pub returns-then-self : goal.returns-then-self
returns-then-self g c = (
  c.obey_strictly.ensures.0,
  λ before said h.
      let done = c.obey_strictly.ensures.1 before said h in
      let new : StrictExplorer = record c.args.self.now { explorer = c.obey_strictly.new.explorer; refusal = c.obey_strictly.new.refusal } in
      (done.0, strict_command true c.args.self.now new c.if-self.true refl c.args.command done.0 c.obey_strictly.result done.1, done.2),
)

pub returns : goal.returns
returns g c = (
  c.obey_debugger_command.ensures.0,
  λ before said h.
      let done = c.obey_debugger_command.ensures.1 before said h in
      let new : StrictExplorer = record c.args.self.now { explorer = c.obey_debugger_command.new.self } in (
        done.0,
        strict_command false c.args.self.now new c.if-self.false refl c.args.command done.0 c.obey_debugger_command.result
            (plain_command c.args.self.now.explorer c.obey_debugger_command.new.self c.args.command done.0 c.obey_debugger_command.result done.1),
        done.2,
      ),
)
