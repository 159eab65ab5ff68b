use Rattle.std.proofs.Common.{rules, refl, []}
use Rattle.ga_explorer_json.specs.declared.responder.JsonExplorer.{JsonExplorer}
use Rattle.ga_explorer_json.proofs.Turns.{command_turn}
use Rattle.ga_explorer_json.proofs.responder.JsonExplorerResponder.obey_debugger_command.Goals as goal

pub returns : goal.returns
returns g c = (
  search rules,
  λ before said h.
      let done = c.respond.ensures.1 before said h in
      let new : JsonExplorer = record c.args.self.now { lab = c.respond.new.lab; refusal = c.respond.new.refusal } in
      (done.0, command_turn c.args.self.now new refl [] done.0 c.args.command c.respond.result done.1, done.2),
)
