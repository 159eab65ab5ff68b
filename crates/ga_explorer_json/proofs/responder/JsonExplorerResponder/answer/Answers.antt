use Rattle.std.proofs.Common.{rules, refl}
use Rattle.ga_explorer_json.specs.declared.responder.JsonExplorer.{JsonExplorer}
use Rattle.ga_explorer_json.proofs.Turns.{line_turn}
use Rattle.ga_explorer_json.proofs.responder.JsonExplorerResponder.answer.Goals as goal

pub returns : goal.returns
returns g c = (
  search rules,
  λ before said h.
      let done = c.respond.ensures.1 before said h in
      let new : JsonExplorer = record c.args.self.now { lab = c.respond.new.lab; refusal = c.respond.new.refusal } in
      (done.0, line_turn c.args.self.now new refl c.args.line.now done.0 c.line_request-request.result c.line_request-request.ensures (search rules) c.respond.result done.1, done.2),
)
