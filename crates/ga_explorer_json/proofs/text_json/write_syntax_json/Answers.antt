use Rattle.std.proofs.Common.{ap}
use Rattle.ga_explorer.specs.NoCommand.{command_suggestion}
use Rattle.ga_explorer_json.specs.Texts.{syntax_refusal_json}
use Rattle.ga_explorer_json.proofs.Writing.{answer_as}
use Rattle.ga_explorer_json.proofs.text_json.write_syntax_json.Goals as goal

pub returns : goal.returns
returns g c =
    answer_as g.W.Write.contents c.write_syntax_refusal.result c.args.writer.now c.write_syntax_refusal.new.writer
    (syntax_refusal_json c.command_suggestion.result.now) (syntax_refusal_json (command_suggestion c.args.line.now)) (ap syntax_refusal_json c.command_suggestion.ensures) c.write_syntax_refusal.ensures
