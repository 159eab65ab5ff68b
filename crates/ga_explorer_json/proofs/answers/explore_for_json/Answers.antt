use Rattle.std.proofs.Common.{ap, subst}
use Rattle.ga_json.specs.Compact.{json_line}
use Rattle.ga_explorer.specs.Changes.{change_name}
use Rattle.ga_explorer.specs.Opening.{explorer_state}
use Rattle.ga_explorer.specs.declared.commands.ExplorerCommand.TheVariants as command
use Rattle.ga_explorer_json.specs.Answers.{AnswersExplorerJson}
use Rattle.ga_explorer_json.specs.Changes.{change_result_json}
use Rattle.ga_explorer_json.proofs.Answering.{exact_as, explored_as, queried, changed}
use Rattle.ga_explorer_json.proofs.Writing.{answer_as}
use Rattle.ga_explorer_json.proofs.answers.explore_for_json.Goals as goal

pub returns-in-Change : goal.returns-in-Change
returns-in-Change g c =
    let e = explorer_state c.args.lab.now c.args.notes.now in
    let now = explorer_state c.carry_out.new.lab c.args.notes.now in
    let change = c.in-Change.change in
    let came = c.carry_out.result in
    exact_as g.W.Write.contents c.write_change_result_json.result c.args.writer.now c.write_change_result_json.new.writer (λ text. AnswersExplorerJson e c.args.asked text now)
    (json_line (change_result_json (change_name change) came)) (changed e c.args.asked change came c.carry_out.new.lab c.in-Change.is c.carry_out.ensures)
    (answer_as g.W.Write.contents c.write_change_result_json.result c.args.writer.now c.write_change_result_json.new.writer (change_result_json c.name-command.result.now came)
    (change_result_json (change_name change) came) (ap (λ z. change_result_json z came) c.name-command.ensures) c.write_change_result_json.ensures)

pub returns-in-AnswerQuery : goal.returns-in-AnswerQuery
returns-in-AnswerQuery g c =
    let e = explorer_state c.args.lab.now c.args.notes.now in
    let now = explorer_state c.answer_query_for_json.new.lab c.args.notes.now in
    let told = c.answer_query_for_json.ensures.said in
    let same = ap (λ s. explorer_state s c.args.notes.now) c.answer_query_for_json.ensures.same in
    explored_as g.W.Write.contents c.answer_query_for_json.result c.args.writer.now c.answer_query_for_json.new.writer e c.args.asked (command.AnswerQuery c.in-AnswerQuery.query) now c.in-AnswerQuery.is
    (queried g.W.Write.contents c.answer_query_for_json.result c.args.writer.now c.answer_query_for_json.new.writer e c.in-AnswerQuery.query now same told)
