use Rattle.std.proofs.Common.{refl}
use Rattle.ga_explorer.specs.Opening.{explorer_state}
use Rattle.ga_explorer_json.specs.Answers.{AnswersCommandJson, AnswersLineRequest}
use Rattle.ga_explorer_json.specs.Texts.{long_line_refusal_json, syntax_refusal_of_line}
use Rattle.ga_explorer_json.specs.declared.answers.LineRequest.TheVariants as request
use Rattle.ga_json.specs.Compact.{json_line}
use Rattle.std.specs.Prelude.{codes}
use Rattle.ga_explorer_json.proofs.Answering.{some_as, exact_as, requested}
use Rattle.ga_explorer_json.proofs.answers.answer_request.Goals as goal

pub returns-in-Explore : goal.returns-in-Explore
returns-in-Explore g c =
    let e = explorer_state c.args.lab.now c.args.notes.now in
    let now = explorer_state c.explore_for_json.new.lab c.args.notes.now in
    requested g.W.Write.contents c.explore_for_json.result c.args.writer.now c.explore_for_json.new.writer e c.args.line.now c.args.request (request.Explore c.in-Explore.asked) now c.in-Explore.is
    c.explore_for_json.ensures

pub returns-in-Debug : goal.returns-in-Debug
returns-in-Debug g c =
    let e = explorer_state c.args.lab.now c.args.notes.now in
    let now = explorer_state c.obey_for_json.new.lab c.args.notes.now in
    requested g.W.Write.contents c.obey_for_json.result c.args.writer.now c.obey_for_json.new.writer e c.args.line.now c.args.request (request.Debug c.in-Debug.command) now c.in-Debug.is
    (some_as g.W.Write.contents c.obey_for_json.result c.args.writer.now c.obey_for_json.new.writer
    (λ text. AnswersCommandJson c.args.lab.now c.in-Debug.command text c.obey_for_json.new.lab)
    (λ text. AnswersLineRequest e c.args.line.now (request.Debug c.in-Debug.command) text now) (λ text h. (h, refl)) c.obey_for_json.ensures)

pub returns-in-TooLongLine : goal.returns-in-TooLongLine
returns-in-TooLongLine g c =
    let e = explorer_state c.args.lab.now c.args.notes.now in
    requested g.W.Write.contents c.write_long_line_json.result c.args.writer.now c.write_long_line_json.new.writer e c.args.line.now c.args.request request.TooLongLine e c.in-TooLongLine.is
    (exact_as g.W.Write.contents c.write_long_line_json.result c.args.writer.now c.write_long_line_json.new.writer
    (λ text. AnswersLineRequest e c.args.line.now request.TooLongLine text e) (json_line long_line_refusal_json) (refl, refl) c.write_long_line_json.ensures)

pub returns-in-Unknown : goal.returns-in-Unknown
returns-in-Unknown g c =
    let e = explorer_state c.args.lab.now c.args.notes.now in
    requested g.W.Write.contents c.write_syntax_json.result c.args.writer.now c.write_syntax_json.new.writer e c.args.line.now c.args.request request.Unknown e c.in-Unknown.is
    (exact_as g.W.Write.contents c.write_syntax_json.result c.args.writer.now c.write_syntax_json.new.writer
    (λ text. AnswersLineRequest e c.args.line.now request.Unknown text e) (json_line (syntax_refusal_of_line c.args.line.now)) (refl, refl) c.write_syntax_json.ensures)
