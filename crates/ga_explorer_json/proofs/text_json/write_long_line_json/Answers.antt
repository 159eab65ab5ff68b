use Rattle.std.proofs.Common.{codes, ap, ◌∙◌}
use Rattle.ga_explorer_json.specs.Refusals.{hint_of_refusal}
use Rattle.ga_explorer_json.specs.Texts.{line_refusal_json, long_line_refusal_json}
use Rattle.ga_explorer_json.proofs.Writing.{answer_as}
use Rattle.ga_explorer_json.proofs.text_json.write_long_line_json.Goals as goal

pub returns : goal.returns
returns g c =
    answer_as g.W.Write.contents c.write_line_refusal.result c.args.writer.now c.write_line_refusal.new.writer (line_refusal_json 32 (codes "long") c.hint_of_refusal.result.now) long_line_refusal_json
    (ap (line_refusal_json 32 (codes "long")) (c.hint_of_refusal.ensures ∙ ap hint_of_refusal c.long_line_refusal.ensures.text)) c.write_line_refusal.ensures
