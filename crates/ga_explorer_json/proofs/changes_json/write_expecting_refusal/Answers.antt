use Rattle.std.proofs.Common.{codes, ap, sym, ◌∙◌}
use Rattle.ga_lab.specs.declared.fault.LabFault.TheVariants.{Memory}
use Rattle.ga_explorer.specs.Expecting.{expecting_refusal_text}
use Rattle.ga_explorer_json.specs.Refusals.{hint_of_refusal, refusal_json, lab_refusal_json}
use Rattle.ga_explorer_json.specs.Changes.{expecting_refusal_json}
use Rattle.ga_explorer_json.proofs.Writing.{answer_as}
use Rattle.ga_explorer_json.proofs.changes_json.write_expecting_refusal.Goals as goal

pub returns-in-NothingExpected : goal.returns-in-NothingExpected
returns-in-NothingExpected g c =
    let command = c.args.command.now in
    answer_as g.W.Write.contents c.write_refusal.result c.args.writer.now c.write_refusal.new.writer (refusal_json command 35 (codes "noexpect") c.hint_of_refusal-hint.result.now) (expecting_refusal_json command c.args.why)
    (ap (refusal_json command 35 (codes "noexpect")) (c.hint_of_refusal-hint.ensures ∙ ap hint_of_refusal (c.expecting_refusal_text.ensures ∙ ap expecting_refusal_text c.in-NothingExpected.is))
    ∙ ap (expecting_refusal_json command) (sym c.in-NothingExpected.is)) c.write_refusal.ensures

pub returns-in-Memory : goal.returns-in-Memory
returns-in-Memory g c =
    let command = c.args.command.now in
    answer_as g.W.Write.contents c.write_lab_refusal.result c.args.writer.now c.write_lab_refusal.new.writer (lab_refusal_json command Memory) (expecting_refusal_json command c.args.why)
    (ap (expecting_refusal_json command) (sym c.in-Memory.is)) c.write_lab_refusal.ensures
