use Rattle.std.proofs.Common.{inl, inr, refl, codes, ap, ◌∙◌}
use Rattle.ga_image.specs.Printing.{printed_image}
use Rattle.ga_lab.specs.declared.fault.LabFault.TheVariants.{Memory}
use Rattle.ga_explorer_json.specs.Refusals.{lab_refusal_json}
use Rattle.ga_explorer_json.specs.Steps.{IsDumpJson}
use Rattle.ga_explorer_json.specs.Texts.{text_answer_json}
use Rattle.ga_explorer_json.proofs.Writing.{line_of}
use Rattle.ga_explorer_json.proofs.steps_json.write_dump_json.Goals as goal

pub returns-in-Ok : goal.returns-in-Ok
returns-in-Ok g c =
    line_of g.W.Write.contents c.write_text_answer.result c.args.writer.now c.write_text_answer.new.writer (IsDumpJson c.args.lab.now) (text_answer_json (codes "dump") c.as_slice.result.now)
    (inl (ap (text_answer_json (codes "dump")) (c.as_slice.ensures.value ∙ c.in-Ok.ensures.text ∙ ap printed_image c.chip.ensures.value))) c.write_text_answer.ensures

pub returns-in-Err : goal.returns-in-Err
returns-in-Err g c =
    line_of g.W.Write.contents c.write_lab_refusal.result c.args.writer.now c.write_lab_refusal.new.writer (IsDumpJson c.args.lab.now)
    (lab_refusal_json (codes "dump") Memory) (inr refl) c.write_lab_refusal.ensures
