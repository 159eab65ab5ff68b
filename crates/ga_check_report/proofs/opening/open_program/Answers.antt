use Rattle.std.proofs.Common.{sym, subst}
use Rattle.ga_json.specs.declared.format.ReportFormat.{ReportFormat}
use Rattle.ga_check_report.specs.Opened.{IsUnopenedProgramAnswer}
use Rattle.ga_check_report.proofs.OpenedLemmas.{opened_as_text, opened_as_objects}
use Rattle.ga_check_report.proofs.opening.open_program.Goals as goal

pub returns-in-Text : goal.returns-in-Text
returns-in-Text g c = record {
  begun = λ left before known held.
      let it = c.open_lab.ensures.begun left before known held in
      (it.0, it.1, it.2, it.3, opened_as_text c.args.format c.args.limit left c.open_lab.new.input it.0 it.1 c.open_lab.result c.in-Text.is it.4);
}

pub returns-in-Json : goal.returns-in-Json
returns-in-Json g c = record {
  begun = λ left before known held.
      let it = c.open_lab_with_json_refusals.ensures.begun left before known held in
      let input = c.open_lab_with_json_refusals.new.input in
      let result = c.open_lab_with_json_refusals.result in (
        it.0,
        it.1,
        it.2,
        it.3,
        opened_as_objects c.args.format c.in-Json.file.now c.args.limit left input it.0 it.1 result
            (λ read status h. subst (λ (f : ReportFormat). IsUnopenedProgramAnswer f read it.0 it.1 status) (sym c.in-Json.is) h) it.4,
      );
}
