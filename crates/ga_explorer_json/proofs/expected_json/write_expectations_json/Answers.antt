use Rattle.std.proofs.Common.{codes, inl, inr, refl}
use Rattle.ga_lab.specs.declared.fault.LabFault.TheVariants.{Memory}
use Rattle.ga_explorer_json.specs.Refusals.{lab_refusal_json}
use Rattle.ga_explorer_json.specs.Expected.{AreStatusesJson, IsExpectationsJson}
use Rattle.ga_explorer_json.proofs.Writing.{line_as, line_of}
use Rattle.ga_explorer_json.proofs.expected_json.write_expectations_json.Goals as goal

pub returns-in-Ok : goal.returns-in-Ok
returns-in-Ok g c =
    line_as g.W.Write.contents c.write_statuses.result c.args.writer.now c.write_statuses.new.writer (AreStatusesJson c.args.lab.now c.as_slice.result.now) (IsExpectationsJson c.args.notes.now c.args.lab.now)
    (λ answer h. inl (record { expectations = c.as_slice.result.now; known = rw c.as_slice.ensures.value c.in-Ok.ensures; written = h })) c.write_statuses.ensures

pub returns-in-Err : goal.returns-in-Err
returns-in-Err g c =
    line_of g.W.Write.contents c.write_lab_refusal.result c.args.writer.now c.write_lab_refusal.new.writer (IsExpectationsJson c.args.notes.now c.args.lab.now)
    (lab_refusal_json (codes "expectations") Memory) (inr refl) c.write_lab_refusal.ensures
