use Rattle.std.proofs.Common.{◌≡◌, ◌⊎◌, inl, inr, codes, ap, ◌∙◌}
use Rattle.ga_explorer_json.specs.Refusals.{lab_refusal_json}
use Rattle.ga_explorer_json.specs.Steps.{trace_json, IsTraceJson}
use Rattle.ga_explorer_json.proofs.Writing.{line_of}
use Rattle.ga_explorer_json.proofs.steps_json.write_trace_json.Goals as goal

pub returns-in-Ok : goal.returns-in-Ok
returns-in-Ok g c =
    line_of g.W.Write.contents c.write_steps.result c.args.writer.now c.write_steps.new.writer (IsTraceJson c.args.lab.now c.args.node) (trace_json c.args.node c.as_slice.result.now)
    (inl (ap (trace_json c.args.node) (c.as_slice.ensures.value ∙ c.in-Ok.ensures.ok))) c.write_steps.ensures

pub returns-in-Err : goal.returns-in-Err
returns-in-Err g c =
    line_of g.W.Write.contents c.write_lab_refusal.result c.args.writer.now c.write_lab_refusal.new.writer (IsTraceJson c.args.lab.now c.args.node)
    (lab_refusal_json (codes "trace") c.in-Err.fault) (inr (ap (lab_refusal_json (codes "trace")) c.in-Err.ensures.err)) c.write_lab_refusal.ensures
