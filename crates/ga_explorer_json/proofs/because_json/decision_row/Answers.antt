use Rattle.std.proofs.Common.{List, ◌++◌, ◌∙◌, ap}
use Rattle.ga_explorer_text.specs.Whence.{word_of_value, register_a_after_making_step}
use Rattle.ga_json.specs.Fields.{NamedValue, json_object}
use Rattle.ga_explorer_json.specs.Because.{tested_value_provenance_fields}
use Rattle.ga_explorer_json.proofs.because_json.decision_row.Goals as goal

pub returns : goal.returns
returns c =
    let s = c.args.lab.now in
    let source = c.args.decision.source in
    let made = tested_value_provenance_fields c.args.notes.now s source (word_of_value s source) (register_a_after_making_step s source) in
    ap json_object (c.push_decision_source.ensures ∙ ap (λ (z : List NamedValue). z ++ made) c.decided_step_row-row.ensures.fields)
