use Rattle.std.proofs.Common.{◌≡◌, ℕ, ◌++◌, ◌∙◌, ap}
use Rattle.std.specs.Prelude.{map, min}
use Rattle.ga_event.specs.Told.{count_steps}
use Rattle.ga_event.specs.Flow.{node_part_value}
use Rattle.ga_event.specs.declared.flow.part.NodePart.TheVariants as part
use Rattle.ga_provenance.specs.Origins.{node_after_steps}
use Rattle.ga_provenance.proofs.Made.{has_step_so}
use Rattle.ga_explorer_text.specs.Whence.{word_of_value, register_a_after_making_step}
use Rattle.ga_json.specs.Fields.{named_field_value}
use Rattle.ga_explorer_json.specs.Because.{tested_value_provenance_fields}
use Rattle.ga_explorer_json.proofs.because_json.push_decision_source.Goals as goal

pub push_source_value-requires-clause-walk : goal.push_source_value-requires-clause-walk
push_source_value-requires-clause-walk c = has_step_so c.args.lab.now c.args.source.node c.min-place.result c.walk_to-walk.result c.walk_to-walk.ensures

pub returns : goal.returns
returns c =
    let notes = c.args.notes.now in
    let s = c.args.lab.now in
    let source = c.args.source in
    let place : ℕ = c.min-place.result in
    let steps = count_steps source.node.number s.kept in
    let reached : place ≡ min source.step steps = c.min-place.ensures ∙ ap (λ (n : ℕ). min source.step n) c.steps.ensures.steps in
    let word : c.part_word_after_walk_back-word.result ≡ word_of_value s source =
    c.part_word_after_walk_back-word.ensures ∙ ap (λ (k : ℕ). node_part_value 0 (node_after_steps s source.node.number k) source.part) reached in
    let a : c.part_word_after_walk_back-a.result ≡ register_a_after_making_step s source =
    c.part_word_after_walk_back-a.ensures ∙ ap (λ (k : ℕ). node_part_value 0 (node_after_steps s source.node.number k) part.A) reached in
    c.push_source_value.ensures
    ∙ ap (λ (w : ℕ). map named_field_value c.args.row.now.items ++ tested_value_provenance_fields notes s source w c.part_word_after_walk_back-a.result) word
    ∙ ap (λ (w : ℕ). map named_field_value c.args.row.now.items ++ tested_value_provenance_fields notes s source (word_of_value s source) w) a
