use Rattle.std.proofs.Common.{◌∙◌, ap}
use Rattle.ga_node.specs.Io.{io_word}
use Rattle.ga_grid.specs.declared.node_id.NodeId.{NodeId}
use Rattle.ga_event.specs.Apply.{neighbour_states}
use Rattle.ga_event.specs.Told.{count_steps}
use Rattle.ga_lab.specs.Machine.{chip_of_machine, earlier_state}
use Rattle.std.specs.Prelude.{take}
use Rattle.ga_race_detector.proofs.acts.Behind.moment.Goals as goal

pub returns : goal.returns
returns c = λ s p stood. record {
  first = c.steps_at-first.ensures ∙ (stood c.event_node_or_writer-node.result.number c.event_node_or_writer-node.result.in_range).steps ∙ ap (λ (z : NodeId). count_steps z.number (take p s.kept)) c.event_node_or_writer-node.ensures;
  last = c.steps_at-last.ensures ∙ (stood c.event_node_or_reader-other.result.number c.event_node_or_reader-other.result.in_range).steps ∙ ap (λ (z : NodeId). count_steps z.number (take p s.kept)) c.event_node_or_reader-other.ensures;
  word = λ look. c.word-word.ensures look s p stood ∙ ap (λ (z : NodeId). io_word (neighbour_states (chip_of_machine (earlier_state s p)) z.number)) c.event_node_or_writer-node.ensures;
}
