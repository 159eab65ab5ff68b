use Rattle.std.proofs.Common.{rules, [], length, refl, subst, sym}
use Rattle.ga_event.specs.Told.{count_steps}
use Rattle.ga_lab.specs.Machine.{undo_answer, rewind_answer}
use Rattle.ga_text.proofs.WriteLemmas.{written_pending}
use Rattle.ga_json.specs.Compact.{json_line}
use Rattle.ga_console.specs.declared.command.DebuggerCommand.TheVariants.{Step, Back, Rewind, Node, Memory, Trace, Why, Count, Dump, Quit}
use Rattle.ga_explorer_json.specs.Rows.{IsJsonLine}
use Rattle.ga_explorer_json.specs.Answers.{AnswersCommandJson}
use Rattle.ga_explorer_json.specs.Changes.{undo_json, rewind_json}
use Rattle.ga_explorer_json.specs.NodeState.{node_json}
use Rattle.ga_explorer_json.specs.Readings.{memory_word_json, history_counts_json}
use Rattle.ga_explorer_json.specs.Steps.{IsTraceJson, IsWhyJson, IsDumpJson}
use Rattle.ga_explorer_json.proofs.Answering.{some_as, exact_as, commanded}
use Rattle.ga_explorer_json.proofs.answers.obey_for_json.Goals as goal

pub returns-in-Step : goal.returns-in-Step
returns-in-Step g c =
    let s = c.args.lab.now in
    commanded g.W.Write.contents c.write_step_json.result c.args.writer.now c.write_step_json.new.writer s c.args.command (Step c.in-Step.node) c.write_step_json.new.lab c.in-Step.is
    c.write_step_json.ensures

pub returns-in-Back : goal.returns-in-Back
returns-in-Back g c =
    let s = c.args.lab.now in
    commanded g.W.Write.contents c.write_undo_json.result c.args.writer.now c.write_undo_json.new.writer s c.args.command Back c.write_undo_json.new.lab c.in-Back.is
    (exact_as g.W.Write.contents c.write_undo_json.result c.args.writer.now c.write_undo_json.new.writer (λ text. AnswersCommandJson s Back text c.write_undo_json.new.lab) (json_line (undo_json (undo_answer s) (length c.write_undo_json.new.lab.kept))) (refl, c.write_undo_json.ensures.state) c.write_undo_json.ensures.said)

pub returns-in-Rewind : goal.returns-in-Rewind
returns-in-Rewind g c =
    let s = c.args.lab.now in
    commanded g.W.Write.contents c.write_rewind_json.result c.args.writer.now c.write_rewind_json.new.writer s c.args.command (Rewind c.in-Rewind.node c.in-Rewind.step) c.write_rewind_json.new.lab c.in-Rewind.is
    (exact_as g.W.Write.contents c.write_rewind_json.result c.args.writer.now c.write_rewind_json.new.writer (λ text. AnswersCommandJson s (Rewind c.in-Rewind.node c.in-Rewind.step) text c.write_rewind_json.new.lab) (json_line (rewind_json c.in-Rewind.node (count_steps c.in-Rewind.node.number s.kept) (rewind_answer s c.in-Rewind.node.number c.in-Rewind.step) (length c.write_rewind_json.new.lab.kept))) (refl, c.write_rewind_json.ensures.state) c.write_rewind_json.ensures.said)

pub returns-in-Node : goal.returns-in-Node
returns-in-Node g c =
    let s = c.args.lab.now in
    commanded g.W.Write.contents c.write_node_json.result c.args.writer.now c.write_node_json.new.writer s c.args.command (Node c.in-Node.node) s c.in-Node.is
    (exact_as g.W.Write.contents c.write_node_json.result c.args.writer.now c.write_node_json.new.writer (λ text. AnswersCommandJson s (Node c.in-Node.node) text s) (json_line (node_json s c.in-Node.node)) (refl, refl) c.write_node_json.ensures)

pub returns-in-Memory : goal.returns-in-Memory
returns-in-Memory g c =
    let s = c.args.lab.now in
    commanded g.W.Write.contents c.write_memory_json.result c.args.writer.now c.write_memory_json.new.writer s c.args.command (Memory c.in-Memory.node c.in-Memory.address) s c.in-Memory.is
    (exact_as g.W.Write.contents c.write_memory_json.result c.args.writer.now c.write_memory_json.new.writer (λ text. AnswersCommandJson s (Memory c.in-Memory.node c.in-Memory.address) text s) (json_line (memory_word_json s c.in-Memory.node c.in-Memory.address)) (refl, refl) c.write_memory_json.ensures)

pub returns-in-Trace : goal.returns-in-Trace
returns-in-Trace g c =
    let s = c.args.lab.now in
    commanded g.W.Write.contents c.write_trace_json.result c.args.writer.now c.write_trace_json.new.writer s c.args.command (Trace c.in-Trace.node) s c.in-Trace.is
    (some_as g.W.Write.contents c.write_trace_json.result c.args.writer.now c.write_trace_json.new.writer (IsJsonLine (IsTraceJson s c.in-Trace.node)) (λ text. AnswersCommandJson s (Trace c.in-Trace.node) text s) (λ text h. (h, refl)) c.write_trace_json.ensures)

pub returns-in-Why : goal.returns-in-Why
returns-in-Why g c =
    let s = c.args.lab.now in
    commanded g.W.Write.contents c.write_chain_json.result c.args.writer.now c.write_chain_json.new.writer s c.args.command (Why c.in-Why.from c.in-Why.from_step c.in-Why.to c.in-Why.to_step) s c.in-Why.is
    (some_as g.W.Write.contents c.write_chain_json.result c.args.writer.now c.write_chain_json.new.writer (IsJsonLine (IsWhyJson s c.in-Why.from c.in-Why.from_step c.in-Why.to c.in-Why.to_step)) (λ text. AnswersCommandJson s (Why c.in-Why.from c.in-Why.from_step c.in-Why.to c.in-Why.to_step) text s) (λ text h. (h, refl)) c.write_chain_json.ensures)

pub returns-in-Count : goal.returns-in-Count
returns-in-Count g c =
    let s = c.args.lab.now in
    commanded g.W.Write.contents c.write_event_counts_json.result c.args.writer.now c.write_event_counts_json.new.writer s c.args.command Count s c.in-Count.is
    (exact_as g.W.Write.contents c.write_event_counts_json.result c.args.writer.now c.write_event_counts_json.new.writer (λ text. AnswersCommandJson s Count text s) (json_line (history_counts_json s)) (refl, refl) c.write_event_counts_json.ensures)

pub returns-in-Dump : goal.returns-in-Dump
returns-in-Dump g c =
    let s = c.args.lab.now in
    commanded g.W.Write.contents c.write_dump_json.result c.args.writer.now c.write_dump_json.new.writer s c.args.command Dump s c.in-Dump.is
    (some_as g.W.Write.contents c.write_dump_json.result c.args.writer.now c.write_dump_json.new.writer (IsJsonLine (IsDumpJson s)) (λ text. AnswersCommandJson s Dump text s) (λ text h. (h, refl)) c.write_dump_json.ensures)

pub returns-in-Quit : goal.returns-in-Quit
returns-in-Quit g c = (
  search rules,
  λ before said h. ([], subst (λ z. AnswersCommandJson c.args.lab.now z [] c.args.lab.now) (sym c.in-Quit.is) (refl, refl), written_pending _ before said _ h),
)
