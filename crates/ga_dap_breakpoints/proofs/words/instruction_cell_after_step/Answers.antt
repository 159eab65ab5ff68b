use Rattle.std.proofs.Common.{arith}
use Rattle.ga_node.specs.Record.{record_of_node}
use Rattle.ga_provenance.proofs.Made.{then_of}
use Rattle.ga_dap_breakpoints.proofs.Following.{word_stays, word_comes}
use Rattle.ga_dap_breakpoints.proofs.words.instruction_cell_after_step.Goals as goal

pub returns-then-event_keeps_instruction_word : goal.returns-then-event_keeps_instruction_word
returns-then-event_keeps_instruction_word c =
    let s = c.args.lab.now in
    let node = c.args.node in
    let walk = c.args.walk.now in
    let before = record_of_node c.node.result.now in
    word_stays s node walk.step c.step-place.result c.args.word c.made_event_of_step.result before c.event_keeps_instruction_word.result c.step-place.ensures.value c.made_event_of_step.ensures
    (then_of s node walk before c.requires.walk (omega (arith, c.step-place.ensures.value, c.step-place.ensures.within)) c.node.ensures) c.event_keeps_instruction_word.ensures c.if-event_keeps_instruction_word.true

pub returns-else-event_keeps_instruction_word : goal.returns-else-event_keeps_instruction_word
returns-else-event_keeps_instruction_word c =
    let s = c.args.lab.now in
    let node = c.args.node in
    let walk = c.args.walk.now in
    let before = record_of_node c.node.result.now in
    word_comes s node walk.step c.step-place.result c.args.word c.instruction_cell_after.result c.made_event_of_step.result before c.event_keeps_instruction_word.result c.step-place.ensures.value c.made_event_of_step.ensures
    (then_of s node walk before c.requires.walk (omega (arith, c.step-place.ensures.value, c.step-place.ensures.within)) c.node.ensures) c.event_keeps_instruction_word.ensures c.if-event_keeps_instruction_word.false c.instruction_cell_after.ensures
