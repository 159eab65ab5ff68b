use Rattle.std.proofs.Common.{arith}
use Rattle.ga_debug_info.proofs.FieldLemmas.{no_lines, one_line_more, all_lines}
use Rattle.ga_debug_info.proofs.unrepresented.lines_of.Goals as goal

pub loop-number-init : goal.loop-number-init
loop-number-init c = no_lines c.args.chip.now c.new-text.result.items c.new-text.ensures.items

pub loop-number-preserved : goal.loop-number-preserved
loop-number-preserved c =
    one_line_more c.args.chip.now c.loop-number.text.items c.push_node.new.text.items c.loop-number.number c.new-id.result.number c.node.result.now c.node.ensures.size c.loop-number-test.true
    c.new-id.ensures c.node.ensures.value c.in_ok-push_node.ensures c.loop-number.invariant

pub returns : goal.returns
returns c = all_lines c.args.chip.now c.loop-number.text.items c.loop-number.number (omega (arith, c.loop-number-test.false)) c.loop-number.invariant
