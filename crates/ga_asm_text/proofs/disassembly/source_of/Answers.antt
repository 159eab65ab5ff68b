use Rattle.std.proofs.Common.{◌∙◌, ℕ, subst, ap, arith}
use Rattle.ga_grid.specs.Chip.{node_at}
use Rattle.ga_asm_text.specs.inner.{AppendsSourceWords, node_source_words, node_source_words_with_name}
use Rattle.ga_asm_text.proofs.NodeTexts.{said_none, said_more, said_all, said_size, said_fit}
use Rattle.ga_asm_text.proofs.disassembly.source_of.Goals as goal

pub loop-number-init : goal.loop-number-init
loop-number-init c = said_none c.args.chip.now c.new-text.result.items c.new-text.ensures.items

pub loop-number-preserved : goal.loop-number-preserved
loop-number-preserved c =
    said_more c.args.chip.now c.loop-number.text.items c.push_program.new.text.items c.loop-number.number c.node.result.now c.node.ensures.size c.loop-number-test.true
    (c.node.ensures.value ∙ ap (node_at c.args.chip.now) c.new-node.ensures)
    (subst (λ (n : ℕ). AppendsSourceWords c.loop-number.text.items c.push_program.new.text.items (node_source_words_with_name n (node_source_words n c.node.result.now))) c.new-node.ensures c.in_ok-push_program.ensures.says)
    c.in_ok-push_program.ensures.fit c.loop-number.invariant

pub returns-clause-says : goal.returns-clause-says
returns-clause-says c = said_all c.args.chip.now c.loop-number.text.items c.loop-number.number (omega (arith, c.loop-number-test.false)) c.loop-number.invariant

pub returns-clause-size : goal.returns-clause-size
returns-clause-size c = said_size c.args.chip.now c.loop-number.text.items c.loop-number.number (omega (arith, c.loop-number-test.false)) c.loop-number.invariant

pub returns-clause-fit : goal.returns-clause-fit
returns-clause-fit c = said_fit c.args.chip.now c.loop-number.text.items c.loop-number.number (omega (arith, c.loop-number-test.false)) c.loop-number.invariant
