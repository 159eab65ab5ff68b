use Rattle.ga_asm_text.proofs.SourceLines.{cell_words_added, cell_words_usual}
use Rattle.ga_asm_text.proofs.disassembly.push_word.Goals as goal

pub returns-then-word-eq0-clause-says : goal.returns-then-word-eq0-clause-says
returns-then-word-eq0-clause-says c = cell_words_usual c.args.text.now.items c.args.word c.args.address c.args.next c.if-word-eq0.true

pub returns-clause-says : goal.returns-clause-says
returns-clause-says c =
    cell_words_added c.args.text.now.items c.push_address.new.text.items c.push_cell.new.text.items c.args.word c.args.address c.args.next c.if-word-eq0.false c.in_ok-push_address.ensures c.in_ok-push_cell.ensures
