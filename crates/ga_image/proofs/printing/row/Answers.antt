use Rattle.std.proofs.Common.{◌≡◌, ◌<◌, ◌≤◌, length, get_or, take, drop, sym, ◌∙◌, arith, length-drop}
use Rattle.std.proofs.lemmas.List.{get_or-take, get_or-drop, length-take-le}
use Rattle.ga_node.specs.Record.{record_of_node}
use Rattle.ga_image.specs.inner.{words_of_bank, bank_size}
use Rattle.ga_image.proofs.Pieces.{filled_more, filled_whole, words_push}
use Rattle.ga_image.proofs.printing.row.Goals as goal

pub words-preserved : goal.words-preserved
words-preserved c =
    let place = c.words.place in
    let before = c.words.words.items in
    let first = c.args.first in
    let count = c.args.count in
    let whole = words_of_bank c.args.bank (record_of_node c.args.at.now) in
    let below : place < count = omega arith in
    let value : c.word_at.result ≡ get_or (take count (drop first whole)) place 0 = c.word_at.ensures.value ∙ sym (get_or-drop first whole place 0) ∙ sym (get_or-take count (drop first whole) place 0 below) in
    let filled = filled_more before (take count (drop first whole)) place c.word_at.result c.words.invariant.len c.words.invariant.filled value in
    let words = words_push before c.word_at.result c.words.invariant.words c.word_at.ensures.in_range in
    record {
      filled = rw c.push.ensures.items filled;
      words = rw c.push.ensures.items words;
      len = omega (arith, c.push.ensures.len, c.words.invariant.len);
      size = λ past. c.word_at.ensures.size (omega arith);
    }

pub returns-clause-items : goal.returns-clause-items
returns-clause-items c =
    let first = c.args.first in
    let count = c.args.count in
    let whole = words_of_bank c.args.bank (record_of_node c.args.at.now) in
    let size : length whole ≡ bank_size c.args.bank = c.words.invariant.size (omega (arith, c.requires.some)) in
    let left : count ≤ length (drop first whole) = omega (arith, length-drop first whole, c.requires.within) in
    let row : length (take count (drop first whole)) ≡ count = length-take-le count (drop first whole) left in
    filled_whole c.words.words.items (take count (drop first whole)) c.words.place c.words.invariant.len (omega arith) c.words.invariant.filled
