use Rattle.std.specs.Int.{from_bool}
use Rattle.std.proofs.Common.{ℕ, List, ◌++◌, sym, ◌∙◌, ap, subst}
use Rattle.std.proofs.lemmas.Result.{on_ok_weaker}
use Rattle.ga_stacks.specs.Ring.{initial_stack_word, words_of_stack}
use Rattle.ga_node.specs.Record.{record_of_node}
use Rattle.ga_node.specs.State.{wait_code}
use Rattle.ga_image.specs.declared.field.Field.TheVariants.{Carry, Slot, Wait, Stop, Data, Return}
use Rattle.ga_image.specs.Printing.{line_unless_default, word_line_unless_default, HasWaitSides}
use Rattle.ga_image.proofs.Pieces.{lines_grown, word_grown, words_grown}
use Rattle.ga_image.proofs.PrintedFields.{sides_of, whole_row, holds_row}
use Rattle.ga_image.proofs.printing.push_state.Goals as goal

pub returns-clause-text : goal.returns-clause-text
unfolding record_of_node
returns-clause-text c =
    let node = c.args.at.now in
    let old : List ℕ = c.args.text.now.items in
    let t1 : List ℕ = c.push_digit_unless.new.text.items in
    let t2 : List ℕ = c.push_digit_unless-2.new.text.items in
    let t3 : List ℕ = c.push_words_unless.new.text.items in
    let t4 : List ℕ = c.push_words_unless-2.new.text.items in
    let t5 : List ℕ = c.push_wait_unless.new.text.items in
    let t6 : List ℕ = c.push_digit_unless-3.new.text.items in
    let d = words_of_stack node.data_stack in
    let r = words_of_stack node.return_stack in
    let carry = word_grown old t1 0 Carry c.get.result (from_bool node.carry) c.get.ensures.value c.in_ok-push_digit_unless.ensures in
    let slot = word_grown t1 t2 4 Slot c.get-2.result node.slot c.get-2.ensures.value c.in_ok-push_digit_unless-2.ensures in
    let data_words = words_grown t2 t3 initial_stack_word (Data 0) c.as_slice.result.now d (c.as_slice.ensures.value ∙ c.row.ensures.items ∙ whole_row d 10 c.row.ensures.size) c.in_ok-push_words_unless.ensures in
    let return_words = words_grown t3 t4 initial_stack_word (Return 0) c.as_slice-2.result.now r (c.as_slice-2.ensures.value ∙ c.row-2.ensures.items ∙ whole_row r 9 c.row-2.ensures.size) c.in_ok-push_words_unless-2.ensures in
    let wait = word_grown t4 t5 0 Wait c.code.result (wait_code node.wait) (c.code.ensures.value ∙ ap wait_code c.wait.ensures.value) c.in_ok-push_wait_unless.ensures in
    let lines_stop = word_line_unless_default 0 Stop node.stop in
    let lines_wait = word_line_unless_default 0 Wait (wait_code node.wait) ++ lines_stop in
    let lines_r = line_unless_default initial_stack_word (Return 0) r ++ lines_wait in
    let lines_d = line_unless_default initial_stack_word (Data 0) d ++ lines_r in
    let lines_slot = word_line_unless_default 4 Slot node.slot ++ lines_d in
    on_ok_weaker c.push_digit_unless-3.result
    (λ last.
    lines_grown old t1 t6 (word_line_unless_default 0 Carry (from_bool node.carry)) lines_slot carry
    (lines_grown t1 t2 t6 (word_line_unless_default 4 Slot node.slot) lines_d slot
    (lines_grown t2 t3 t6 (line_unless_default initial_stack_word (Data 0) d) lines_r data_words
    (lines_grown t3 t4 t6 (line_unless_default initial_stack_word (Return 0) r) lines_wait return_words
    (lines_grown t4 t5 t6 (word_line_unless_default 0 Wait (wait_code node.wait)) lines_stop wait
    (word_grown t5 t6 0 Stop c.get-3.result node.stop c.get-3.ensures.value last))))))
    c.push_digit_unless-3.ensures

pub returns-clause-sound : goal.returns-clause-sound
unfolding record_of_node
returns-clause-sound c =
    let node = record_of_node c.args.at.now in
    on_ok_weaker c.push_digit_unless-3.result
    (λ _. record {
      slot = rw (sym c.get-2.ensures.value) c.get-2.ensures.in_range;
      d = holds_row 10 c.row.result.items node.d c.row.ensures.items c.row.ensures.words c.row.ensures.size;
      r = holds_row 9 c.row-2.result.items node.r c.row-2.ensures.items c.row-2.ensures.words c.row-2.ensures.size;
      wait = subst HasWaitSides (c.code.ensures.back ∙ c.wait.ensures.value) (sides_of c.code.result c.code.ensures.valid);
      stop = rw (sym c.get-3.ensures.value) c.get-3.ensures.in_range;
    })
    c.push_digit_unless-3.ensures
