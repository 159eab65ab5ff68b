use Rattle.std.proofs.Common.{ℕ, List, ◌++◌, sym, ap, ◌∙◌}
use Rattle.std.proofs.lemmas.Result.{on_ok_weaker}
use Rattle.ga_stacks.specs.Ring.{initial_stack_word}
use Rattle.ga_node.specs.Record.{record_of_node}
use Rattle.ga_grid.specs.Grid.{initial_p_of_node}
use Rattle.ga_image.specs.declared.field.Field.TheVariants.{A, B, P, I, Io}
use Rattle.ga_image.specs.inner.{field_lines_text}
use Rattle.ga_image.specs.Printing.{word_line_unless_default}
use Rattle.ga_image.proofs.Pieces.{lines_grown, word_grown}
use Rattle.ga_image.proofs.printing.push_registers.Goals as goal

pub returns-clause-text : goal.returns-clause-text
unfolding record_of_node
returns-clause-text c =
    let node = c.args.at.now in
    let p = initial_p_of_node c.args.node.number in
    let old : List ℕ = c.args.text.now.items in
    let t1 : List ℕ = c.push_words_unless.new.text.items in
    let t2 : List ℕ = c.push_words_unless-2.new.text.items in
    let t3 : List ℕ = c.push_words_unless-3.new.text.items in
    let t4 : List ℕ = c.push_words_unless-4.new.text.items in
    let t5 : List ℕ = c.push_words_unless-5.new.text.items in
    let a = word_grown old t1 0 A c.get.result node.a c.get.ensures.value c.in_ok-push_words_unless.ensures in
    let b = word_grown t1 t2 0x15d B c.get-2.result node.b c.get-2.ensures.value c.in_ok-push_words_unless-2.ensures in
    let at = word_grown t2 t3 c.initial_p.result P c.get-3.result node.p c.get-3.ensures.value c.in_ok-push_words_unless-3.ensures
    ∙ ap (λ (n : ℕ). t2 ++ field_lines_text (word_line_unless_default n P node.p)) c.initial_p.ensures.value in
    let i = word_grown t3 t4 0 I c.get-4.result node.i c.get-4.ensures.value c.in_ok-push_words_unless-4.ensures in
    let lines_io = word_line_unless_default initial_stack_word Io node.io in
    let lines_i = word_line_unless_default 0 I node.i ++ lines_io in
    let lines_p = word_line_unless_default p P node.p ++ lines_i in
    let lines_b = word_line_unless_default 0x15d B node.b ++ lines_p in
    on_ok_weaker c.push_words_unless-5.result
    (λ last.
    lines_grown old t1 t5 (word_line_unless_default 0 A node.a) lines_b a
    (lines_grown t1 t2 t5 (word_line_unless_default 0x15d B node.b) lines_p b
    (lines_grown t2 t3 t5 (word_line_unless_default p P node.p) lines_i at
    (lines_grown t3 t4 t5 (word_line_unless_default 0 I node.i) lines_io i
    (word_grown t4 t5 initial_stack_word Io c.get-5.result node.io c.get-5.ensures.value last)))))
    c.push_words_unless-5.ensures

pub returns-clause-sound : goal.returns-clause-sound
unfolding record_of_node
returns-clause-sound c =
    on_ok_weaker c.push_words_unless-5.result
    (λ _. record {
      a = rw (sym c.get.ensures.value) c.get.ensures.in_range;
      b = rw (sym c.get-2.ensures.value) c.get-2.ensures.in_range;
      p = rw (sym c.get-3.ensures.value) c.get-3.ensures.in_range;
      i = rw (sym c.get-4.ensures.value) c.get-4.ensures.in_range;
      io = rw (sym c.get-5.ensures.value) c.get-5.ensures.in_range;
    })
    c.push_words_unless-5.ensures
