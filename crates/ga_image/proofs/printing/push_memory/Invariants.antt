use Rattle.std.proofs.Common.{◌≡◌, ◌*◌, ◌<◌, ◌++◌, length, take, flat_map}
use Rattle.ga_node.specs.Record.{record_of_node}
use Rattle.ga_image.specs.inner.{field_of_bank, field_lines_text, words_of_bank}
use Rattle.ga_image.specs.Printing.{AreEighteenBitWords, line_unless_default, row_of_words, row_start_cells}
use Rattle.ga_image.proofs.printing.push_memory.Given as goal

abbrev pub invariant-rows : goal.invariant-rows
invariant-rows l =
    let memory = words_of_bank l.bank (record_of_node l.at) in
    record {
      text : l.text.items ≡ l.initial.text.items ++ field_lines_text (flat_map (λ cell. line_unless_default 0 (field_of_bank l.bank cell) (row_of_words memory cell)) (take l.number row_start_cells));
      words : AreEighteenBitWords (take (8 * l.number) memory);
      size : 0 < l.number → length memory ≡ 64;
    }
