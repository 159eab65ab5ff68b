use Rattle.std.proofs.Common.{ℕ, ◌≡◌, ◌*◌, ◌<◌, List, ◌++◌, take, flat_map, sym, ap, ◌∙◌, subst, arith}
use Rattle.ga_node.specs.Record.{record_of_node}
use Rattle.ga_image.specs.declared.field.Field.{Field}
use Rattle.ga_image.specs.inner.{field_of_bank, field_lines_text, words_of_bank}
use Rattle.ga_image.specs.Printing.{AreEighteenBitWords, line_unless_default, row_of_words, row_start_cells}
use Rattle.ga_image.proofs.Pieces.{lines_grown, rows_more, row_cell}
use Rattle.ga_image.proofs.PrintedFields.{rows_words, memory_words}
use Rattle.ga_image.proofs.printing.push_memory.Goals as goal

pub rows-preserved : goal.rows-preserved
rows-preserved c =
    let bank = c.args.bank in
    let memory = words_of_bank bank (record_of_node c.args.at.now) in
    let old : List ℕ = c.args.text.now.items in
    let text : List ℕ = c.rows.text.items in
    let new : List ℕ = c.push_words_unless.new.text.items in
    let number = c.rows.number in
    let lines : ℕ → List (Field × List ℕ) = λ cell. line_unless_default 0 (field_of_bank bank cell) (row_of_words memory cell) in
    let within : number < 8 = omega arith in
    let words : c.as_slice.result.now ≡ row_of_words memory (8 * number) = c.as_slice.ensures.value ∙ c.row.ensures.items in
    let last : new ≡ text ++ field_lines_text (lines (8 * number)) =
    c.in_ok-push_words_unless.ensures
    ∙ ap (λ field. text ++ field_lines_text (line_unless_default 0 field c.as_slice.result.now)) c.field.ensures
    ∙ ap (λ row. text ++ field_lines_text (line_unless_default 0 (field_of_bank bank (8 * number)) row)) words in
    let more =
    lines_grown old text new (flat_map lines (take number row_start_cells)) (lines (8 * number)) c.rows.invariant.text last
    ∙ ap (λ (n : ℕ). old ++ field_lines_text (flat_map lines (take number row_start_cells) ++ lines n)) (sym (row_cell number within))
    ∙ ap (λ found. old ++ field_lines_text found) (sym (rows_more lines row_start_cells number within)) in
    record {
      text = more;
      words = rows_words memory number c.rows.invariant.words (subst AreEighteenBitWords c.row.ensures.items c.row.ensures.words);
      size = λ _. c.row.ensures.size ∙ c.requires;
    }

pub returns-clause-sound : goal.returns-clause-sound
returns-clause-sound c =
    let memory = words_of_bank c.args.bank (record_of_node c.args.at.now) in
    memory_words memory c.rows.number (omega arith) (c.rows.invariant.size (omega arith)) c.rows.invariant.words
