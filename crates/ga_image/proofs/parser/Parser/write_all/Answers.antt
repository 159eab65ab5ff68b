use Rattle.std.proofs.Common.{◌≡◌, ℕ, ◌-◌, false, length, sym, ◌∙◌, ap, get_or, arith}
use Rattle.ga_image.specs.Fields.{row_exceeds_bank, has_too_great_word}
use Rattle.ga_image.specs.inner.{progress_of_parser, stage_of_parser}
use Rattle.ga_image.specs.Reading.{block_node_of_stage}
use Rattle.ga_image.proofs.LineCauses.{next_fits, next_greatest, repeats_here, repeated_field, repeats_later, written_later, next_codes}
use Rattle.ga_image.proofs.parser.Parser.write_all.Goals as goal

pub returns-then-self-number-clause-fault : goal.returns-then-self-number-clause-fault
returns-then-self-number-clause-fault c =
    let given = ap (λ (n : ℕ). get_or c.loop-word.self.given n false) (sym c.number-number.ensures.value) ∙ c.if-self-number.true in
    let fits : row_exceeds_bank c.args.field _ ≡ false = sym c.row_exceeds_bank.ensures ∙ c.if-row_exceeds_bank.false in
    let small : has_too_great_word c.args.field c.args.words.now ≡ false = sym c.is_exceeded_by.ensures ∙ c.if-is_exceeded_by.false in
    sym (repeated_field (progress_of_parser c.args.self.now) c.args.field c.args.words.now fits small
    (sym c.loop-word.invariant.faults ∙ repeats_here c.loop-word.self.given c.loop-word.at c.args.words.now c.loop-word.word-index c.loop-word-test.true given))

pub loop-word-preserved : goal.loop-word-preserved
loop-word-preserved c =
    let free = ap (λ (n : ℕ). get_or c.loop-word.self.given n false) (sym c.number-number.ensures.value) ∙ c.if-self-number.false in
    let node : block_node_of_stage (stage_of_parser c.loop-word.self.stage) ≡ c.args.node.number = ap (λ s. block_node_of_stage (stage_of_parser s)) (c.loop-word.invariant.block ∙ c.requires.block) in
    record {
      fits = rw c.next-at.ensures (next_fits c.loop-word.at (length c.args.words.now - c.loop-word.word-index) _ (omega arith) c.loop-word.invariant.fits);
      greatest_field_word = rw c.next-at.ensures (next_greatest c.loop-word.at ∙ c.loop-word.invariant.greatest_field_word);
      codes = rw c.next-at.ensures (next_codes c.loop-word.at c.args.words.now c.loop-word.invariant.codes);
      block = c.loop-word.invariant.block;
      faults = rw (c.number-number.ensures.value, c.next-at.ensures)
          (sym (repeats_later c.loop-word.self.given c.loop-word.at c.args.words.now c.loop-word.word-index c.loop-word-test.true free) ∙ c.loop-word.invariant.faults);
      progress = rw (c.number-number.ensures.value, c.with-self.ensures, c.write.ensures, c.next-at.ensures, ← node)
          (sym (written_later (progress_of_parser c.loop-word.self) c.loop-word.at c.args.words.now c.loop-word.word-index c.loop-word-test.true) ∙ c.loop-word.invariant.progress);
    }
