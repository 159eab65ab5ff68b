use Rattle.std.proofs.Common.{◌≡◌, ◌-◌, false, length, drop}
use Rattle.ga_image.specs.Fields.{row_exceeds_bank, greatest_field_word, has_repeated_field, fields_with_words}
use Rattle.ga_image.specs.inner.{AreFieldWords, progress_of_parser}
use Rattle.ga_image.specs.Reading.{progress_with_field_writes}
use Rattle.ga_image.proofs.parser.Parser.write_all.Given as goal

abbrev pub invariant-loop-word : goal.invariant-loop-word
invariant-loop-word l = record {
  fits : row_exceeds_bank l.at (length l.words - l.word-index) ≡ false;
  greatest_field_word : greatest_field_word l.at ≡ greatest_field_word l.fn.field;
  codes : AreFieldWords l.at l.words;
  block : l.self.stage ≡ l.fn.self.stage;
  faults : has_repeated_field l.self.given (fields_with_words l.at (drop l.word-index l.words)) ≡ has_repeated_field l.fn.self.given (fields_with_words l.fn.field l.words);
  progress : progress_with_field_writes (progress_of_parser l.self) (fields_with_words l.at (drop l.word-index l.words)) ≡ progress_with_field_writes (progress_of_parser l.fn.self) (fields_with_words l.fn.field l.words);
}
