use Rattle.std.proofs.Common.{◌≡◌, ◌<◌, length, take, drop}
use Rattle.ga_node.specs.Record.{record_of_node}
use Rattle.ga_image.specs.Printing.{AreEighteenBitWords}
use Rattle.ga_image.specs.inner.{words_of_bank, bank_size}
use Rattle.ga_image.proofs.Pieces.{IsFilled}
use Rattle.ga_image.proofs.printing.row.Given as goal

abbrev pub invariant-words : goal.invariant-words
invariant-words l = record {
  filled : IsFilled l.words.items l.place (take l.count (drop l.first (words_of_bank l.bank (record_of_node l.at))));
  words : AreEighteenBitWords l.words.items;
  len : length l.words.items ≡ l.place;
  size : 2 < l.place → length (words_of_bank l.bank (record_of_node l.at)) ≡ bank_size l.bank;
}
