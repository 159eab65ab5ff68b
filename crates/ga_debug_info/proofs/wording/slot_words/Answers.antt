use Rattle.std.proofs.Common.{List, subst}
use Rattle.ga_parser.specs.declared.scan.Token.{Token}
use Rattle.ga_source.specs.Recovery.{tokens_with_word_numbers, IsAssemblyOfWords}
use Rattle.ga_debug_info.proofs.wording.slot_words.Goals as goal

pub returns : goal.returns
returns c = record {
  words = c.in_ok-words.words.items;
  all = c.in-Ok.all;
  said = c.in_ok-words.ensures.says;
  columns = c.in_ok-words.ensures.columns;
  assembled = subst (λ (words : List Token). IsAssemblyOfWords (tokens_with_word_numbers 1 words) c.in-Ok.all) c.as_slice.ensures.value c.in-Ok.ensures.assembled;
  told_words = rw (c.new-lines.ensures, c.as_slice-3.ensures.value, c.as_slice-2.ensures.value) at c.in_ok-told.ensures.words;
}
