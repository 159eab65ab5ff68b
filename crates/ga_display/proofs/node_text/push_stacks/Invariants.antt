use Rattle.std.specs.Prelude.{codes}
use Rattle.std.proofs.Common.{◌≡◌, ◌<◌, ◌+◌, ◌*◌, ◌++◌, length}
use Rattle.ga_node.specs.Record.{record_of_node}
use Rattle.ga_text.specs.Digits.{spaced_words_text}
use Rattle.ga_display.proofs.Pieces.{first_words}
use Rattle.ga_display.proofs.node_text.push_stacks.Given as goal

abbrev pub invariant-data : goal.invariant-data
invariant-data g l = record {
  text : l.out.items ≡ l.fn.out.items ++ (codes " d" ++ spaced_words_text (first_words l.place (record_of_node l.node).d));
  len : length l.out.items ≡ length l.fn.out.items + 2 + 7 * l.place;
  size : 2 < l.place → length (record_of_node l.node).d ≡ 10;
}

abbrev pub invariant-returns : goal.invariant-returns
invariant-returns g l = record {
  text : l.out.items ≡ l.fn.out.items ++ (codes " d" ++ spaced_words_text (record_of_node l.node).d ++ codes " r" ++ spaced_words_text (first_words l.place (record_of_node l.node).r));
  len : length l.out.items ≡ length l.fn.out.items + 74 + 7 * l.place;
  size : 1 < l.place → length (record_of_node l.node).r ≡ 9;
}
