use Rattle.std.proofs.Common.{◌≡◌, ◌+◌, ◌^◌, ◌++◌, drop, length}
use Rattle.ga_node.specs.inner.Packed.{words_with_free_bits}
use Rattle.ga_node.proofs.saved.spread.Given as goal

abbrev pub invariant-loop-old : goal.invariant-loop-old
invariant-loop-old l = record {
  count : length l.spread.items ≡ l.old-index;
  rest : l.spread.items ++ words_with_free_bits (drop l.old-index l.fn.words.items) l.rest ≡ words_with_free_bits l.fn.words.items (2 ^ 32 + l.fn.word);
}
