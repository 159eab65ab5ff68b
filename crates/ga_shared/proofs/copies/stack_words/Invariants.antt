use Rattle.std.proofs.Common.{◌≡◌, ◌<◌, ℕ, length, slice_index}
use Rattle.ga_node.specs.Record.{record_of_node}
use Rattle.ga_shared.proofs.copies.stack_words.Given as goal

abbrev pub invariant-loop-place : goal.invariant-loop-place
invariant-loop-place l = record {
  data_size : length l.data_words ≡ 10;
  return_size : length l.return_words ≡ 9;
  data_words : (k : ℕ) → k < l.place → slice_index l.data_words k ≡ slice_index (record_of_node l.node).d k;
  bottom : slice_index l.data_words 9 ≡ slice_index (record_of_node l.node).d 9;
  return_words : (k : ℕ) → k < l.place → slice_index l.return_words k ≡ slice_index (record_of_node l.node).r k;
}
