use Rattle.std.proofs.Common.{◌≡◌, ◌<◌, ◌+◌, length, take, ℕ, slice_index_or, List, arith}
use Rattle.std.proofs.lemmas.Grind.{common_steps}
use Rattle.std.proofs.lemmas.List.{get_or-take, length-take}
use Rattle.std.specs.List.{All}
use Rattle.ga_dap_protocol.specs.Framing.{IsDigit}
use Rattle.ga_dap_protocol.proofs.framing.digits_in.Goals as goal

one_more : (n i : ℕ) (xs : List ℕ) → n ≡ i → i < length xs → All IsDigit (take n xs) → IsDigit (slice_index_or xs i 0) → All IsDigit (take (n + 1) xs)
one_more n i xs e h all one = λ k d inside. grind (arith, common_steps, get_or-take, length-take, all k d, one.0, one.1)

pub loop-byte-preserved : goal.loop-byte-preserved
loop-byte-preserved c = record {
  count = omega arith;
  most = omega arith;
  digits = one_more c.loop-byte.count c.loop-byte.byte-index c.args.bytes.now c.loop-byte.invariant.count c.loop-byte-test.true c.loop-byte.invariant.digits c.if-not-is_ascii_digit.ensures.cases;
}
