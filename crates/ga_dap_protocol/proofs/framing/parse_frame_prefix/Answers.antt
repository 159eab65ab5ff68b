use Rattle.std.proofs.Common.{arith, ◌≡◌, true, false}
use Rattle.ga_dap_protocol.specs.Framing.{IsOnePrefixOfOther, content_length_field}
use Rattle.ga_dap_protocol.proofs.Frames.{no_field, part_of_field}
use Rattle.ga_dap_protocol.proofs.framing.parse_frame_prefix.Goals as goal

pub returns-then-not-agree : goal.returns-then-not-agree
returns-then-not-agree c =
    let differ = λ (h : IsOnePrefixOfOther c.args.bytes.now content_length_field). let t : c.agree.result ≡ true = c.agree.ensures.1 h in let f : c.agree.result ≡ false = c.if-not-agree.true in absurd (cc) in
    (no_field c.args.bytes.now differ, differ)

pub returns-then-bytes-lt16 : goal.returns-then-bytes-lt16
returns-then-bytes-lt16 c = part_of_field c.args.bytes.now (omega arith) (c.agree.ensures.0 c.if-not-agree.false)
