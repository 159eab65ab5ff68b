use Rattle.std.proofs.Common.{◌≡◌, ◌≤◌, true, false, length, sym, subst, arith}
use Rattle.ga_dap_protocol.specs.Framing.{header_terminator, IsOnePrefixOfOther, IsFramePrefix, IsContentLength}
use Rattle.ga_dap_protocol.proofs.Frames.{whole, is_too_long, is_many, is_no_end, is_part, no_digits, is_zero, not_zero}
use Rattle.ga_dap_protocol.proofs.framing.front_behind.Goals as goal

pub returns-in_default : goal.returns-in_default
returns-in_default c =
    let r = c.value_behind.ensures.reads in
    is_too_long c.args.bytes.now c.value_behind.result.0.now c.value_behind.result.1.now r.0 r.1 c.value_behind.ensures.most c.in_default.ensures.past

pub returns-then-digits-gt-DIGIT_LIMIT : goal.returns-then-digits-gt-DIGIT_LIMIT
returns-then-digits-gt-DIGIT_LIMIT c =
    let r = c.value_behind.ensures.reads in
    let most = c.value_behind.ensures.most in
    is_many c.args.bytes.now c.value_behind.result.0.now c.value_behind.result.1.now r.0 r.1 (omega arith)
    (subst (λ z. z ≤ 131072) c.in-Some.ensures.value c.in-Some.ensures.within)

pub returns-then-is_empty : goal.returns-then-is_empty
returns-then-is_empty c =
    subst (λ z. IsFramePrefix z c.without_digit.result)
    (no_digits c.args.bytes.now c.value_behind.result.0.now c.value_behind.result.1.now
    (is_zero (length c.value_behind.result.0.now) c.is_empty.result c.is_empty.ensures c.if-is_empty.true) c.value_behind.ensures.reads.0)
    c.without_digit.ensures

pub returns-then-not-agree : goal.returns-then-not-agree
returns-then-not-agree c =
    let r = c.value_behind.ensures.reads in
    let is : IsContentLength c.value_behind.result.0.now c.in-Some.number = (not_zero (length c.value_behind.result.0.now) c.is_empty.result c.is_empty.ensures c.if-is_empty.false, omega arith, r.1, sym c.in-Some.ensures.value, c.in-Some.ensures.within) in
    let differ = λ (h : IsOnePrefixOfOther c.value_behind.result.1.now header_terminator).
    let t : c.agree.result ≡ true = c.agree.ensures.1 h in let f : c.agree.result ≡ false = c.if-not-agree.true in absurd (cc) in
    is_no_end c.args.bytes.now c.value_behind.result.0.now c.value_behind.result.1.now r.0
    (subst (IsContentLength c.value_behind.result.0.now) c.in-Some.ensures.value is) (c.value_behind.ensures.all (omega arith)) differ

pub returns-then-rest-number : goal.returns-then-rest-number
returns-then-rest-number c =
    let r = c.value_behind.ensures.reads in
    let is : IsContentLength c.value_behind.result.0.now c.in-Some.number = (not_zero (length c.value_behind.result.0.now) c.is_empty.result c.is_empty.ensures c.if-is_empty.false, omega arith, r.1, sym c.in-Some.ensures.value, c.in-Some.ensures.within) in
    is_part c.args.bytes.now c.value_behind.result.0.now c.value_behind.result.1.now c.in-Some.number r.0 is (omega arith) (c.agree.ensures.0 c.if-not-agree.false)

pub returns : goal.returns
returns c =
    let r = c.value_behind.ensures.reads in
    let is : IsContentLength c.value_behind.result.0.now c.in-Some.number = (not_zero (length c.value_behind.result.0.now) c.is_empty.result c.is_empty.ensures c.if-is_empty.false, omega arith, r.1, sym c.in-Some.ensures.value, c.in-Some.ensures.within) in
    whole c.args.bytes.now c.value_behind.result.0.now c.value_behind.result.1.now c.in-Some.number r.0 is (omega arith) (c.agree.ensures.0 c.if-not-agree.false)
