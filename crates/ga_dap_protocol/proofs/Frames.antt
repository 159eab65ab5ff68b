-- The front of some bytes: a message, a part of one, or neither.
use Rattle.std.proofs.Common.{◌≡◌, ◌<◌, ◌∙◌, ℕ, Bool, true, false, inl, inr, arith, ◌≤◌, ◌+◌, ◌-◌, ◌++◌, suc, zero, List, [], ◌∷◌, length, take, drop, min, replicate, get_or, refl, sym, ap, subst, append_assoc, length-append, length-drop}
use Rattle.std.specs.Bool.{◌==◌}
use Rattle.std.proofs.lemmas.Bool.Decides.{eqb_tells}
use Rattle.std.proofs.lemmas.List.{append_cancel_left, take-append-le, take-append-drop, append-nil, length-take, length-replicate, take_at, drop_at, take_all, drop-take, get_or-drop}
use Rattle.std.proofs.lemmas.Bool.{cases_lt}
use Rattle.std.proofs.Math.Seq.{take-add}
use Rattle.std.specs.List.{All}
use Rattle.ga_dap_protocol.specs.declared.framing.FramePrefix.TheVariants.{Message, PartialMessage, NoMessage}
use Rattle.ga_dap_protocol.specs.declared.broken.FrameError.TheVariants.{NoDigit, TooLong, TooManyDigits, MissingHeaderEnd}
use Rattle.ga_dap_protocol.specs.Framing.{content_limit, content_length_digit_limit, content_length_field, header_terminator, header_part, IsDigit, decimal_value_of_digits, IsContentLength, IsMessagePrefix, CanBeginNoMessage, IsOnePrefixOfOther, IsFramePrefix}
use Rattle.ga_dap_protocol.proofs.Unique.{right_of, no_digit_first, run, grows, value_more}

-- ---- what a test of a length implies

pub is_zero : (n : ℕ) (b : Bool) → b ≡ (n == 0) → b ≡ true → n ≡ 0
is_zero n b e t = elim (eqb_tells n 0) as (λ w. n ≡ 0) [
  | inl p ↦ p.1
  | inr p ↦ let f : b ≡ false = e ∙ p.0 in (cc)
]

pub not_zero : (n : ℕ) (b : Bool) → b ≡ (n == 0) → b ≡ false → 0 < n
not_zero n b e f = elim (eqb_tells n 0) as (λ w. 0 < n) [
  | inl p ↦ let t : b ≡ true = e ∙ p.0 in absurd (cc)
  | inr p ↦ let h = p.1 in omega arith
]

-- ---- two beginnings of one text agree

at_most : (n : ℕ) (xs r : List ℕ) → n ≤ length xs → take n xs ≡ take n (xs ++ r)
at_most n xs r le = sym (take-append-le n xs r le)

pub agrees : (xs ys r s : List ℕ) → xs ++ r ≡ ys ++ s → IsOnePrefixOfOther xs ys
agrees xs ys r s e =
    at_most (min (length xs) (length ys)) xs r (omega arith)
    ∙ ap (take (min (length xs) (length ys))) e
    ∙ take-append-le (min (length xs) (length ys)) ys s (omega arith)

-- where the first is no longer, it is that much of the second
pub front_is : (xs ys : List ℕ) → length xs ≤ length ys → IsOnePrefixOfOther xs ys → xs ++ drop (length xs) ys ≡ ys
front_is xs ys le h =
    let m : min (length xs) (length ys) ≡ length xs = omega arith in
    let t : take (length xs) xs ≡ take (length xs) ys = subst (λ n. take n xs ≡ take n ys) m h in
    let same : xs ≡ take (length xs) ys = sym (take_all (length xs) xs (omega arith)) ∙ t in
    ap (λ z. z ++ drop (length xs) ys) same ∙ take-append-drop (length xs) ys

-- ---- the bytes begin with no message

parts : (f d r g b c m s : List ℕ) → ((f ++ d) ++ r) ++ m ≡ (((f ++ g) ++ b) ++ c) ++ s → d ++ (r ++ m) ≡ g ++ (b ++ (c ++ s))
parts f d r g b c m s e = append_cancel_left f (d ++ (r ++ m)) (g ++ (b ++ (c ++ s))) (simp append_assoc at e)

-- if digits were read, those of a message continue with them
continued : (digits rest content text more after gs : List ℕ) → All IsDigit digits → All IsDigit gs → text ≡ header_part gs ++ content →
    (content_length_field ++ digits ++ rest) ++ more ≡ text ++ after →
    (es : List ℕ) × (gs ≡ digits ++ es) × (rest ++ more ≡ es ++ (header_terminator ++ (content ++ after)))
continued digits rest content text more after gs all every is e =
    run digits gs (rest ++ more) (10 ∷ (13 ∷ (10 ∷ (content ++ after)))) all every
    (parts content_length_field digits rest gs header_terminator content more after (e ∙ ap (λ z. z ++ after) is))

pub no_field : (bytes : List ℕ) → (IsOnePrefixOfOther bytes content_length_field → ⊥) → CanBeginNoMessage bytes
no_field bytes differ = λ content text more after m e.
    differ (agrees bytes content_length_field more (m.0 ++ header_terminator ++ content ++ after)
    (e ∙ ap (λ z. z ++ after) m.2 ∙ simp append_assoc))

pub too_long : (digits rest : List ℕ) → All IsDigit digits → content_limit < decimal_value_of_digits 0 digits → CanBeginNoMessage (content_length_field ++ digits ++ rest)
too_long digits rest all past = λ content text more after m e.
    let r = continued digits rest content text more after m.0 all m.1.2 m.2 e in
    let v : decimal_value_of_digits 0 m.0 ≡ decimal_value_of_digits (decimal_value_of_digits 0 digits) r.0 = ap (decimal_value_of_digits 0) r.1 ∙ value_more 0 digits r.0 in
    let g : decimal_value_of_digits 0 digits ≤ decimal_value_of_digits (decimal_value_of_digits 0 digits) r.0 = grows (decimal_value_of_digits 0 digits) r.0 in
    let is : decimal_value_of_digits 0 m.0 ≡ length content = m.1.3 in
    let within : length content ≤ content_limit = m.1.4 in
    omega arith

pub many_digits : (digits rest : List ℕ) → All IsDigit digits → content_length_digit_limit < length digits → CanBeginNoMessage (content_length_field ++ digits ++ rest)
many_digits digits rest all past = λ content text more after m e.
    let r = continued digits rest content text more after m.0 all m.1.2 m.2 e in
    let l : length m.0 ≡ length digits + length r.0 = ap length r.1 ∙ length-append digits r.0 in
    let most : length m.0 ≤ content_length_digit_limit = m.1.1 in
    omega arith

-- if another byte follows digits, a message has no further ones
no_more : (digits : List ℕ) (byte : ℕ) (rest content text more after gs : List ℕ) → All IsDigit digits → (IsDigit byte → ⊥) → All IsDigit gs →
    text ≡ header_part gs ++ content → (content_length_field ++ digits ++ (byte ∷ rest)) ++ more ≡ text ++ after →
    (gs ≡ digits) × ((byte ∷ rest) ++ more ≡ header_terminator ++ (content ++ after))
no_more digits byte rest content text more after gs all not_one every is e =
    let r = continued digits (byte ∷ rest) content text more after gs all every is e in
    let none : r.0 ≡ [] = no_digit_first byte r.0 (header_terminator ++ (content ++ after)) (rest ++ more) not_one
    (right_of IsDigit digits r.0 (subst (All IsDigit) r.1 every)) r.2 in
    (r.1 ∙ ap (λ z. digits ++ z) none ∙ append-nil digits, r.2 ∙ ap (λ z. z ++ (header_terminator ++ (content ++ after))) none)

pub no_digit : (byte : ℕ) (rest : List ℕ) → (IsDigit byte → ⊥) → CanBeginNoMessage (content_length_field ++ (byte ∷ rest))
no_digit byte rest not_one = λ content text more after m e.
    let r = no_more [] byte rest content text more after m.0 (λ k d lt. absurd (omega arith)) not_one m.1.2 m.2 e in
    let l : length m.0 ≡ 0 = ap length r.0 in
    let some : 1 ≤ length m.0 = m.1.0 in
    omega arith

pub no_end : (digits : List ℕ) (byte : ℕ) (rest : List ℕ) → All IsDigit digits → (IsDigit byte → ⊥) → (IsOnePrefixOfOther (byte ∷ rest) header_terminator → ⊥) →
    CanBeginNoMessage (content_length_field ++ digits ++ (byte ∷ rest))
no_end digits byte rest all not_one differ = λ content text more after m e.
    let r = no_more digits byte rest content text more after m.0 all not_one m.1.2 m.2 e in
    differ (agrees (byte ∷ rest) header_terminator more (content ++ after) r.1)

-- ---- the beginning of a message

pub zeros : (n : ℕ) → length {A = ℕ} (replicate n 0) ≡ n
zeros n = length-replicate n 0

empty : (bytes more : List ℕ) → 1 ≤ length more → bytes ++ more ≡ header_part (48 ∷ []) → IsMessagePrefix bytes
empty bytes more some is = (
  [],
  more,
  some,
  (
    48 ∷ [],
    (omega arith, omega arith, (λ k d lt. elim_one k d lt), refl, omega arith),
    is ∙ sym (append-nil (header_part (48 ∷ []))),
  ),
)
  where
    elim_one : (k d : ℕ) → k < 1 → IsDigit (get_or (48 ∷ []) k d)
    elim_one zero d lt = (omega arith, omega arith)
    elim_one (suc k) d lt = absurd (omega arith)

pub part_of_field : (bytes : List ℕ) → length bytes < 16 → IsOnePrefixOfOther bytes content_length_field → IsMessagePrefix bytes
part_of_field bytes short h =
    let is : bytes ++ drop (length bytes) content_length_field ≡ content_length_field = front_is bytes content_length_field (omega arith) h in
    let long : length (drop (length bytes) content_length_field ++ (48 ∷ header_terminator)) ≡ 16 - length bytes + 5 = length-append (drop (length bytes) content_length_field) (48 ∷ header_terminator) ∙ ap (λ n. n + 5) (length-drop (length bytes) content_length_field) in
    empty bytes (drop (length bytes) content_length_field ++ (48 ∷ header_terminator)) (omega arith)
    (sym (append_assoc bytes (drop (length bytes) content_length_field) (48 ∷ header_terminator)) ∙ ap (λ z. z ++ (48 ∷ header_terminator)) is)

pub part_of_value : IsMessagePrefix content_length_field
part_of_value = empty content_length_field (48 ∷ header_terminator) (omega arith) refl

-- the bytes of a message's header so far, and of its content part so far
begun : (bytes digits content more : List ℕ) (n : ℕ) → IsContentLength digits n → length content + length more ≡ n → (rest : List ℕ) → 1 ≤ length (rest ++ more) →
    bytes ++ rest ≡ header_part digits ++ content → IsMessagePrefix bytes
begun bytes digits content more n is l rest some e =
    let long : length (content ++ more) ≡ n = length-append content more ∙ l in (
      content ++ more,
      rest ++ more,
      some,
      (
        digits,
        subst (IsContentLength digits) (sym long) is,
        sym (append_assoc bytes rest more) ∙ ap (λ z. z ++ more) e ∙ append_assoc (header_part digits) content more,
      ),
    )

-- digits, and less than the end of the header
pub part_of_end : (digits rest : List ℕ) (n : ℕ) → IsContentLength digits n → length rest < 4 → IsOnePrefixOfOther rest header_terminator → IsMessagePrefix (content_length_field ++ digits ++ rest)
part_of_end digits rest n is short h =
    let e : rest ++ drop (length rest) header_terminator ≡ header_terminator = front_is rest header_terminator (omega arith) h in
    let long : length (drop (length rest) header_terminator ++ replicate n 0) ≡ 4 - length rest + n =
    length-append (drop (length rest) header_terminator) (replicate n 0) ∙ ap (λ z. z + length (replicate {A = ℕ} n 0)) (length-drop (length rest) header_terminator) ∙ ap (λ z. 4 - length rest + z) (zeros n) in
    begun (content_length_field ++ digits ++ rest) digits [] (replicate n 0) n is (omega (arith, zeros n)) (drop (length rest) header_terminator) (omega arith)
    (append_assoc (content_length_field ++ digits) rest (drop (length rest) header_terminator) ∙ ap (λ z. (content_length_field ++ digits) ++ z) e ∙ sym (append-nil (header_part digits)))

-- a header part, and less than the content part
pub part_of_content : (digits content : List ℕ) (n : ℕ) → IsContentLength digits n → length content < n → IsMessagePrefix (header_part digits ++ content)
part_of_content digits content n is short =
    let l : length content + length {A = ℕ} (replicate (n - length content) 0) ≡ n = omega (arith, zeros (n - length content)) in
    begun (header_part digits ++ content) digits content (replicate (n - length content) 0) n is l [] (omega (arith, zeros (n - length content)))
    (append-nil (header_part digits ++ content))

-- where the rest begins with the end of the header
pub ended : (rest : List ℕ) → 4 ≤ length rest → IsOnePrefixOfOther rest header_terminator → rest ≡ header_terminator ++ drop 4 rest
ended rest long h =
    let m : min (length rest) 4 ≡ 4 = omega arith in
    let t : take 4 rest ≡ header_terminator = subst (λ n. take n rest ≡ take n header_terminator) m h in
    sym (take-append-drop 4 rest) ∙ ap (λ z. z ++ drop 4 rest) t

in_header : (digits rest : List ℕ) → 4 ≤ length rest → IsOnePrefixOfOther rest header_terminator → header_part digits ++ drop 4 rest ≡ content_length_field ++ digits ++ rest
in_header digits rest long h = append_assoc (content_length_field ++ digits) header_terminator (drop 4 rest) ∙ ap (λ z. (content_length_field ++ digits) ++ z) (sym (ended rest long h))

-- digits, and what does not reach the end of the message
pub part_behind : (digits rest : List ℕ) (n : ℕ) → IsContentLength digits n → length rest < 4 + n → IsOnePrefixOfOther rest header_terminator → IsMessagePrefix (content_length_field ++ digits ++ rest)
part_behind digits rest n is short h = elim (cases_lt (length rest) 4) as (λ w. IsMessagePrefix (content_length_field ++ digits ++ rest)) [
  | inl before ↦ part_of_end digits rest n is before h
  | inr behind ↦
      subst IsMessagePrefix (in_header digits rest behind h)
      (part_of_content digits (drop 4 rest) n is (omega (arith, length-drop 4 rest)))
]

-- ---- a message

pub whole : (bytes digits rest : List ℕ) (n : ℕ) → bytes ≡ content_length_field ++ digits ++ rest → IsContentLength digits n → 4 + n ≤ length rest → IsOnePrefixOfOther rest header_terminator →
    IsFramePrefix bytes (Message (16 + length digits + 4) (16 + length digits + 4 + n))
whole bytes digits rest n e is long h =
    let all : bytes ≡ header_part digits ++ drop 4 rest = e ∙ sym (in_header digits rest (omega arith) h) in
    let front : length (header_part digits) ≡ 16 + length digits + 4 = length-append (content_length_field ++ digits) header_terminator ∙ ap (λ n. n + 4) (length-append content_length_field digits) in
    let l : length bytes ≡ 16 + length digits + length rest = ap length e ∙ length-append (content_length_field ++ digits) rest ∙ ap (λ n. n + length rest) (length-append content_length_field digits) in
    let start : take (16 + length digits + 4) bytes ≡ header_part digits = ap (take (16 + length digits + 4)) all ∙ take_at (header_part digits) (drop 4 rest) (16 + length digits + 4) front in
    let behind : drop (16 + length digits + 4) bytes ≡ drop 4 rest = ap (drop (16 + length digits + 4)) all ∙ drop_at (header_part digits) (drop 4 rest) (16 + length digits + 4) front in
    let content : drop (16 + length digits + 4) (take (16 + length digits + 4 + n) bytes) ≡ take n (drop 4 rest) = drop-take (16 + length digits + 4) n bytes ∙ ap (take n) behind in
    let size : length (take n (drop 4 rest)) ≡ n = omega (arith, length-take n (drop 4 rest), length-drop 4 rest) in
    let text : take (16 + length digits + 4 + n) bytes ≡ header_part digits ++ drop (16 + length digits + 4) (take (16 + length digits + 4 + n) bytes) =
    take-add (16 + length digits + 4) n bytes ∙ ap (λ z. z ++ take n (drop (16 + length digits + 4) bytes)) start
    ∙ ap (λ z. header_part digits ++ z) (ap (take n) behind ∙ sym content) in
    (omega arith, omega arith, (digits, subst (IsContentLength digits) (sym (ap length content ∙ size)) is, text))

-- ---- the front of bytes that begin with the field's name

pub three : (bytes : List ℕ) (n : ℕ) → take 16 bytes ≡ content_length_field → bytes ≡ content_length_field ++ take n (drop 16 bytes) ++ drop n (drop 16 bytes)
three bytes n name =
    sym (take-append-drop 16 bytes) ∙ ap (λ z. z ++ drop 16 bytes) name ∙ ap (λ z. content_length_field ++ z) (sym (take-append-drop n (drop 16 bytes)))
    ∙ sym (append_assoc content_length_field (take n (drop 16 bytes)) (drop n (drop 16 bytes)))

pub is_too_long : (bytes digits rest : List ℕ) → bytes ≡ content_length_field ++ digits ++ rest → All IsDigit digits → length digits ≤ 8 → content_limit < decimal_value_of_digits 0 digits → IsFramePrefix bytes (NoMessage TooLong)
is_too_long bytes digits rest e all most past = (subst CanBeginNoMessage (sym e) (too_long digits rest all past), (digits, rest, (e, all), most, past))

pub is_many : (bytes digits rest : List ℕ) → bytes ≡ content_length_field ++ digits ++ rest → All IsDigit digits → length digits ≡ 8 → decimal_value_of_digits 0 digits ≤ content_limit → IsFramePrefix bytes (NoMessage TooManyDigits)
is_many bytes digits rest e all most within = (subst CanBeginNoMessage (sym e) (many_digits digits rest all (omega arith)), (digits, rest, (e, all), most, within))

pub is_no_digit : (rest : List ℕ) → 0 < length rest → (0 < length rest → IsDigit (get_or rest 0 0) → ⊥) → IsFramePrefix (content_length_field ++ rest) (NoMessage NoDigit)
is_no_digit [] some not_one = absurd (omega arith)
is_no_digit (byte ∷ rest) some not_one = (no_digit byte rest (not_one some), (byte, rest, (refl, λ k d lt. absurd (omega arith)), not_one some))

pub is_no_end : (bytes digits rest : List ℕ) → bytes ≡ content_length_field ++ digits ++ rest → IsContentLength digits (decimal_value_of_digits 0 digits) → (0 < length rest → IsDigit (get_or rest 0 0) → ⊥) →
    (IsOnePrefixOfOther rest header_terminator → ⊥) → IsFramePrefix bytes (NoMessage MissingHeaderEnd)
is_no_end bytes digits [] e is not_one differ = absurd (differ refl)
is_no_end bytes digits (byte ∷ rest) e is not_one differ =
    (subst CanBeginNoMessage (sym e) (no_end digits byte rest is.2 (not_one (omega arith)) differ), (digits, byte, rest, (e, is.2), is, not_one (omega arith), differ))

pub is_part : (bytes digits rest : List ℕ) (n : ℕ) → bytes ≡ content_length_field ++ digits ++ rest → IsContentLength digits n → length rest < 4 + n → IsOnePrefixOfOther rest header_terminator → IsFramePrefix bytes PartialMessage
is_part bytes digits rest n e is short h = subst IsMessagePrefix (sym e) (part_behind digits rest n is short h)

pub is_name : (rest : List ℕ) → length rest ≡ 0 → IsFramePrefix (content_length_field ++ rest) PartialMessage
is_name [] none = part_of_value
is_name (r ∷ rest) none = absurd (omega arith)

-- if there is no digit, the rest comes directly after the name
pub no_digits : (bytes digits rest : List ℕ) → length digits ≡ 0 → bytes ≡ content_length_field ++ digits ++ rest → content_length_field ++ rest ≡ bytes
no_digits bytes [] rest none e = sym e
no_digits bytes (d ∷ digits) rest none e = absurd (omega arith)

pub read_is : (bytes behind digits rest : List ℕ) (n : ℕ) → take 16 bytes ≡ content_length_field → behind ≡ drop 16 bytes → digits ≡ take n behind → rest ≡ drop n behind →
    bytes ≡ content_length_field ++ digits ++ rest
read_is bytes behind digits rest n name b d r =
    three bytes n name ∙ sym (ap (λ z. content_length_field ++ z ++ drop n (drop 16 bytes)) (d ∙ ap (take n) b)) ∙ sym (ap (λ z. content_length_field ++ digits ++ z) (r ∙ ap (drop n) b))

pub ends_there : (behind rest : List ℕ) (n : ℕ) → rest ≡ drop n behind → n ≤ length behind → (n < 8 → n < length behind → IsDigit (get_or behind n 0) → ⊥) →
    n < 8 → 0 < length rest → IsDigit (get_or rest 0 0) → ⊥
ends_there behind rest n r le h small some one =
    let l : length rest ≡ length behind - n = ap length r ∙ length-drop n behind in
    let at : get_or rest 0 0 ≡ get_or behind (n + 0) 0 = ap (λ z. get_or z 0 0) r ∙ get_or-drop n behind 0 0 in
    let zero_more : n + 0 ≡ n = omega arith in
    let same : get_or rest 0 0 ≡ get_or behind n 0 = at ∙ ap (λ k. get_or behind k 0) zero_more in
    h small (omega arith) (subst IsDigit same one)
