-- The laws of framing.
use Rattle.std.proofs.Common.{◌≡◌, ◌≤◌, ◌+◌, ◌*◌, ◌-◌, ◌++◌, ℕ, suc, List, [], ◌∷◌, refl, subst, arith, ◌<◌, ◌/◌, ◌%◌, ◌^◌, ◌∙◌, zero, length, take, drop, get_or, decimal, sym, ap, append_assoc, length-append}
use Rattle.std.specs.List.{All}
use Rattle.ga_dap_protocol.specs.Framing.{IsDigit, decimal_value_of_digits, content_limit, content_length_field, header_terminator, header_part, IsContentLength, IsMessage, IsMessagePrefix, CanBeginNoMessage, IsFramePrefix, framed_message}
use Rattle.std.proofs.lemmas.List.{append_cancel_left, append-nil, take_at, drop_at, take-append-drop}
use Rattle.std.proofs.lemmas.List.Elements.{All-append}
use Rattle.std.proofs.lemmas.Fmt.{decimal_by_steps, length-decimal-le, decimal_nonempty}
use Rattle.ga_dap_protocol.specs.declared.framing.FramePrefix.TheVariants.{Message}

-- ---- runs of digits, and their numbers

pub head_of : (P : ℕ → Type 0) (x : ℕ) (xs : List ℕ) → All P (x ∷ xs) → P x
head_of P x xs h = h 0 0 (omega arith)

pub tail_of : (P : ℕ → Type 0) (x : ℕ) (xs : List ℕ) → All P (x ∷ xs) → All P xs
tail_of P x xs h = λ k d lt. h (suc k) d (omega arith)

pub right_of : (P : ℕ → Type 0) (xs ys : List ℕ) → All P (xs ++ ys) → All P ys
right_of P [] ys h = h
right_of P (x ∷ xs) ys h = right_of P xs ys (tail_of P x (xs ++ ys) h)

-- what begins with a digit begins with no other byte
pub no_digit_first : (byte : ℕ) (es rest more : List ℕ) → (IsDigit byte → ⊥) → All IsDigit es → byte ∷ more ≡ es ++ rest → es ≡ []
no_digit_first byte [] rest more not_one all e = refl
no_digit_first byte (x ∷ es) rest more not_one all e =
    let same : x ≡ byte = cc in
    absurd (not_one (subst IsDigit same (head_of IsDigit x es all)))

-- digits that come before a carriage return are longer than others of the same text by digits
pub run : (ds es xs zs : List ℕ) → All IsDigit ds → All IsDigit es → ds ++ xs ≡ es ++ (13 ∷ zs) → (fs : List ℕ) × (es ≡ ds ++ fs) × (xs ≡ fs ++ (13 ∷ zs))
run [] es xs zs h g e = (es, refl, e)
run (d ∷ ds) [] xs zs h g e =
    let same : d ≡ 13 = cc in
    let digit : IsDigit d = head_of IsDigit d ds h in
    absurd (omega (arith, same, digit.0))
run (d ∷ ds) (f ∷ es) xs zs h g e =
    let same : d ≡ f = cc in
    let rest : ds ++ xs ≡ es ++ (13 ∷ zs) = cc in
    let r = run ds es xs zs (tail_of IsDigit d ds h) (tail_of IsDigit f es g) rest in
    let es_is : es ≡ ds ++ r.0 = r.1 in
    let all_is : f ∷ es ≡ d ∷ (ds ++ r.0) = cc in
    (r.0, all_is, r.2)

pub grows : (n : ℕ) (ds : List ℕ) → n ≤ decimal_value_of_digits n ds
grows n [] = omega arith
grows n (d ∷ ds) = let h = grows (10 * n + (d - 48)) ds in omega arith

pub value_more : (n : ℕ) (ds es : List ℕ) → decimal_value_of_digits n (ds ++ es) ≡ decimal_value_of_digits (decimal_value_of_digits n ds) es
value_more n [] es = refl
value_more n (d ∷ ds) es = value_more (10 * n + (d - 48)) ds es

-- ---- one message

parts : (f d b i m g c s : List ℕ) → (((f ++ d) ++ b) ++ i) ++ m ≡ (((f ++ g) ++ b) ++ c) ++ s → d ++ (b ++ (i ++ m)) ≡ g ++ (b ++ (c ++ s))
parts f d b i m g c s e = append_cancel_left f (d ++ (b ++ (i ++ m))) (g ++ (b ++ (c ++ s))) (simp append_assoc at e)

no_digit_return : IsDigit 13 → ⊥
no_digit_return h = let low : 48 ≤ 13 = h.0 in omega arith

halves : (xs ys us vs : List ℕ) → length xs ≡ length ys → xs ++ us ≡ ys ++ vs → (xs ≡ ys) × (us ≡ vs)
halves xs ys us vs l e = (
  sym (take_at xs us (length ys) l) ∙ ap (take (length ys)) e ∙ take_at ys vs (length ys) refl,
  sym (drop_at xs us (length ys) l) ∙ ap (drop (length ys)) e ∙ drop_at ys vs (length ys) refl,
)

pub both : (text other content inner after behind : List ℕ) → IsMessage content text → IsMessage inner other →
    text ++ after ≡ other ++ behind → (content ≡ inner) × (text ≡ other) × (after ≡ behind)
both text other content inner after behind m k e =
    let whole : (header_part m.0 ++ content) ++ after ≡ (header_part k.0 ++ inner) ++ behind = sym (ap (λ z. z ++ after) m.2) ∙ e ∙ ap (λ z. z ++ behind) k.2 in
    let cut : m.0 ++ (header_terminator ++ (content ++ after)) ≡ k.0 ++ (header_terminator ++ (inner ++ behind)) = parts content_length_field m.0 header_terminator content after k.0 inner behind whole in
    let r = run m.0 k.0 (header_terminator ++ (content ++ after)) (10 ∷ (13 ∷ (10 ∷ (inner ++ behind)))) m.1.2 k.1.2 cut in
    let none : r.0 ≡ [] = no_digit_first 13 r.0 (header_terminator ++ (inner ++ behind)) (10 ∷ (13 ∷ (10 ∷ (content ++ after)))) no_digit_return
    (right_of IsDigit m.0 r.0 (subst (All IsDigit) r.1 k.1.2)) r.2 in
    let digits : k.0 ≡ m.0 = r.1 ∙ ap (λ z. m.0 ++ z) none ∙ append-nil m.0 in
    let rest : header_terminator ++ (content ++ after) ≡ header_terminator ++ (inner ++ behind) = r.2 ∙ ap (λ z. z ++ (header_terminator ++ (inner ++ behind))) none in
    let size : length content ≡ length inner = sym m.1.3 ∙ sym (ap (decimal_value_of_digits 0) digits) ∙ k.1.3 in
    let h = halves content inner after behind size (append_cancel_left header_terminator (content ++ after) (inner ++ behind) rest) in
    let same : header_part m.0 ++ content ≡ header_part k.0 ++ inner = ap (λ z. header_part z ++ content) (sym digits) ∙ ap (λ z. header_part k.0 ++ z) h.0 in
    (h.0, m.2 ∙ same ∙ sym k.2, h.1)

pub once : (content text after : List ℕ) → IsMessage content text → IsMessagePrefix (text ++ after) → ⊥
once content text after m b =
    let all : text ++ (after ++ b.1) ≡ ((text ++ after) ++ b.1) ++ [] = sym (append_assoc text after b.1) ∙ sym (append-nil ((text ++ after) ++ b.1)) in
    let r = both text ((text ++ after) ++ b.1) content b.0 (after ++ b.1) [] m b.3 all in
    let l : length text ≡ length text + length after + length b.1 = ap length r.1 ∙ length-append (text ++ after) b.1 ∙ ap (λ n. n + length b.1) (length-append text after) in
    let some : 1 ≤ length b.1 = b.2 in
    omega arith

-- what begins with a message, or never will, begins no longer one
pub not_begun : (bytes : List ℕ) (start end : ℕ) → IsFramePrefix bytes (Message start end) → IsMessagePrefix bytes → ⊥
not_begun bytes start end found b =
    once (drop start (take end bytes)) (take end bytes) (drop end bytes) found.2 (subst IsMessagePrefix (sym (take-append-drop end bytes)) b)

pub never_begun : (bytes : List ℕ) → CanBeginNoMessage bytes → IsMessagePrefix bytes → ⊥
never_begun bytes none b = none b.0 (bytes ++ b.1) b.1 [] b.3 (sym (append-nil (bytes ++ b.1)))

-- ---- what is written is a message

abbrev Spells : ℕ → List ℕ → Type 0
Spells n digits = All IsDigit digits × (decimal_value_of_digits 0 digits ≡ n)

one_digit : (n : ℕ) → n < 10 → All IsDigit ((48 + n) ∷ [])
one_digit n small = λ k d lt. at k d lt
  where
    at : (k d : ℕ) → k < 1 → IsDigit (get_or ((48 + n) ∷ []) k d)
    at zero d lt = (omega arith, omega arith)
    at (suc k) d lt = absurd (omega arith)

first : (n : ℕ) → n < 10 → Spells n ((48 + n) ∷ [])
first n small = (one_digit n small, omega arith)

further : (n : ℕ) (digits : List ℕ) → 10 ≤ n → Spells (n / 10) digits → Spells n (digits ++ ((48 + n % 10) ∷ []))
further n digits long h =
    let low : n % 10 < 10 = omega arith in
    let step : decimal_value_of_digits 0 (digits ++ ((48 + n % 10) ∷ [])) ≡ 10 * decimal_value_of_digits 0 digits + (48 + n % 10 - 48) = value_more 0 digits ((48 + n % 10) ∷ []) in
    let tens : decimal_value_of_digits 0 digits ≡ n / 10 = h.1 in
    (All-append IsDigit digits ((48 + n % 10) ∷ []) h.0 (one_digit (n % 10) low), omega arith)

spelled : (n : ℕ) → n < 2 ^ 64 → Spells n (decimal n)
spelled = decimal_by_steps Spells first further

pub is_length : (n : ℕ) → n ≤ content_limit → IsContentLength (decimal n) n
is_length n within =
    let small : n < 2 ^ 64 = omega arith in
    let h = spelled n small in
    (decimal_nonempty n small, length-decimal-le 7 n (omega arith) (omega arith) small, h.0, h.1, within)

pub framed_content_is_message : (content : List ℕ) → length content ≤ content_limit → IsMessage content (framed_message content)
unfolding framed_message
framed_content_is_message content within = (decimal (length content), is_length (length content) within, refl)
