-- What holds of the first bytes of an input holds of the whole.
use Rattle.std.proofs.Common.{◌≡◌, ◌≤◌, ◌+◌, ◌++◌, ◌∙◌, ℕ, List, [], ◌∷◌, length, take, drop, min, sym, ap, subst, arith, append_assoc, length-append}
use Rattle.std.proofs.lemmas.List.{take-append-le, take-append-drop, take-take, append-nil, nil_from_length}
use Rattle.ga_dap_protocol.specs.declared.broken.FrameError.{FrameError}
use Rattle.ga_dap_protocol.specs.declared.broken.FrameError.TheVariants.{WrongHeaderField, NoDigit, TooLong, TooManyDigits, MissingHeaderEnd, CutShort}
use Rattle.ga_dap_protocol.specs.declared.framing.FramePrefix.TheVariants.{Message, NoMessage}
use Rattle.ga_dap_protocol.specs.Framing.{content_length_field, header_terminator, IsMessage, CanBeginNoMessage, IsOnePrefixOfOther, HasHeaderDigits, IsFrameErrorOf, IsFramePrefix}
use Rattle.ga_dap_protocol.specs.Inbox.{IsNextMessage, IsFrameErrorOfInput}
use Rattle.ga_dap_protocol.specs.declared.inbox.NextMessage.{NextMessage}

begins_none : (bytes left : List ℕ) → CanBeginNoMessage bytes → CanBeginNoMessage (bytes ++ left)
begins_none bytes left h = λ content text more after m e. h content text (left ++ more) after m (sym (append_assoc bytes left more) ∙ e)

-- what agrees with a longer text agrees with its beginning
shorter : (xs left ys : List ℕ) → IsOnePrefixOfOther (xs ++ left) ys → IsOnePrefixOfOther xs ys
shorter xs left ys h =
    let l : length (xs ++ left) ≡ length xs + length left = length-append xs left in
    let within : min (length xs) (length ys) ≤ min (length (xs ++ left)) (length ys) = omega arith in
    let n : ℕ = min (length xs) (length ys) in
    let m : ℕ = min (length (xs ++ left)) (length ys) in
    sym (take-append-le n xs left (omega arith)) ∙ sym (take-take n m (xs ++ left) within) ∙ ap (take n) h ∙ take-take n m ys within

reads_on : (bytes digits rest left : List ℕ) → HasHeaderDigits bytes digits rest → HasHeaderDigits (bytes ++ left) digits (rest ++ left)
reads_on bytes digits rest left r = (ap (λ z. z ++ left) r.0 ∙ append_assoc (content_length_field ++ digits) rest left, r.1)

shows_on : (why : FrameError) (bytes left : List ℕ) → IsFrameErrorOf why bytes → IsFrameErrorOf why (bytes ++ left)
shows_on WrongHeaderField bytes left h = λ agree. h (shorter bytes left content_length_field agree)
shows_on NoDigit bytes left h = (h.0, h.1 ++ left, reads_on bytes [] (h.0 ∷ h.1) left h.2, h.3)
shows_on TooLong bytes left h = (h.0, h.1 ++ left, reads_on bytes h.0 h.1 left h.2, h.3, h.4)
shows_on TooManyDigits bytes left h = (h.0, h.1 ++ left, reads_on bytes h.0 h.1 left h.2, h.3, h.4)
shows_on MissingHeaderEnd bytes left h = (h.0, h.1, h.2 ++ left, reads_on bytes h.0 (h.1 ∷ h.2) left h.3, h.4, h.5, λ agree. h.6 (shorter (h.1 ∷ h.2) left header_terminator agree))
shows_on CutShort bytes left h = h

pub is_broken : (why : FrameError) (bytes left : List ℕ) → CanBeginNoMessage bytes → IsFrameErrorOf why bytes → IsFrameErrorOfInput why (bytes ++ left)
is_broken WrongHeaderField bytes left none h = (begins_none bytes left none, shows_on WrongHeaderField bytes left h)
is_broken NoDigit bytes left none h = (begins_none bytes left none, shows_on NoDigit bytes left h)
is_broken TooLong bytes left none h = (begins_none bytes left none, shows_on TooLong bytes left h)
is_broken TooManyDigits bytes left none h = (begins_none bytes left none, shows_on TooManyDigits bytes left h)
is_broken MissingHeaderEnd bytes left none h = (begins_none bytes left none, shows_on MissingHeaderEnd bytes left h)
is_broken CutShort bytes left none h = absurd h

-- ---- what is taken

pub took : (all held rest bytes content left : List ℕ) (start end : ℕ) → bytes ≡ held → all ≡ held ++ rest → IsFramePrefix bytes (Message start end) →
    content ≡ drop start (take end held) → left ≡ drop end held → (text : List ℕ) × IsMessage content text × (all ≡ text ++ (left ++ rest))
took all held rest bytes content left start end b a found c l =
    let m : IsMessage (drop start (take end held)) (take end held) = subst (λ z. IsMessage (drop start (take end z)) (take end z)) b found.2 in
    let parts : held ≡ take end held ++ left = sym (take-append-drop end held) ∙ ap (λ z. take end held ++ z) (sym l) in
    (take end held, subst (λ z. IsMessage z (take end held)) (sym c) m, a ∙ ap (λ z. z ++ rest) parts ∙ append_assoc (take end held) left rest)

pub refused : (why : FrameError) (all held rest bytes : List ℕ) → bytes ≡ held → all ≡ held ++ rest → IsFramePrefix bytes (NoMessage why) → (all ≡ held ++ rest) × IsFrameErrorOfInput why all
refused why all held rest bytes b a found =
    (a, subst (IsFrameErrorOfInput why) (ap (λ z. z ++ rest) b ∙ sym a) (is_broken why bytes rest found.0 found.1))

-- what comes where the reader has nothing left
pub closed : (all held rest new left : List ℕ) (next : NextMessage) → all ≡ held ++ rest → rest ≡ [] → new ≡ held → held ++ rest ≡ new ++ left → IsNextMessage new next new → IsNextMessage all next (new ++ left)
closed all held rest new left next a none same e given =
    let held_is : held ++ rest ≡ held = ap (λ z. held ++ z) none ∙ append-nil held in
    let l : length new + length left ≡ length held = sym (length-append new left) ∙ sym (ap length e) ∙ ap length held_is in
    let n : length new ≡ length held = ap length same in
    let nothing : left ≡ [] = nil_from_length left (omega arith) in
    let stays : new ≡ new ++ left = sym (ap (λ z. new ++ z) nothing ∙ append-nil new) in
    let whole : new ≡ all = same ∙ sym held_is ∙ sym a in
    subst (λ z. IsNextMessage all next z) stays (subst (λ z. IsNextMessage z next new) whole given)
