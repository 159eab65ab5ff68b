use Rattle.std.proofs.Common.{◌≡◌, ℕ, List, [], ◌∷◌, ◌++◌, inl, inr, refl, sym, ap, ◌∙◌, append_assoc, arith, Ok}
use Rattle.std.proofs.lemmas.List.{append-nil}
use Rattle.ga_text.specs.Input.{UnreadInput}
use Rattle.ga_text.proofs.whole.read_whole_input.Goals as goal

-- at the start nothing is read
from_start : (u : UnreadInput) (left xs : List ℕ) → u ≡ record { bytes = []; taken = 0 } → u.bytes ++ left ≡ xs → left ≡ xs
from_start u left xs e h = ap (λ (v : UnreadInput). v.bytes ++ left) (sym e) ∙ h

taken_none : (u : UnreadInput) → u ≡ record { bytes = []; taken = 0 } → u.taken ≡ 0
taken_none u e = ap (λ (v : UnreadInput). v.taken) e

pub returns-in-Err : goal.returns-in-Err
returns-in-Err g c = λ left known.
    let got = c.in-Err.ensures.err left known in
    (got.0, got.1, from_start c.new-input.result left (got.0 ++ got.1) c.new-input.ensures got.3, got.2, tt)

pub returns-in-Ok-Failed : goal.returns-in-Ok-Failed
returns-in-Ok-Failed g c = λ left known.
    let reads = rw c.in-Ok-Failed.field-0-is at c.in-Ok-Failed.ensures.reads in
    let got = reads left known in
    let text : List ℕ = c.read_image.new.text.items in
    (text, got.0, from_start c.new-input.result left (text ++ got.0) c.new-input.ensures got.2.1, got.1, got.2.0)

pub returns-in-Ok-PastLimit : goal.returns-in-Ok-PastLimit
returns-in-Ok-PastLimit g c = λ left known.
    let reads = rw c.in-Ok-PastLimit.field-0-is at c.in-Ok-PastLimit.ensures.reads in
    let got = reads left known in
    let text : List ℕ = c.read_image.new.text.items in
    let ahead : List ℕ = got.2.1.byte ∷ [] in (
      text ++ ahead,
      got.0,
      from_start c.new-input.result left (text ++ got.2.1.byte ∷ got.0) c.new-input.ensures got.2.1.takes.splits ∙ sym (append_assoc text ahead got.0),
      got.1,
      (ahead, refl, (omega (arith, got.2.1.takes.counts, got.2.1.full, taken_none c.new-input.result c.new-input.ensures), refl, got.2.0)),
    )

pub returns-in-Ok-EndOfInput : goal.returns-in-Ok-EndOfInput
returns-in-Ok-EndOfInput g c = λ left known.
    let reads = rw c.in-Ok-EndOfInput.field-0-is at c.in-Ok-EndOfInput.ensures.reads in
    let got = reads left known in
    let text : List ℕ = c.read_image.new.text.items in (
      text,
      got.0,
      from_start c.new-input.result left (text ++ []) c.new-input.ensures got.2.1.splits ∙ ap (λ (l : List ℕ). text ++ l) (sym got.2.3),
      got.1,
      ([], sym (append-nil text), inr (refl, got.2.3, got.2.0)),
    )

pub returns-in-Ok-EndLine : goal.returns-in-Ok-EndLine
returns-in-Ok-EndLine g c = λ left known.
    let reads = rw c.in-Ok-EndLine.field-0-is at c.in-Ok-EndLine.ensures.reads in
    let got = reads left known in
    let text : List ℕ = c.read_image.new.text.items in
    let ahead : List ℕ = c.read_image.new.input.bytes in (
      text ++ ahead,
      got.0,
      from_start c.new-input.result left (text ++ (ahead ++ got.0)) c.new-input.ensures got.2.1.splits ∙ sym (append_assoc text ahead got.0),
      got.1,
      (ahead, refl, inl (got.2.0, c.in-Ok-EndLine.ensures.behind (ap Ok c.in-Ok-EndLine.field-0-is))),
    )
