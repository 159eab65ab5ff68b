use Rattle.std.proofs.Common.{◌≡◌, ℕ, List, [], ◌∷◌, ◌++◌, Some, inl, inr, refl, sym, ap, subst, ◌∙◌, append_assoc, arith, length, ◌<◌, Ok}
use Rattle.std.proofs.lemmas.List.{append-nil}
use Rattle.ga_image.specs.FirstFault.{out_of_memory_fault}
use Rattle.ga_text.specs.Input.{UnreadInput}
use Rattle.ga_console.specs.inner.Run.{WritesSessionAfterImage}
use Rattle.ga_console.proofs.RunLemmas.{runs_refused, runs_full, runs_after, nothing_left}
use Rattle.ga_console.proofs.run.session_with_responder.Goals as goal

-- at the start nothing is read
from_start : (u : UnreadInput) (left xs : List ℕ) → u ≡ record { bytes = []; taken = 0 } → u.bytes ++ left ≡ xs → left ≡ xs
from_start u left xs e h = ap (λ (v : UnreadInput). v.bytes ++ left) (sym e) ∙ h

taken_none : (u : UnreadInput) → u ≡ record { bytes = []; taken = 0 } → u.taken ≡ 0
taken_none u e = ap (λ (v : UnreadInput). v.taken) e

pub returns-in-Err : goal.returns-in-Err
returns-in-Err g c = λ left before known held.
    let got = c.in-Err.ensures.err left known in
    let sent = c.write_image_refusal.ensures before held in (
      got.0,
      got.1,
      sent.0,
      from_start c.new-input.result left (got.0 ++ got.1) c.new-input.ensures got.3,
      got.2,
      sent.1,
      runs_refused g.S.Responder.answers g.S.Responder.refuses g.S.Responder.begin c.args.limit got.0 got.1 sent.0 out_of_memory_fault c.write_image_refusal.result (inl refl) sent.2,
    )

pub returns-in-Ok-Failed : goal.returns-in-Ok-Failed
returns-in-Ok-Failed g c = λ left before known held.
    let reads = rw c.in-Ok-Failed.field-0-is at c.in-Ok-Failed.ensures.reads in
    let got = reads left known in
    let text : List ℕ = c.read_image.new.text.items in (
      text,
      got.0,
      [],
      from_start c.new-input.result left (text ++ got.0) c.new-input.ensures got.2.1,
      got.1,
      held ∙ ap Some (sym (append-nil before)),
      inr (inl (refl, got.2.0)),
    )

pub returns-in-Ok-PastLimit : goal.returns-in-Ok-PastLimit
returns-in-Ok-PastLimit g c = λ left before known held.
    let reads = rw c.in-Ok-PastLimit.field-0-is at c.in-Ok-PastLimit.ensures.reads in
    let got = reads left known in
    let text : List ℕ = c.read_image.new.text.items in
    let b = got.2.1.byte in
    let done = c.after_image.ensures got.0 before got.1 held in (
      text ++ b ∷ done.0,
      done.1,
      done.2,
      from_start c.new-input.result left (text ++ b ∷ got.0) c.new-input.ensures got.2.1.takes.splits
          ∙ ap (λ (l : List ℕ). text ++ b ∷ l) (ap (λ (l : List ℕ). l ++ got.0) (sym got.2.2) ∙ done.3) ∙ sym (append_assoc text (b ∷ done.0) done.1),
      done.4,
      done.5,
      runs_full g.S.Responder.answers g.S.Responder.refuses g.S.Responder.begin c.args.limit c.read_image.new.input.taken b text done.0 done.1 done.2 c.after_image.result
          (omega (arith, got.2.1.takes.counts, got.2.1.full, taken_none c.new-input.result c.new-input.ensures)) got.2.0
          (subst (λ (l : List ℕ). WritesSessionAfterImage g.S.Responder.answers g.S.Responder.refuses g.S.Responder.begin c.args.limit text c.read_image.new.input.taken l done.0 done.1 done.2 c.after_image.result) got.2.2 done.6),
    )

pub returns-in-Ok-EndOfInput : goal.returns-in-Ok-EndOfInput
returns-in-Ok-EndOfInput g c = λ left before known held.
    let reads = rw c.in-Ok-EndOfInput.field-0-is at c.in-Ok-EndOfInput.ensures.reads in
    let got = reads left known in
    let text : List ℕ = c.read_image.new.text.items in
    let done = c.after_image-in-Ok-EndOfInput.ensures got.0 before got.1 held in
    let empty : c.read_image.new.input.bytes ++ got.0 ≡ [] = ap (λ (l : List ℕ). l ++ got.0) got.2.2 ∙ got.2.3 in
    let nil = nothing_left done.0 done.1 (sym empty ∙ done.3) in (
      text ++ done.0,
      done.1,
      done.2,
      from_start c.new-input.result left text c.new-input.ensures (got.2.1.splits ∙ append-nil text)
          ∙ sym (append_assoc text done.0 done.1 ∙ ap (λ (l : List ℕ). text ++ l) (sym done.3 ∙ empty) ∙ append-nil text),
      done.4,
      done.5,
      runs_after g.S.Responder.answers g.S.Responder.refuses g.S.Responder.begin c.args.limit c.read_image.new.input.taken text c.read_image.new.input.bytes done.0 done.1 done.2 c.after_image-in-Ok-EndOfInput.result
          (omega (arith, got.2.1.counts, taken_none c.new-input.result c.new-input.ensures)) (inr (inl (nil.0, nil.1, got.2.0)))
          (λ e. inr (inl (nil.0, nil.1, got.2.0))) done.6,
    )

pub returns-in-Ok-EndLine : goal.returns-in-Ok-EndLine
returns-in-Ok-EndLine g c = λ left before known held.
    let reads = rw c.in-Ok-EndLine.field-0-is at c.in-Ok-EndLine.ensures.reads in
    let got = reads left known in
    let text : List ℕ = c.read_image.new.text.items in
    let done = c.after_image-in-Ok-EndLine.ensures got.0 before got.1 held in (
      text ++ done.0,
      done.1,
      done.2,
      from_start c.new-input.result left (text ++ (c.read_image.new.input.bytes ++ got.0)) c.new-input.ensures got.2.1.splits
          ∙ ap (λ (l : List ℕ). text ++ l) done.3 ∙ sym (append_assoc text done.0 done.1),
      done.4,
      done.5,
      runs_after g.S.Responder.answers g.S.Responder.refuses g.S.Responder.begin c.args.limit c.read_image.new.input.taken text c.read_image.new.input.bytes done.0 done.1 done.2 c.after_image-in-Ok-EndLine.result
          (omega (arith, got.2.1.counts, taken_none c.new-input.result c.new-input.ensures)) (inl got.2.0)
          (λ e. inl (got.2.0, subst (λ (l : List ℕ). length l < 65536) (sym e) (c.in-Ok-EndLine.ensures.behind (ap Ok c.in-Ok-EndLine.field-0-is)))) done.6,
    )
