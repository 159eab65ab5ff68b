use Rattle.std.proofs.Common.{◌≡◌, ℕ, List, [], ◌∷◌, ◌++◌, Some, inl, inr, refl, sym, ap, ◌∙◌, append_assoc, arith, Ok}
use Rattle.std.proofs.lemmas.List.{append-nil}
use Rattle.ga_image.specs.FirstFault.{out_of_memory_fault}
use Rattle.ga_text.specs.Input.{UnreadInput}
use Rattle.ga_explorer.specs.Opening.{optional_image_text, is_read_as_image}
use Rattle.ga_explorer.specs.Opening.IsUnopenedSession.{image_refused, source_refused, unread}
use Rattle.ga_explorer.proofs.Fronts.{begun_after, begun_full}
use Rattle.ga_explorer.proofs.beginning.open_lab.Goals as goal

-- at the start nothing is read
from_start : (u : UnreadInput) (left xs : List ℕ) → u ≡ record { bytes = []; taken = 0 } → u.bytes ++ left ≡ xs → left ≡ xs
from_start u left xs e h = ap (λ (v : UnreadInput). v.bytes ++ left) (sym e) ∙ h

taken_none : (u : UnreadInput) → u ≡ record { bytes = []; taken = 0 } → u.taken ≡ 0
taken_none u e = ap (λ (v : UnreadInput). v.taken) e

pub returns-in-Err-clause-begun : goal.returns-in-Err-clause-begun
returns-in-Err-clause-begun g c = λ left before known held.
    let got = c.in-Err.ensures.err left known in
    let sent = c.write_image_refusal.ensures before held in (
      got.1,
      sent.0,
      got.2,
      sent.1,
      (got.0, from_start c.args.input.now left (got.0 ++ got.1) c.requires.fresh got.3, image_refused out_of_memory_fault (inl refl) sent.2),
    )

pub returns-in-Ok-Failed-clause-begun : goal.returns-in-Ok-Failed-clause-begun
returns-in-Ok-Failed-clause-begun g c = λ left before known held.
    let reads = rw c.in-Ok-Failed.field-0-is at c.in-Ok-Failed.ensures.reads in
    let got = reads left known in
    let text : List ℕ = c.read_image.new.text.items in (
      got.0,
      [],
      got.1,
      held ∙ ap Some (sym (append-nil before)),
      (text, from_start c.args.input.now left (text ++ got.0) c.requires.fresh got.2.1, unread got.2.0 refl refl),
    )

pub returns-then-is_read_as_image-clause-begun : goal.returns-then-is_read_as_image-clause-begun
returns-then-is_read_as_image-clause-begun g c = λ left before known held.
    let reads = rw c.in-Ok-PastLimit.field-0-is at c.in-Ok-PastLimit.ensures.reads in
    let got = reads left known in
    let text : List ℕ = c.read_image.new.text.items in
    let b = got.2.1.byte in
    let done = c.open_or_refuse.ensures before held in (
      got.0,
      done.0,
      got.1,
      done.1,
      begun_full (optional_image_text c.args.chip) c.args.limit b left text c.read_image.new.input got.0 done.0 c.open_or_refuse.result
          (from_start c.args.input.now left (text ++ b ∷ got.0) c.requires.fresh got.2.1.takes.splits ∙ sym (append_assoc text (b ∷ []) got.0))
          (omega (arith, got.2.1.takes.counts, got.2.1.full, taken_none c.args.input.now c.requires.fresh)) got.2.0
          (ap (is_read_as_image (optional_image_text c.args.chip)) (sym c.as_slice.ensures.value) ∙ sym c.is_read_as_image.ensures ∙ c.if-is_read_as_image.true) done.2,
    )

pub returns-else-is_read_as_image-clause-begun : goal.returns-else-is_read_as_image-clause-begun
returns-else-is_read_as_image-clause-begun g c = λ left before known held.
    let reads = rw c.in-Ok-PastLimit.field-0-is at c.in-Ok-PastLimit.ensures.reads in
    let got = reads left known in
    let text : List ℕ = c.read_image.new.text.items in
    let ahead : List ℕ = got.2.1.byte ∷ [] in (
      got.0,
      [],
      got.1,
      held ∙ ap Some (sym (append-nil before)),
      (
        text ++ ahead,
        from_start c.args.input.now left (text ++ got.2.1.byte ∷ got.0) c.requires.fresh got.2.1.takes.splits ∙ sym (append_assoc text ahead got.0),
        source_refused (record {
          source = text;
          ahead = ahead;
          splits = refl;
          part = inr (inr (omega (arith, got.2.1.takes.counts, got.2.1.full, taken_none c.args.input.now c.requires.fresh), refl, got.2.0));
          is_source = ap (is_read_as_image (optional_image_text c.args.chip)) (sym c.as_slice.ensures.value) ∙ sym c.is_read_as_image.ensures ∙ c.if-is_read_as_image.false;
        }) refl refl,
      ),
    )

pub returns-in-Ok-EndOfInput-clause-begun : goal.returns-in-Ok-EndOfInput-clause-begun
returns-in-Ok-EndOfInput-clause-begun g c = λ left before known held.
    let reads = rw c.in-Ok-EndOfInput.field-0-is at c.in-Ok-EndOfInput.ensures.reads in
    let got = reads left known in
    let text : List ℕ = c.read_image.new.text.items in
    let input : UnreadInput = c.read_image.new.input in
    let done = c.open_or_refuse-in-Ok-EndOfInput.ensures before held in
    let empty : input.bytes ++ got.0 ≡ [] = ap (λ (l : List ℕ). l ++ got.0) got.2.2 ∙ got.2.3 in
    let split : left ≡ text ++ (input.bytes ++ got.0) =
    from_start c.args.input.now left (text ++ []) c.requires.fresh got.2.1.splits ∙ ap (λ (l : List ℕ). text ++ l) (sym empty) in (
      got.0,
      done.0,
      got.1,
      done.1,
      begun_after (optional_image_text c.args.chip) c.args.limit left text input got.0 done.0 c.open_or_refuse-in-Ok-EndOfInput.result split (split ∙ sym (append_assoc text input.bytes got.0))
          (omega (arith, got.2.1.counts, taken_none c.args.input.now c.requires.fresh)) (inr (empty, got.2.0)) (inr (inl (got.2.2, got.2.3, got.2.0))) done.2,
    )

pub returns-in-Ok-EndLine-clause-begun : goal.returns-in-Ok-EndLine-clause-begun
returns-in-Ok-EndLine-clause-begun g c = λ left before known held.
    let reads = rw c.in-Ok-EndLine.field-0-is at c.in-Ok-EndLine.ensures.reads in
    let got = reads left known in
    let text : List ℕ = c.read_image.new.text.items in
    let input : UnreadInput = c.read_image.new.input in
    let done = c.open_or_refuse-in-Ok-EndLine.ensures before held in
    let split : left ≡ text ++ (input.bytes ++ got.0) = from_start c.args.input.now left (text ++ (input.bytes ++ got.0)) c.requires.fresh got.2.1.splits in (
      got.0,
      done.0,
      got.1,
      done.1,
      begun_after (optional_image_text c.args.chip) c.args.limit left text input got.0 done.0 c.open_or_refuse-in-Ok-EndLine.result split (split ∙ sym (append_assoc text input.bytes got.0))
          (omega (arith, got.2.1.counts, taken_none c.args.input.now c.requires.fresh)) (inl got.2.0)
          (inl (got.2.0, c.in-Ok-EndLine.ensures.behind (ap Ok c.in-Ok-EndLine.field-0-is))) done.2,
    )
