-- A text that is written part by part.
use Rattle.std.proofs.Common.{◌≡◌, [], ◌++◌, Option, Result, Ok, Err, subst, ap, sym, ◌∙◌, append_assoc, refl}
use Rattle.std.specs.Prelude.{IsErr}
use Rattle.std.proofs.lemmas.List.{append-nil}
use Rattle.ga_text.specs.Lines.{Bytes, Text}
use Rattle.ga_text.specs.Output.{IsTextWrittenOrPending, IsTextTruncated, IsSameStream, WritesExactly}
use Rattle.ga_text.specs.declared.output.WriteError.{WriteError}
use Rattle.ga_text.specs.declared.output.Writer.{Writer}
use Rattle.ga_text.proofs.WriteLemmas.{said_assoc, written_as, written_pending, cut_assoc, truncated_here, truncated_within}

-- what `WritesExactly` says of a call that succeeded, and of one that failed
abbrev pub SaysAll : {W : Type 0} → (W → Option Bytes) → Writer W → Writer W → Text → Type 0
SaysAll contents old new text = IsSameStream old new
    × ((before said : Text) → IsTextWrittenOrPending (contents old.stream.now) before said old.pending.items → IsTextWrittenOrPending (contents new.stream.now) before (said ++ text) new.pending.items)

abbrev pub SaysFront : {W : Type 0} → (W → Option Bytes) → Writer W → Writer W → Text → Type 0
SaysFront contents old new text = IsSameStream old new
    × ((before said : Text) → IsTextWrittenOrPending (contents old.stream.now) before said old.pending.items → IsTextTruncated (contents new.stream.now) before (said ++ text))

-- what `WritesNothing` says of a call that succeeded, and of one that failed
abbrev pub KeepsSaid : {W : Type 0} → (W → Option Bytes) → Writer W → Writer W → Type 0
KeepsSaid contents old new = IsSameStream old new
    × ((before said : Text) → IsTextWrittenOrPending (contents old.stream.now) before said old.pending.items → IsTextWrittenOrPending (contents new.stream.now) before said new.pending.items)

abbrev pub CutsSaid : {W : Type 0} → (W → Option Bytes) → Writer W → Writer W → Type 0
CutsSaid contents old new = IsSameStream old new
    × ((before said : Text) → IsTextWrittenOrPending (contents old.stream.now) before said old.pending.items → IsTextTruncated (contents new.stream.now) before said)

-- of a whole text all but a rest was said
pub record SaysUpTo {W : Type 0} (contents : W → Option Bytes) (old new : Writer W) (whole rest : Text) : Type 0 where
  pub front : Text
  pub splits : front ++ rest ≡ whole
  pub says : SaysAll contents old new front

pub begins : {W : Type 0} (contents : W → Option Bytes) (old : Writer W) (whole : Text) → SaysUpTo contents old old whole whole
begins contents old whole = record {
  front = [];
  splits = refl;
  says = (refl, λ before said s. written_pending _ before said _ s);
}

-- nothing was said
pub keeps : {W : Type 0} {contents : W → Option Bytes} {old mid : Writer W} {whole rest : Text} (new : Writer W) → SaysUpTo contents old mid whole rest
    → KeepsSaid contents mid new → SaysUpTo contents old new whole rest
keeps new up k = record {
  front = up.front;
  splits = up.splits;
  says = (k.0 ∙ up.says.0, λ before said s. k.1 before (said ++ up.front) (up.says.1 before said s));
}

longer : (front text rest more whole : Text) → rest ≡ text ++ more → front ++ rest ≡ whole → (front ++ text) ++ more ≡ whole
longer front text rest more whole e f = append_assoc front text more ∙ ap (λ (z : Text). front ++ z) (sym e) ∙ f

-- a text more was said
pub goes_on : {W : Type 0} {contents : W → Option Bytes} {old mid : Writer W} {whole rest : Text} (new : Writer W) (text more : Text) → SaysUpTo contents old mid whole rest
    → rest ≡ text ++ more → SaysAll contents mid new text → SaysUpTo contents old new whole more
goes_on {whole = whole} {rest = rest} new text more up e k = record {
  front = up.front ++ text;
  splits = longer up.front text rest more whole e up.splits;
  says = (k.0 ∙ up.says.0, λ before said s. said_assoc _ before said up.front text _ (k.1 before (said ++ up.front) (up.says.1 before said s)));
}

-- a text was added to what is pending
pub pushed : {W : Type 0} (contents : W → Option Bytes) (old new : Writer W) (text : Text) → new.stream ≡ old.stream → new.pending.items ≡ old.pending.items ++ text
    → SaysAll contents old new text
pushed contents old new text same e = (
  ap (λ s. s.ghost_name) same,
  λ before said s. record {
    sent = s.sent;
    held = ap (λ z. contents z.now) same ∙ s.held;
    splits = ap (λ (z : Text). z ++ text) s.splits ∙ append_assoc s.sent old.pending.items text ∙ ap (λ (z : Text). s.sent ++ z) (sym e);
  },
)

-- all was said
pub ends : {W : Type 0} {contents : W → Option Bytes} {old new : Writer W} {whole rest : Text} → rest ≡ [] → SaysUpTo contents old new whole rest
    → SaysAll contents old new whole
ends {whole = whole} {rest = rest} e up = (
  up.says.0,
  λ before said s.
      written_as _ before said up.front whole _ (sym (append-nil up.front) ∙ ap (λ (z : Text). up.front ++ z) (sym e) ∙ up.splits) (up.says.1 before said s),
)

-- the rest was said, or cut short
pub ends_with : {T W : Type 0} {contents : W → Option Bytes} {old mid : Writer W} {whole rest : Text} (result : Result T WriteError) (new : Writer W) → SaysUpTo contents old mid whole rest
    → WritesExactly result rest contents mid new → WritesExactly result whole contents old new
ends_with {whole = whole} {rest = rest} (Ok done) new up k = (
  k.0 ∙ up.says.0,
  λ before said s.
      written_as _ before said (up.front ++ rest) whole _ up.splits (said_assoc _ before said up.front rest _ (k.1 before (said ++ up.front) (up.says.1 before said s))),
)
ends_with {whole = whole} {rest = rest} (Err why) new up k = (
  k.0 ∙ up.says.0,
  λ before said s.
      truncated_within _ before said (up.front ++ rest) [] whole (append-nil (up.front ++ rest) ∙ up.splits)
      (cut_assoc _ before said up.front rest (k.1 before (said ++ up.front) (up.says.1 before said s))),
)

-- a text more was cut short
pub cuts : {T W : Type 0} {contents : W → Option Bytes} {old mid : Writer W} {whole rest : Text} (result : Result T WriteError) (new : Writer W) (text more : Text) → IsErr result
    → SaysUpTo contents old mid whole rest → rest ≡ text ++ more → SaysFront contents mid new text → WritesExactly result whole contents old new
cuts {whole = whole} {rest = rest} result new text more is up e k = (
  k.0 ∙ up.says.0,
  λ before said s.
      truncated_here result _ before (said ++ whole) _ is
      (truncated_within _ before said (up.front ++ text) more whole (longer up.front text rest more whole e up.splits)
      (cut_assoc _ before said up.front text (k.1 before (said ++ up.front) (up.says.1 before said s)))),
)

-- what was said before was cut short
pub cuts_here : {T W : Type 0} {contents : W → Option Bytes} {old mid : Writer W} {whole rest : Text} (result : Result T WriteError) (new : Writer W) → IsErr result
    → SaysUpTo contents old mid whole rest → CutsSaid contents mid new → WritesExactly result whole contents old new
cuts_here {whole = whole} {rest = rest} result new is up k = (
  k.0 ∙ up.says.0,
  λ before said s.
      truncated_here result _ before (said ++ whole) _ is (truncated_within _ before said up.front rest whole up.splits (k.1 before (said ++ up.front) (up.says.1 before said s))),
)

-- the same text
pub says_as : {T W : Type 0} (contents : W → Option Bytes) (result : Result T WriteError) (old new : Writer W) (text other : Text) → text ≡ other
    → WritesExactly result text contents old new → WritesExactly result other contents old new
says_as contents result old new text other e h = let P : Text → Type 0 = λ t. WritesExactly result t contents old new in subst P e h
