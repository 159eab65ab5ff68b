-- A text that was written to a writer stays so, whatever part of it is sent to the stream.
use Rattle.std.proofs.Common.{◌≡◌, ℕ, List, ◌++◌, Option, Some, None, ap, ◌∙◌, [], Result, Ok, Err, sym, subst, append_assoc, rules, ◌+◌, ◌<◌, ◌≤◌, length, get_or, take, drop, take-append-drop, suc, zero, true, false, ◌∷◌, refl, arith, length-take}
use Rattle.std.proofs.lemmas.Option.{none-some}
use Rattle.std.specs.Io.KnownBytes.{Appends, Keeps}
use Rattle.std.specs.Result.{IsErr}
use Rattle.std.proofs.lemmas.List.{append-nil, take_all, take_more, flat_map_more}
use Rattle.ga_text.specs.Output.{IsTextWrittenOrPending, IsTextTruncated, IsTextWrittenOrTruncated}
use Rattle.ga_text.specs.declared.output.WriteError.{WriteError}
use Rattle.std.specs.Prelude.{flat_map, ◌==◌}
use Rattle.std.proofs.lemmas.Grind.{flat_map-append}
use Rattle.std.proofs.lemmas.Bool.Decides.{nat_tests}
use Rattle.std.proofs.lemmas.List.Elements.{All-append, All-nil}
use Rattle.ga_text.specs.Lines.{HasNoLineFeed, is_line_end_byte}
use Rattle.ga_text.specs.Input.{HoldsLinePartUpToLimit}

-- ---- what known bytes become

pub appends_known : (old new : Option (List ℕ)) (xs bs : List ℕ) → old ≡ Some xs → Appends old new bs → new ≡ Some (xs ++ bs)
appends_known None new xs bs e h = absurd (none-some xs e)
appends_known (Some ys) None xs bs e h = absurd h
appends_known (Some ys) (Some zs) xs bs e h = let same : ys ≡ xs = cc in ap Some (h ∙ ap (λ (l : List ℕ). l ++ bs) same)

pub keeps_known : (old new : Option (List ℕ)) (xs : List ℕ) → old ≡ Some xs → Keeps old new → new ≡ Some xs
keeps_known None new xs e h = absurd (none-some xs e)
keeps_known (Some ys) None xs e h = absurd h
keeps_known (Some ys) (Some zs) xs e h = ap Some h ∙ e

pub said_cut : (contents : Option (List ℕ)) (before said pending : List ℕ) → IsTextWrittenOrPending contents before said pending → IsTextTruncated contents before said
said_cut contents before said pending h = record { sent = h.sent; held = h.held; front = (pending, h.splits) }

pub said_kept : (old new : Option (List ℕ)) (before said pending : List ℕ) → Keeps old new → IsTextWrittenOrPending old before said pending → IsTextWrittenOrPending new before said pending
said_kept old new before said pending k h = record { sent = h.sent; held = keeps_known old new (before ++ h.sent) h.held k; splits = h.splits }

-- a front of what was pending was written
pub said_written : (old new : Option (List ℕ)) (before said bytes pending : List ℕ) → Appends old new bytes
    → IsTextWrittenOrPending old before said (bytes ++ pending) → IsTextWrittenOrPending new before said pending
said_written old new before said bytes pending a h = record {
  sent = h.sent ++ bytes;
  held = appends_known old new (before ++ h.sent) bytes h.held a ∙ ap Some (append_assoc before h.sent bytes);
  splits = h.splits ∙ sym (append_assoc h.sent bytes pending);
}

pub truncated_more : (contents : Option (List ℕ)) (before said more : List ℕ) → IsTextTruncated contents before said → IsTextTruncated contents before (said ++ more)
truncated_more contents before said more h = record {
  sent = h.sent;
  held = h.held;
  front = (h.front.0 ++ more, ap (λ (t : List ℕ). t ++ more) h.front.1 ∙ append_assoc h.sent h.front.0 more);
}

pub said_same : (contents : Option (List ℕ)) (before said pending other : List ℕ) → pending ≡ other → IsTextWrittenOrPending contents before said pending → IsTextWrittenOrPending contents before said other
said_same contents before said pending other e h = record {
  sent = h.sent;
  held = h.held;
  splits = h.splits ∙ ap (λ (t : List ℕ). h.sent ++ t) e;
}

pub said_assoc : (contents : Option (List ℕ)) (before said text more pending : List ℕ) → IsTextWrittenOrPending contents before ((said ++ text) ++ more) pending
    → IsTextWrittenOrPending contents before (said ++ (text ++ more)) pending
said_assoc contents before said text more pending h = record { sent = h.sent; held = h.held; splits = sym (append_assoc said text more) ∙ h.splits }

pub cut_assoc : (contents : Option (List ℕ)) (before said text more : List ℕ) → IsTextTruncated contents before ((said ++ text) ++ more)
    → IsTextTruncated contents before (said ++ (text ++ more))
cut_assoc contents before said text more h = record { sent = h.sent; held = h.held; front = (h.front.0, sym (append_assoc said text more) ∙ h.front.1) }

-- nothing more was written
pub written_pending : (contents : Option (List ℕ)) (before said pending : List ℕ) → IsTextWrittenOrPending contents before said pending → IsTextWrittenOrPending contents before (said ++ []) pending
written_pending contents before said pending h = record { sent = h.sent; held = h.held; splits = append-nil said ∙ h.splits }

-- what holds at each error holds at a result that is one
pub at_err : {T : Type 0} (P : Result T WriteError → Type 0) (result : Result T WriteError) → IsErr result → ((why : WriteError) → P (Err why)) → P result
at_err P (Ok done) is h = absurd (search rules)
at_err P (Err why) is h = h why

pub truncated_here : {T : Type 0} (result : Result T WriteError) (contents : Option (List ℕ)) (before said pending : List ℕ) → IsErr result
    → IsTextTruncated contents before said → IsTextWrittenOrTruncated result contents before said pending
truncated_here (Ok done) contents before said pending is h = absurd (search rules)
truncated_here (Err why) contents before said pending is h = h

-- where the text is empty
pub said_nothing : (contents : Option (List ℕ)) (before said text pending : List ℕ) → text ≡ [] → IsTextWrittenOrPending contents before (said ++ text) pending
    → IsTextWrittenOrPending contents before said pending
said_nothing contents before said text pending e h = record {
  sent = h.sent;
  held = h.held;
  splits = sym (append-nil said) ∙ ap (λ (t : List ℕ). said ++ t) (sym e) ∙ h.splits;
}

-- the same for an equal text
pub written_as : (contents : Option (List ℕ)) (before said text other pending : List ℕ) → text ≡ other → IsTextWrittenOrPending contents before (said ++ text) pending
    → IsTextWrittenOrPending contents before (said ++ other) pending
written_as contents before said text other pending e h =
    let P : List ℕ → Type 0 = λ t. IsTextWrittenOrPending contents before (said ++ t) pending in subst P e h

-- a prefix of a text was written
pub truncated_within : (contents : Option (List ℕ)) (before said text more whole : List ℕ) → text ++ more ≡ whole → IsTextTruncated contents before (said ++ text)
    → IsTextTruncated contents before (said ++ whole)
truncated_within contents before said text more whole e h = record {
  sent = h.sent;
  held = h.held;
  front = (
    h.front.0 ++ more,
    ap (λ (t : List ℕ). said ++ t) (sym e) ∙ sym (append_assoc said text more) ∙ ap (λ (t : List ℕ). t ++ more) h.front.1
        ∙ append_assoc h.sent h.front.0 more,
  );
}

-- ---- A text of a head and a line for each element, written line by line

module _ {A : Type 0} (line : A → List ℕ) (head : List ℕ) (xs : List A) where
  pub listed_none : head ≡ head ++ flat_map line (take 0 xs)
  listed_none = sym (append-nil head)

  pub listed_more : (i : ℕ) (default : A) (text : List ℕ) → i < length xs → text ≡ line (get_or xs i default)
      → (head ++ flat_map line (take i xs)) ++ text ≡ head ++ flat_map line (take (i + 1) xs)
  listed_more i default text within e =
      ap (λ (t : List ℕ). (head ++ flat_map line (take i xs)) ++ t) e
      ∙ flat_map_more line head (take i xs) (get_or xs i default)
      ∙ ap (λ (ys : List A). head ++ flat_map line ys) (sym (take_more xs i default within))

  pub listed_front : (i : ℕ) → (head ++ flat_map line (take i xs)) ++ flat_map line (drop i xs) ≡ head ++ flat_map line xs
  listed_front i =
      append_assoc head (flat_map line (take i xs)) (flat_map line (drop i xs))
      ∙ ap (λ (t : List ℕ). head ++ t) (sym (flat_map-append line (take i xs) (drop i xs)) ∙ ap (flat_map line) (take-append-drop i xs))

  pub listed_all : (i : ℕ) → length xs ≤ i → head ++ flat_map line (take i xs) ≡ head ++ flat_map line xs
  listed_all i past = ap (λ (ys : List A). head ++ flat_map line ys) (take_all i xs past)

-- ---- A line as it is read, part by part

take-take-append : (n : ℕ) (xs ys : List ℕ) → take n (take n xs ++ ys) ≡ take n (xs ++ ys)
take-take-append zero xs ys = refl
take-take-append (suc n) [] ys = refl
take-take-append (suc n) (x ∷ xs) ys = ap (λ (t : List ℕ). x ∷ t) (take-take-append n xs ys)

pub line_none : (whole line : List ℕ) → line ≡ [] → HoldsLinePartUpToLimit whole line [] whole
line_none whole line e = record { splits = refl; no_feed = All-nil (λ b. is_line_end_byte b ≡ false); kept = e }

-- the same bytes, split the same
pub line_same : (whole line part more other : List ℕ) → more ≡ other → HoldsLinePartUpToLimit whole line part more → HoldsLinePartUpToLimit whole line part other
line_same whole line part more other e l = let P : List ℕ → Type 0 = λ xs. HoldsLinePartUpToLimit whole line part xs in subst P e l

-- a piece more
pub line_piece : (whole line longer part piece old new rest : List ℕ) → HoldsLinePartUpToLimit whole line part (old ++ rest)
    → HasNoLineFeed piece → old ≡ piece ++ new → longer ≡ take 201 (line ++ piece) → HoldsLinePartUpToLimit whole longer (part ++ piece) (new ++ rest)
line_piece whole line longer part piece old new rest l none e kept = record {
  splits = l.splits ∙ ap (λ (t : List ℕ). part ++ t) (ap (λ (t : List ℕ). t ++ rest) e ∙ append_assoc piece new rest) ∙ sym (append_assoc part piece (new ++ rest));
  no_feed = All-append (λ b. is_line_end_byte b ≡ false) part piece l.no_feed none;
  kept = kept ∙ ap (λ (t : List ℕ). take 201 (t ++ piece)) l.kept ∙ take-take-append 201 part piece;
}

-- all that was read
pub line_all : (whole line longer part piece old rest : List ℕ) → HoldsLinePartUpToLimit whole line part (old ++ rest)
    → HasNoLineFeed piece → old ≡ piece → longer ≡ take 201 (line ++ piece) → HoldsLinePartUpToLimit whole longer (part ++ piece) rest
line_all whole line longer part piece old rest l none e kept =
    line_piece whole line longer part piece old [] rest l none (e ∙ sym (append-nil piece)) kept

pub empty_part : (line part : List ℕ) → line ≡ take 201 part → true ≡ length line == 0 → part ≡ []
empty_part line part kept test = go part (omega (arith, none, length-take 201 part, ap length kept)) where
  none : length line ≡ 0
  none = grind (arith, nat_tests)

  go : (p : List ℕ) → length p ≡ 0 → p ≡ []
  go [] e = refl
  go (x ∷ xs) e = absurd (omega arith)

pub some_part : (line part : List ℕ) → line ≡ take 201 part → false ≡ length line == 0 → 0 < length part
some_part line part kept test = omega (arith, some, length-take 201 part, ap length kept) where
  some : 0 < length line
  some = grind (arith, nat_tests)
