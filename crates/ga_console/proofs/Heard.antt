-- The lines that were heard so far, and what follows where the session ends.
use Rattle.std.proofs.Common.{◌≡◌, ◌≢◌, ℕ, ◌+◌, ◌-◌, ◌<◌, ◌≤◌, Bool, true, false, cond, List, [], ◌∷◌, ◌++◌, length, take, refl, sym, ap, ◌∙◌, subst, inl, inr, arith, append_assoc, length-append}
use Rattle.std.specs.Prelude.{nat_le, ◌⊎◌, Result, Ok, Err}
use Rattle.std.specs.List.{AllByRecursion}
use Rattle.std.proofs.lemmas.List.{append-nil, take_all}
use Rattle.std.proofs.Math.Seq.{take-append_seam}
use Rattle.std.proofs.lemmas.Grind.{flat_map-append}
use Rattle.std.proofs.lemmas.Bool.Decides.{nat_tests}
use Rattle.ga_text.specs.Lines.{lines_of_text, line_with_line_feed, text_of_lines, terminated_lines, HasNoLineFeed}
use Rattle.ga_console.specs.Session.{AnswerRelation, quit_line, AreLinesAnswered, AnswersLinesUntilRefusal, WritesAnswersWithLimitRefusal, HasNoQuit, lines_within_input_limit, AreLinesEndedUnlessInputEnds, ReadsLinesFirst, QuitsAfterLines, ServesCommandsWithLimitRefusal, ServesToEnd, ServesToQuit, ServesToRefusal, ServesToInputLimit, ServesToReadFailure, ServesToWriteFailure}
use Rattle.ga_console.specs.declared.commands.CommandsEnd.{CommandsEnd}
use Rattle.ga_console.specs.declared.commands.CommandsEnd.TheVariants.{InputEnded, Quit, Refused, PastLimit, ReadFailed}
use Rattle.ga_console.proofs.Ending.{EndsAt, IsAnswered}
use Rattle.ga_text.specs.declared.output.WriteError.{WriteError}
use Rattle.ga_text.proofs.TextLemmas.{lines_front, ended_front, lines_last, ended_whole, more_lines}

text_push : (lines : List (List ℕ)) (line tail : List ℕ) → text_of_lines lines ++ (line ++ 10 ∷ tail) ≡ text_of_lines (lines ++ line ∷ []) ++ tail
text_push lines line tail =
    sym (ap (λ (t : List ℕ). t ++ tail) (flat_map-append line_with_line_feed lines (line ∷ []) ∙ ap (λ (t : List ℕ). text_of_lines lines ++ t) (append-nil (line_with_line_feed line)))
    ∙ append_assoc (text_of_lines lines) (line_with_line_feed line) tail ∙ ap (λ (t : List ℕ). text_of_lines lines ++ t) (append_assoc line (10 ∷ []) tail))

all_push : (P : List ℕ → Type 0) (lines : List (List ℕ)) (line : List ℕ) → AllByRecursion P lines → P line → AllByRecursion P (lines ++ line ∷ [])
all_push P [] line h p = (p, tt)
all_push P (l ∷ ls) line h p = (h.0, all_push P ls line h.1 p)

answers_push : {M : Type 0} (A : AnswerRelation M) (m : M) (lines : List (List ℕ)) (text : List ℕ) (next : M) (line answer : List ℕ) (new : M)
    → AreLinesAnswered A m lines text next → A next line answer new → AreLinesAnswered A m (lines ++ line ∷ []) (text ++ answer) new
answers_push {M} A m [] text next line answer new h a =
    let P : M → Type 0 = λ s. A s line answer new in
    (answer, new, [], subst P h.1 a, (refl, refl), ap (λ (t : List ℕ). t ++ answer) h.0 ∙ sym (append-nil answer))
answers_push A m (l ∷ ls) text next line answer new h a =
    (h.0, h.1, h.2 ++ answer, h.3, answers_push A h.1 ls h.2 next line answer new h.4 a, ap (λ (t : List ℕ). t ++ answer) h.5 ∙ append_assoc h.0 h.2 answer)

-- what was heard of the whole, and what is left of it
pub record Heard {M : Type 0} (A : AnswerRelation M) (first : M) (whole : List ℕ) (start : ℕ) (left : List ℕ) (taken number : ℕ) (text : List ℕ) (m : M) : Type 0 where
  pub lines : List (List ℕ)
  pub splits : whole ≡ text_of_lines lines ++ left
  pub feeds : AllByRecursion HasNoLineFeed lines
  pub no_quit : HasNoQuit lines
  pub answers : AreLinesAnswered A first lines text m
  pub counts : taken ≡ start + length (text_of_lines lines)
  pub numbers : number ≡ length lines

pub heard_none : {M : Type 0} (A : AnswerRelation M) (m : M) (whole : List ℕ) (start : ℕ) → Heard A m whole start whole start 0 [] m
heard_none A m whole start = record { lines = []; splits = refl; feeds = tt; no_quit = tt; answers = (refl, refl); counts = omega arith; numbers = refl }

le-true : (a b : ℕ) → a ≤ b → nat_le a b ≡ true
le-true a b h = grind (arith, nat_tests)

le-false : (a b : ℕ) → b < a → nat_le a b ≡ false
le-false a b h = grind (arith, nat_tests)

heard_within : (room : ℕ) (read : List ℕ) → length read ≤ room → lines_within_input_limit room read ≡ lines_of_text read
heard_within room read h = go (nat_le (length read) room) (le-true (length read) room h) where
  go : (b : Bool) → b ≡ true → cond b (lines_of_text read) (terminated_lines (take room read)) ≡ lines_of_text read
  go b e = rw e refl

heard_over : (room : ℕ) (read : List ℕ) → room < length read → lines_within_input_limit room read ≡ terminated_lines (take room read)
heard_over room read h = go (nat_le (length read) room) (le-false (length read) room h) where
  go : (b : Bool) → b ≡ false → cond b (lines_of_text read) (terminated_lines (take room read)) ≡ terminated_lines (take room read)
  go b e = rw e refl

-- a line `quit` comes after the lines before it
behind_quit : (read rest : List ℕ) (heard after : List (List ℕ)) → QuitsAfterLines read rest heard after
    → (more : List (List ℕ)) × (lines_of_text read ≡ heard ++ more)
behind_quit read rest heard after (inl e) =
    let more = more_lines read in (
      (quit_line ∷ after) ++ more.more,
      more.same ∙ ap (λ (ls : List (List ℕ)). ls ++ more.more) e ∙ append_assoc heard (quit_line ∷ after) more.more,
    )
behind_quit read rest heard after (inr e) = (quit_line ∷ [], e.1)

whole_quit : (room : ℕ) (read rest : List ℕ) (heard after : List (List ℕ)) → length read ≤ room
    → QuitsAfterLines read rest heard after → AreLinesEndedUnlessInputEnds room read rest heard
whole_quit room read rest heard after short (inl e) = inr (quit_line ∷ after, ap terminated_lines (take_all room read short) ∙ e)
whole_quit room read rest heard after short (inr e) = inl e.0

-- these lines come first among all that was read
behind_lines : (read rest : List ℕ) (heard after : List (List ℕ)) → ReadsLinesFirst read rest heard after
    → (more : List (List ℕ)) × (lines_of_text read ≡ heard ++ more)
behind_lines read rest heard after (inl e) =
    let more = more_lines read in
    (after ++ more.more, more.same ∙ ap (λ (ls : List (List ℕ)). ls ++ more.more) e ∙ append_assoc heard after more.more)
behind_lines read rest heard after (inr e) = ([], e.1 ∙ sym (append-nil heard))

whole_lines : (room : ℕ) (read rest : List ℕ) (heard after : List (List ℕ)) → length read ≤ room
    → ReadsLinesFirst read rest heard after → AreLinesEndedUnlessInputEnds room read rest heard
whole_lines room read rest heard after short (inl e) = inr (after, ap terminated_lines (take_all room read short) ∙ e)
whole_lines room read rest heard after short (inr e) = inl e.0

-- If a write failed at last, what was written is in the script.
pub cut_short : {M : Type 0} (past : List ℕ) (A R : AnswerRelation M) (room : ℕ) (m : M) (read rest text : List ℕ) (last : M) (ending : Result CommandsEnd WriteError)
    → ServesCommandsWithLimitRefusal past A R room m read rest text last ending → ServesToWriteFailure past A R room m read rest text last
cut_short past A R room m read rest text last (Ok InputEnded) s = record {
  heard = lines_of_text read;
  after = [];
  front = heard_within room read s.within ∙ sym (append-nil (lines_of_text read));
  no_quit = s.no_quit;
  script = inl s.answers;
  whole = inl s.at_end;
}
cut_short past A R room m read rest text last (Ok Quit) s =
    let behind = behind_quit read rest s.heard s.after s.quits in
    record {
      heard = s.heard;
      after = behind.0;
      front = heard_within room read s.within ∙ behind.1;
      no_quit = s.no_quit;
      script = inl s.answers;
      whole = whole_quit room read rest s.heard s.after s.within s.quits;
    }
cut_short past A R room m read rest text last (Ok (Refused number)) s =
    let behind = behind_lines read rest s.heard s.after s.front in
    record {
      heard = s.heard;
      after = behind.0;
      front = heard_within room read s.within ∙ behind.1;
      no_quit = s.no_quit;
      script = inr (inl s.answers);
      whole = whole_lines room read rest s.heard s.after s.within s.front;
    }
cut_short past A R room m read rest text last (Ok (PastLimit number)) s =
    let long : room < length read = omega (arith, s.over) in
    record {
      heard = terminated_lines (take room read);
      after = [];
      front = heard_over room read long ∙ sym (append-nil (terminated_lines (take room read)));
      no_quit = s.no_quit;
      script = inr (inr (long, refl, s.said, s.answers, s.told));
      whole = inr ([], sym (append-nil (terminated_lines (take room read))));
    }
cut_short past A R room m read rest text last (Ok ReadFailed) s =
    let more = more_lines read in
    record {
      heard = terminated_lines read;
      after = more.more;
      front = heard_within room read s.within ∙ more.same;
      no_quit = s.no_quit;
      script = inl s.answers;
      whole = inr ([], ap terminated_lines (take_all room read s.within) ∙ sym (append-nil (terminated_lines read)));
    }
cut_short past A R room m read rest text last (Err failed) s = s

module _ {M : Type 0} {A : AnswerRelation M} {first : M} {whole : List ℕ} {start : ℕ} {left : List ℕ} {taken number : ℕ} {text : List ℕ} {m : M}
    (h : Heard A first whole start left taken number text m) where
  -- what was read, up to the end of these bytes
  pub read_to : List ℕ → List ℕ
  read_to bytes = text_of_lines h.lines ++ bytes

  pub split_at : (bytes rest : List ℕ) → left ≡ bytes ++ rest → whole ≡ read_to bytes ++ rest
  unfolding read_to
  split_at bytes rest e = h.splits ∙ ap (λ (l : List ℕ). text_of_lines h.lines ++ l) e ∙ sym (append_assoc (text_of_lines h.lines) bytes rest)

  length_to : (bytes : List ℕ) → length (read_to bytes) ≡ length (text_of_lines h.lines) + length bytes
  unfolding read_to
  length_to bytes = length-append (text_of_lines h.lines) bytes

  -- one line more was heard
  pub heard_push : (part more : List ℕ) (now n : ℕ) (answer : List ℕ) (new : M) → left ≡ part ++ 10 ∷ more → HasNoLineFeed part
      → now ≡ taken + length part + 1 → n ≡ number + 1 → IsAnswered A m part answer new → Heard A first whole start more now n (text ++ answer) new
  heard_push part more now n answer new e none counts one a = record {
    lines = h.lines ++ part ∷ [];
    splits = h.splits ∙ ap (λ (l : List ℕ). text_of_lines h.lines ++ l) e ∙ text_push h.lines part more;
    feeds = all_push HasNoLineFeed h.lines part h.feeds none;
    no_quit = all_push (λ l. l ≢ quit_line) h.lines part h.no_quit a.1;
    answers = answers_push A first h.lines text m part answer new h.answers a.0;
    numbers = omega (arith, h.numbers, one, length-append h.lines (part ∷ []));
    counts = omega (arith, h.counts, counts, ap length (sym (text_push h.lines part [])), length-append (text_of_lines h.lines) (part ++ 10 ∷ []), length-append part (10 ∷ []), length-append (text_of_lines (h.lines ++ part ∷ [])) []);
  }

  -- A write failed: the lines heard were answered.
  pub heard_cut : (past : List ℕ) (R : AnswerRelation M) (bytes rest : List ℕ) → taken + length bytes ≤ 16777216 → ServesToWriteFailure past A R (16777216 - start) first (read_to bytes) rest text m
  unfolding read_to
  heard_cut past R bytes rest within =
      let short : length (read_to bytes) ≤ 16777216 - start = omega (arith, within, length_to bytes, h.counts) in
      record {
        heard = h.lines;
        after = lines_of_text bytes;
        front = heard_within (16777216 - start) (read_to bytes) short ∙ lines_front h.lines bytes h.feeds;
        no_quit = h.no_quit;
        script = inl h.answers;
        whole = inr (terminated_lines bytes, ap terminated_lines (take_all (16777216 - start) (read_to bytes) short) ∙ ended_front h.lines bytes h.feeds);
      }

  -- a read failed
  pub heard_failed : (part rest : List ℕ) → HasNoLineFeed part → taken + length part ≤ 16777216 → ServesToReadFailure A (16777216 - start) first (read_to part) rest text m
  unfolding read_to
  heard_failed part rest none short =
      let same : h.lines ≡ terminated_lines (read_to part) = sym (ended_whole h.lines part h.feeds none) in
      let P : List (List ℕ) → Type 0 = λ ls. HasNoQuit ls in
      let Q : List (List ℕ) → Type 0 = λ ls. AreLinesAnswered A first ls text m in
      record {
        within = omega (arith, short, length_to part, h.counts);
        no_quit = subst P same h.no_quit;
        answers = subst Q same h.answers;
      }

  -- the input ended after the last line feed
  pub heard_ended : (part rest : List ℕ) → part ≡ [] → rest ≡ [] → taken + length part ≤ 16777216 → ServesToEnd A (16777216 - start) first (read_to part) rest text m
  unfolding read_to
  heard_ended part rest none nothing short =
      let same : h.lines ≡ lines_of_text (read_to part) =
      sym (ap (λ (p : List ℕ). lines_of_text (text_of_lines h.lines ++ p)) none ∙ lines_front h.lines [] h.feeds ∙ append-nil h.lines) in
      let P : List (List ℕ) → Type 0 = λ ls. HasNoQuit ls in
      let Q : List (List ℕ) → Type 0 = λ ls. AreLinesAnswered A first ls text m in
      record {
        within = omega (arith, short, length_to part, h.counts);
        at_end = nothing;
        no_quit = subst P same h.no_quit;
        answers = subst Q same h.answers;
      }

  lines_to : (part : List ℕ) → HasNoLineFeed part → 0 < length part → h.lines ++ part ∷ [] ≡ lines_of_text (read_to part)
  unfolding read_to
  lines_to part none some = sym (lines_front h.lines part h.feeds ∙ ap (λ (ls : List (List ℕ)). h.lines ++ ls) (lines_last part none some))

  -- the last line had no line feed
  pub heard_last : (part rest answer : List ℕ) (new : M) → HasNoLineFeed part → 0 < length part → rest ≡ [] → taken + length part ≤ 16777216
      → IsAnswered A m part answer new → ServesToEnd A (16777216 - start) first (read_to part) rest (text ++ answer) new
  heard_last part rest answer new none some nothing short a =
      let same = lines_to part none some in
      let P : List (List ℕ) → Type 0 = λ ls. HasNoQuit ls in
      let Q : List (List ℕ) → Type 0 = λ ls. AreLinesAnswered A first ls (text ++ answer) new in
      record {
        within = omega (arith, short, length_to part, h.counts);
        at_end = nothing;
        no_quit = subst P same (all_push (λ l. l ≢ quit_line) h.lines part h.no_quit a.1);
        answers = subst Q same (answers_push A first h.lines text m part answer new h.answers a.0);
      }

  -- and was quit
  heard_quit_last : (part rest : List ℕ) → HasNoLineFeed part → part ≡ quit_line → rest ≡ [] → taken + length part ≤ 16777216
      → ServesToQuit A (16777216 - start) first (read_to part) rest text m
  heard_quit_last part rest none quit nothing short =
      let some : 0 < length part = omega (arith, ap length quit) in
      record {
        within = omega (arith, short, length_to part, h.counts);
        heard = h.lines;
        after = [];
        no_quit = h.no_quit;
        answers = h.answers;
        quits = inr (nothing, sym (lines_to part none some) ∙ ap (λ (l : List ℕ). h.lines ++ l ∷ []) quit);
      }

  -- the session ended at a line `quit`, and bytes after it were read
  pub read_past : List ℕ → List ℕ → List ℕ
  read_past part bytes = text_of_lines (h.lines ++ part ∷ []) ++ bytes

  pub split_past : (part bytes rest : List ℕ) → left ≡ part ++ 10 ∷ (bytes ++ rest) → whole ≡ read_past part bytes ++ rest
  unfolding read_past
  split_past part bytes rest e = h.splits ∙ ap (λ (l : List ℕ). text_of_lines h.lines ++ l) e ∙ text_push h.lines part (bytes ++ rest)
      ∙ sym (append_assoc (text_of_lines (h.lines ++ part ∷ [])) bytes rest)

  length_past : (part bytes : List ℕ) → length (read_past part bytes) ≡ length (text_of_lines h.lines) + length part + 1 + length bytes
  unfolding read_past
  length_past part bytes = omega (arith, ap length (text_push h.lines part bytes), length-append (text_of_lines h.lines) (part ++ 10 ∷ bytes), length-append part (10 ∷ bytes))

  heard_quit : (part bytes rest : List ℕ) (now : ℕ) → HasNoLineFeed part → part ≡ quit_line → now ≡ taken + length part + 1 → now + length bytes ≤ 16777216
      → ServesToQuit A (16777216 - start) first (read_past part bytes) rest text m
  unfolding read_past
  heard_quit part bytes rest now none quit counts short = record {
    within = omega (arith, short, counts, length_past part bytes, h.counts);
    heard = h.lines;
    after = terminated_lines bytes;
    no_quit = h.no_quit;
    answers = h.answers;
    quits = inl (ended_front (h.lines ++ part ∷ []) bytes (all_push HasNoLineFeed h.lines part h.feeds none) ∙ append_assoc h.lines (part ∷ []) (terminated_lines bytes)
        ∙ ap (λ (l : List ℕ). h.lines ++ l ∷ terminated_lines bytes) quit);
  }

  -- the input exceeds its bound
  pub read_over : List ℕ → ℕ → List ℕ
  read_over part b = read_to part ++ b ∷ []

  pub split_over : (part : List ℕ) (b : ℕ) (rest : List ℕ) → left ≡ part ++ b ∷ rest → whole ≡ read_over part b ++ rest
  unfolding read_over
  split_over part b rest e = split_at part (b ∷ rest) e ∙ sym (append_assoc (read_to part) (b ∷ []) rest)

  pub heard_past : (past part : List ℕ) (b : ℕ) (rest : List ℕ) (now n : ℕ) → HasNoLineFeed part → now ≡ taken + length part → now ≡ 16777216 → n ≡ number + 1
      → ServesToInputLimit past A n (16777216 - start) first (read_over part b) rest (text ++ past) m
  unfolding read_over read_to
  heard_past past part b rest now n none counts full one =
      let room : 16777216 - start ≡ length (read_to part) = omega (arith, length_to part, h.counts) in
      let same : h.lines ≡ terminated_lines (take (16777216 - start) (read_over part b)) =
      sym (ap (λ (n : ℕ). terminated_lines (take n (read_to part ++ b ∷ []))) room
      ∙ ap terminated_lines (take-append_seam (read_to part) (b ∷ [])) ∙ ended_whole h.lines part h.feeds none) in
      let P : List (List ℕ) → Type 0 = λ ls. HasNoQuit ls in
      let Q : List (List ℕ) → Type 0 = λ ls. AreLinesAnswered A first ls text m in
      record {
        over = omega (arith, length-append (read_to part) (b ∷ []), room);
        no_quit = subst P same h.no_quit;
        said = text;
        answers = subst Q same h.answers;
        told = refl;
        counts = omega (arith, one, h.numbers, ap length same);
      }

  -- ---- the line that ends the session, or the answer that could not be written

  quits : (R : AnswerRelation M) (read rest answer : List ℕ) (new : M) → new ≡ m → answer ≡ [] → ServesToQuit A (16777216 - start) first read rest text m
      → ServesToQuit A (16777216 - start) first read rest (text ++ answer) new
  quits R read rest answer new e none s =
      let P : M → Type 0 = λ z. ServesToQuit A (16777216 - start) first read rest (text ++ answer) z in
      let Q : List ℕ → Type 0 = λ t. ServesToQuit A (16777216 - start) first read rest t m in
      subst P (sym e) (subst Q (sym (ap (λ (t : List ℕ). text ++ t) none ∙ append-nil text)) s)

  refusal_push : (R : AnswerRelation M) (part answer : List ℕ) (new : M) → R m part answer new → AnswersLinesUntilRefusal A R first (h.lines ++ part ∷ []) (text ++ answer) new
  refusal_push R part answer new r = (h.lines, part, text, answer, m, refl, h.answers, r, refl)

  refused_here : (R : AnswerRelation M) (part bytes rest answer : List ℕ) (now n : ℕ) (new : M) → HasNoLineFeed part → now ≡ taken + length part + 1
      → now + length bytes ≤ 16777216 → n ≡ number + 1 → IsAnswered R m part answer new
      → ServesToRefusal A R n (16777216 - start) first (read_past part bytes) rest (text ++ answer) new
  unfolding read_past
  refused_here R part bytes rest answer now n new none counts short one a = record {
    within = omega (arith, short, counts, length_past part bytes, h.counts);
    heard = h.lines ++ part ∷ [];
    after = terminated_lines bytes;
    no_quit = all_push (λ l. l ≢ quit_line) h.lines part h.no_quit a.1;
    answers = refusal_push R part answer new a.0;
    counts = omega (arith, one, h.numbers, length-append h.lines (part ∷ []));
    front = inl (ended_front (h.lines ++ part ∷ []) bytes (all_push HasNoLineFeed h.lines part h.feeds none));
  }

  pub heard_ends : (past : List ℕ) (R : AnswerRelation M) (part bytes rest answer : List ℕ) (now n : ℕ) (new : M) (ending : CommandsEnd) → HasNoLineFeed part → now ≡ taken + length part + 1
      → now + length bytes ≤ 16777216 → n ≡ number + 1 → EndsAt R m part n answer new ending
      → ServesCommandsWithLimitRefusal past A R (16777216 - start) first (read_past part bytes) rest (text ++ answer) new (Ok ending)
  heard_ends past R part bytes rest answer now n new InputEnded none counts short one e = absurd e
  heard_ends past R part bytes rest answer now n new Quit none counts short one e =
      quits R (read_past part bytes) rest answer new e.1 e.2 (heard_quit part bytes rest now none e.0 counts short)
  heard_ends past R part bytes rest answer now n new (Refused k) none counts short one e =
      refused_here R part bytes rest answer now k new none counts short (e.0 ∙ one) (e.1, e.2)
  heard_ends past R part bytes rest answer now n new (PastLimit k) none counts short one e = absurd e
  heard_ends past R part bytes rest answer now n new ReadFailed none counts short one e = absurd e

  script_push : (past : List ℕ) (R : AnswerRelation M) (part read answer : List ℕ) (new : M) → IsAnswered A m part answer new ⊎ IsAnswered R m part answer new
      → WritesAnswersWithLimitRefusal past A R (16777216 - start) first read (h.lines ++ part ∷ []) (text ++ answer) new
  script_push past R part read answer new (inl a) = inl (answers_push A first h.lines text m part answer new h.answers a.0)
  script_push past R part read answer new (inr a) = inr (inl (refusal_push R part answer new a.0))

  other_push : (R : AnswerRelation M) (part answer : List ℕ) (new : M) → IsAnswered A m part answer new ⊎ IsAnswered R m part answer new → HasNoQuit (h.lines ++ part ∷ [])
  other_push R part answer new (inl a) = all_push (λ l. l ≢ quit_line) h.lines part h.no_quit a.1
  other_push R part answer new (inr a) = all_push (λ l. l ≢ quit_line) h.lines part h.no_quit a.1

  pub heard_broken : (past : List ℕ) (R : AnswerRelation M) (part bytes rest answer : List ℕ) (now : ℕ) (new : M) → HasNoLineFeed part → now ≡ taken + length part + 1
      → now + length bytes ≤ 16777216 → IsAnswered A m part answer new ⊎ IsAnswered R m part answer new
      → ServesToWriteFailure past A R (16777216 - start) first (read_past part bytes) rest (text ++ answer) new
  unfolding read_past
  heard_broken past R part bytes rest answer now new none counts short a =
      let within : length (read_past part bytes) ≤ 16777216 - start = omega (arith, short, counts, length_past part bytes, h.counts) in
      let feeds = all_push HasNoLineFeed h.lines part h.feeds none in
      record {
        heard = h.lines ++ part ∷ [];
        after = lines_of_text bytes;
        front = heard_within (16777216 - start) (read_past part bytes) within ∙ lines_front (h.lines ++ part ∷ []) bytes feeds;
        no_quit = other_push R part answer new a;
        script = script_push past R part (read_past part bytes) answer new a;
        whole = inr (terminated_lines bytes, ap terminated_lines (take_all (16777216 - start) (read_past part bytes) within) ∙ ended_front (h.lines ++ part ∷ []) bytes feeds);
      }

  -- a line at the end of the input, without a line feed
  refused_last : (R : AnswerRelation M) (part rest answer : List ℕ) (n : ℕ) (new : M) → HasNoLineFeed part → 0 < length part → rest ≡ []
      → taken + length part ≤ 16777216 → n ≡ number + 1 → IsAnswered R m part answer new
      → ServesToRefusal A R n (16777216 - start) first (read_to part) rest (text ++ answer) new
  refused_last R part rest answer n new none some nothing short one a = record {
    within = omega (arith, short, length_to part, h.counts);
    heard = h.lines ++ part ∷ [];
    after = [];
    no_quit = all_push (λ l. l ≢ quit_line) h.lines part h.no_quit a.1;
    answers = refusal_push R part answer new a.0;
    counts = omega (arith, one, h.numbers, length-append h.lines (part ∷ []));
    front = inr (nothing, sym (lines_to part none some));
  }

  pub heard_last_ends : (past : List ℕ) (R : AnswerRelation M) (part rest answer : List ℕ) (n : ℕ) (new : M) (ending : CommandsEnd) → HasNoLineFeed part → 0 < length part → rest ≡ []
      → taken + length part ≤ 16777216 → n ≡ number + 1 → EndsAt R m part n answer new ending
      → ServesCommandsWithLimitRefusal past A R (16777216 - start) first (read_to part) rest (text ++ answer) new (Ok ending)
  heard_last_ends past R part rest answer n new InputEnded none some nothing short one e = absurd e
  heard_last_ends past R part rest answer n new Quit none some nothing short one e =
      quits R (read_to part) rest answer new e.1 e.2 (heard_quit_last part rest none e.0 nothing short)
  heard_last_ends past R part rest answer n new (Refused k) none some nothing short one e =
      refused_last R part rest answer k new none some nothing short (e.0 ∙ one) (e.1, e.2)
  heard_last_ends past R part rest answer n new (PastLimit k) none some nothing short one e = absurd e
  heard_last_ends past R part rest answer n new ReadFailed none some nothing short one e = absurd e

  pub heard_last_broken : (past : List ℕ) (R : AnswerRelation M) (part rest answer : List ℕ) (new : M) → HasNoLineFeed part → 0 < length part → rest ≡ []
      → taken + length part ≤ 16777216 → IsAnswered A m part answer new ⊎ IsAnswered R m part answer new
      → ServesToWriteFailure past A R (16777216 - start) first (read_to part) rest (text ++ answer) new
  heard_last_broken past R part rest answer new none some nothing short a =
      let within : length (read_to part) ≤ 16777216 - start = omega (arith, short, length_to part, h.counts) in
      record {
        heard = h.lines ++ part ∷ [];
        after = [];
        front = heard_within (16777216 - start) (read_to part) within ∙ sym (lines_to part none some) ∙ sym (append-nil (h.lines ++ part ∷ []));
        no_quit = other_push R part answer new a;
        script = script_push past R part (read_to part) answer new a;
        whole = inl nothing;
      }
