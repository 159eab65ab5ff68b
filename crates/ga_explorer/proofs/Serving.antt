-- A session whose machine has more than what answers: what it serves is so of that part.
use Rattle.std.proofs.Common.{ℕ, List, [], ◌∷◌, ap, sym, subst, inl, inr}
use Rattle.std.specs.Prelude.{Result, Ok, Err}
use Rattle.ga_text.specs.declared.output.WriteError.{WriteError}
use Rattle.ga_console.specs.Session.{AnswerRelation, AreLinesAnswered, AnswersLinesUntilRefusal, WritesAnswersWithLimitRefusal, ServesCommandsWithLimitRefusal}
use Rattle.ga_console.specs.declared.commands.CommandsEnd.{CommandsEnd}
use Rattle.ga_console.specs.declared.commands.CommandsEnd.TheVariants.{InputEnded, Quit, Refused, PastLimit, ReadFailed}

-- An answer of the machine is one of its part, as long as something holds of the machine, and so is one that ends the session.
pub record IsSeenIn {M N : Type 0} (part : M → N) (Holds : M → Type 0) (A R : AnswerRelation M) (B S : AnswerRelation N) : Type 0 where
  pub answer : (m : M) (line answer : List ℕ) (new : M) → Holds m → A m line answer new → B (part m) line answer (part new)
  pub holds : (m : M) (line answer : List ℕ) (new : M) → Holds m → A m line answer new → Holds new
  pub refusal : (m : M) (line answer : List ℕ) (new : M) → Holds m → R m line answer new → S (part m) line answer (part new)

module _ {M N : Type 0} (past : List ℕ) (part : M → N) (Holds : M → Type 0) (A R : AnswerRelation M) (B S : AnswerRelation N) (seen : IsSeenIn part Holds A R B S) where
  answers_seen : (m : M) (lines : List (List ℕ)) (text : List ℕ) (last : M) → Holds m → AreLinesAnswered A m lines text last → AreLinesAnswered B (part m) lines text (part last)
  answers_seen m [] text last k h = (h.0, ap part h.1)
  answers_seen m (line ∷ lines) text last k h =
      (h.0, part h.1, h.2, seen.answer m line h.0 h.1 k h.3, answers_seen h.1 lines h.2 last (seen.holds m line h.0 h.1 k h.3) h.4, h.5)

  holds_seen : (m : M) (lines : List (List ℕ)) (text : List ℕ) (last : M) → Holds m → AreLinesAnswered A m lines text last → Holds last
  holds_seen m [] text last k h = subst Holds (sym h.1) k
  holds_seen m (line ∷ lines) text last k h = holds_seen h.1 lines h.2 last (seen.holds m line h.0 h.1 k h.3) h.4

  refusal_seen : (m : M) (lines : List (List ℕ)) (text : List ℕ) (last : M) → Holds m → AnswersLinesUntilRefusal A R m lines text last → AnswersLinesUntilRefusal B S (part m) lines text (part last)
  refusal_seen m lines text last k h =
      (h.0, h.1, h.2, h.3, part h.4, h.5, answers_seen m h.0 h.2 h.4 k h.6, seen.refusal h.4 h.1 h.3 last (holds_seen m h.0 h.2 h.4 k h.6) h.7, h.8)

  script_seen : (room : ℕ) (m : M) (read : List ℕ) (lines : List (List ℕ)) (text : List ℕ) (last : M) → Holds m → WritesAnswersWithLimitRefusal past A R room m read lines text last
      → WritesAnswersWithLimitRefusal past B S room (part m) read lines text (part last)
  script_seen room m read lines text last k (inl h) = inl (answers_seen m lines text last k h)
  script_seen room m read lines text last k (inr (inl h)) = inr (inl (refusal_seen m lines text last k h))
  script_seen room m read lines text last k (inr (inr h)) = inr (inr (h.0, h.1, h.2, answers_seen m lines h.2 last k h.3, h.4))

  pub serves_seen : (room : ℕ) (m : M) (read rest text : List ℕ) (last : M) (ending : Result CommandsEnd WriteError) → Holds m → ServesCommandsWithLimitRefusal past A R room m read rest text last ending
      → ServesCommandsWithLimitRefusal past B S room (part m) read rest text (part last) ending
  serves_seen room m read rest text last (Ok InputEnded) k h = record {
    within = h.within;
    at_end = h.at_end;
    no_quit = h.no_quit;
    answers = answers_seen m _ text last k h.answers;
  }
  serves_seen room m read rest text last (Ok Quit) k h = record {
    within = h.within;
    heard = h.heard;
    after = h.after;
    no_quit = h.no_quit;
    answers = answers_seen m _ text last k h.answers;
    quits = h.quits;
  }
  serves_seen room m read rest text last (Ok (Refused number)) k h = record {
    within = h.within;
    heard = h.heard;
    after = h.after;
    no_quit = h.no_quit;
    answers = refusal_seen m _ text last k h.answers;
    counts = h.counts;
    front = h.front;
  }
  serves_seen room m read rest text last (Ok (PastLimit number)) k h = record {
    over = h.over;
    no_quit = h.no_quit;
    said = h.said;
    answers = answers_seen m _ h.said last k h.answers;
    told = h.told;
    counts = h.counts;
  }
  serves_seen room m read rest text last (Ok ReadFailed) k h = record {
    within = h.within;
    no_quit = h.no_quit;
    answers = answers_seen m _ text last k h.answers;
  }
  serves_seen room m read rest text last (Err failed) k h = record {
    heard = h.heard;
    after = h.after;
    front = h.front;
    no_quit = h.no_quit;
    script = script_seen room m read _ text last k h.script;
    whole = h.whole;
  }
