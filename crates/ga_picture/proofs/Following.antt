-- From a session that says nothing to one whose answers are dropped.
use Rattle.std.proofs.Common.{◌≡◌, Option, ℕ, List, [], ◌∷◌, ◌++◌, false, inl, inr, sym, ap, ◌∙◌, Result, Ok, Err, ◌≢◌, refl, subst, ◌-◌, length, ◌↔◌, Bool, true≢false, IsTrue, Some, arith}
use Rattle.ga_explorer.specs.Opening.{ExplorerState, OpensTextBeforeCommands, IsTextBeforeCommands}
use Rattle.ga_console.specs.Run.{status_of_commands_end}
use Rattle.ga_console.specs.Session.{AreLinesAnswered, WritesAnswersWithLimitRefusal, ServesCommands, NeverAnswersAndEnds, IsWholeOrPrefixOnWriteError, AnswerRelation}
use Rattle.ga_console.specs.inner.Run.{AnswersLineOrEnds, AnswersCommandOrEnds}
use Rattle.ga_console.specs.declared.command.DebuggerCommand.{DebuggerCommand}
use Rattle.ga_console.specs.declared.commands.CommandsEnd.{CommandsEnd}
use Rattle.ga_console.specs.declared.commands.CommandsEnd.TheVariants.{InputEnded, Quit, Refused, PastLimit, ReadFailed}
use Rattle.ga_text.specs.declared.output.WriteError.{WriteError}
use Rattle.ga_console.specs.declared.run.Status.TheVariants.{Done, StreamFault}
use Rattle.ga_picture.specs.Following.{IsSilentAnswer, IsCompleteSilentAnswer, WritesPictureRefusal, IsSilentSession, IsSilentSessionResult, IsOutOfMemoryAnswer}
use Rattle.ga_picture.specs.inner.{ExecutesLineSilently, ExecutesCommandsSilently, YieldsStateOrMemoryRefusal, NotesFailedAllocation}
use Rattle.ga_picture.specs.declared.silent.SilentSession.{SilentSession}
use Rattle.ga_lab.specs.declared.fault.LabFault.TheVariants.{Memory}
use Rattle.ga_console.specs.declared.run.Status.{Status}
use Rattle.ga_text.specs.Input.{input_limit}
use Rattle.ga_display.specs.Texts.{input_limit_refusal}
use Rattle.ga_picture.specs.Following.IsSessionReachingNoMachine.{broken, short}
use Rattle.std.proofs.lemmas.List.{append-nil}
use Rattle.std.proofs.lemmas.Option.{same_Some}
use Rattle.ga_text.specs.Output.{IsTextWrittenOrPending}
use Rattle.ga_console.specs.declared.responder.LineAction.{LineAction}
use Rattle.ga_console.specs.declared.responder.LineAction.TheVariants as turns
use Rattle.ga_explorer.specs.Answers.{AnswersExplorerLine}

-- ---- from a session that says nothing to one whose answers are dropped

-- how such a session answers a line
abbrev pub Silently : SilentSession → List ℕ → List ℕ → SilentSession → Type 0
Silently m line said new = ExecutesLineSilently m.explorer m.short line said new.explorer new.short

answers_heard : (m : SilentSession) (lines : List (List ℕ)) (text : List ℕ) (last : SilentSession) → AreLinesAnswered Silently m lines text last → AreLinesAnswered IsSilentAnswer m.explorer lines text last.explorer
answers_heard m [] text last h = (h.0, ap (λ (x : SilentSession). x.explorer) h.1)
answers_heard m (line ∷ lines) text last h =
    (h.0, h.1.explorer, h.2, (h.3.0, h.3.1, h.3.2), answers_heard h.1 lines h.2 last h.4, h.5)

-- where no want of memory is noted at the end, there was none
answers_follow : (m : SilentSession) (lines : List (List ℕ)) (text : List ℕ) (last : SilentSession) → last.short ≡ false → AreLinesAnswered Silently m lines text last
    → (m.short ≡ false) × AreLinesAnswered IsCompleteSilentAnswer m.explorer lines text last.explorer
answers_follow m [] text last e h = (sym (ap (λ (x : SilentSession). x.short) h.1) ∙ e, (h.0, ap (λ (x : SilentSession). x.explorer) h.1))
answers_follow m (line ∷ lines) text last e h =
    let rest = answers_follow h.1 lines h.2 last e h.4 in
    let noted = h.3.3 rest.0 in
    (noted.0, (h.0, h.1.explorer, h.2, (h.3.0, h.3.1, h.3.2, noted.1), rest.1, h.5))

nothing_said : (s : ExplorerState) (lines : List (List ℕ)) (text : List ℕ) (last : ExplorerState) → AreLinesAnswered IsSilentAnswer s lines text last → text ≡ []
nothing_said s [] text last h = h.0
nothing_said s (line ∷ lines) text last h =
    h.5 ∙ ap (λ (t : List ℕ). t ++ h.2) h.3.0 ∙ nothing_said h.1 lines h.2 last h.4

script_heard : (room : ℕ) (m : SilentSession) (read : List ℕ) (lines : List (List ℕ)) (text : List ℕ) (last : SilentSession) → WritesAnswersWithLimitRefusal input_limit_refusal Silently NeverAnswersAndEnds room m read lines text last
    → WritesAnswersWithLimitRefusal input_limit_refusal IsSilentAnswer NeverAnswersAndEnds room m.explorer read lines text last.explorer
script_heard room m read lines text last (inl h) = inl (answers_heard m lines text last h)
script_heard room m read lines text last (inr (inl h)) = absurd h.7
script_heard room m read lines text last (inr (inr h)) = inr (inr (h.0, h.1, h.2, answers_heard m lines h.2 last h.3, h.4))

pub serves_heard : (room : ℕ) (m : SilentSession) (read rest text : List ℕ) (last : SilentSession) (ending : Result CommandsEnd WriteError) → ServesCommands Silently NeverAnswersAndEnds room m read rest text last ending
    → ServesCommands IsSilentAnswer NeverAnswersAndEnds room m.explorer read rest text last.explorer ending
serves_heard room m read rest text last (Ok InputEnded) h = record {
  within = h.within;
  at_end = h.at_end;
  no_quit = h.no_quit;
  answers = answers_heard m _ text last h.answers;
}
serves_heard room m read rest text last (Ok Quit) h = record {
  within = h.within;
  heard = h.heard;
  after = h.after;
  no_quit = h.no_quit;
  answers = answers_heard m _ text last h.answers;
  quits = h.quits;
}
serves_heard room m read rest text last (Ok (Refused number)) h = absurd h.answers.7
serves_heard room m read rest text last (Ok (PastLimit number)) h = record {
  over = h.over;
  no_quit = h.no_quit;
  said = h.said;
  answers = answers_heard m _ h.said last h.answers;
  told = h.told;
  counts = h.counts;
}
serves_heard room m read rest text last (Ok ReadFailed) h = record {
  within = h.within;
  no_quit = h.no_quit;
  answers = answers_heard m _ text last h.answers;
}
serves_heard room m read rest text last (Err failed) h = record {
  heard = h.heard;
  after = h.after;
  front = h.front;
  no_quit = h.no_quit;
  script = script_heard room m read h.heard text last h.script;
  whole = h.whole;
}

-- up to the end of the input or to `quit` nothing is written
pub serves_silent : (room : ℕ) (m : SilentSession) (read rest text : List ℕ) (last : SilentSession) (ending : Result CommandsEnd WriteError) → status_of_commands_end ending ≡ Done
    → ServesCommands Silently NeverAnswersAndEnds room m read rest text last ending → text ≡ []
serves_silent room m read rest text last (Ok InputEnded) e h = nothing_said m.explorer _ text last.explorer (answers_heard m _ text last h.answers)
serves_silent room m read rest text last (Ok Quit) e h = nothing_said m.explorer _ text last.explorer (answers_heard m _ text last h.answers)
serves_silent room m read rest text last (Ok (Refused number)) e h = cc
serves_silent room m read rest text last (Ok (PastLimit number)) e h = cc
serves_silent room m read rest text last (Ok ReadFailed) e h = cc
serves_silent room m read rest text last (Err failed) e h = cc

pub serves_follow : (room : ℕ) (m : SilentSession) (read rest text : List ℕ) (last : SilentSession) (ending : Result CommandsEnd WriteError) → status_of_commands_end ending ≡ Done → last.short ≡ false
    → ServesCommands Silently NeverAnswersAndEnds room m read rest text last ending → ServesCommands IsCompleteSilentAnswer NeverAnswersAndEnds room m.explorer read rest text last.explorer ending
serves_follow room m read rest text last (Ok InputEnded) e none h = record {
  within = h.within;
  at_end = h.at_end;
  no_quit = h.no_quit;
  answers = (answers_follow m _ text last none h.answers).1;
}
serves_follow room m read rest text last (Ok Quit) e none h = record {
  within = h.within;
  heard = h.heard;
  after = h.after;
  no_quit = h.no_quit;
  answers = (answers_follow m _ text last none h.answers).1;
  quits = h.quits;
}
serves_follow room m read rest text last (Ok (Refused number)) e none h = cc
serves_follow room m read rest text last (Ok (PastLimit number)) e none h = cc
serves_follow room m read rest text last (Ok ReadFailed) e none h = cc
serves_follow room m read rest text last (Err failed) e none h = cc

-- ---- where a session that says nothing comes to

sent_none : (ending : Result CommandsEnd WriteError) (said sent : List ℕ) → status_of_commands_end ending ≡ Done → said ≡ [] → IsWholeOrPrefixOnWriteError ending said sent → sent ≡ []
sent_none (Ok done) said sent e none written = written ∙ none
sent_none (Err failed) said sent e none written = cc

-- to the end of the input or to `quit`
pub goes_ended : (room : ℕ) (m : SilentSession) (read rest said sent : List ℕ) (last : SilentSession) (ending : Result CommandsEnd WriteError) → status_of_commands_end ending ≡ Done
    → ServesCommands Silently NeverAnswersAndEnds room m read rest said last ending → IsWholeOrPrefixOnWriteError ending said sent
    → (text : List ℕ) (result : Result ExplorerState Status) → YieldsStateOrMemoryRefusal last.explorer last.short text result → ExecutesCommandsSilently room m.explorer read rest (sent ++ text) result
goes_ended room m read rest said sent last ending e serves written text (Ok s) ends =
    let quiet : said ≡ [] = serves_silent room m read rest said last ending e serves in
    let none : sent ≡ [] = sent_none ending said sent e quiet written in
    let P : List ℕ → Type 0 = λ t. ServesCommands IsCompleteSilentAnswer NeverAnswersAndEnds room m.explorer read rest t last.explorer ending in
    let Q : ExplorerState → Type 0 = λ z. ServesCommands IsCompleteSilentAnswer NeverAnswersAndEnds room m.explorer read rest [] z ending in (
      ap (λ (t : List ℕ). t ++ text) none ∙ ends.2,
      ending,
      e,
      subst Q (sym ends.0) (subst P quiet (serves_follow room m read rest said last ending e ends.1 serves)),
    )
goes_ended room m read rest said sent last ending e serves written text (Err status) ends =
    let quiet : said ≡ [] = serves_silent room m read rest said last ending e serves in
    let none : sent ≡ [] = sent_none ending said sent e quiet written in
    let P : List ℕ → Type 0 = λ t. ServesCommands IsSilentAnswer NeverAnswersAndEnds room m.explorer read rest t last.explorer ending in
    let Q : List ℕ → Type 0 = λ t. WritesPictureRefusal Memory t status in (
      last.explorer,
      ending,
      inr (e, subst P quiet (serves_heard room m read rest said last ending serves), subst Q (sym (ap (λ (t : List ℕ). t ++ text) none)) ends),
    )

-- not so far
pub goes_broken : (room : ℕ) (m : SilentSession) (read rest said sent : List ℕ) (last : SilentSession) (ending : Result CommandsEnd WriteError) → status_of_commands_end ending ≡ StreamFault
    → ServesCommands Silently NeverAnswersAndEnds room m read rest said last ending → IsWholeOrPrefixOnWriteError ending said sent → ExecutesCommandsSilently room m.explorer read rest sent (Err StreamFault)
goes_broken room m read rest said sent last ending e serves written =
    (last.explorer, ending, inl (e, refl, said, serves_heard room m read rest said last ending serves, written))

-- a session that isn't done ends by a fault of a stream
pub stream_fault : (room : ℕ) (m : SilentSession) (read rest text : List ℕ) (last : SilentSession) (ending : Result CommandsEnd WriteError)
    → ServesCommands Silently NeverAnswersAndEnds room m read rest text last ending → status_of_commands_end ending ≢ Done → status_of_commands_end ending ≡ StreamFault
stream_fault room m read rest text last (Ok InputEnded) served h = absurd (h refl)
stream_fault room m read rest text last (Ok Quit) served h = absurd (h refl)
stream_fault room m read rest text last (Ok (Refused number)) served h = absurd served.answers.7
stream_fault room m read rest text last (Ok (PastLimit number)) served h = refl
stream_fault room m read rest text last (Ok ReadFailed) served h = refl
stream_fault room m read rest text last (Err failed) served h = refl

-- ---- from the parts of a session whose answers are dropped to the whole

followed_in : (A : AnswerRelation ExplorerState) (chip : Option (List ℕ)) (limit : ℕ) (text commands rest said written : List ℕ) (machine last : ExplorerState) (ending : Result CommandsEnd WriteError) → IsTextBeforeCommands text (commands ++ rest)
    → OpensTextBeforeCommands chip text limit machine → ServesCommands A NeverAnswersAndEnds (input_limit - length text) machine commands rest said last ending → IsWholeOrPrefixOnWriteError ending said written
    → IsSilentSession A chip limit (text ++ commands) rest written last ending
followed_in A chip limit text commands rest said written machine last ending front opens serves out = record {
  text = text;
  commands = commands;
  machine = machine;
  said = said;
  splits = refl;
  front = front;
  opens = opens;
  serves = serves;
  out = out;
}

-- where the input was followed to its end, all that was said was written: nothing
written_none : (ending : Result CommandsEnd WriteError) → status_of_commands_end ending ≡ Done → IsWholeOrPrefixOnWriteError ending [] []
written_none (Ok done) e = refl
written_none (Err failed) e = cc

-- after a text that opened a machine
pub reaches_after : (chip : Option (List ℕ)) (limit : ℕ) (text commands rest written : List ℕ) (machine : ExplorerState) (result : Result ExplorerState Status) → IsTextBeforeCommands text (commands ++ rest) → OpensTextBeforeCommands chip text limit machine
    → ExecutesCommandsSilently (input_limit - length text) machine commands rest written result → IsSilentSessionResult chip limit (text ++ commands) rest written result
reaches_after chip limit text commands rest written machine (Ok last) front opens g =
    (g.0, g.1, g.2, followed_in IsCompleteSilentAnswer chip limit text commands rest [] [] machine last g.1 front opens g.3 (written_none g.1 g.2))
reaches_after chip limit text commands rest written machine (Err status) front opens (last, ending, inl g) =
    broken last ending g.0 g.1 (followed_in IsSilentAnswer chip limit text commands rest g.2 written machine last ending front opens g.3 g.4)
reaches_after chip limit text commands rest written machine (Err status) front opens (last, ending, inr g) =
    short last ending g.0 (followed_in IsSilentAnswer chip limit text commands rest [] [] machine last ending front opens g.1 (written_none ending g.0)) g.2

-- ---- answers that are dropped

-- what was written of an answer of which nothing is pending is the answer
pub heard_whole : (items answer pending : List ℕ) → IsTextWrittenOrPending (Some items) [] answer pending → pending ≡ [] → items ≡ answer
heard_whole items answer pending h e =
    same_Some items h.sent h.held ∙ sym (h.splits ∙ ap (λ (t : List ℕ). h.sent ++ t) e ∙ append-nil h.sent)

pub not_short : (told : Bool) (text answer : List ℕ) → (IsTrue told ↔ IsOutOfMemoryAnswer text) → told ≡ false → text ≡ answer → ¬ IsOutOfMemoryAnswer answer
not_short told text answer both e same wanting =
    true≢false (sym (both.1 (subst IsOutOfMemoryAnswer (sym same) wanting)) ∙ e)

nothing_short : IsOutOfMemoryAnswer [] → ⊥
nothing_short (inl e) = absurd (omega (arith, ap length e))
nothing_short (inr e) = absurd (omega (arith, ap length e))

-- no answer reports nothing
pub quiet_notes : (wanting : Bool) (answer : List ℕ) → answer ≡ [] → NotesFailedAllocation wanting answer wanting
quiet_notes wanting answer e same = (same, λ told. nothing_short (subst IsOutOfMemoryAnswer e told))

same_silent : (m n : SilentSession) → n.explorer ≡ m.explorer → n.short ≡ m.short → n ≡ m
same_silent m n e f =
    let A : ExplorerState → SilentSession = λ s. record { explorer = s; short = n.short } in
    let B : Bool → SilentSession = λ b. record { explorer = m.explorer; short = b } in
    ap A e ∙ ap B f

pub silent_turn : (m n : SilentSession) (line answer : List ℕ) (turn : LineAction) → AnswersLineOrEnds AnswersExplorerLine NeverAnswersAndEnds m.explorer line n.explorer (Ok turn) answer → NotesFailedAllocation m.short answer n.short
    → (turn ≡ turns.Quit → n.short ≡ m.short) → AnswersLineOrEnds Silently NeverAnswersAndEnds m line n (Ok turn) []
silent_turn m n line answer turns.Answered h noted ends = λ part kept. ((refl, answer, (h part kept).0, noted), (h part kept).1)
silent_turn m n line answer turns.Refused h noted ends = λ part kept. h part kept
silent_turn m n line answer turns.Quit h noted ends = (h.0, same_silent m n h.1 (ends refl), refl)

pub silent_command : (m n : SilentSession) (asked : DebuggerCommand) (answer : List ℕ) (turn : LineAction) → AnswersCommandOrEnds AnswersExplorerLine NeverAnswersAndEnds m.explorer asked n.explorer (Ok turn) answer → NotesFailedAllocation m.short answer n.short
    → AnswersCommandOrEnds Silently NeverAnswersAndEnds m asked n (Ok turn) []
silent_command m n asked answer turns.Answered h noted = λ line short spelled. (refl, answer, h line short spelled, noted)
silent_command m n asked answer turns.Refused h noted = λ line short spelled. h line short spelled
silent_command m n asked answer turns.Quit h noted = h
