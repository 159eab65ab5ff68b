-- From the parts of a session to the whole.
use Rattle.std.proofs.Common.{◌≡◌, ℕ, ◌-◌, ◌<◌, inl, inr, List, [], ◌∷◌, ◌++◌, length, Option, Some, refl, sym, ap, ◌∙◌, subst, arith, Result, Ok, Err}
use Rattle.std.proofs.lemmas.List.{append-nil}
use Rattle.ga_image.proofs.Room.{short_image}
use Rattle.ga_image.specs.declared.fault.ImageFault.{ImageFault}
use Rattle.ga_text.specs.Input.{input_limit}
use Rattle.ga_text.specs.Image.{HasNoEndLine}
use Rattle.ga_text.specs.Output.{IsTextWrittenOrPending, ready_line_text}
use Rattle.ga_lab.specs.Machine.{MachineState}
use Rattle.ga_console.specs.Session.{AnswerRelation, ServesCommands, IsWholeOrPrefixOnWriteError}
use Rattle.ga_console.specs.Run.{WritesSessionOfResponder, IsServedSession, Refused, WritesImageRefusal, IsOpenedOnImage, IsFaultOfImage, IsImageBeforeCommands, ReadsOnlyImage, status_of_commands_end}
use Rattle.ga_console.specs.inner.Run.{WritesSessionAfterImage}
use Rattle.ga_console.specs.declared.commands.CommandsEnd.{CommandsEnd}
use Rattle.ga_console.specs.declared.commands.CommandsEnd.TheVariants as end
use Rattle.ga_text.specs.declared.output.WriteError.{WriteError}
use Rattle.ga_console.specs.declared.run.Status.{Status}
use Rattle.ga_console.specs.declared.run.Status.TheVariants.{Done, ImageRefused, StreamFault, NotFinished, CommandRefused}

-- a text that nothing was written of yet
pub written_fresh : (contents : Option (List ℕ)) (before text pending : List ℕ) → contents ≡ Some before → pending ≡ text → IsTextWrittenOrPending contents before text pending
written_fresh contents before text pending e p = record { sent = []; held = e ∙ ap Some (sym (append-nil before)); splits = sym p }

-- and all was written of
pub all_sent : (contents : Option (List ℕ)) (before text : List ℕ) (h : IsTextWrittenOrPending contents before text []) → h.sent ≡ text
all_sent contents before text h = sym (h.splits ∙ append-nil h.sent)

-- the same machine under another name
pub serves_from : {M : Type 0} (A R : AnswerRelation M) (room : ℕ) (m other : M) (read rest text : List ℕ) (last : M) (ending : Result CommandsEnd WriteError) → m ≡ other
    → ServesCommands A R room m read rest text last ending → ServesCommands A R room other read rest text last ending
serves_from {M} A R room m other read rest text last ending e s =
    let P : M → Type 0 = λ x. ServesCommands A R room x read rest text last ending in subst P e s

pub runs_served : {M : Type 0} (A R : AnswerRelation M) (begin : MachineState → M) (limit : ℕ) (read rest text : List ℕ) (ending : Result CommandsEnd WriteError) (status : Status) → status ≡ status_of_commands_end ending
    → IsServedSession A R begin limit read rest text ending → WritesSessionOfResponder A R begin limit read rest text status
runs_served A R begin limit read rest text ending Done e s = (ending, sym e, s)
runs_served A R begin limit read rest text (Ok end.InputEnded) ImageRefused e s = cc
runs_served A R begin limit read rest text (Ok end.Quit) ImageRefused e s = cc
runs_served A R begin limit read rest text (Ok (end.Refused number)) ImageRefused e s = cc
runs_served A R begin limit read rest text (Ok (end.PastLimit number)) ImageRefused e s = cc
runs_served A R begin limit read rest text (Ok end.ReadFailed) ImageRefused e s = cc
runs_served A R begin limit read rest text (Err failed) ImageRefused e s = cc
runs_served A R begin limit read rest text ending StreamFault e s = inl (ending, sym e, s)
runs_served A R begin limit read rest text (Ok end.InputEnded) NotFinished e s = cc
runs_served A R begin limit read rest text (Ok end.Quit) NotFinished e s = cc
runs_served A R begin limit read rest text (Ok (end.Refused number)) NotFinished e s = cc
runs_served A R begin limit read rest text (Ok (end.PastLimit number)) NotFinished e s = cc
runs_served A R begin limit read rest text (Ok end.ReadFailed) NotFinished e s = cc
runs_served A R begin limit read rest text (Err failed) NotFinished e s = cc
runs_served A R begin limit read rest text ending CommandRefused e s = (ending, sym e, s)

pub runs_refused : {M : Type 0} (A R : AnswerRelation M) (begin : MachineState → M) (limit : ℕ) (read rest text : List ℕ) (fault : ImageFault) (status : Status) → Refused read rest fault → WritesImageRefusal fault text status
    → WritesSessionOfResponder A R begin limit read rest text status
runs_refused A R begin limit read rest text fault Done r t = absurd t
runs_refused A R begin limit read rest text fault ImageRefused r t = (fault, r, t)
runs_refused A R begin limit read rest text fault StreamFault r t = inr (inr (fault, r, t))
runs_refused A R begin limit read rest text fault NotFinished r t = absurd t
runs_refused A R begin limit read rest text fault CommandRefused r t = absurd t

pub refused_in : (image ahead rest : List ℕ) (fault : ImageFault) → ReadsOnlyImage image ahead rest → IsFaultOfImage image fault → Refused (image ++ ahead) rest fault
refused_in image ahead rest fault part (inl e) = inl e
refused_in image ahead rest fault part (inr e) = inr (record { image = image; ahead = ahead; splits = refl; part = part; faulty = e })

served_in : {M : Type 0} (A R : AnswerRelation M) (begin : MachineState → M) (limit : ℕ) (image commands rest said text : List ℕ) (machine : MachineState) (last : M) (ending : Result CommandsEnd WriteError) → IsImageBeforeCommands image commands rest
    → IsOpenedOnImage image limit machine → ServesCommands A R (input_limit - length image) (begin machine) commands rest said last ending → IsWholeOrPrefixOnWriteError ending (ready_line_text ++ said) text
    → IsServedSession A R begin limit (image ++ commands) rest text ending
served_in A R begin limit image commands rest said text machine last ending part opens serves written =
    let P : MachineState → Type 0 = λ m. ServesCommands A R (input_limit - length image) (begin m) commands rest said last ending in
    record {
      image = image;
      commands = commands;
      chip = opens.0;
      said = said;
      splits = refl;
      part = part;
      accepted = opens.1;
      last = last;
      serves = subst P opens.2 serves;
      written = written;
    }

-- after an image that was read whole
pub runs_after : {M : Type 0} (A R : AnswerRelation M) (begin : MachineState → M) (limit taken : ℕ) (image ahead commands rest text : List ℕ) (status : Status) → taken ≡ length image → IsImageBeforeCommands image commands rest
    → (commands ≡ ahead → ReadsOnlyImage image commands rest)
    → WritesSessionAfterImage A R begin limit image taken ahead commands rest text status → WritesSessionOfResponder A R begin limit (image ++ commands) rest text status
runs_after A R begin limit taken image ahead commands rest text status e part alone (inl a) =
    let Q : ℕ → Type 0 = λ n. ServesCommands A R (input_limit - n) (begin a.0) commands rest a.4 a.5 a.2 in
    runs_served A R begin limit (image ++ commands) rest text a.2 status a.3
    (served_in A R begin limit image commands rest a.4 text a.0 a.5 a.2 part a.1 (subst Q e a.6) a.7)
runs_after A R begin limit taken image ahead commands rest text status e part alone (inr a) =
    runs_refused A R begin limit (image ++ commands) rest text a.0 status (refused_in image commands rest a.0 (alone a.3) a.1) a.2

-- No image that is accepted reaches the bound of the input.
pub runs_full : {M : Type 0} (A R : AnswerRelation M) (begin : MachineState → M) (limit taken byte : ℕ) (image read rest text : List ℕ) (status : Status) → length image ≡ input_limit → HasNoEndLine image
    → WritesSessionAfterImage A R begin limit image taken [] read rest text status → WritesSessionOfResponder A R begin limit (image ++ byte ∷ read) rest text status
runs_full A R begin limit taken byte image read rest text status full none (inl a) =
    absurd (let short : length image < 16777216 = short_image image a.1.0 a.1.1 in omega arith)
runs_full A R begin limit taken byte image read rest text status full none (inr a) =
    let one : length (byte ∷ read) ≡ 1 = ap (λ (l : List ℕ). length (byte ∷ l)) a.3 in
    runs_refused A R begin limit (image ++ byte ∷ read) rest text a.0 status (refused_in image (byte ∷ read) rest a.0 (inr (inr (full, one, none))) a.1) a.2

pub nothing_left : (xs ys : List ℕ) → [] ≡ xs ++ ys → (xs ≡ []) × (ys ≡ [])
nothing_left [] ys e = (refl, sym e)
nothing_left (x ∷ xs) ys e = cc
