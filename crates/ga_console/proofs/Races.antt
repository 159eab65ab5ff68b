-- From the parts of a race to the whole.
use Rattle.std.proofs.Common.{ℕ, List, inl, inr, ◌≡◌, ◌≢◌, ◌<◌, zero, suc, ◌+◌, ◌*◌, ◌⊎◌, [], ◌∷◌, ◌++◌, length, replicate, sum_by, Some, refl, sym, ap, ◌∙◌, arith}
use Rattle.ga_console.specs.Run.{ReadsOnlyImage, WritesImageRefusal}
use Rattle.ga_text.specs.Output.{IsImageReadWhole, IsInputTooLong}
use Rattle.std.specs.Prelude.{slice_get}
use Rattle.std.proofs.lemmas.List.{length-replicate}
use Rattle.std.proofs.lemmas.List.Sums.{sum_by-cons}
use Rattle.std.proofs.lemmas.Option.{slice_get_within}
use Rattle.ga_node.specs.Record.{NodeState, NodeRecord}
use Rattle.ga_grid.specs.Chip.{records_of_chip}
use Rattle.ga_grid.specs.Grid.{node_id}
use Rattle.ga_shared.specs.declared.call.Call.{Call}
use Rattle.ga_shared.specs.declared.call.Call.TheVariants.{Step}
use Rattle.ga_shared.specs.declared.closing.UnsharedLab.{UnsharedLab}
use Rattle.ga_shared.specs.Log.{IsConcurrentCallsResult}
use Rattle.ga_text.specs.Lines.{lines_of_text}
use Rattle.ga_image.specs.Grammar.{IsImage}
use Rattle.ga_image.specs.FirstFault.{IsFirstImageFault, out_of_memory_fault}
use Rattle.ga_image.specs.declared.fault.ImageFault.{ImageFault}
use Rattle.ga_image.specs.declared.fault.ImageFaultCause.TheVariants.{Memory}
use Rattle.ga_lab.specs.Machine.{MachineState}
use Rattle.ga_display.specs.Texts.{image_fault_text}
use Rattle.ga_console.specs.Race.{worker_calls, IsRaceOfWorkers, WritesWorkerRaceReport, worker_race_report_text}
use Rattle.ga_console.specs.inner.Run.{WritesTextWithStatus, WritesWorkerRaceAfterImage}
use Rattle.ga_console.specs.declared.run.Status.{Status}
use Rattle.ga_console.specs.declared.run.Status.TheVariants.{Done, ImageRefused, StreamFault, NotFinished, CommandRefused}

-- ---- of an input that was read whole nothing was read that its text doesn't need

pub alone_whole : (text ahead rest : List ℕ) → IsImageReadWhole text ahead rest → ReadsOnlyImage text ahead rest
alone_whole text ahead rest (inl to_end_line) = inl to_end_line
alone_whole text ahead rest (inr to_the_end) = inr (inl to_the_end)

pub alone_long : (text ahead rest : List ℕ) → IsInputTooLong text ahead → ReadsOnlyImage text ahead rest
alone_long text ahead rest long = inr (inr long)

-- one call more
replicate-push : {X : Type 0} (n : ℕ) (x : X) → replicate n x ++ x ∷ [] ≡ replicate (suc n) x
replicate-push zero x = refl
replicate-push (suc n) x = ap (λ l. x ∷ l) (replicate-push n x)

pub worker_calls-push : (worker n : ℕ) → worker_calls worker n ++ Step (node_id worker) ∷ [] ≡ worker_calls worker (n + 1)
worker_calls-push worker n =
    let more : suc n ≡ n + 1 = omega arith in
    replicate-push n (Step (node_id worker)) ∙ ap (λ k. replicate k (Step (node_id worker))) more

-- lists of one length
pub sum_by-lengths : (lists : List (List Call)) (c : ℕ) → ((w : ℕ) (list : List Call) → slice_get lists w ≡ Some list → length list ≡ c) → sum_by length lists ≡ length lists * c
sum_by-lengths [] c each = omega arith
sum_by-lengths (x ∷ xs) c each =
    let here : length x ≡ c = each zero x refl in
    let more = sum_by-lengths xs c (λ w list at. each (suc w) list at) in
    sum_by-cons length x xs ∙ omega (arith, here, more)

-- as many calls as all lists have
pub race_count : (load : List NodeRecord) (limit workers calls : ℕ) (lists : List (List Call)) (closed : UnsharedLab) → length lists ≡ workers
    → ((w : ℕ) → w < workers → slice_get lists w ≡ Some (worker_calls w calls)) → IsConcurrentCallsResult load limit lists closed → length closed.log.items ≡ workers * calls
race_count load limit workers calls lists closed size at raced =
    let each : (w : ℕ) (list : List Call) → slice_get lists w ≡ Some list → length list ≡ calls =
    λ w list is. (
    let known = at w (omega (arith, slice_get_within lists w list is, size)) in
    let same : Some list ≡ Some (worker_calls w calls) = sym is ∙ known in
    let list_is : list ≡ worker_calls w calls = cc in
    ap length list_is ∙ length-replicate calls (Step (node_id w))
    ) in
    raced.count ∙ sum_by-lengths lists calls each ∙ ap (λ n. n * calls) size

-- the race of these lists
pub is_race : (load : List NodeRecord) (limit workers calls : ℕ) (lists : List (List Call)) (closed : UnsharedLab) → length lists ≡ workers
    → ((w : ℕ) → w < workers → slice_get lists w ≡ Some (worker_calls w calls)) → IsConcurrentCallsResult load limit lists closed → IsRaceOfWorkers load limit workers calls closed.lab
is_race load limit workers calls lists closed size at raced = record {
  log = closed.log.items;
  legal = raced.legal;
  by_worker = λ w below. raced.calls w (worker_calls w calls) (at w below);
  count = race_count load limit workers calls lists closed size at raced;
}

-- a report that was written, or not wholly
pub races_reported : (limit workers calls : ℕ) (image text : List ℕ) (chip : List NodeState) (lab : MachineState) (count : ℕ) (status : Status) → IsImage (lines_of_text image) chip → count ≡ workers * calls → IsRaceOfWorkers (records_of_chip chip) limit workers calls lab
    → WritesTextWithStatus (worker_race_report_text count lab.made (length lab.kept)) text status → WritesWorkerRaceAfterImage limit workers calls image text status
races_reported limit workers calls image text chip lab count Done accepted counted race written =
    record { chip = chip; lab = lab; accepted = accepted; race = race; told = written ∙ ap (λ n. worker_race_report_text n lab.made (length lab.kept)) counted }
races_reported limit workers calls image text chip lab count StreamFault accepted counted race front =
    inl (record { whole = worker_race_report_text count lab.made (length lab.kept); is_text = record { chip = chip; lab = lab; accepted = accepted; race = race; told = ap (λ n. worker_race_report_text n lab.made (length lab.kept)) counted }; front = front })
races_reported limit workers calls image text chip lab count ImageRefused accepted counted race none = absurd none
races_reported limit workers calls image text chip lab count NotFinished accepted counted race none = absurd none
races_reported limit workers calls image text chip lab count CommandRefused accepted counted race none = absurd none

-- a refusal that was written, or not wholly
pub races_refused : (limit workers calls : ℕ) (image text : List ℕ) (fault : ImageFault) (status : Status) → IsFirstImageFault (lines_of_text image) fault → WritesImageRefusal fault text status → WritesWorkerRaceAfterImage limit workers calls image text status
races_refused limit workers calls image text fault Done first none = absurd none
races_refused limit workers calls image text fault ImageRefused first told = record { fault = fault; first = first; told = told }
races_refused limit workers calls image text fault StreamFault first front = inr (record { whole = image_fault_text fault; is_text = record { fault = fault; first = first; told = refl }; front = front })
races_refused limit workers calls image text fault NotFinished first none = absurd none
races_refused limit workers calls image text fault CommandRefused first none = absurd none

-- the fault of a text that isn't refused for want of memory
pub first_fault : (image : List ℕ) (fault : ImageFault) → (fault ≡ out_of_memory_fault) ⊎ IsFirstImageFault (lines_of_text image) fault → fault.cause ≢ Memory → IsFirstImageFault (lines_of_text image) fault
first_fault image fault (inl e) other = absurd (other (ap (λ f. f.cause) e))
first_fault image fault (inr first) other = first

-- the report about the image that was read
pub reports : (limit workers calls : ℕ) (image ahead read rest text : List ℕ) (status : Status) → read ≡ image ++ ahead → ReadsOnlyImage image ahead rest → WritesWorkerRaceAfterImage limit workers calls image text status → WritesWorkerRaceReport limit workers calls read rest text status
reports limit workers calls image ahead read rest text Done e part races = (image, ahead, e, part, races)
reports limit workers calls image ahead read rest text ImageRefused e part races = (image, ahead, e, part, races)
reports limit workers calls image ahead read rest text StreamFault e part races = inr (image, ahead, e, part, races)
reports limit workers calls image ahead read rest text NotFinished e part races = races
reports limit workers calls image ahead read rest text CommandRefused e part races = races
