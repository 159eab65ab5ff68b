-- A text that is written line by line.
use Rattle.std.proofs.Common.{◌≡◌, ℕ, List, ◌++◌, Option, Result, subst, ◌+◌, ◌<◌, ◌≤◌, [], ◌∷◌, Ok, Err, length, get_or, drop, refl, sym, ap, ◌∙◌, append_assoc, arith, zero, suc, ◌-◌, Some, None, ◌==◌, Bool, false, add-one, true, cond, nat_le, min, ◌⊎◌, inl, inr}
use Rattle.ga_text.specs.Output.{IsTextWrittenOrTruncated, IsTextWrittenOrPending, IsTextTruncated}
use Rattle.ga_text.specs.declared.output.WriteError.{WriteError}
use Rattle.std.specs.Prelude.{flat_map, if◌then◌else◌, IsOk, is_none, ◌&&◌, not}
use Rattle.std.proofs.lemmas.List.{append-nil, drop_more, drop_all}
use Rattle.ga_text.proofs.WriteLemmas.{written_as, said_assoc, cut_assoc, truncated_within}
use Rattle.ga_grid.specs.declared.node_id.NodeId.{NodeId}
use Rattle.ga_lab.specs.Machine.{MachineState, has_step, history_of_node, chip_of_machine, machine_events_with_looks, rewind_answer}
use Rattle.ga_provenance.specs.Writes.{cell_write_at, newer_cell_write, newest_cell_write}
use Rattle.ga_provenance.specs.declared.writes.CellWrite.{CellWrite}
use Rattle.ga_provenance.proofs.Keeping.{written_step}
use Rattle.ga_provenance.proofs.FirstLine.{first_line}
use Rattle.ga_explorer_text.specs.Writing.{cell_write_text, cell_writes_lines}
use Rattle.std.specs.List.{slice_get, All}
use Rattle.std.proofs.lemmas.Option.{same_Some}
use Rattle.ga_debug_info.specs.declared.notes.DebugInfo.{DebugInfo}
use Rattle.ga_provenance.specs.declared.value.PartValue.{PartValue}
use Rattle.ga_provenance.specs.declared.lines.ProvenanceLine.{ProvenanceLine}
use Rattle.ga_provenance.specs.Origins.{node_after_steps, origin_of_value}
use Rattle.ga_provenance.specs.Lines.{AreProvenanceLinesOf}
use Rattle.ga_explorer_text.specs.inner.{is_step_of_first_line}
use Rattle.ga_explorer_text.specs.Whence.{last_written_line_number, more_provenance_lines_text, value_line_text, numbered_provenance_lines_text, provenance_lines_text_from, value_origin_lines_text, IsProvenanceLinesAnswer, word_of_value, register_a_after_making_step, value_with_word_text, value_origin_text}
use Rattle.ga_explorer_text.specs.Waiting.{concatenated_node_texts, count_passing_nodes, all_waiting_nodes_text, deadlocked_nodes_text, wait_cycles_text, ended_and_idle_nodes_text}
use Rattle.ga_explorer_text.specs.Ended.{AreEndedNodes}
use Rattle.std.proofs.lemmas.Bool.Decides.{nat_tests}
use Rattle.ga_event.specs.Told.{count_steps}
use Rattle.ga_lab.specs.declared.fault.LabFault.TheVariants.{NoStep, Memory}
use Rattle.ga_display.specs.Texts.{missing_step_text, advised_refusal_text, advised_step_refusal_text}
use Rattle.ga_explorer_text.specs.SourceSuffix.{step_suffix_text}
use Rattle.ga_explorer_text.specs.Around.{step_registers_text, numbered_step_text, numbered_steps_text, smaller_number, steps_around_text}
use Rattle.ga_node.specs.Record.{NodeRecord}
use Rattle.ga_lab.specs.declared.fault.LabFault.{LabFault}
use Rattle.ga_scheduler.specs.Effects.{rollback_effects}
use Rattle.ga_races.specs.Acts.{AreDeadlocked, IsMarkedSubset}
use Rattle.ga_scheduler.specs.Idle.{AreIdleNodeFlags}
use Rattle.ga_scheduler.specs.declared.effects.RollbackEffect.{RollbackEffect}
use Rattle.ga_race_detector.specs.declared.races.Race.{Race}
use Rattle.ga_race_detector.specs.Races.{requested_races, has_made_or_next_look, first_ready_node}
use Rattle.ga_race_detector.specs.declared.readings.LookRace.{LookRace}
use Rattle.ga_race_detector.specs.Readings.{IsReportedLookRace, HasAllNearLookRaces}
use Rattle.ga_explorer_text.specs.Races.{listed_races_text, IsRacesAnswer}
use Rattle.ga_explorer_text.specs.Effects.{rollback_effects_text, rollback_effects_answer_text, IsRollbackEffectsAnswer}
use Rattle.ga_explorer_text.specs.Telling.{IsWaitingNodesAnswer}

-- ---- A text that was said, under another name

pub text_as : {T : Type 0} (result : Result T WriteError) (contents : Option (List ℕ)) (before said text other pending : List ℕ) → text ≡ other
    → IsTextWrittenOrTruncated result contents before (said ++ text) pending → IsTextWrittenOrTruncated result contents before (said ++ other) pending
text_as result contents before said text other pending e h =
    let P : List ℕ → Type 0 = λ t. IsTextWrittenOrTruncated result contents before (said ++ t) pending in subst P e h

-- a front of the whole was said, and the rest is to be
pub record IsWrittenUpTo (contents : Option (List ℕ)) (before said whole rest pending : List ℕ) : Type 0 where
  pub front : List ℕ
  pub splits : front ++ rest ≡ whole
  pub is_said : IsTextWrittenOrPending contents before (said ++ front) pending

-- one line more
longer : (front line rest more whole : List ℕ) → rest ≡ line ++ more → front ++ rest ≡ whole → (front ++ line) ++ more ≡ whole
longer front line rest more whole e f = append_assoc front line more ∙ ap (λ (z : List ℕ). front ++ z) (sym e) ∙ f

pub line_written : (contents : Option (List ℕ)) (before said whole rest line more front pending : List ℕ) → rest ≡ line ++ more → front ++ rest ≡ whole
    → IsTextWrittenOrPending contents before ((said ++ front) ++ line) pending → IsWrittenUpTo contents before said whole more pending
line_written contents before said whole rest line more front pending e f h = record {
  front = front ++ line;
  splits = longer front line rest more whole e f;
  is_said = said_assoc contents before said front line pending h;
}

pub line_truncated : (contents : Option (List ℕ)) (before said whole rest line more front : List ℕ) → rest ≡ line ++ more → front ++ rest ≡ whole
    → IsTextTruncated contents before ((said ++ front) ++ line) → IsTextTruncated contents before (said ++ whole)
line_truncated contents before said whole rest line more front e f h =
    truncated_within contents before said (front ++ line) more whole (longer front line rest more whole e f) (cut_assoc contents before said front line h)

-- nothing is left
pub all_said : (contents : Option (List ℕ)) (before said whole rest pending : List ℕ) → rest ≡ [] → IsWrittenUpTo contents before said whole rest pending
    → IsTextWrittenOrPending contents before (said ++ whole) pending
all_said contents before said whole rest pending e h =
    written_as contents before said h.front whole pending (sym (append-nil h.front) ∙ ap (λ (z : List ℕ). h.front ++ z) (sym e) ∙ h.splits) h.is_said

-- the lines of a list, from one on
pub rest_lines : {A : Type 0} (line : A → List ℕ) (xs : List A) (i : ℕ) (default : A) (text : List ℕ) → i < length xs → text ≡ line (get_or xs i default)
    → flat_map line (drop i xs) ≡ text ++ flat_map line (drop (i + 1) xs)
rest_lines line xs i default text within e =
    ap (flat_map line) (drop_more xs i default within)
    ∙ ap (λ (z : List ℕ). z ++ flat_map line (drop (i + 1) xs)) (sym e)

pub no_lines : {A : Type 0} (line : A → List ℕ) (xs : List A) (i : ℕ) → length xs ≤ i → flat_map line (drop i xs) ≡ []
no_lines line xs i past = ap (flat_map line) (drop_all i xs past)

-- a list without an element
pub none_left : {A : Type 0} (xs : List A) → length xs ≡ 0 → xs ≡ []
none_left [] e = refl
none_left (x ∷ xs) e = absurd (omega (arith, e))

-- one text after another
pub joined_written : {T : Type 0} (result : Result T WriteError) (contents : Option (List ℕ)) (before said text more pending : List ℕ)
    → IsTextWrittenOrTruncated result contents before ((said ++ text) ++ more) pending → IsTextWrittenOrTruncated result contents before (said ++ (text ++ more)) pending
joined_written (Ok done) contents before said text more pending h = said_assoc contents before said text more pending h
joined_written (Err why) contents before said text more pending h = cut_assoc contents before said text more h

-- ---- steps that wrote, one after another from the newest on

one_step : (s : MachineState) (node : NodeId) (cell k : ℕ) → cell_writes_lines s node cell (suc k) ≡ cell_write_text node (cell_write_at s node.number cell k) ++ cell_writes_lines s node cell k
unfolding cell_writes_lines
one_step s node cell k = refl

no_step : (s : MachineState) (node : NodeId) (cell : ℕ) → cell_writes_lines s node cell zero ≡ []
unfolding cell_writes_lines
no_step s node cell = refl

-- a step that wrote nothing has no line
passed : (s : MachineState) (node : NodeId) (cell k : ℕ) → cell_write_at s node.number cell k ≡ None → cell_writes_lines s node cell (suc k) ≡ cell_writes_lines s node cell k
passed s node cell k is = one_step s node cell k ∙ ap (λ (o : Option CellWrite). cell_write_text node o ++ cell_writes_lines s node cell k) is

pub no_write : (s : MachineState) (node : NodeId) (cell left : ℕ) → None ≡ newest_cell_write s node.number cell left → cell_writes_lines s node cell left ≡ []
no_write s node cell zero e = no_step s node cell
no_write s node cell (suc k) e = go (cell_write_at s node.number cell k) refl (λ h. no_write s node cell k h) e
  where
    go : (o : Option CellWrite) → cell_write_at s node.number cell k ≡ o → (None ≡ newest_cell_write s node.number cell k → cell_writes_lines s node cell k ≡ [])
        → None ≡ newer_cell_write o (newest_cell_write s node.number cell k) → cell_writes_lines s node cell (suc k) ≡ []
    go None is before h = passed s node cell k is ∙ before h
    go (Some wrote) is before h = absurd (cc)

-- the newest is written first, and then those before it
newest : (s : MachineState) (node : NodeId) (cell left : ℕ) (wrote : CellWrite) → Some wrote ≡ newest_cell_write s node.number cell left
    → cell_writes_lines s node cell left ≡ cell_write_text node (Some wrote) ++ cell_writes_lines s node cell (wrote.step - 1)
newest s node cell zero wrote e = absurd (cc)
newest s node cell (suc k) wrote e = go (cell_write_at s node.number cell k) refl (λ h. newest s node cell k wrote h) e
  where
    go : (o : Option CellWrite) → cell_write_at s node.number cell k ≡ o
        → (Some wrote ≡ newest_cell_write s node.number cell k → cell_writes_lines s node cell k ≡ cell_write_text node (Some wrote) ++ cell_writes_lines s node cell (wrote.step - 1))
        → Some wrote ≡ newer_cell_write o (newest_cell_write s node.number cell k)
        → cell_writes_lines s node cell (suc k) ≡ cell_write_text node (Some wrote) ++ cell_writes_lines s node cell (wrote.step - 1)
    go None is before h = passed s node cell k is ∙ before h
    go (Some other) is before h =
        let step = written_step s node.number cell k wrote (h ∙ sym is) in
        one_step s node cell k
        ∙ ap (λ (o : Option CellWrite). cell_write_text node o ++ cell_writes_lines s node cell k) (is ∙ sym h)
        ∙ ap (λ (m : ℕ). cell_write_text node (Some wrote) ++ cell_writes_lines s node cell m) (let f : k ≡ wrote.step - 1 = omega (arith, step) in f)

pub next_write : (s : MachineState) (node : NodeId) (cell left : ℕ) (wrote : CellWrite) (line : List ℕ) → Some wrote ≡ newest_cell_write s node.number cell left → line ≡ cell_write_text node (Some wrote)
    → cell_writes_lines s node cell left ≡ line ++ cell_writes_lines s node cell (wrote.step - 1)
next_write s node cell left wrote line e is = newest s node cell left wrote e ∙ ap (λ z. z ++ cell_writes_lines s node cell (wrote.step - 1)) (sym is)

-- ---- Lines that were written

-- whether the step of the query made the value can be read off the first line
by_first : (s : MachineState) (step : ℕ) (value made : PartValue) (line : ProvenanceLine) (lines : List ProvenanceLine) → slice_get lines 0 ≡ Some line → line.value ≡ made → is_step_of_first_line step lines ≡ (made.step == step)
by_first s step value made line [] e is = absurd (cc)
by_first s step value made line (first ∷ lines) e is = ap (λ (l : ProvenanceLine). l.value.step == step) (same_Some _ _ e) ∙ ap (λ (v : PartValue). v.step == step) is

some_line : (first : ℕ) → 0 < last_written_line_number first
some_line first = omega arith

pub made_by : (s : MachineState) (step first : ℕ) (value : PartValue) (lines : List ProvenanceLine) (is_whole : Bool) → AreProvenanceLinesOf s value lines is_whole → (is_whole ≡ false → length lines ≡ last_written_line_number first)
    → is_step_of_first_line step lines ≡ ((origin_of_value s value).step == step)
made_by s step first value lines is_whole told cut =
    let found = first_line s value lines is_whole (last_written_line_number first) told cut (some_line first) in
    by_first s step value (origin_of_value s value) found.line lines found.first found.made

-- the whole text
pub lines_told : (notes : Option DebugInfo) (s : MachineState) (node : NodeId) (step first : ℕ) (value : PartValue) (lines told : List ProvenanceLine) (is_whole : Bool) (text last : List ℕ) → AreProvenanceLinesOf s value lines is_whole
    → length lines ≤ last_written_line_number first → (is_whole ≡ false → length lines ≡ last_written_line_number first) → told ≡ lines → text ≡ provenance_lines_text_from notes s node step first value (not (is_step_of_first_line step told)) told
    → last ≡ more_provenance_lines_text (length told) first is_whole → IsProvenanceLinesAnswer notes s node step first value (text ++ last)
lines_told notes s node step first value lines told is_whole text last are most cut same t l = record {
  lines = lines;
  is_whole = is_whole;
  told = are;
  most = most;
  cut = cut;
  text = ap (λ z. z ++ last) (t ∙ ap (λ (z : List ProvenanceLine). provenance_lines_text_from notes s node step first value (not (is_step_of_first_line step z)) z) same
      ∙ ap (λ (b : Bool). provenance_lines_text_from notes s node step first value (not b) lines) (made_by s step first value lines is_whole are cut))
      ∙ ap (λ z. value_origin_lines_text notes s node step first value lines ++ z) (l ∙ ap (λ (z : List ProvenanceLine). more_provenance_lines_text (length z) first is_whole) same);
}

-- the numbered lines of a list, from one on
pub rest_numbered : (notes : Option DebugInfo) (s : MachineState) (moved : Bool) (lines : List ProvenanceLine) (i number : ℕ) (default : ProvenanceLine) (text : List ℕ) → i < length lines
    → text ≡ value_line_text notes s moved (number + 1) (get_or lines i default)
    → numbered_provenance_lines_text notes s moved number (drop i lines) ≡ text ++ numbered_provenance_lines_text notes s moved (number + 1) (drop (i + 1) lines)
rest_numbered notes s moved lines i number default text within e =
    ap (numbered_provenance_lines_text notes s moved number) (drop_more lines i default within)
    ∙ ap (λ (z : List ℕ). z ++ numbered_provenance_lines_text notes s moved (number + 1) (drop (i + 1) lines)) (sym e)

pub none_numbered : (notes : Option DebugInfo) (s : MachineState) (moved : Bool) (lines : List ProvenanceLine) (i number : ℕ) → length lines ≤ i → numbered_provenance_lines_text notes s moved number (drop i lines) ≡ []
none_numbered notes s moved lines i number past = ap (numbered_provenance_lines_text notes s moved number) (drop_all i lines past)

-- a line with the words of its value
pub worded_as : (s : MachineState) (value : PartValue) (word a : ℕ) → word ≡ word_of_value s value → a ≡ register_a_after_making_step s value → value_with_word_text s value word a ≡ value_origin_text s value
worded_as s value word a e f = ap (λ (w : ℕ). value_with_word_text s value w a) e ∙ ap (value_with_word_text s value (word_of_value s value)) f

-- ---- texts of nodes, one node more at a time

no_node : (text : ℕ → List ℕ) (n : ℕ) → concatenated_node_texts text n zero ≡ []
unfolding concatenated_node_texts
no_node text n = refl

one_node : (text : ℕ → List ℕ) (n more : ℕ) → concatenated_node_texts text n (suc more) ≡ text n ++ concatenated_node_texts text (n + 1) more
unfolding concatenated_node_texts
one_node text n more = refl

one_fewer : (n : ℕ) → n < 144 → 144 - n ≡ suc (144 - (n + 1))
one_fewer n l = omega arith

pub next_node : (text : ℕ → List ℕ) (n m : ℕ) → n < 144 → m ≡ n → concatenated_node_texts text n (144 - n) ≡ text m ++ concatenated_node_texts text (n + 1) (144 - (n + 1))
next_node text n m l e =
    ap (concatenated_node_texts text n) (one_fewer n l) ∙ one_node text n (144 - (n + 1)) ∙ ap (λ (z : ℕ). text z ++ concatenated_node_texts text (n + 1) (144 - (n + 1))) (sym e)

pub all_told : (text : ℕ → List ℕ) (n left : ℕ) → left ≡ zero → concatenated_node_texts text n left ≡ []
all_told text n left e = ap (concatenated_node_texts text n) e ∙ no_node text n

-- the same where a text is made of them
pub next_added : (text : ℕ → List ℕ) (n m : ℕ) (out new rest : List ℕ) → n < 144 → m ≡ n → new ≡ out ++ text m
    → out ++ concatenated_node_texts text n (144 - n) ≡ rest → new ++ concatenated_node_texts text (n + 1) (144 - (n + 1)) ≡ rest
next_added text n m out new rest l e g h =
    ap (λ (z : List ℕ). z ++ concatenated_node_texts text (n + 1) (144 - (n + 1))) g
    ∙ append_assoc out (text m) (concatenated_node_texts text (n + 1) (144 - (n + 1)))
    ∙ ap (λ (z : List ℕ). out ++ z) (sym (next_node text n m l e)) ∙ h

pub all_added : (text : ℕ → List ℕ) (n left : ℕ) (out rest : List ℕ) → left ≡ zero → out ++ concatenated_node_texts text n left ≡ rest → out ≡ rest
all_added text n left out rest e h = sym (append-nil out) ∙ ap (λ (z : List ℕ). out ++ z) (sym (all_told text n left e)) ∙ h

-- how many nodes a test holds of, with one node more
none_counted : (test : ℕ → Bool) → count_passing_nodes test zero ≡ 0
unfolding count_passing_nodes
none_counted test = refl

one_counted : (test : ℕ → Bool) (n : ℕ) → count_passing_nodes test (suc n) ≡ count_passing_nodes test n + (if test n then 1 else 0)
unfolding count_passing_nodes
one_counted test n = refl

pub counted_none : (test : ℕ → Bool) → 0 ≡ count_passing_nodes test 0
counted_none test = sym (none_counted test)

pub counted_on : (test : ℕ → Bool) (n m count one : ℕ) → count ≡ count_passing_nodes test n → m ≡ n → one ≡ (if test m then 1 else 0)
    → count + one ≡ count_passing_nodes test (n + 1)
counted_on test n m count one e at is =
    let last : one ≡ (if test n then 1 else 0) = is ∙ ap (λ (z : ℕ). if test z then 1 else 0) at in
    ap (λ (z : ℕ). z + one) e ∙ ap (λ (z : ℕ). count_passing_nodes test n + z) last ∙ sym (ap (count_passing_nodes test) (add-one n) ∙ one_counted test n)

pub counted_whole : (test : ℕ → Bool) (n most count : ℕ) → count ≡ count_passing_nodes test n → n ≡ most → count ≡ count_passing_nodes test most
counted_whole test n most count e all = e ∙ ap (count_passing_nodes test) all

-- ---- steps around one, one more at a time

one_place : (notes : Option DebugInfo) (s : MachineState) (node : NodeId) (k more : ℕ) → numbered_steps_text notes s node k (suc more) ≡ numbered_step_text notes s node k ++ numbered_steps_text notes s node (k + 1) more
unfolding numbered_steps_text
one_place notes s node k more = refl

pub no_place : (notes : Option DebugInfo) (s : MachineState) (node : NodeId) (k left : ℕ) → left ≡ zero → numbered_steps_text notes s node k left ≡ []
unfolding numbered_steps_text
no_place notes s node k zero e = refl
no_place notes s node k (suc more) e = absurd (omega (arith, e))

pub next_place : (notes : Option DebugInfo) (s : MachineState) (node : NodeId) (k last m : ℕ) → k < last → m ≡ k
    → numbered_steps_text notes s node k (last - k) ≡ numbered_step_text notes s node m ++ numbered_steps_text notes s node (k + 1) (last - (k + 1))
next_place notes s node k last m l is =
    ap (numbered_steps_text notes s node k) (let e : last - k ≡ suc (last - (k + 1)) = omega (arith, l) in e) ∙ one_place notes s node k (last - (k + 1))
    ∙ ap (λ (n : ℕ). numbered_step_text notes s node n ++ numbered_steps_text notes s node (k + 1) (last - (k + 1))) (sym is)

-- a step by its number, which is one more than its place
pub placed : (notes : Option DebugInfo) (s : MachineState) (node : NodeId) (k step : ℕ) → k ≡ step → 0 < step
    → step_registers_text node k (slice_get (history_of_node s node.number) (k - 1)) (node_after_steps s node.number k) ++ step_suffix_text notes s node k ≡ numbered_step_text notes s node (step - 1)
placed notes s node k step is some =
    ap (λ (n : ℕ). step_registers_text node n (slice_get (history_of_node s node.number) (n - 1)) (node_after_steps s node.number n) ++ step_suffix_text notes s node n) is
    ∙ ap (λ (n : ℕ). step_registers_text node n (slice_get (history_of_node s node.number) (step - 1)) (node_after_steps s node.number n) ++ step_suffix_text notes s node n)
    (let e : step ≡ step - 1 + 1 = omega (arith, some) in e)

-- if the step exists, and if it doesn't
pub around_here : (notes : Option DebugInfo) (s : MachineState) (node : NodeId) (step around first last : ℕ) → has_step s node.number step ≡ true → first ≡ step - 1 - around
    → last ≡ smaller_number (step + around) (count_steps node.number s.kept) → numbered_steps_text notes s node first (last - first) ≡ steps_around_text notes s node step around
around_here notes s node step around first last is e f =
    ap (λ (m : ℕ). numbered_steps_text notes s node m (last - m)) e
    ∙ ap (λ (m : ℕ). numbered_steps_text notes s node (step - 1 - around) (m - (step - 1 - around))) f
    ∙ sym (ap (λ (b : Bool). if b then numbered_steps_text notes s node (step - 1 - around) (smaller_number (step + around) (count_steps node.number s.kept) - (step - 1 - around)) else missing_step_text node (count_steps node.number s.kept)) is)

pub around_nowhere : (notes : Option DebugInfo) (s : MachineState) (node : NodeId) (step around : ℕ) → has_step s node.number step ≡ false → missing_step_text node (count_steps node.number s.kept) ≡ steps_around_text notes s node step around
around_nowhere notes s node step around is =
    sym (ap (λ (b : Bool). if b then numbered_steps_text notes s node (step - 1 - around) (smaller_number (step + around) (count_steps node.number s.kept) - (step - 1 - around)) else missing_step_text node (count_steps node.number s.kept)) is)

-- the lesser of two numbers
lesser_is : (m n k : ℕ) → (m ≤ n → k ≡ m) → (n < m → k ≡ n) → k ≡ smaller_number m n
lesser_is m n k first second = go (nat_le m n) refl
  where
    go : (b : Bool) → nat_le m n ≡ b → k ≡ cond b m n
    go true e = first (grind (arith, nat_tests))
    go false e = second (grind (arith, nat_tests))

-- and where the first is cut at the greatest number of 32 bits, which the second is not above
pub last_is : (m n capped last : ℕ) → capped ≡ min m 4294967295 → last ≡ min capped n → n < 4294967296 → last ≡ smaller_number m n
last_is m n capped last e f fits = lesser_is m n last (λ l. omega (arith, e, f, fits, l)) (λ l. omega (arith, e, f, fits, l))

-- ---- what a call means for the answer to a command

pub effects_found : (notes : Option DebugInfo) (s : MachineState) (node : NodeId) (step events : ℕ) (nodes : List RollbackEffect) (text : List ℕ) → rewind_answer s node.number step ≡ Ok events
    → nodes ≡ rollback_effects s node.number step → text ≡ rollback_effects_text notes s events nodes → IsRollbackEffectsAnswer notes s node step text
effects_found notes s node step events nodes text answer is t =
    inl (t ∙ ap (rollback_effects_text notes s events) is ∙ ap (λ (r : Result ℕ LabFault). rollback_effects_answer_text notes s node (rollback_effects s node.number step) r) (sym answer))

pub effects_refused : (notes : Option DebugInfo) (s : MachineState) (node : NodeId) (step : ℕ) (why : LabFault) (text : List ℕ)
    → (rewind_answer s node.number step ≡ Err why) ⊎ ((why ≡ Memory) × IsOk (rewind_answer s node.number step))
    → text ≡ advised_step_refusal_text node (count_steps node.number s.kept) why → IsRollbackEffectsAnswer notes s node step text
effects_refused notes s node step why text (inl answer) t =
    inl (t ∙ ap (λ (r : Result ℕ LabFault). rollback_effects_answer_text notes s node (rollback_effects s node.number step) r) (sym answer))
effects_refused notes s node step why text (inr wanting) t =
    inr (wanting.1, t ∙ ap (advised_step_refusal_text node (count_steps node.number s.kept)) wanting.0)

pub who_told : (s : MachineState) (chip : List NodeRecord) (marks ended over idle : ℕ → Bool) (first second third last : List ℕ) → chip ≡ chip_of_machine s → AreDeadlocked chip marks
    → ((others : ℕ → Bool) → AreDeadlocked chip others → IsMarkedSubset others marks) → AreEndedNodes chip ended → ((n : ℕ) → n < 144 → over n ≡ (marks n && ended n))
    → AreIdleNodeFlags s idle → first ≡ all_waiting_nodes_text chip idle
    → second ≡ deadlocked_nodes_text marks over idle → third ≡ wait_cycles_text chip marks → last ≡ ended_and_idle_nodes_text over idle → IsWaitingNodesAnswer s (first ++ second ++ third ++ last)
who_told s chip marks ended over idle first second third last e stuck greatest done both silent f g h i = record {
  marks = marks;
  stuck = subst (λ z. AreDeadlocked z marks) e stuck;
  greatest = λ others h. greatest others (subst (λ z. AreDeadlocked z others) (sym e) h);
  ended = ended;
  done = subst (λ z. AreEndedNodes z ended) e done;
  over = over;
  both = both;
  idle = idle;
  silent = silent;
  text = rw (f, g, h, i, e) refl;
}

pub races_found : (s : MachineState) (only : Option NodeId) (races : List Race) (readings : List LookRace) (looks quiet : Bool) (text : List ℕ) → races ≡ requested_races s only
    → All (IsReportedLookRace s only) readings → HasAllNearLookRaces s only readings → looks ≡ has_made_or_next_look (machine_events_with_looks s) (chip_of_machine s) → quiet ≡ is_none (first_ready_node (chip_of_machine s))
    → text ≡ listed_races_text only races readings looks quiet → IsRacesAnswer s only text
races_found s only races readings looks quiet text r told found l q t =
    inl (
      readings,
      told,
      found,
      t ∙ ap (λ (z : List Race). listed_races_text only z readings looks quiet) r ∙ ap (λ (z : Bool). listed_races_text only (requested_races s only) readings z quiet) l
          ∙ ap (listed_races_text only (requested_races s only) readings (has_made_or_next_look (machine_events_with_looks s) (chip_of_machine s))) q,
    )

pub races_refused : (s : MachineState) (only : Option NodeId) (why : LabFault) (text : List ℕ) → why ≡ Memory → text ≡ advised_refusal_text why → IsRacesAnswer s only text
races_refused s only why text e t = inr (t ∙ ap advised_refusal_text e)
