-- What a test finds wrong with a line is the first of its causes.
-- What reading refuses is the first fault of a text, and the other way.
use Rattle.std.specs.Prelude.{nat_lt, IfErr}
use Rattle.std.proofs.Common.{◌≡◌, ◌≢◌, ℕ, inl, inr, Bool, true, false, cond, List, [], length, Option, Some, None, refl, sym, ◌∙◌, ap, subst, ◌+◌, ◌⊎◌, ◌∷◌, ◌++◌, Result, Ok, Err, append_assoc, length-append}
use Rattle.std.proofs.lemmas.Bool.Decides.{not_from_Decides, Decides-ltb}
use Rattle.std.proofs.lemmas.Slice.Eq.{bytes_eq-Decides}
use Rattle.ga_image.specs.declared.fault.ImageFaultCause.TheVariants as cause
use Rattle.ga_image.specs.declared.field.Field.{Field}
use Rattle.ga_image.specs.declared.field.Format.{Format}
use Rattle.ga_image.specs.declared.field.Format.TheVariants.{One, Two}
use Rattle.ga_image.specs.declared.field.RunState.{RunState}
use Rattle.ga_image.specs.Spelling.{LineForm, Node, Words, End, IsLineFormText}
use Rattle.ga_text.specs.Lines.{max_input_line}
use Rattle.ga_image.specs.Grammar.{header_of_format, is_header_of_format}
use Rattle.ga_image.specs.Reading.{ImageReadProgress, ImageReadStage, first_fault_of_line, line_fault, fault_after_header, line_form_fault, is_misplaced_line, ends_inconsistent_block, form_in_format, is_header, read_result_of_lines, fault_or_result, result_at_image_end, progress_after_line, initial_read_progress, IsReadResultUnlessOutOfMemory}
use Rattle.ga_image.specs.Reading as stage
use Rattle.ga_image.specs.FirstFault.{HasLastBlockFieldLines, ordered_line_causes, out_of_memory_fault, HoldsForSomeElement, IsEndLine, IsFirstRefusalCause, HasNoneOfRefusalCauses, AreLinesFaultless, IsLineFault, IsEndMissing, IsFirstImageFault}
use Rattle.ga_image.proofs.Spellings.{kept_spelled}
use Rattle.ga_image.proofs.Meanings.{or_false}
use Rattle.ga_image.proofs.Found.{some_form, header_named}
use Rattle.ga_image.proofs.Standing.{Tells, after_state, after_header, after_long, tested, passed_over, node_no_words, end_no_words, node_no_end, header_formless, StandsAt, IsAfter, later, misplaced, end_unsteady, node_unsteady}
use Rattle.ga_image.proofs.LineCauses.{node_tells, words_tell}
use Rattle.std.proofs.lemmas.List.{append-nil}
use Rattle.ga_node.specs.Record.{NodeState}
use Rattle.ga_image.specs.declared.fault.ImageFaultCause.{ImageFaultCause}
use Rattle.ga_image.specs.declared.fault.ImageFault.{ImageFault}
use Rattle.ga_image.proofs.Behind.{after_one, after_none}
use Rattle.ga_image.proofs.Standing as standing

-- ---- any line

end_tells : (before : List (List ℕ)) (line : List ℕ) → IsLineFormText line End → Tells before line after_state None
end_tells before line end = (
  λ names. node_no_end line names.0 names.1 end,
  (
    λ gives. end_no_words line gives.0 gives.1 end gives.2,
    (
      λ gives. end_no_words line gives.0 gives.1 end gives.2,
      (
        λ has_repeated_field. elim has_repeated_field [
          | inl begins_with_text ↦ node_no_end line begins_with_text.0 begins_with_text.1 end
          | inr gives ↦ end_no_words line gives.1.0 gives.1.1 end gives.1.2
        ],
        tt,
      ),
    ),
  ),
)

words_steady : (st : ImageReadStage) (held : RunState) (field : Field) (words : List ℕ) → ends_inconsistent_block st held (Some (Words field words)) ≡ false
words_steady stage.Header held field words = refl
words_steady stage.Open held field words = refl
words_steady (stage.Block node) held field words = refl
words_steady stage.Ended held field words = refl

form_tells : (progress : ImageReadProgress) (before : List (List ℕ)) (line : List ℕ) (f : LineForm) → IsAfter progress before → IsLineFormText line f
    → is_misplaced_line progress.stage (Some f) ≡ false → Tells before line standing.progress_after_line (cond (ends_inconsistent_block progress.stage progress.held (Some f)) (Some cause.State) (line_form_fault progress (Some f)))
form_tells progress before line (Node y) after spelled placed =
    tested before line cause.State after_state (ends_inconsistent_block progress.stage progress.held (Some (Node y))) _
    (node_unsteady progress.stage progress before line y after refl after.stands placed spelled) (λ steady. node_tells progress before line y after spelled)
form_tells progress before line (Words field words) after spelled placed =
    tested before line cause.State after_state (ends_inconsistent_block progress.stage progress.held (Some (Words field words))) _ (
      λ e. absurd (let never : true ≡ false = sym e ∙ words_steady progress.stage progress.held field words in cc),
      λ unsteady. absurd (elim unsteady.0 [
        | inl begins_with_text ↦ node_no_words line begins_with_text.0 field words begins_with_text.1 spelled
        | inr end ↦ end_no_words line field words end spelled
      ]),
    )
    (λ steady. words_tell progress before line field words after spelled placed)
form_tells progress before line End after spelled placed =
    tested before line cause.State after_state (ends_inconsistent_block progress.stage progress.held (Some End)) _
    (end_unsteady progress.stage progress before line after refl after.stands placed spelled) (λ steady. end_tells before line spelled)

later_tells : (progress : ImageReadProgress) (before : List (List ℕ)) (line : List ℕ) → IsAfter progress before → progress.stage ≢ stage.Header
    → Tells before line after_long (fault_after_header progress (form_in_format progress.format line))
later_tells progress before line after behind =
    let some = later progress.stage before behind after.stands in
    passed_over before line cause.WrongHeader after_header _ (λ other. some other.0)
    (tested before line cause.InvalidLine standing.progress_after_line (is_misplaced_line progress.stage (form_in_format progress.format line)) _ (misplaced progress.stage progress.format (form_in_format progress.format line) before line (after.format some) refl behind after.stands) (λ placed.
    let f = some_form progress.stage (form_in_format progress.format line) behind placed in
    let Q : Option LineForm → Type 0 = λ o. Tells before line standing.progress_after_line (cond (ends_inconsistent_block progress.stage progress.held o) (Some cause.State) (line_form_fault progress o)) in
    subst Q (sym f.1) (form_tells progress before line f.0 after (kept_spelled progress.format line f.0 f.1).0 (ap (is_misplaced_line progress.stage) (sym f.1) ∙ placed))))

no_header : (line : List ℕ) (format : Format) → is_header line ≡ false → line ≢ header_of_format format
no_header line One other is = let parts = or_false (is_header_of_format line One) (is_header_of_format line Two) other in not_from_Decides (is_header_of_format line One) (bytes_eq-Decides line (header_of_format One)) parts.0 is
no_header line Two other is = let parts = or_false (is_header_of_format line One) (is_header_of_format line Two) other in not_from_Decides (is_header_of_format line Two) (bytes_eq-Decides line (header_of_format Two)) parts.1 is

header_tells : (before : List (List ℕ)) (line : List ℕ) (b : Bool) → is_header line ≡ b → before ≡ [] → Tells before line after_long (cond b None (Some cause.WrongHeader))
header_tells before line false is first = inl (refl, (first, λ format. no_header line format is))
header_tells before line true is first =
    let formless = header_formless line _ (header_named line is) in (
      λ other. other.1 _ (header_named line is),
      (
        λ no. no.0 first,
        (
          λ unsteady. let Q : List (List ℕ) → Type 0 = λ b. HasLastBlockFieldLines b unsteady.1.0 in let none : HasLastBlockFieldLines [] unsteady.1.0 = subst Q first unsteady.1.1 in none,
          (
            λ names. formless (Node names.0) names.1,
            (
              λ gives. formless (Words gives.0 gives.1) gives.2,
              (
                λ gives. formless (Words gives.0 gives.1) gives.2,
                (
                  λ has_repeated_field. elim has_repeated_field [ inl begins_with_text ↦ formless (Node begins_with_text.0) begins_with_text.1 | inr gives ↦ formless (Words gives.1.0 gives.1.1) gives.1.2 ],
                  tt,
                ),
              ),
            ),
          ),
        ),
      ),
    )

line_tells : (st : ImageReadStage) (progress : ImageReadProgress) (before : List (List ℕ)) (line : List ℕ) → progress.stage ≡ st → IsAfter progress before
    → Tells before line after_long (line_fault st progress line)
line_tells stage.Header progress before line is after =
    let first : StandsAt stage.Header before = subst (λ st. StandsAt st before) is after.stands in
    header_tells before line (is_header line) refl first
line_tells stage.Open progress before line is after = later_tells progress before line after (rw is (λ e. cc))
line_tells (stage.Block node) progress before line is after = later_tells progress before line after (rw is (λ e. cc))
line_tells stage.Ended progress before line is after = later_tells progress before line after (rw is (λ e. cc))

-- what is found wrong with a line is the first of its causes
pub fault_tells : (progress : ImageReadProgress) (before : List (List ℕ)) (line : List ℕ) → IsAfter progress before → Tells before line ordered_line_causes (first_fault_of_line progress line)
unfolding first_fault_of_line
fault_tells progress before line after =
    tested before line cause.LineTooLong after_long (nat_lt max_input_line (length line)) (line_fault progress.stage progress line) (Decides-ltb max_input_line (length line))
    (λ short. line_tells progress.stage progress before line refl after)

-- ---- the first cause of a line

none_first : (before : List (List ℕ)) (line : List ℕ) (left : List ImageFaultCause) (first : ImageFaultCause) → HasNoneOfRefusalCauses before line left → ¬ IsFirstRefusalCause before line left first
none_first before line [] first none = λ is. is
none_first before line (c ∷ left) first none = λ is. elim is [ inl here ↦ none.0 here.1 | inr there ↦ none_first before line left first none.1 there.1 ]

one_first : (before : List (List ℕ)) (line : List ℕ) (left : List ImageFaultCause) (first second : ImageFaultCause) → IsFirstRefusalCause before line left first → IsFirstRefusalCause before line left second → first ≡ second
one_first before line [] first second p q = absurd p
one_first before line (c ∷ left) first second (inl p) (inl q) = p.0 ∙ sym q.0
one_first before line (c ∷ left) first second (inl p) (inr q) = absurd (q.0 p.1)
one_first before line (c ∷ left) first second (inr p) (inl q) = absurd (p.0 q.1)
one_first before line (c ∷ left) first second (inr p) (inr q) = one_first before line left first second p.1 q.1

no_fault : (before : List (List ℕ)) (line : List ℕ) (found : Option ImageFaultCause) → Tells before line ordered_line_causes found → HasNoneOfRefusalCauses before line ordered_line_causes → found ≡ None
no_fault before line None tells none = refl
no_fault before line (Some c) tells none = absurd (none_first before line ordered_line_causes c none tells)

the_fault : (before : List (List ℕ)) (line : List ℕ) (found : Option ImageFaultCause) (first : ImageFaultCause) → Tells before line ordered_line_causes found → IsFirstRefusalCause before line ordered_line_causes first → found ≡ Some first
the_fault before line None first tells is = absurd (none_first before line ordered_line_causes first tells is)
the_fault before line (Some c) first tells is = ap (λ x. Some x) (one_first before line ordered_line_causes c first tells is)

-- ---- what reading refuses

one_more : (before lines : List (List ℕ)) (line : List ℕ) → AreLinesFaultless before lines → HasNoneOfRefusalCauses (before ++ lines) line ordered_line_causes → AreLinesFaultless before (lines ++ line ∷ [])
one_more before [] line each none = (subst (λ (b : List (List ℕ)). HasNoneOfRefusalCauses b line ordered_line_causes) (append-nil before) none, tt)
one_more before (first ∷ lines) line each none =
    (each.0, one_more (before ++ first ∷ []) lines line each.1 (subst (λ (b : List (List ℕ)). HasNoneOfRefusalCauses b line ordered_line_causes) (sym (append_assoc before (first ∷ []) lines)) none))

not_at_end : (st : ImageReadStage) (chip : List NodeState) (line : ℕ) (before : List (List ℕ)) (fault : ImageFault) → StandsAt st before → result_at_image_end st chip line ≡ Err fault
    → (¬ HoldsForSomeElement IsEndLine before) × (record { line = line; cause = cause.Truncated } ≡ fault)
not_at_end stage.Header chip line before fault stands e =
    let same : record { line = line; cause = cause.Truncated } ≡ fault = cc in
    let Q : List (List ℕ) → Type 0 = HoldsForSomeElement IsEndLine in (λ some. let none : HoldsForSomeElement IsEndLine [] = subst Q stands some in none, same)
not_at_end stage.Open chip line before fault stands e = let same : record { line = line; cause = cause.Truncated } ≡ fault = cc in (stands.1, same)
not_at_end (stage.Block node) chip line before fault stands e = let same : record { line = line; cause = cause.Truncated } ≡ fault = cc in (stands.1, same)
not_at_end stage.Ended chip line before fault stands e = cc

longer : (before : List (List ℕ)) (line : List ℕ) → length (before ++ line ∷ []) ≡ length before + 1
longer before line = length-append before (line ∷ [])

-- a refusal is of this line or of a later one
either_refused : (found : Option ImageFaultCause) (number : ℕ) (others : Result (List NodeState) ImageFault) (fault : ImageFault) → fault_or_result found number others ≡ Err fault
    → ((c : ImageFaultCause) × (found ≡ Some c) × (record { line = number; cause = c } ≡ fault)) ⊎ ((found ≡ None) × (others ≡ Err fault))
either_refused None number others fault e = inr (refl, e)
either_refused (Some c) number others fault e = let same : record { line = number; cause = c } ≡ fault = cc in inl (c, refl, same)

-- a fault that reading finds after these lines is the first of the whole text
found_behind : (lines : List (List ℕ)) (progress : ImageReadProgress) (before : List (List ℕ)) (fault : ImageFault) → IsAfter progress before → AreLinesFaultless [] before
    → read_result_of_lines progress (length before + 1) lines ≡ Err fault → IsFirstImageFault (before ++ lines) fault
unfolding read_result_of_lines
found_behind [] progress before fault after each e =
    let end = not_at_end progress.stage progress.chip (length before + 1) before fault after.stands e in
    subst (λ (texts : List (List ℕ)). IsFirstImageFault texts fault) (sym (append-nil before)) (inr (record {
      faultless = each;
      unended = end.0;
      cause = ap (λ f. f.cause) (sym end.1);
      number = ap (λ f. f.line) (sym end.1);
    }))
found_behind (line ∷ lines) progress before fault after each e =
    let tells = fault_tells progress before line after in
    let T : Option ImageFaultCause → Type 0 = Tells before line ordered_line_causes in
    elim (either_refused (first_fault_of_line progress line) (length before + 1) (read_result_of_lines (progress_after_line progress line) (length before + 1 + 1) lines) fault e) [
      | inl (c, is, same) ↦
          inl (record {
            before = before;
            line = line;
            after = lines;
            parts = refl;
            faultless = each;
            cause = let Q : ImageFault → Type 0 = λ f. IsFirstRefusalCause before line ordered_line_causes f.cause in subst Q same (subst T is tells);
            number = ap (λ f. f.line) (sym same);
          })
      | inr (none, others) ↦
          let more = one_more [] before line each (subst T none tells) in
          let onward = ap (λ (n : ℕ). read_result_of_lines (progress_after_line progress line) (n + 1) lines) (longer before line) ∙ others in
          let rest = found_behind lines (progress_after_line progress line) (before ++ line ∷ []) fault (after_one progress before line after none) more onward in
          subst (λ (texts : List (List ℕ)). IsFirstImageFault texts fault) (append_assoc before (line ∷ []) lines) rest
    ]

-- what reading refuses is the first fault
pub refused_first : (texts : List (List ℕ)) (fault : ImageFault) → read_result_of_lines initial_read_progress 1 texts ≡ Err fault → IsFirstImageFault texts fault
refused_first texts fault e = found_behind texts initial_read_progress [] fault after_none tt e

-- ---- the first fault is what reading refuses

-- faultless lines are read
read_on : (lines : List (List ℕ)) (rest : List (List ℕ)) (progress : ImageReadProgress) (before : List (List ℕ)) → IsAfter progress before → AreLinesFaultless before lines
    → (next : ImageReadProgress) × IsAfter next (before ++ lines) × (read_result_of_lines progress (length before + 1) (lines ++ rest) ≡ read_result_of_lines next (length (before ++ lines) + 1) rest)
unfolding read_result_of_lines
read_on [] rest progress before after each =
    (progress, subst (IsAfter progress) (sym (append-nil before)) after, ap (λ (b : List (List ℕ)). read_result_of_lines progress (length b + 1) rest) (sym (append-nil before)))
read_on (line ∷ lines) rest progress before after each =
    let none = no_fault before line (first_fault_of_line progress line) (fault_tells progress before line after) each.0 in
    let more = read_on lines rest (progress_after_line progress line) (before ++ line ∷ []) (after_one progress before line after none) each.1 in
    let same = append_assoc before (line ∷ []) lines in
    let here : read_result_of_lines progress (length before + 1) (line ∷ (lines ++ rest)) ≡ read_result_of_lines (progress_after_line progress line) (length before + 1 + 1) (lines ++ rest) = rw none refl in (
      more.0,
      subst (IsAfter more.0) same more.1,
      here ∙ ap (λ (n : ℕ). read_result_of_lines (progress_after_line progress line) (n + 1) (lines ++ rest)) (sym (longer before line)) ∙ more.2
          ∙ ap (λ (b : List (List ℕ)). read_result_of_lines more.0 (length b + 1) rest) same,
    )

read_fault : (progress : ImageReadProgress) (number : ℕ) (line : List ℕ) (rest : List (List ℕ)) (fault : ImageFault) → first_fault_of_line progress line ≡ Some fault.cause → fault.line ≡ number → read_result_of_lines progress number (line ∷ rest) ≡ Err fault
unfolding read_result_of_lines
read_fault progress number line rest fault is same = rw (is, ← same) refl

read_end : (progress : ImageReadProgress) (texts : List (List ℕ)) (fault : ImageFault) → IsAfter progress texts → ¬ HoldsForSomeElement IsEndLine texts → fault.cause ≡ cause.Truncated → fault.line ≡ length texts + 1 → read_result_of_lines progress (length texts + 1) [] ≡ Err fault
unfolding read_result_of_lines
read_end progress texts fault after unended from_low_bits number = at_stage progress.stage after.stands ∙ ap (λ f. Err f) same where
  same : record { line = length texts + 1; cause = cause.Truncated } ≡ fault
  same = rw (← number, ← from_low_bits) refl

  at_stage : (st : ImageReadStage) → StandsAt st texts → result_at_image_end st progress.chip (length texts + 1) ≡ Err (record { line = length texts + 1; cause = cause.Truncated })
  at_stage stage.Header stands = refl
  at_stage stage.Open stands = refl
  at_stage (stage.Block node) stands = refl
  at_stage stage.Ended stands = absurd (unended stands.1)

first_refused_at : (texts : List (List ℕ)) (fault : ImageFault) → IsLineFault texts fault → read_result_of_lines initial_read_progress 1 texts ≡ Err fault
first_refused_at texts fault at =
    let on = read_on at.before (at.line ∷ at.after) initial_read_progress [] after_none at.faultless in
    let here = read_fault on.0 (length at.before + 1) at.line at.after fault (the_fault at.before at.line _ fault.cause (fault_tells on.0 at.before at.line on.1) at.cause) at.number in
    ap (read_result_of_lines initial_read_progress 1) at.parts ∙ on.2 ∙ here

first_refused_end : (texts : List (List ℕ)) (fault : ImageFault) → IsEndMissing texts fault → read_result_of_lines initial_read_progress 1 texts ≡ Err fault
first_refused_end texts fault end =
    let on = read_on texts [] initial_read_progress [] after_none end.faultless in
    ap (read_result_of_lines initial_read_progress 1) (sym (append-nil texts)) ∙ on.2 ∙ read_end on.0 texts fault on.1 end.unended end.cause end.number

-- the first fault is what reading refuses
pub first_refused : (texts : List (List ℕ)) (fault : ImageFault) → IsFirstImageFault texts fault → read_result_of_lines initial_read_progress 1 texts ≡ Err fault
first_refused texts fault (inl at) = first_refused_at texts fault at
first_refused texts fault (inr end) = first_refused_end texts fault end

-- what a call refused is the first fault, unless memory was refused
pub refused_by : (result : Result (List NodeState) ImageFault) (texts : List (List ℕ)) → IsReadResultUnlessOutOfMemory result (read_result_of_lines initial_read_progress 1 texts) → IfErr result (λ fault. (fault ≡ out_of_memory_fault) ⊎ IsFirstImageFault texts fault)
refused_by (Ok chip) texts gives = tt
refused_by (Err fault) texts (inl memory) = inl memory
refused_by (Err fault) texts (inr fails) = inr (refused_first texts fault fails)
