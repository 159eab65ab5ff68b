-- The state after the lines so far, and lines that are not allowed after them.
use Rattle.std.specs.Bool.{Decides}
use Rattle.std.proofs.Common.{◌≡◌, ◌≢◌, ℕ, ◌⊎◌, inl, inr, Bool, true, false, cond, List, [], ◌∷◌, get_or, Option, Some, None, refl, sym, ◌∙◌, ap, subst}
use Rattle.std.proofs.lemmas.Bool.Decides.{not_from_Decides}
use Rattle.ga_grid.specs.Grid.{node_number_of_name}
use Rattle.ga_image.specs.declared.fault.ImageFaultCause.{ImageFaultCause}
use Rattle.ga_image.specs.declared.fault.ImageFaultCause.TheVariants as cause
use Rattle.ga_image.specs.declared.field.Field.{Field}
use Rattle.ga_image.specs.declared.field.Format.{Format}
use Rattle.ga_image.specs.declared.field.Format.TheVariants.{One, Two}
use Rattle.ga_image.specs.inner.{IsFieldWithinBank}
use Rattle.ga_image.specs.Fields.{field_number, run_state_at_load, run_state_after_words, is_inconsistent_run_state}
use Rattle.ga_image.specs.Spelling.{LineForm, Node, Words, End, IsLineFormText, line_form, state_line_form, stack_memory_or_node_form}
use Rattle.ga_image.specs.Grammar.{header_of_format, field_line_writes}
use Rattle.ga_image.specs.Reading.{ImageReadProgress, ImageReadStage, is_misplaced_line, ends_inconsistent_block, form_in_format}
use Rattle.ga_image.specs.Reading as stage
use Rattle.ga_image.specs.FirstFault.{AreTextsOfFieldLines, HasLastBlockFieldLines, format_of_first_line, IsInconsistentBlockEnd, HoldsForSomeElement, IsEndLine, IsLineBeginningNode, IsNodeLine, IsFieldGiven, HasNoLineForm, IsInvalidLine, HasRefusalCause, IsFirstRefusalCause, HasNoneOfRefusalCauses}
use Rattle.ga_image.proofs.Spellings.{form_read, kept_spelled, kept_read}
use Rattle.ga_image.proofs.Room.{IsSized}

-- ---- tests for causes

-- what was found among these causes
abbrev pub Tells : List (List ℕ) → List ℕ → List ImageFaultCause → Option ImageFaultCause → Type 0
Tells before line left None = HasNoneOfRefusalCauses before line left
Tells before line left (Some first) = IsFirstRefusalCause before line left first

-- the causes after the first, after the second and so on
abbrev pub after_word : List ImageFaultCause
after_word = cause.RepeatedNodeOrField ∷ []

abbrev pub after_place : List ImageFaultCause
after_place = cause.WordOutOfRange ∷ after_word

abbrev pub after_node : List ImageFaultCause
after_node = cause.Place ∷ after_place

abbrev pub after_state : List ImageFaultCause
after_state = cause.UnknownNode ∷ after_node

abbrev pub progress_after_line : List ImageFaultCause
progress_after_line = cause.State ∷ after_state

abbrev pub after_header : List ImageFaultCause
after_header = cause.InvalidLine ∷ progress_after_line

abbrev pub after_long : List ImageFaultCause
after_long = cause.WrongHeader ∷ after_header

-- a test for the first of the causes, and others for the rest
pub tested : (before : List (List ℕ)) (line : List ℕ) (c : ImageFaultCause) (left : List ImageFaultCause) (b : Bool) (others : Option ImageFaultCause)
    → Decides b (HasRefusalCause before line c) → (b ≡ false → Tells before line left others) → Tells before line (c ∷ left) (cond b (Some c) others)
tested before line c left true others decides rest = inl (refl, decides.0 refl)
tested before line c left false None decides rest = (not_from_Decides false decides refl, rest refl)
tested before line c left false (Some d) decides rest = inr (not_from_Decides false decides refl, rest refl)

-- a cause that the line doesn't have
pub passed_over : (before : List (List ℕ)) (line : List ℕ) (c : ImageFaultCause) (left : List ImageFaultCause) (found : Option ImageFaultCause)
    → ¬ HasRefusalCause before line c → Tells before line left found → Tells before line (c ∷ left) found
passed_over before line c left None never rest = (never, rest)
passed_over before line c left (Some d) never rest = inr (never, rest)

-- ---- a line has one form

pub one_form : (line : List ℕ) (f g : LineForm) → IsLineFormText line f → IsLineFormText line g → f ≡ g
one_form line f g first second = let same : Some f ≡ Some g = sym (form_read line f first) ∙ form_read line g second in cc

pub node_no_words : (line : List ℕ) (y : ℕ) (field : Field) (words : List ℕ) → IsLineFormText line (Node y) → ¬ IsLineFormText line (Words field words)
node_no_words line y field words node = λ is. let same : Node y ≡ Words field words = one_form line _ _ node is in let never : true ≡ false = cc in cc

pub end_no_words : (line : List ℕ) (field : Field) (words : List ℕ) → IsLineFormText line End → ¬ IsLineFormText line (Words field words)
end_no_words line field words end = λ is. let same : End ≡ Words field words = one_form line _ _ end is in let never : true ≡ false = cc in cc

pub node_no_end : (line : List ℕ) (y : ℕ) → IsLineFormText line (Node y) → ¬ IsLineFormText line End
node_no_end line y node = λ is. let same : Node y ≡ End = one_form line _ _ node is in let never : true ≡ false = cc in cc

no_form : (format : Format) (line : List ℕ) → form_in_format format line ≡ None → HasNoLineForm format line
no_form format line none = λ f is. absurd (let clash : Some f ≡ None = sym (kept_read format line f is) ∙ none in let never : true ≡ false = cc in cc)

header_form : (format : Format) → line_form (header_of_format format) ≡ None
unfolding line_form state_line_form stack_memory_or_node_form
header_form One = refl
header_form Two = refl

-- a header has none of the forms
pub header_formless : (line : List ℕ) (format : Format) → line ≡ header_of_format format → (f : LineForm) → ¬ IsLineFormText line f
header_formless line format is = λ f spelled. absurd (let clash : Some f ≡ None = sym (form_read line f spelled) ∙ ap line_form is ∙ header_form format in let never : true ≡ false = cc in cc)

-- ---- the state after lines

-- what may come next, by the lines so far
abbrev pub StandsAt : ImageReadStage → List (List ℕ) → Type 0
StandsAt stage.Header before = before ≡ []
StandsAt stage.Open before = (before ≢ []) × (¬ HoldsForSomeElement IsEndLine before) × (¬ HoldsForSomeElement IsNodeLine before)
StandsAt (stage.Block node) before = (before ≢ []) × (¬ HoldsForSomeElement IsEndLine before) × HoldsForSomeElement IsNodeLine before
StandsAt stage.Ended before = (before ≢ []) × HoldsForSomeElement IsEndLine before

-- the state is that after the lines so far
pub record IsAfter (progress : ImageReadProgress) (before : List (List ℕ)) : Type 0 where
  pub stands : StandsAt progress.stage before
  pub sized : IsSized progress
  pub format : before ≢ [] → progress.format ≡ format_of_first_line before
  pub held : (node : ℕ) → progress.stage ≡ stage.Block node → (field_lines : List (Field × List ℕ)) × HasLastBlockFieldLines before field_lines × (progress.held ≡ run_state_after_words run_state_at_load (field_line_writes field_lines))
  pub blocks : (decimal_name n : ℕ) → node_number_of_name decimal_name ≡ Some n → Decides (get_or progress.blocks n false) (HoldsForSomeElement (IsLineBeginningNode decimal_name) before)
  pub given : (node : ℕ) → progress.stage ≡ stage.Block node → (field : Field) → IsFieldWithinBank field → Decides (get_or progress.given (field_number field) false) (IsFieldGiven before field)

-- ---- a line after the header that is not allowed there

pub later : (st : ImageReadStage) (before : List (List ℕ)) → st ≢ stage.Header → StandsAt st before → before ≢ []
later stage.Header before behind stands = absurd (behind refl)
later stage.Open before behind stands = stands.0
later (stage.Block node) before behind stands = stands.0
later stage.Ended before behind stands = stands.0

pub misplaced : (st : ImageReadStage) (format : Format) (found : Option LineForm) (before : List (List ℕ)) (line : List ℕ) → format ≡ format_of_first_line before → form_in_format format line ≡ found → st ≢ stage.Header → StandsAt st before → Decides (is_misplaced_line st found) (IsInvalidLine before line)
misplaced stage.Header format found before line same is behind stands = absurd (behind refl)
misplaced stage.Open format None before line same is behind stands =
    (λ e. (stands.0, inl (subst (λ (g : Format). HasNoLineForm g line) same (no_form format line is))), λ no. refl)
misplaced stage.Open format (Some (Node y)) before line same is behind stands =
    let spelled = kept_spelled format line (Node y) is in (
      λ e. cc,
      λ no. elim no.1 [
        | inl formless ↦ absurd (subst (λ (g : Format). HasNoLineForm g line) (sym same) formless (Node y) spelled)
        | inr (inl field) ↦ absurd (node_no_words line y field.0.0 field.0.1 spelled.0 field.0.2)
        | inr (inr end) ↦ absurd (stands.1 end)
      ],
    )
misplaced stage.Open format (Some (Words field words)) before line same is behind stands =
    (λ e. (stands.0, inr (inl ((field, words, (kept_spelled format line (Words field words) is).0), stands.2))), λ no. refl)
misplaced stage.Open format (Some End) before line same is behind stands =
    let spelled = kept_spelled format line End is in (
      λ e. cc,
      λ no. elim no.1 [
        | inl formless ↦ absurd (subst (λ (g : Format). HasNoLineForm g line) (sym same) formless End spelled)
        | inr (inl field) ↦ absurd (end_no_words line field.0.0 field.0.1 spelled.0 field.0.2)
        | inr (inr end) ↦ absurd (stands.1 end)
      ],
    )
misplaced (stage.Block node) format None before line same is behind stands =
    (λ e. (stands.0, inl (subst (λ (g : Format). HasNoLineForm g line) same (no_form format line is))), λ no. refl)
misplaced (stage.Block node) format (Some f) before line same is behind stands = (
  λ e. cc,
  λ no. elim no.1 [
    | inl formless ↦ absurd (subst (λ (g : Format). HasNoLineForm g line) (sym same) formless f (kept_spelled format line f is))
    | inr (inl field) ↦ absurd (field.1 stands.2)
    | inr (inr end) ↦ absurd (stands.1 end)
  ],
)
misplaced stage.Ended format found before line same is behind stands = (λ e. (stands.0, inr (inr stands.1)), λ no. refl)

-- ---- a line that ends a block

-- where lines give field lines of a block, one of them begins it
lines_begin : (before : List (List ℕ)) (field_lines : List (Field × List ℕ)) → HasLastBlockFieldLines before field_lines → HoldsForSomeElement IsNodeLine before
lines_begin [] field_lines none = absurd none
lines_begin (line ∷ before) field_lines (inl later) = inr (lines_begin before field_lines later)
lines_begin (line ∷ before) field_lines (inr here) = inl here.0

-- field lines begin no block
fields_begin_none : (lines : List (List ℕ)) (fs gs : List (Field × List ℕ)) → AreTextsOfFieldLines lines fs → ¬ HasLastBlockFieldLines lines gs
fields_begin_none [] fs gs spelled = λ none. none
fields_begin_none (line ∷ lines) [] gs spelled = absurd spelled
fields_begin_none (line ∷ lines) (f ∷ fs) gs spelled = λ gives. elim gives [
  | inl later ↦ fields_begin_none lines fs gs spelled.1 later
  | inr here ↦ node_no_words line here.0.0 f.0 f.1 here.0.1 spelled.0
]

joined : (f g : Field) (ws vs : List ℕ) (fs gs : List (Field × List ℕ)) → f ≡ g → ws ≡ vs → fs ≡ gs → (f, ws) ∷ fs ≡ (g, vs) ∷ gs
joined f g ws vs fs gs p q r = rw (p, q, r) refl

-- lines are texts of one list of field lines only
fields_same : (lines : List (List ℕ)) (fs gs : List (Field × List ℕ)) → AreTextsOfFieldLines lines fs → AreTextsOfFieldLines lines gs → fs ≡ gs
fields_same [] [] [] first second = refl
fields_same [] [] (g ∷ gs) first second = absurd second
fields_same [] (f ∷ fs) gs first second = absurd first
fields_same (line ∷ lines) [] gs first second = absurd first
fields_same (line ∷ lines) (f ∷ fs) [] first second = absurd second
fields_same (line ∷ lines) (f ∷ fs) (g ∷ gs) first second =
    let rest = fields_same lines fs gs first.1 second.1 in
    let here : Words f.0 f.1 ≡ Words g.0 g.1 = one_form line _ _ first.0 second.0 in
    let fields : f.0 ≡ g.0 = cc in
    let word_lists : f.1 ≡ g.1 = cc in
    joined f.0 g.0 f.1 g.1 fs gs fields word_lists rest

lines_same : (before : List (List ℕ)) (fs gs : List (Field × List ℕ)) → HasLastBlockFieldLines before fs → HasLastBlockFieldLines before gs → fs ≡ gs
lines_same [] fs gs first second = absurd first
lines_same (line ∷ before) fs gs (inl first) (inl second) = lines_same before fs gs first second
lines_same (line ∷ before) fs gs (inl first) (inr second) = absurd (fields_begin_none before gs fs second.1 first)
lines_same (line ∷ before) fs gs (inr first) (inl second) = absurd (fields_begin_none before fs gs first.1 second)
lines_same (line ∷ before) fs gs (inr first) (inr second) = fields_same before fs gs first.1 second.1

block_unsteady : (progress : ImageReadProgress) (before : List (List ℕ)) (line : List ℕ) (node : ℕ) → IsAfter progress before → progress.stage ≡ stage.Block node → IsNodeLine line ⊎ IsEndLine line
    → Decides (is_inconsistent_run_state progress.held) (IsInconsistentBlockEnd before line)
block_unsteady progress before line node after is ends =
    let held = after.held node is in (
      λ e. (ends, (held.0, held.1, ap is_inconsistent_run_state (sym held.2) ∙ e)),
      λ unsteady.
          let same : unsteady.1.0 ≡ held.0 = lines_same before unsteady.1.0 held.0 unsteady.1.1 held.1 in
          ap is_inconsistent_run_state held.2 ∙ ap (λ fs. is_inconsistent_run_state (run_state_after_words run_state_at_load (field_line_writes fs))) (sym same) ∙ unsteady.1.2,
    )

-- before the first block
open_steady : (before : List (List ℕ)) (line : List ℕ) → ¬ HoldsForSomeElement IsNodeLine before → Decides false (IsInconsistentBlockEnd before line)
open_steady before line none = (λ e. cc, λ unsteady. absurd (none (lines_begin before unsteady.1.0 unsteady.1.1)))

pub end_unsteady : (st : ImageReadStage) (progress : ImageReadProgress) (before : List (List ℕ)) (line : List ℕ) → IsAfter progress before → progress.stage ≡ st → StandsAt st before → is_misplaced_line st (Some End) ≡ false → IsEndLine line
    → Decides (ends_inconsistent_block st progress.held (Some End)) (IsInconsistentBlockEnd before line)
end_unsteady stage.Header progress before line after is stands placed end = cc
end_unsteady stage.Open progress before line after is stands placed end = open_steady before line stands.2
end_unsteady (stage.Block node) progress before line after is stands placed end = block_unsteady progress before line node after is (inr end)
end_unsteady stage.Ended progress before line after is stands placed end = cc

pub node_unsteady : (st : ImageReadStage) (progress : ImageReadProgress) (before : List (List ℕ)) (line : List ℕ) (y : ℕ) → IsAfter progress before → progress.stage ≡ st → StandsAt st before → is_misplaced_line st (Some (Node y)) ≡ false → IsLineFormText line (Node y)
    → Decides (ends_inconsistent_block st progress.held (Some (Node y))) (IsInconsistentBlockEnd before line)
node_unsteady stage.Header progress before line y after is stands placed begins_with_text = cc
node_unsteady stage.Open progress before line y after is stands placed begins_with_text = open_steady before line stands.2
node_unsteady (stage.Block node) progress before line y after is stands placed begins_with_text = block_unsteady progress before line node after is (inl (y, begins_with_text))
node_unsteady stage.Ended progress before line y after is stands placed begins_with_text = cc
