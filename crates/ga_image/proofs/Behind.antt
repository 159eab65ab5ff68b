-- The state after one line more.
use Rattle.std.specs.Bool.{Decides}
use Rattle.std.specs.Prelude.{nat_lt, nat_eq, ◌==◌, ◌-◌}
use Rattle.std.specs.List.{AllByRecursion}
use Rattle.std.proofs.Common.{◌≡◌, ◌≢◌, ℕ, ◌+◌, ◌<◌, ◌⊎◌, inl, inr, Bool, true, false, cond, ◌||◌, List, [], ◌∷◌, ◌++◌, length, get_or, set, Option, Some, None, refl, sym, ◌∙◌, ap, subst, arith, length-set}
use Rattle.std.proofs.lemmas.Bool.{eqb-true}
use Rattle.std.proofs.lemmas.Bool.Decides.{nat_tests, Decides-or, Decides-like, Decides-at, eqb_tells}
use Rattle.std.proofs.lemmas.List.{append-nil, get_or-set_same, get_or-set_other}
use Rattle.ga_grid.specs.Grid.{node_number_of_name, decimal_name_of_node}
use Rattle.ga_image.specs.declared.fault.ImageFaultCause.TheVariants as cause
use Rattle.ga_image.specs.declared.field.Field.{Field}
use Rattle.ga_image.specs.declared.field.Field.TheVariants.{A, B, P, I, Io, Carry, Slot, Wait, Stop, Data, Return, Ram, Rom}
use Rattle.ga_image.specs.declared.field.RunState.{RunState}
use Rattle.ga_image.specs.inner.{IsFieldWithinBank}
use Rattle.ga_image.specs.Fields.{fields_with_words, field_number, row_exceeds_bank, run_state_at_load, run_state_after_words}
use Rattle.ga_image.specs.Spelling.{LineForm, Node, Words, End, IsLineFormText}
use Rattle.ga_image.specs.Grammar.{header_of_format, format_of_header, field_line_writes}
use Rattle.ga_image.specs.Reading.{ImageReadProgress, ImageReadStage, first_fault_of_line, line_fault, fault_after_header, form_in_format, is_misplaced_line, is_header, progress_after_line, progress_after_line_form, progress_with_field_writes, progress_with_block, no_fields_given, initial_read_progress}
use Rattle.ga_image.specs.Reading as stage
use Rattle.ga_image.specs.FirstFault.{AreTextsOfFieldLines, HasLastBlockFieldLines, format_of_first_line, HoldsForSomeElement, IsEndLine, IsLineBeginningNode, IsNodeLine, HasWordForField, IsFieldGiven}
use Rattle.ga_image.proofs.Spellings.{kept_spelled}
use Rattle.ga_image.proofs.Meanings.{none_flagged, marked, in_memory, line_later, past_later, short_past, all_written}
use Rattle.ga_image.proofs.Found.{not_short, neither, some_form, node_ok, field_ok, yxx_of_node, held-append, header_named}
use Rattle.ga_image.proofs.Room.{length-marked, past_start, known}
use Rattle.ga_image.proofs.Standing.{IsAfter, StandsAt, later, one_form, node_no_words, node_no_end, end_no_words, header_formless}
use Rattle.ga_image.proofs.LineCauses.{each_has_cell, in_block}

-- ---- one line more

pub one_front : (Holds : List ℕ → Type 0) (xs : List (List ℕ)) (y : List ℕ) → HoldsForSomeElement Holds xs → HoldsForSomeElement Holds (xs ++ y ∷ [])
one_front Holds [] y none = absurd none
one_front Holds (x ∷ xs) y (inl here) = inl here
one_front Holds (x ∷ xs) y (inr there) = inr (one_front Holds xs y there)

pub one_last : (Holds : List ℕ → Type 0) (xs : List (List ℕ)) (y : List ℕ) → Holds y → HoldsForSomeElement Holds (xs ++ y ∷ [])
one_last Holds [] y here = inl here
one_last Holds (x ∷ xs) y here = inr (one_last Holds xs y here)

pub one_split : (Holds : List ℕ → Type 0) (xs : List (List ℕ)) (y : List ℕ) → HoldsForSomeElement Holds (xs ++ y ∷ []) → HoldsForSomeElement Holds xs ⊎ Holds y
one_split Holds [] y (inl here) = inr here
one_split Holds [] y (inr none) = absurd none
one_split Holds (x ∷ xs) y (inl here) = inl (inl here)
one_split Holds (x ∷ xs) y (inr there) = elim (one_split Holds xs y there) [ inl front ↦ inl (inr front) | inr last ↦ inr last ]

none_more : (Holds : List ℕ → Type 0) (xs : List (List ℕ)) (y : List ℕ) → ¬ HoldsForSomeElement Holds xs → ¬ Holds y → ¬ HoldsForSomeElement Holds (xs ++ y ∷ [])
none_more Holds xs y none other = λ some. elim (one_split Holds xs y some) [ inl front ↦ none front | inr last ↦ other last ]

given_last : (before : List (List ℕ)) (line : List ℕ) (field : Field) → HasWordForField field line → IsFieldGiven (before ++ line ∷ []) field
given_last [] line field gives = inr (gives, λ none. none)
given_last (first ∷ before) line field gives = inl (given_last before line field gives)

given_front : (before : List (List ℕ)) (line : List ℕ) (field : Field) → ¬ IsNodeLine line → IsFieldGiven before field → IsFieldGiven (before ++ line ∷ []) field
given_front [] line field other none = absurd none
given_front (first ∷ before) line field other (inl later) = inl (given_front before line field other later)
given_front (first ∷ before) line field other (inr here) = inr (here.0, none_more IsNodeLine before line here.1 other)

given_split : (before : List (List ℕ)) (line : List ℕ) (field : Field) → IsFieldGiven (before ++ line ∷ []) field → (¬ IsNodeLine line × IsFieldGiven before field) ⊎ HasWordForField field line
given_split [] line field (inl none) = absurd none
given_split [] line field (inr here) = inr here.0
given_split (first ∷ before) line field (inl later) = elim (given_split before line field later) [ inl front ↦ inl (front.0, inl front.1) | inr last ↦ inr last ]
given_split (first ∷ before) line field (inr here) =
    inl (λ begins_with_text. here.1 (one_last IsNodeLine before line begins_with_text), inr (here.0, λ some. here.1 (one_front IsNodeLine before line some)))

some_more : (before : List (List ℕ)) (line : List ℕ) → (before ++ line ∷ []) ≢ []
some_more [] line = λ e. cc
some_more (first ∷ before) line = λ e. cc

-- ---- fields by their numbers

register_at : ℕ → Field
register_at n =
    cond (n == 0) A (cond (n == 1) B (cond (n == 2) P (cond (n == 3) I (cond (n == 4) Io (cond (n == 5) Carry (cond (n == 6) Slot (cond (n == 7) Wait Stop)))))))

field_at : ℕ → Field
field_at n = cond (nat_lt n 9) (register_at n) (cond (nat_lt n 19) (Data (n - 9)) (cond (nat_lt n 28) (Return (n - 19)) (cond (nat_lt n 92) (Ram (n - 28)) (Rom (n - 92)))))

named : (field : Field) → IsFieldWithinBank field → field_at (field_number field) ≡ field
unfolding field_at register_at
named A cell = refl
named B cell = refl
named P cell = refl
named I cell = refl
named Io cell = refl
named Carry cell = refl
named Slot cell = refl
named Wait cell = refl
named Stop cell = refl
named (Data c) cell =
    let t9 : nat_lt (9 + c) 9 ≡ false = grind (arith, nat_tests) in
    let t19 : nat_lt (9 + c) 19 ≡ true = grind (arith, nat_tests) in
    let same : 9 + c - 9 ≡ c = omega arith in
    rw (t9, t19, same) refl
named (Return c) cell =
    let t9 : nat_lt (19 + c) 9 ≡ false = grind (arith, nat_tests) in
    let t19 : nat_lt (19 + c) 19 ≡ false = grind (arith, nat_tests) in
    let t28 : nat_lt (19 + c) 28 ≡ true = grind (arith, nat_tests) in
    let same : 19 + c - 19 ≡ c = omega arith in
    rw (t9, t19, t28, same) refl
named (Ram c) cell =
    let t9 : nat_lt (28 + c) 9 ≡ false = grind (arith, nat_tests) in
    let t19 : nat_lt (28 + c) 19 ≡ false = grind (arith, nat_tests) in
    let t28 : nat_lt (28 + c) 28 ≡ false = grind (arith, nat_tests) in
    let t92 : nat_lt (28 + c) 92 ≡ true = grind (arith, nat_tests) in
    let same : 28 + c - 28 ≡ c = omega arith in
    rw (t9, t19, t28, t92, same) refl
named (Rom c) cell =
    let t9 : nat_lt (92 + c) 9 ≡ false = grind (arith, nat_tests) in
    let t19 : nat_lt (92 + c) 19 ≡ false = grind (arith, nat_tests) in
    let t28 : nat_lt (92 + c) 28 ≡ false = grind (arith, nat_tests) in
    let t92 : nat_lt (92 + c) 92 ≡ false = grind (arith, nat_tests) in
    let same : 92 + c - 92 ≡ c = omega arith in
    rw (t9, t19, t28, t92, same) refl

same_field : (f g : Field) → IsFieldWithinBank f → IsFieldWithinBank g → field_number f ≡ field_number g → f ≡ g
same_field f g first second same = sym (named f first) ∙ ap field_at same ∙ named g second

number_below : (field : Field) → IsFieldWithinBank field → field_number field < 156
number_below A cell = omega arith
number_below B cell = omega arith
number_below P cell = omega arith
number_below I cell = omega arith
number_below Io cell = omega arith
number_below Carry cell = omega arith
number_below Slot cell = omega arith
number_below Wait cell = omega arith
number_below Stop cell = omega arith
number_below (Data k) cell = omega arith
number_below (Return k) cell = omega arith
number_below (Ram c) cell = omega arith
number_below (Rom c) cell = omega arith

-- one of the words is for the field of this number
abbrev any_numbered : ℕ → List (Field × ℕ) → Bool
any_numbered n [] = false
any_numbered n (w ∷ ws) = nat_eq (field_number w.0) n || any_numbered n ws

either : (x y z : Bool) → (x ≡ true → z ≡ true) → (x ≡ false → z ≡ y) → z ≡ (y || x)
either true true z p q = p refl
either true false z p q = p refl
either false true z p q = q refl
either false false z p q = q refl

or_assoc : (x y z : Bool) → ((x || y) || z) ≡ (x || (y || z))
or_assoc true y z = refl
or_assoc false y z = refl

-- what is marked is what was marked, and these
marked_or : (given : List Bool) (n : ℕ) (ws : List (Field × ℕ)) → length given ≡ 156 → AllByRecursion (λ w. IsFieldWithinBank w.0) ws → get_or (marked given ws) n false ≡ (get_or given n false || any_numbered n ws)
marked_or given n [] size cells = either false (get_or given n false) (get_or given n false) (λ e. cc) (λ e. refl)
marked_or given n (w ∷ ws) size cells =
    let rest = marked_or (set given (field_number w.0) true) n ws (length-set given (field_number w.0) true ∙ size) cells.1 in
    let below : field_number w.0 < length given = let less = number_below w.0 cells.0 in omega (arith, size) in
    let here : get_or (set given (field_number w.0) true) n false ≡ (get_or given n false || nat_eq (field_number w.0) n) =
    either (nat_eq (field_number w.0) n) (get_or given n false) (get_or (set given (field_number w.0) true) n false)
    (λ is. subst (λ (k : ℕ). get_or (set given (field_number w.0) true) k false ≡ true) (eqb-true (field_number w.0) n is) (get_or-set_same given (field_number w.0) true false below))
    (λ isn't. elim (eqb_tells (field_number w.0) n) [
      | inl same ↦ let never : true ≡ false = sym same.0 ∙ isn't in cc
      | inr other ↦ get_or-set_other given (field_number w.0) n true false (λ e. other.1 (sym e))
    ]) in
    rest ∙ ap (λ b. b || any_numbered n ws) here ∙ or_assoc (get_or given n false) (nat_eq (field_number w.0) n) (any_numbered n ws)

is_numbered : (f g : Field) → IsFieldWithinBank f → IsFieldWithinBank g → Decides (nat_eq (field_number f) (field_number g)) (f ≡ g)
is_numbered f g first second = (
  λ e. same_field f g first second (eqb-true (field_number f) (field_number g) e),
  λ e. elim (eqb_tells (field_number f) (field_number g)) [ inl same ↦ same.0 | inr other ↦ absurd (other.1 (ap field_number e)) ],
)

numbered : (field : Field) (ws : List (Field × ℕ)) → IsFieldWithinBank field → AllByRecursion (λ w. IsFieldWithinBank w.0) ws → Decides (any_numbered (field_number field) ws) (HoldsForSomeElement (λ w. w.0 ≡ field) ws)
numbered field [] cell cells = (λ e. cc, λ none. absurd none)
numbered field (w ∷ ws) cell cells = Decides-or _ _ (is_numbered w.0 field cells.0 cell) (numbered field ws cell cells.1)

-- ---- the state after a line without fault

not_ended : (st : ImageReadStage) (f : LineForm) (before : List (List ℕ)) → st ≢ stage.Header → StandsAt st before → is_misplaced_line st (Some f) ≡ false → ¬ HoldsForSomeElement IsEndLine before
not_ended stage.Header f before behind stands placed = absurd (behind refl)
not_ended stage.Open f before behind stands placed = stands.1
not_ended (stage.Block node) f before behind stands placed = stands.1
not_ended stage.Ended f before behind stands placed = cc

-- the blocks are unchanged after a line that begins none
blocks_kept : (progress : ImageReadProgress) (before : List (List ℕ)) (line : List ℕ) → IsAfter progress before → ((decimal_name : ℕ) → ¬ IsLineBeginningNode decimal_name line)
    → (decimal_name n : ℕ) → node_number_of_name decimal_name ≡ Some n → Decides (get_or progress.blocks n false) (HoldsForSomeElement (IsLineBeginningNode decimal_name) (before ++ line ∷ []))
blocks_kept progress before line after other decimal_name n is =
    Decides-like (get_or progress.blocks n false) (one_front (IsLineBeginningNode decimal_name) before line)
    (λ some. elim (one_split (IsLineBeginningNode decimal_name) before line some) [ inl front ↦ front | inr last ↦ absurd (other decimal_name last) ]) (after.blocks decimal_name n is)

-- the format is that of the first line
format_more : (before : List (List ℕ)) (line : List ℕ) → before ≢ [] → format_of_first_line before ≡ format_of_first_line (before ++ line ∷ [])
format_more [] line some = absurd (some refl)
format_more (first ∷ before) line some = refl

format_kept : (progress : ImageReadProgress) (before : List (List ℕ)) (line : List ℕ) → IsAfter progress before → progress.stage ≢ stage.Header → progress.format ≡ format_of_first_line (before ++ line ∷ [])
format_kept progress before line after behind =
    let some = later progress.stage before behind after.stands in after.format some ∙ format_more before line some

fields_more : (lines : List (List ℕ)) (line : List ℕ) (field_lines : List (Field × List ℕ)) (field : Field) (words : List ℕ) → AreTextsOfFieldLines lines field_lines → IsLineFormText line (Words field words) → AreTextsOfFieldLines (lines ++ line ∷ []) (field_lines ++ (field, words) ∷ [])
fields_more [] line [] field words each last = (last, tt)
fields_more [] line (f ∷ fs) field words each last = absurd each
fields_more (first ∷ lines) line [] field words each last = absurd each
fields_more (first ∷ lines) line (f ∷ fs) field words each last = (each.0, fields_more lines line fs field words each.1 last)

lines_more : (before : List (List ℕ)) (line : List ℕ) (field_lines : List (Field × List ℕ)) (field : Field) (words : List ℕ) → HasLastBlockFieldLines before field_lines → IsLineFormText line (Words field words) → HasLastBlockFieldLines (before ++ line ∷ []) (field_lines ++ (field, words) ∷ [])
lines_more [] line field_lines field words none last = absurd none
lines_more (first ∷ before) line field_lines field words (inl later) last = inl (lines_more before line field_lines field words later last)
lines_more (first ∷ before) line field_lines field words (inr here) last = inr (here.0, fields_more before line field_lines field words here.1 last)

lines_begun : (before : List (List ℕ)) (line : List ℕ) → IsNodeLine line → HasLastBlockFieldLines (before ++ line ∷ []) []
lines_begun [] line begins_with_text = inr (begins_with_text, tt)
lines_begun (first ∷ before) line begins_with_text = inl (lines_begun before line begins_with_text)

held_more : (held : RunState) (field_lines : List (Field × List ℕ)) (field : Field) (words : List ℕ) → run_state_after_words (run_state_after_words held (field_line_writes field_lines)) (fields_with_words field words) ≡ run_state_after_words held (field_line_writes (field_lines ++ (field, words) ∷ []))
held_more held [] field words = ap (run_state_after_words held) (sym (append-nil (fields_with_words field words)))
held_more held (f ∷ fs) field words =
    ap (λ h. run_state_after_words h (fields_with_words field words)) (held-append held (fields_with_words f.0 f.1) (field_line_writes fs))
    ∙ held_more (run_state_after_words held (fields_with_words f.0 f.1)) fs field words
    ∙ sym (held-append held (fields_with_words f.0 f.1) (field_line_writes (fs ++ (field, words) ∷ [])))

after_end : (progress : ImageReadProgress) (before : List (List ℕ)) (line : List ℕ) → IsAfter progress before → progress.stage ≢ stage.Header → IsLineFormText line End → IsAfter (record progress { stage = stage.Ended }) (before ++ line ∷ [])
after_end progress before line after behind end = record {
  stands = (some_more before line, one_last IsEndLine before line end);
  sized = record { blocks = after.sized.blocks; given = after.sized.given };
  blocks = blocks_kept progress before line after (λ decimal_name begins_with_text. node_no_end line decimal_name begins_with_text end);
  given = λ node e. absurd (let never : stage.Ended ≡ stage.Block node = e in let clash : true ≡ false = cc in cc);
  format = λ some. format_kept progress before line after behind;
  held = λ node e. absurd (let never : stage.Ended ≡ stage.Block node = e in let clash : true ≡ false = cc in cc);
}

after_header : (progress : ImageReadProgress) (before : List (List ℕ)) (line : List ℕ) → IsAfter progress before → progress.stage ≡ stage.Header → line ≡ header_of_format (format_of_header line) → IsAfter (record progress { format = format_of_header line; stage = stage.Open }) (before ++ line ∷ [])
after_header progress before line after is first =
    let formless = header_formless line (format_of_header line) first in
    let none : before ≡ [] = let Q : ImageReadStage → Type 0 = λ st. StandsAt st before in subst Q is after.stands in
    let no_line : (Holds : List ℕ → Type 0) → ¬ HoldsForSomeElement Holds before = λ Holds some. let Q : List (List ℕ) → Type 0 = HoldsForSomeElement Holds in absurd (subst Q none some) in
    record {
      stands = (
        some_more before line,
        none_more IsEndLine before line (λ some. no_line IsEndLine some) (formless End),
        none_more IsNodeLine before line (λ some. no_line IsNodeLine some) (λ begins_with_text. formless (Node begins_with_text.0) begins_with_text.1),
      );
      sized = record { blocks = after.sized.blocks; given = after.sized.given };
      blocks = blocks_kept progress before line after (λ decimal_name begins_with_text. formless (Node decimal_name) begins_with_text);
      given = λ node e. absurd (let never : stage.Open ≡ stage.Block node = e in let clash : true ≡ false = cc in cc);
      format = λ some. ap (λ (b : List (List ℕ)). format_of_first_line (b ++ line ∷ [])) (sym none);
      held = λ node e. absurd (let never : stage.Open ≡ stage.Block node = e in let clash : true ≡ false = cc in cc);
    }

in_node : (y n m k : ℕ) → node_number_of_name y ≡ Some n → node_number_of_name m ≡ Some k → n ≡ k → y ≡ m
in_node y n m k first second same =
    (yxx_of_node y n first).0 ∙ ap decimal_name_of_node same ∙ sym (yxx_of_node m k second).0

after_node : (progress : ImageReadProgress) (before : List (List ℕ)) (line : List ℕ) (y n : ℕ) → IsAfter progress before → IsLineFormText line (Node y) → progress.stage ≢ stage.Header
    → is_misplaced_line progress.stage (Some (Node y)) ≡ false → node_number_of_name y ≡ Some n
    → IsAfter (record progress { stage = stage.Block n; blocks = set progress.blocks n true; given = no_fields_given; held = run_state_at_load }) (before ++ line ∷ [])
after_node progress before line y n after spelled behind placed is =
    let within : n < length progress.blocks = let small = (yxx_of_node y n is).1 in omega (arith, after.sized.blocks) in
    record {
      stands = (
        some_more before line,
        none_more IsEndLine before line (not_ended progress.stage (Node y) before behind after.stands placed) (node_no_end line y spelled),
        one_last IsNodeLine before line (y, spelled),
      );
      sized = record { blocks = length-set progress.blocks n true ∙ after.sized.blocks; given = refl };
      format = λ some. format_kept progress before line after behind;
      held = λ node e. ([], lines_begun before line (y, spelled), refl);
      blocks = λ m k names. elim (eqb_tells n k) [
        | inl same ↦
            let number : y ≡ m = in_node y n m k is names same.1 in (
              λ e. let Q : ℕ → Type 0 = λ v. IsLineFormText line (Node v) in one_last (IsLineBeginningNode m) before line (subst Q number spelled),
              λ some. subst (λ (v : ℕ). get_or (set progress.blocks n true) v false ≡ true) same.1 (get_or-set_same progress.blocks n true false within),
            )
        | inr other ↦
            Decides-at _ _ (get_or-set_other progress.blocks n k true false (λ e. other.1 (sym e)))
            (Decides-like (get_or progress.blocks k false) (one_front (IsLineBeginningNode m) before line)
            (λ some. elim (one_split (IsLineBeginningNode m) before line some) [
              | inl front ↦ front
              | inr last ↦
                  let forms : Node y ≡ Node m = one_form line _ _ spelled last in
                  let number : y ≡ m = cc in
                  let numbers : Some n ≡ Some k = sym is ∙ ap node_number_of_name number ∙ names in
                  let same : n ≡ k = cc in absurd (other.1 same)
            ])
            (after.blocks m k names))
      ];
      given = λ node e field cell. Decides-at _ _ (none_flagged 156 (field_number field)) (
        λ never. cc,
        λ was. elim (given_split before line field was) [
          | inl front ↦ absurd (front.0 (y, spelled))
          | inr last ↦ absurd (node_no_words line y last.0 last.1 spelled last.2)
        ],
      );
    }

after_words : (progress : ImageReadProgress) (before : List (List ℕ)) (line : List ℕ) (node : ℕ) (field : Field) (words : List ℕ) → IsAfter progress before → IsLineFormText line (Words field words)
    → progress.stage ≡ stage.Block node → row_exceeds_bank field (length words) ≡ false → IsAfter (progress_with_field_writes progress (fields_with_words field words)) (before ++ line ∷ [])
after_words progress before line node field words after spelled is inside =
    let ws = fields_with_words field words in
    let cells = each_has_cell field words inside in
    let Q : ImageReadStage → Type 0 = λ st. StandsAt st before in
    let stood = subst Q is after.stands in
    let R : ImageReadStage → Type 0 = λ st. StandsAt st (before ++ line ∷ []) in
    let no_node : ¬ IsNodeLine line = λ begins_with_text. node_no_words line begins_with_text.0 field words begins_with_text.1 spelled in
    let stands = subst R (sym is) (some_more before line, none_more IsEndLine before line stood.1 (λ end. end_no_words line field words end spelled), one_front IsNodeLine before line stood.2) in
    subst (λ (p : ImageReadProgress). IsAfter p (before ++ line ∷ [])) (sym (all_written progress ws)) (record {
      stands = stands;
      sized = record { blocks = after.sized.blocks; given = length-marked progress.given ws ∙ after.sized.given };
      format = λ some. format_kept progress before line after (rw is (λ e. cc));
      held = λ n at.
          let was = after.held n at in (
            was.0 ++ (field, words) ∷ [],
            lines_more before line was.0 field words was.1 spelled,
            ap (λ h. run_state_after_words h ws) was.2 ∙ held_more run_state_at_load was.0 field words,
          );
      blocks = blocks_kept progress before line after (λ decimal_name begins_with_text. no_node (decimal_name, begins_with_text));
      given = λ other e g cell.
          Decides-at _ _ (marked_or progress.given (field_number g) ws after.sized.given cells)
          (Decides-like _
          (λ either. elim either [ inl front ↦ given_front before line g no_node front | inr last ↦ given_last before line g (field, words, spelled, last) ])
          (λ was. elim (given_split before line g was) [
            | inl front ↦ inl front.1
            | inr last ↦
                let forms : Words last.0 last.1 ≡ Words field words = one_form line _ _ last.2 spelled in
                let fields : last.0 ≡ field = cc in
                let word_lists : last.1 ≡ words = cc in
                let U : List ℕ → Type 0 = λ vs. HoldsForSomeElement (λ w. w.0 ≡ g) (fields_with_words field vs) in
                let V : Field → Type 0 = λ f. HoldsForSomeElement (λ w. w.0 ≡ g) (fields_with_words f last.1) in
                inr (subst U word_lists (subst V fields last.3))
          ])
          (Decides-or _ _ (after.given node is g cell) (numbered g ws cell cells)));
    })

after_form_of : (progress : ImageReadProgress) (before : List (List ℕ)) (line : List ℕ) (f : LineForm) → IsAfter progress before → IsLineFormText line f → progress.stage ≢ stage.Header
    → fault_after_header progress (Some f) ≡ None → IsAfter (progress_after_line_form progress (Some f)) (before ++ line ∷ [])
after_form_of progress before line End after spelled behind none = after_end progress before line after behind spelled
after_form_of progress before line (Node y) after spelled behind none =
    let ok = node_ok progress y none in
    let placed = (neither (is_misplaced_line progress.stage (Some (Node y))) _ _ none).0 in
    let Q : Option ℕ → Type 0 = λ o. IsAfter (progress_with_block progress o) (before ++ line ∷ []) in
    subst Q (sym ok.1) (after_node progress before line y ok.0 after spelled behind placed ok.1)
after_form_of progress before line (Words field words) after spelled behind none =
    let placed = (neither (is_misplaced_line progress.stage (Some (Words field words))) _ _ none).0 in
    let block = in_block progress.stage field words placed in
    after_words progress before line block.0 field words after spelled block.1 (in_memory field (length words) (field_ok progress field words none).0.0)

header_line : (st : ImageReadStage) (progress : ImageReadProgress) (line : List ℕ) → st ≡ stage.Header → line_fault st progress line ≡ None → line ≡ header_of_format (format_of_header line)
header_line stage.Header progress line is none = header_named line (accepted (is_header line) none) where
  accepted : (b : Bool) → cond b None (Some cause.WrongHeader) ≡ None → b ≡ true
  accepted true e = refl
  accepted false e = cc
header_line stage.Open progress line is none = cc
header_line (stage.Block node) progress line is none = cc
header_line stage.Ended progress line is none = cc

-- a line without fault leads to the state after it
pub after_one : (progress : ImageReadProgress) (before : List (List ℕ)) (line : List ℕ) → IsAfter progress before → first_fault_of_line progress line ≡ None → IsAfter (progress_after_line progress line) (before ++ line ∷ [])
after_one progress before line after none =
    let Q : ImageReadProgress → Type 0 = λ p. IsAfter p (before ++ line ∷ []) in
    elim (known progress.stage) [
      | inl is ↦ subst Q (sym (past_start progress line is)) (after_header progress before line after is (header_line progress.stage progress line is (not_short progress line none)))
      | inr later ↦
          let none_later : fault_after_header progress (form_in_format progress.format line) ≡ None = sym (line_later progress.stage progress line later) ∙ not_short progress line none in
          let placed = neither (is_misplaced_line progress.stage (form_in_format progress.format line)) _ _ none_later in
          let meaning = some_form progress.stage (form_in_format progress.format line) later placed.0 in
          let fault : fault_after_header progress (Some meaning.0) ≡ None = ap (fault_after_header progress) (sym meaning.1) ∙ none_later in
          let past : progress_after_line progress line ≡ progress_after_line_form progress (Some meaning.0) = short_past progress line ∙ past_later progress.stage progress line later ∙ ap (progress_after_line_form progress) meaning.1 in
          subst Q (sym past) (after_form_of progress before line meaning.0 after (kept_spelled progress.format line meaning.0 meaning.1).0 later fault)
    ]

-- before the first line
pub after_none : IsAfter initial_read_progress []
unfolding initial_read_progress
after_none = record {
  stands = refl;
  sized = record { blocks = refl; given = refl };
  blocks = λ decimal_name n is. Decides-at _ _ (none_flagged 144 n) (λ never. cc, λ none. absurd none);
  given = λ node e. absurd (let never : stage.Header ≡ stage.Block node = e in let clash : true ≡ false = cc in cc);
  format = λ some. absurd (some refl);
  held = λ node e. absurd (let never : stage.Header ≡ stage.Block node = e in let clash : true ≡ false = cc in cc);
}
