-- What is read is in the grammar.
use Rattle.ga_image.specs.declared.fault.ImageFaultCause.TheVariants as cause
use Rattle.ga_image.specs.Reading as stage
use Rattle.std.specs.Prelude.{nat_lt, is_none, IfOk}
use Rattle.std.specs.List.{AllByRecursion, list_any}
use Rattle.std.proofs.Common.{◌≡◌, ◌≢◌, ℕ, ◌+◌, ◌*◌, ◌/◌, ◌%◌, ◌<◌, ◌≤◌, inl, inr, Bool, true, false, cond, ◌&&◌, ◌||◌, ◌⊎◌, List, [], ◌∷◌, ◌++◌, length, map, flat_map, get_or, set, Option, Some, None, Result, Ok, refl, sym, ◌∙◌, ap, subst, arith, append_assoc, Err}
use Rattle.std.proofs.lemmas.Bool.Decides.{nat_tests}
use Rattle.std.proofs.lemmas.Slice.Eq.{bytes_eq-Decides}
use Rattle.ga_node.specs.Record.{NodeState}
use Rattle.ga_grid.specs.Grid.{node_number_of_name, decimal_name_of_node}
use Rattle.ga_image.specs.declared.field.Field.{Field}
use Rattle.ga_image.specs.declared.field.Field.TheVariants.{A, B, P, I, Io, Carry, Slot, Wait, Stop, Data, Return, Ram, Rom}
use Rattle.ga_image.specs.declared.field.Format.{Format}
use Rattle.ga_image.specs.declared.field.Format.TheVariants.{One, Two}
use Rattle.ga_image.specs.declared.field.RunState.{RunState}
use Rattle.ga_image.specs.declared.fault.ImageFault.{ImageFault}
use Rattle.ga_image.specs.declared.fault.ImageFaultCause.{ImageFaultCause}
use Rattle.ga_text.specs.Lines.{max_input_line}
use Rattle.ga_image.specs.Grammar.{chip_with_word, header_of_format, is_header_of_format, format_of_header, NodeBlock, field_line_form, line_forms_of_block, field_line_writes, IsRowWithinBank, IsFieldLineInRange, IsBlockOfGridNode, chip_with_words, chip_with_blocks, IsImage}
use Rattle.ga_image.specs.Reading.{ImageReadProgress, ImageReadStage, block_node_of_stage, read_result_of_lines, fault_or_result, result_at_image_end, first_fault_of_line, line_fault, fault_after_header, node_line_fault, field_line_fault, is_misplaced_line, ends_inconsistent_block, form_in_format, progress_after_line, progress_after_line_form, progress_with_block, initial_read_progress, no_fields_given, is_header, node_has_block, IsReadResultUnlessOutOfMemory}
use Rattle.ga_image.specs.Spelling.{LineForm, Node, Words, End}
use Rattle.ga_image.specs.Fields.{run_state_at_load, run_state_with_field_write, run_state_after_words, is_inconsistent_run_state, fields_with_words, has_repeated_field, row_exceeds_bank, has_too_great_word, greatest_field_word}
use Rattle.ga_image.proofs.Spellings.{forms_spelled}
use Rattle.ga_image.proofs.Meanings.{seen_twice, AreBelow, once_apart, or_false, reads, marked, has_repeated_field-append, line_later, past_later, still_later, short_past, same_format, numbers, repeats_numbers, fields_below, all_written, opened, opened_ready, nodes_below, image_read}

-- a line that is not refused has no fault
pub passed : (fault : Option ImageFaultCause) (line : ℕ) (others : Result (List NodeState) ImageFault) (chip : List NodeState) → fault_or_result fault line others ≡ Ok chip → (fault ≡ None) × (others ≡ Ok chip)
passed None line others chip e = (refl, e)
passed (Some c) line others chip e = cc

goes_on : (fault : Option ImageFaultCause) (line : ℕ) (others : Result (List NodeState) ImageFault) → fault ≡ None → fault_or_result fault line others ≡ others
goes_on fault line others none = rw none refl

both : {A : Type 0} (x y : A) (xs ys : List A) → x ≡ y → xs ≡ ys → x ∷ xs ≡ y ∷ ys
both x y xs ys p q = cc

-- a test that doesn't hold is passed over
pub neither : (b : Bool) (c : ImageFaultCause) (others : Option ImageFaultCause) → cond b (Some c) others ≡ None → (b ≡ false) × (others ≡ None)
neither true c others e = cc
neither false c others e = (refl, e)

-- a line without fault is not too long
pub not_short : (progress : ImageReadProgress) (text : List ℕ) → first_fault_of_line progress text ≡ None → line_fault progress.stage progress text ≡ None
unfolding first_fault_of_line
not_short progress text e = (neither (nat_lt max_input_line (length text)) cause.LineTooLong (line_fault progress.stage progress text) e).1

-- a line that is not misplaced has a form
pub some_form : (st : ImageReadStage) (found : Option LineForm) → st ≢ stage.Header → is_misplaced_line st found ≡ false → (f : LineForm) × (found ≡ Some f)
some_form stage.Header found later e = absurd (later refl)
some_form stage.Open None later e = cc
some_form (stage.Block node) None later e = cc
some_form stage.Ended None later e = cc
some_form stage.Open (Some f) later e = (f, refl)
some_form (stage.Block node) (Some f) later e = (f, refl)
some_form stage.Ended (Some f) later e = (f, refl)

-- lines that are read have meanings
pub line_forms_after_header : (lines : List (List ℕ)) (progress : ImageReadProgress) (format : Format) (line : ℕ) (chip : List NodeState) → progress.stage ≢ stage.Header → progress.format ≡ format → read_result_of_lines progress line lines ≡ Ok chip
    → (forms : List LineForm) × (map (form_in_format format) lines ≡ map (λ f. Some f) forms) × (reads progress line forms ≡ Ok chip)
unfolding read_result_of_lines
line_forms_after_header [] progress format line chip later is e = ([], refl, e)
line_forms_after_header (text ∷ lines) progress format line chip later is e =
    let parts = passed (first_fault_of_line progress text) line (read_result_of_lines (progress_after_line progress text) (line + 1) lines) chip e in
    let none : fault_after_header progress (form_in_format progress.format text) ≡ None = sym (line_later progress.stage progress text later) ∙ not_short progress text parts.0 in
    let placed = neither (is_misplaced_line progress.stage (form_in_format progress.format text)) cause.InvalidLine _ none in
    let meaning = some_form progress.stage (form_in_format progress.format text) later placed.0 in
    let past : progress_after_line progress text ≡ progress_after_line_form progress (Some meaning.0) = short_past progress text ∙ past_later progress.stage progress text later ∙ ap (progress_after_line_form progress) meaning.1 in
    let onward : read_result_of_lines (progress_after_line_form progress (Some meaning.0)) (line + 1) lines ≡ Ok chip = ap (λ f. read_result_of_lines f (line + 1) lines) (sym past) ∙ parts.1 in
    let rest = line_forms_after_header lines (progress_after_line_form progress (Some meaning.0)) format (line + 1) chip (still_later progress meaning.0 later) (same_format progress meaning.0 ∙ is) onward in
    let fault : fault_after_header progress (Some meaning.0) ≡ None = ap (fault_after_header progress) (sym meaning.1) ∙ none in
    (meaning.0 ∷ rest.0, both _ _ _ _ (ap (λ g. form_in_format g text) (sym is) ∙ meaning.1) rest.1, goes_on _ line _ fault ∙ rest.2)

pub named : (found : Option ℕ) → is_none found ≡ false → (n : ℕ) × (found ≡ Some n)
named None e = cc
named (Some n) e = (n, refl)

-- a line that begins a block without fault
pub node_ok : (progress : ImageReadProgress) (y : ℕ) → fault_after_header progress (Some (Node y)) ≡ None → (n : ℕ) × (node_number_of_name y ≡ Some n) × (get_or progress.blocks n false ≡ false)
unfolding node_line_fault
node_ok progress y none =
    let tests = neither (is_misplaced_line progress.stage (Some (Node y))) cause.InvalidLine _ none in
    let steady = neither (ends_inconsistent_block progress.stage progress.held (Some (Node y))) cause.State (node_line_fault progress y) tests.1 in
    let first = neither (is_none (node_number_of_name y)) cause.UnknownNode _ steady.1 in
    let second = neither (node_has_block progress (node_number_of_name y)) cause.RepeatedNodeOrField None first.1 in
    let node = named (node_number_of_name y) first.0 in
    (node.0, node.1, ap (node_has_block progress) (sym node.1) ∙ second.0)

pub within : (field : Field) (count : ℕ) → row_exceeds_bank field count ≡ false → IsRowWithinBank field count
within A count e = tt
within B count e = tt
within P count e = tt
within I count e = tt
within Io count e = tt
within Carry count e = tt
within Slot count e = tt
within Wait count e = tt
within Stop count e = tt
within (Data k) count e = grind (arith, nat_tests)
within (Return k) count e = grind (arith, nat_tests)
within (Ram cell) count e = grind (arith, nat_tests)
within (Rom cell) count e = grind (arith, nat_tests)

smalls : (most : ℕ) (words : List ℕ) → list_any (λ word. nat_lt most word) words ≡ false → AllByRecursion (λ word. word ≤ most) words
smalls most [] e = tt
smalls most (word ∷ words) e =
    let parts = or_false (nat_lt most word) (list_any (λ w. nat_lt most w) words) e in
    let here : word ≤ most = let h = parts.0 in grind (arith, nat_tests) in
    (here, smalls most words parts.1)

-- a field line without fault
pub field_ok : (progress : ImageReadProgress) (field : Field) (words : List ℕ) → fault_after_header progress (Some (Words field words)) ≡ None → IsFieldLineInRange (field, words) × (has_repeated_field progress.given (fields_with_words field words) ≡ false)
unfolding field_line_fault
field_ok progress field words none =
    let tests = neither (is_misplaced_line progress.stage (Some (Words field words))) cause.InvalidLine _ none in
    let steady = neither (ends_inconsistent_block progress.stage progress.held (Some (Words field words))) cause.State (field_line_fault progress field words) tests.1 in
    let first = neither (row_exceeds_bank field (length words)) cause.Place _ steady.1 in
    let second = neither (has_too_great_word field words) cause.WordOutOfRange _ first.1 in
    let third = neither (has_repeated_field progress.given (fields_with_words field words)) cause.RepeatedNodeOrField None second.1 in
    ((within field (length words) first.0, smalls (greatest_field_word field) words second.0), third.0)

choice : (b : Bool) (x n : ℕ) → cond b (Some x) None ≡ Some n → (b ≡ true) × (x ≡ n)
choice true x n e = let same : x ≡ n = cc in (refl, same)
choice false x n e = cc

pub sizes : (x y : Bool) → (x && y) ≡ true → (x ≡ true) × (y ≡ true)
sizes true y e = (refl, e)
sizes false y e = cc

-- a number below 144 and its row and column
pub yxx_of_node : (y n : ℕ) → node_number_of_name y ≡ Some n → (y ≡ decimal_name_of_node n) × (n < 144)
yxx_of_node y n e =
    let test = choice (nat_lt (y / 100) 8 && nat_lt (y % 100) 18) (18 * (y / 100) + y % 100) n e in
    let small = sizes (nat_lt (y / 100) 8) (nat_lt (y % 100) 18) test.0 in
    let row : y / 100 < 8 = let h = small.0 in grind (arith, nat_tests) in
    let column : y % 100 < 18 = let h = small.1 in grind (arith, nat_tests) in
    let whole : 18 * (y / 100) + y % 100 ≡ n = test.1 in
    let high : n / 18 ≡ y / 100 = omega arith in
    let low : n % 18 ≡ y % 100 = omega arith in
    (omega arith, omega arith)

-- after the header and before the end
abbrev pub IsOpened : ImageReadProgress → Type 0
IsOpened progress = (progress.stage ≡ stage.Open) ⊎ ((node : ℕ) × (progress.stage ≡ stage.Block node))

-- what is left of an image, from within it
record Rest (progress : ImageReadProgress) (forms : List LineForm) (chip : List NodeState) : Type 0 where
  field_lines : List (Field × List ℕ)
  blocks : List NodeBlock
  spelled : forms ≡ map field_line_form field_lines ++ (flat_map line_forms_of_block blocks ++ End ∷ [])
  unopened : progress.stage ≡ stage.Open → field_lines ≡ []
  steady : (node : ℕ) → progress.stage ≡ stage.Block node → is_inconsistent_run_state (run_state_after_words progress.held (field_line_writes field_lines)) ≡ false
  each_field : AllByRecursion IsFieldLineInRange field_lines
  once : has_repeated_field progress.given (field_line_writes field_lines) ≡ false
  each : AllByRecursion IsBlockOfGridNode blocks
  apart : seen_twice progress.blocks (map (λ b. b.node) blocks) ≡ false
  describes : chip ≡ chip_with_blocks (chip_with_words (block_node_of_stage progress.stage) progress.chip (field_line_writes field_lines)) blocks

cut : (progress : ImageReadProgress) (line : ℕ) (chip : List NodeState) → IsOpened progress → result_at_image_end progress.stage progress.chip line ≡ Ok chip → ⊥
cut progress line chip (inl is) e = let never : result_at_image_end stage.Open progress.chip line ≡ Ok chip = subst (λ (s : ImageReadStage). result_at_image_end s progress.chip line ≡ Ok chip) is e in cc
cut progress line chip (inr (node, is)) e = let never : result_at_image_end (stage.Block node) progress.chip line ≡ Ok chip = subst (λ (s : ImageReadStage). result_at_image_end s progress.chip line ≡ Ok chip) is e in cc

-- nothing comes after the end
last : (forms : List LineForm) (progress : ImageReadProgress) (line : ℕ) (chip : List NodeState) → reads (record progress { stage = stage.Ended }) line forms ≡ Ok chip → (forms ≡ []) × (chip ≡ progress.chip)
last [] progress line chip e = let same : chip ≡ progress.chip = cc in (refl, same)
last (f ∷ forms) progress line chip e = cc

field_in_block : (progress : ImageReadProgress) (field : Field) (words : List ℕ) → IsOpened progress → fault_after_header progress (Some (Words field words)) ≡ None → (node : ℕ) × (progress.stage ≡ stage.Block node)
field_in_block progress field words (inr block) none = block
field_in_block progress field words (inl is) none =
    let at = (neither (is_misplaced_line progress.stage (Some (Words field words))) cause.InvalidLine _ none).0 in
    let never : true ≡ false = ap (λ s. is_misplaced_line s (Some (Words field words))) (sym is) ∙ at in
    cc

written-append : (node : ℕ) (chip : List NodeState) (xs ys : List (Field × ℕ)) → chip_with_words node chip (xs ++ ys) ≡ chip_with_words node (chip_with_words node chip xs) ys
written-append node chip [] ys = refl
written-append node chip (x ∷ xs) ys = written-append node (chip_with_word chip node x) xs ys

pub held-append : (held : RunState) (xs ys : List (Field × ℕ)) → run_state_after_words held (xs ++ ys) ≡ run_state_after_words (run_state_after_words held xs) ys
held-append held [] ys = refl
held-append held (x ∷ xs) ys = held-append (run_state_with_field_write held x) xs ys

-- a block that ends without fault is consistent
ended_steady : (st : ImageReadStage) (held : RunState) (node : ℕ) → ends_inconsistent_block st held (Some End) ≡ false → st ≡ stage.Block node → is_inconsistent_run_state held ≡ false
ended_steady st held node e is = ap (λ s. ends_inconsistent_block s held (Some End)) (sym is) ∙ e

left_steady : (st : ImageReadStage) (held : RunState) (node y : ℕ) → ends_inconsistent_block st held (Some (Node y)) ≡ false → st ≡ stage.Block node → is_inconsistent_run_state held ≡ false
left_steady st held node y e is = ap (λ s. ends_inconsistent_block s held (Some (Node y))) (sym is) ∙ e

rest_of : (forms : List LineForm) (progress : ImageReadProgress) (line : ℕ) (chip : List NodeState) → IsOpened progress → reads progress line forms ≡ Ok chip → Rest progress forms chip
rest_of [] progress line chip ready e = absurd (cut progress line chip ready e)
rest_of (End ∷ forms) progress line chip ready e =
    let parts = passed (fault_after_header progress (Some End)) line (reads (progress_after_line_form progress (Some End)) (line + 1) forms) chip e in
    let after = last forms progress (line + 1) chip parts.1 in
    let tests = neither (is_misplaced_line progress.stage (Some End)) cause.InvalidLine _ parts.0 in
    let stood = neither (ends_inconsistent_block progress.stage progress.held (Some End)) cause.State _ tests.1 in
    record {
      field_lines = [];
      blocks = [];
      steady = λ node is. ended_steady progress.stage progress.held node stood.0 is;
      spelled = ap (λ fs. End ∷ fs) after.0;
      unopened = λ _. refl;
      each_field = tt;
      once = refl;
      each = tt;
      apart = refl;
      describes = after.1;
    }
rest_of (Node y ∷ forms) progress line chip ready e =
    let parts = passed (fault_after_header progress (Some (Node y))) line (reads (progress_after_line_form progress (Some (Node y))) (line + 1) forms) chip e in
    let ok = node_ok progress y parts.0 in
    let at = yxx_of_node y ok.0 ok.1 in
    let begun : ImageReadProgress = record progress { stage = stage.Block ok.0; blocks = set progress.blocks ok.0 true; given = no_fields_given; held = run_state_at_load } in
    let tests = neither (is_misplaced_line progress.stage (Some (Node y))) cause.InvalidLine _ parts.0 in
    let stood = neither (ends_inconsistent_block progress.stage progress.held (Some (Node y))) cause.State _ tests.1 in
    let is : progress_after_line_form progress (Some (Node y)) ≡ begun = ap (progress_with_block progress) ok.1 in
    let rest = rest_of forms begun (line + 1) chip (inr (ok.0, refl)) (ap (λ f. reads f (line + 1) forms) (sym is) ∙ parts.1) in
    let below = fields_below rest.field_lines rest.each_field in
    let apart = once_apart no_fields_given (numbers (field_line_writes rest.field_lines)) below (sym (repeats_numbers no_fields_given (field_line_writes rest.field_lines)) ∙ rest.once) in
    record {
      field_lines = [];
      blocks = record { node = ok.0; field_lines = rest.field_lines } ∷ rest.blocks;
      spelled = both _ _ _ _ (ap (λ (n : ℕ). Node n) at.0) (rest.spelled ∙ sym (append_assoc (map field_line_form rest.field_lines) (flat_map line_forms_of_block rest.blocks) (End ∷ [])));
      unopened = λ _. refl;
      steady = λ node is. left_steady progress.stage progress.held node y stood.0 is;
      each_field = tt;
      once = refl;
      each = (record { node = at.1; field_lines = rest.each_field; apart = apart.1; steady = rest.steady ok.0 refl }, rest.each);
      apart = rw ok.2 rest.apart;
      describes = rest.describes;
    }
rest_of (Words field words ∷ forms) progress line chip ready e =
    let parts = passed (fault_after_header progress (Some (Words field words))) line (reads (progress_after_line_form progress (Some (Words field words))) (line + 1) forms) chip e in
    let block = field_in_block progress field words ready parts.0 in
    let ok = field_ok progress field words parts.0 in
    let filled : ImageReadProgress = record progress { given = marked progress.given (fields_with_words field words); held = run_state_after_words progress.held (fields_with_words field words); chip = chip_with_words (block_node_of_stage progress.stage) progress.chip (fields_with_words field words) } in
    let is : progress_after_line_form progress (Some (Words field words)) ≡ filled = all_written progress (fields_with_words field words) in
    let rest = rest_of forms filled (line + 1) chip (inr block) (ap (λ f. reads f (line + 1) forms) (sym is) ∙ parts.1) in
    record {
      field_lines = (field, words) ∷ rest.field_lines;
      blocks = rest.blocks;
      spelled = ap (λ fs. Words field words ∷ fs) rest.spelled;
      unopened = λ begins_with_text. absurd (let never : stage.Open ≡ stage.Block block.0 = sym begins_with_text ∙ block.1 in cc);
      steady = λ node at. ap is_inconsistent_run_state (held-append progress.held (fields_with_words field words) (field_line_writes rest.field_lines)) ∙ rest.steady node at;
      each_field = (ok.0, rest.each_field);
      once = has_repeated_field-append progress.given (fields_with_words field words) (field_line_writes rest.field_lines) ∙ rw ok.1 rest.once;
      each = rest.each;
      apart = rest.apart;
      describes = rest.describes ∙ ap (λ c. chip_with_blocks c rest.blocks) (sym (written-append (block_node_of_stage progress.stage) progress.chip (fields_with_words field words) (field_line_writes rest.field_lines)));
    }

none_else : (b : Bool) (c : ImageFaultCause) → cond b None (Some c) ≡ None → b ≡ true
none_else true c e = refl
none_else false c e = cc

one_of_two : (b c : Bool) → (b || c) ≡ true → (b ≡ true) ⊎ ((b ≡ false) × (c ≡ true))
one_of_two true c e = inl refl
one_of_two false c e = inr (refl, e)

-- a header is that of the format that it names
pub header_of : (text : List ℕ) → is_header text ≡ true → (text ≡ header_of_format One) × (format_of_header text ≡ One) ⊎ (text ≡ header_of_format Two) × (format_of_header text ≡ Two)
header_of text e =
    elim (one_of_two (is_header_of_format text One) (is_header_of_format text Two) e) [
      | inl one ↦ inl ((bytes_eq-Decides text (header_of_format One)).0 one, rw one refl)
      | inr two ↦ inr ((bytes_eq-Decides text (header_of_format Two)).0 two.1, rw two.0 refl)
    ]

pub header_named : (text : List ℕ) → is_header text ≡ true → text ≡ header_of_format (format_of_header text)
header_named text e =
    elim (header_of text e) [
      | inl one ↦ one.0 ∙ ap header_of_format (sym one.1)
      | inr two ↦ two.0 ∙ ap header_of_format (sym two.1)
    ]

first_line_of : (text : List ℕ) (lines : List (List ℕ)) (chip : List NodeState) → read_result_of_lines initial_read_progress 1 (text ∷ lines) ≡ Ok chip → (text ≡ header_of_format (format_of_header text)) × (read_result_of_lines (opened (format_of_header text)) 2 lines ≡ Ok chip)
unfolding read_result_of_lines initial_read_progress progress_after_line
first_line_of text lines chip e =
    let parts = passed (first_fault_of_line initial_read_progress text) 1 (read_result_of_lines (progress_after_line initial_read_progress text) 2 lines) chip e in
    (header_named text (none_else (is_header text) cause.WrongHeader (not_short initial_read_progress text parts.0)), parts.1)

nothing_read : (chip : List NodeState) → read_result_of_lines initial_read_progress 1 [] ≡ Ok chip → ⊥
unfolding read_result_of_lines initial_read_progress
nothing_read chip e = cc

-- what is read is an image
pub image_found : (texts : List (List ℕ)) (chip : List NodeState) → read_result_of_lines initial_read_progress 1 texts ≡ Ok chip → IsImage texts chip
image_found [] chip e = absurd (nothing_read chip e)
image_found (text ∷ lines) chip e =
    let format = format_of_header text in
    let from = opened format in
    let ready = opened_ready format in
    let first = first_line_of text lines chip e in
    let later : from.stage ≢ stage.Header = rw ready.0 (λ e. cc) in
    let meaning = line_forms_after_header lines from format 2 chip later refl first.1 in
    let rest = rest_of meaning.0 from 2 chip (inl ready.0) meaning.2 in
    let none : rest.field_lines ≡ [] = rest.unopened ready.0 in
    let forms : meaning.0 ≡ flat_map line_forms_of_block rest.blocks ++ End ∷ [] = rest.spelled ∙ ap (λ fs. map field_line_form fs ++ (flat_map line_forms_of_block rest.blocks ++ End ∷ [])) none in
    let below : AreBelow (length from.blocks) (map (λ b. b.node) rest.blocks) = rw ready.1 (nodes_below rest.blocks rest.each) in
    record {
      format = format;
      lines = lines;
      blocks = rest.blocks;
      starts = ap (λ t. t ∷ lines) first.0;
      spelled = forms_spelled format lines (flat_map line_forms_of_block rest.blocks ++ End ∷ []) (meaning.1 ∙ ap (map (λ f. Some f)) forms);
      each = rest.each;
      apart = (once_apart from.blocks (map (λ b. b.node) rest.blocks) below rest.apart).1;
      describes = rest.describes
          ∙ ap (λ fs. chip_with_blocks (chip_with_words (block_node_of_stage from.stage) from.chip (field_line_writes fs)) rest.blocks) none
          ∙ ap (λ c. chip_with_blocks c rest.blocks) ready.2;
    }

-- ---- what a reading implies for the grammar

-- a call in which no allocation fails
pub gives_by : (result read : Result (List NodeState) ImageFault) → result ≡ read → IsReadResultUnlessOutOfMemory result read
gives_by (Ok chip) read same = sym same
gives_by (Err fault) read same = inr (sym same)

-- what is accepted is an image
pub found_by : (result : Result (List NodeState) ImageFault) (texts : List (List ℕ)) → IsReadResultUnlessOutOfMemory result (read_result_of_lines initial_read_progress 1 texts) → IfOk result (λ chip. IsImage texts chip)
found_by (Ok chip) texts gives = image_found texts chip gives
found_by (Err fault) texts gives = tt

-- an image is accepted, unless an allocation fails
pub only_by : (result : Result (List NodeState) ImageFault) (texts : List (List ℕ)) (chip : List NodeState) → IsReadResultUnlessOutOfMemory result (read_result_of_lines initial_read_progress 1 texts) → IsImage texts chip → IsReadResultUnlessOutOfMemory result (Ok chip)
only_by (Ok other) texts chip gives image = sym (image_read texts chip image) ∙ gives
only_by (Err fault) texts chip (inl memory) image = inl memory
only_by (Err fault) texts chip (inr fails) image = let never : Ok chip ≡ Err fault = sym (image_read texts chip image) ∙ fails in cc
