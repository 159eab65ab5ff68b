-- Reading against the grammar.
-- What the grammar has is read.
use Rattle.std.specs.List.{AllByRecursion, IsDistinct, list_any}
use Rattle.std.proofs.Common.{◌≡◌, ◌≢◌, ℕ, zero, suc, ◌<◌, inl, inr, Bool, true, false, ◌||◌, List, [], ◌∷◌, length, get_or, set, refl, sym, ◌∙◌, subst, length-set, nat_eq, replicate, ◌+◌, ◌≤◌, ◌++◌, map, Option, Some, None, Result, ap, arith, add-zero, ◌⊎◌, flat_map, Ok, append_assoc}
use Rattle.std.proofs.lemmas.Bool.{eqb-false}
use Rattle.std.proofs.lemmas.Bool.Decides.{eqb_tells, nat_tests}
use Rattle.std.proofs.lemmas.List.{get_or-set_same, get_or-set_other}
use Rattle.std.proofs.lemmas.Map.Keys.{IsDistinct-cons, IsDistinct-head, IsDistinct-tail}
use Rattle.std.specs.Prelude.{nat_lt}
use Rattle.ga_node.specs.Record.{NodeState}
use Rattle.ga_grid.specs.Grid.{node_number_of_name, decimal_name_of_node, default_chip}
use Rattle.ga_image.specs.declared.field.Field.{Field}
use Rattle.ga_image.specs.declared.field.Field.TheVariants.{A, B, P, I, Io, Carry, Slot, Wait, Stop, Data, Return, Ram, Rom}
use Rattle.ga_image.specs.declared.field.Format.{Format}
use Rattle.ga_image.specs.declared.fault.ImageFault.{ImageFault}
use Rattle.ga_image.specs.Reading.{ImageReadProgress, ImageReadStage, Header, Open, Ended, form_in_format, read_result_of_lines, first_fault_of_line, line_fault, fault_after_header, progress_after_line, progress_after_line_at_stage, progress_after_line_form, result_at_image_end, fault_or_result, progress_with_field_writes, progress_after_field_write, field_line_fault, progress_with_block, node_line_fault, block_node_of_stage, initial_read_progress, no_fields_given}
use Rattle.ga_image.specs.Spelling.{LineForm, Node, Words, End}
use Rattle.ga_image.specs.Fields.{fields_with_words, has_repeated_field, field_number, row_exceeds_bank, greatest_field_word, run_state_at_load, run_state_after_words, is_inconsistent_run_state}
use Rattle.ga_image.specs.Grammar.{field_line_form, field_line_writes, IsRowWithinBank, IsFieldLineInRange, header_of_format, NodeBlock, line_forms_of_block, IsBlockOfGridNode, chip_with_words, chip_with_blocks, IsImage}
use Rattle.ga_image.proofs.Short.{short_spelled}
use Rattle.ga_image.proofs.Spellings.{kept_spelled, forms_read}
use Rattle.ga_image.specs.declared.field.Format.TheVariants.{One, Two}
use Rattle.ga_image.specs.Reading as stage
use Rattle.ga_text.proofs.Taking.{node_of_yxx}

-- ---- flags against lists without repetition

-- neither of two tests holds
pub or_false : (x y : Bool) → (x || y) ≡ false → (x ≡ false) × (y ≡ false)
or_false true y e = cc
or_false false y e = (refl, e)

-- a number is flagged, or is in the list twice
abbrev pub seen_twice : List Bool → List ℕ → Bool
seen_twice flags [] = false
seen_twice flags (n ∷ ns) = get_or flags n false || seen_twice (set flags n true) ns

-- none of the numbers is flagged
abbrev pub AreFree : List Bool → List ℕ → Type 0
AreFree flags ns = AllByRecursion (λ n. get_or flags n false ≡ false) ns

-- each number has a flag
abbrev pub AreBelow : ℕ → List ℕ → Type 0
AreBelow limit ns = AllByRecursion (λ n. n < limit) ns

still_free : (flags : List Bool) (n : ℕ) (ns : List ℕ) → AreFree flags ns → AllByRecursion (λ m. nat_eq n m ≡ false) ns → AreFree (set flags n true) ns
still_free flags n [] free other = tt
still_free flags n (m ∷ ns) free other =
    let apart : m ≢ n = λ e. eqb-false n m other.0 (sym e) in
    (get_or-set_other flags n m true false apart ∙ free.0, still_free flags n ns free.1 other.1)

-- numbers that are in the list once and are not flagged
pub apart_once : (flags : List Bool) (ns : List ℕ) → AreBelow (length flags) ns → AreFree flags ns → IsDistinct nat_eq ns → seen_twice flags ns ≡ false
apart_once flags [] below free apart = refl
apart_once flags (n ∷ ns) below free apart =
    let kept : AreBelow (length (set flags n true)) ns = rw (length-set flags n true) below.1 in
    rw free.0 (apart_once (set flags n true) ns kept (still_free flags n ns free.1 (IsDistinct-head nat_eq n ns apart)) (IsDistinct-tail nat_eq n ns apart))

-- what is not flagged after a flag was set is another number, and was not flagged before
freed : (flags : List Bool) (n : ℕ) (ns : List ℕ) → n < length flags → AreFree (set flags n true) ns → AreFree flags ns × AllByRecursion (λ m. nat_eq n m ≡ false) ns
freed flags n [] below free = (tt, tt)
freed flags n (m ∷ ns) below free =
    let rest = freed flags n ns below free.1 in
    elim (eqb_tells n m) [
      | inl same ↦ let again : get_or (set flags n true) m false ≡ true = subst (λ (k : ℕ). get_or (set flags n true) k false ≡ true) same.1 (get_or-set_same flags n true false below) in absurd (let never : true ≡ false = sym again ∙ free.0 in cc)
      | inr other ↦ ((sym (get_or-set_other flags n m true false (λ e. other.1 (sym e))) ∙ free.0, rest.0), (other.0, rest.1))
    ]

-- and the other way
pub once_apart : (flags : List Bool) (ns : List ℕ) → AreBelow (length flags) ns → seen_twice flags ns ≡ false → AreFree flags ns × IsDistinct nat_eq ns
unfolding IsDistinct
once_apart flags [] below once = (tt, tt)
once_apart flags (n ∷ ns) below once =
    let parts = or_false (get_or flags n false) (seen_twice (set flags n true) ns) once in
    let kept : AreBelow (length (set flags n true)) ns = rw (length-set flags n true) below.1 in
    let rest = once_apart (set flags n true) ns kept parts.1 in
    let back = freed flags n ns below.0 rest.0 in
    ((parts.0, back.0), IsDistinct-cons nat_eq n ns back.1 rest.1)

-- no flag is set at first
pub none_flagged : (k n : ℕ) → get_or (replicate k false) n false ≡ false
none_flagged zero n = refl
none_flagged (suc k) zero = refl
none_flagged (suc k) (suc n) = none_flagged k n

-- so no number is flagged
pub all_free : (k : ℕ) (ns : List ℕ) → AreFree (replicate k false) ns
all_free k [] = tt
all_free k (n ∷ ns) = (none_flagged k n, all_free k ns)

or_assoc : (x y z : Bool) → (x || (y || z)) ≡ ((x || y) || z)
or_assoc true y z = refl
or_assoc false y z = refl

-- reading, of what the lines mean
abbrev pub reads : ImageReadProgress → ℕ → List LineForm → Result (List NodeState) ImageFault
reads progress line [] = result_at_image_end progress.stage progress.chip line
reads progress line (f ∷ forms) = fault_or_result (fault_after_header progress (Some f)) line (reads (progress_after_line_form progress (Some f)) (line + 1) forms)

-- words keep the stage
pub stage_kept : (progress : ImageReadProgress) (ws : List (Field × ℕ)) → (progress_with_field_writes progress ws).stage ≡ progress.stage
stage_kept progress [] = refl
stage_kept progress (w ∷ ws) = stage_kept (progress_after_field_write progress w) ws

begun : (progress : ImageReadProgress) (node : Option ℕ) → progress.stage ≢ Header → (progress_with_block progress node).stage ≢ Header
begun progress None later = later
begun progress (Some node) later = λ e. cc

-- after the header no line leads back to it
pub still_later : (progress : ImageReadProgress) (f : LineForm) → progress.stage ≢ Header → (progress_after_line_form progress (Some f)).stage ≢ Header
still_later progress (Node decimal_name) later = begun progress (node_number_of_name decimal_name) later
still_later progress (Words field words) later = rw (stage_kept progress (fields_with_words field words)) later
still_later progress End later = λ e. cc

-- after the header a line is read by its form
pub line_later : (stage : ImageReadStage) (progress : ImageReadProgress) (text : List ℕ) → stage ≢ Header → line_fault stage progress text ≡ fault_after_header progress (form_in_format progress.format text)
line_later Header progress text later = absurd (later refl)
line_later Open progress text later = refl
line_later (stage.Block node) progress text later = refl
line_later Ended progress text later = refl

-- and so is what it leads to
pub past_later : (stage : ImageReadStage) (progress : ImageReadProgress) (text : List ℕ) → stage ≢ Header → progress_after_line_at_stage stage progress text ≡ progress_after_line_form progress (form_in_format progress.format text)
past_later Header progress text later = absurd (later refl)
past_later Open progress text later = refl
past_later (stage.Block node) progress text later = refl
past_later Ended progress text later = refl

-- a line no longer than 200 bytes
pub short_fault : (progress : ImageReadProgress) (text : List ℕ) → length text ≤ 200 → first_fault_of_line progress text ≡ line_fault progress.stage progress text
unfolding first_fault_of_line
short_fault progress text small = let no : nat_lt 200 (length text) ≡ false = grind (arith, nat_tests) in rw no refl

-- what a line leads to depends on the stage
pub short_past : (progress : ImageReadProgress) (text : List ℕ) → progress_after_line progress text ≡ progress_after_line_at_stage progress.stage progress text
unfolding progress_after_line
short_past progress text = refl

-- after the header the format is unchanged
words_format : (progress : ImageReadProgress) (ws : List (Field × ℕ)) → (progress_with_field_writes progress ws).format ≡ progress.format
words_format progress [] = refl
words_format progress (w ∷ ws) = words_format (progress_after_field_write progress w) ws

block_format : (progress : ImageReadProgress) (node : Option ℕ) → (progress_with_block progress node).format ≡ progress.format
block_format progress None = refl
block_format progress (Some node) = refl

pub same_format : (progress : ImageReadProgress) (f : LineForm) → (progress_after_line_form progress (Some f)).format ≡ progress.format
same_format progress (Node decimal_name) = block_format progress (node_number_of_name decimal_name)
same_format progress (Words field words) = words_format progress (fields_with_words field words)
same_format progress End = refl

-- lines are read as their forms are
pub reading_forms : (forms : List LineForm) (lines : List (List ℕ)) (progress : ImageReadProgress) (format : Format) (line : ℕ) → progress.stage ≢ Header → progress.format ≡ format
    → map (form_in_format format) lines ≡ map (λ f. Some f) forms → read_result_of_lines progress line lines ≡ reads progress line forms
unfolding read_result_of_lines
reading_forms [] [] progress format line later is same = refl
reading_forms [] (text ∷ lines) progress format line later is same = cc
reading_forms (f ∷ forms) [] progress format line later is same = cc
reading_forms (f ∷ forms) (text ∷ lines) progress format line later is same =
    let meaning : form_in_format format text ≡ Some f = cc in
    let here : form_in_format progress.format text ≡ Some f = ap (λ g. form_in_format g text) is ∙ meaning in
    let others : map (form_in_format format) lines ≡ map (λ f. Some f) forms = cc in
    let short = short_spelled text f (kept_spelled format text f meaning).0 in
    let fault = short_fault progress text short ∙ line_later progress.stage progress text later ∙ ap (fault_after_header progress) here in
    let past = short_past progress text ∙ past_later progress.stage progress text later ∙ ap (progress_after_line_form progress) here in
    let again = reading_forms forms lines (progress_after_line_form progress (Some f)) format (line + 1) (still_later progress f later) (same_format progress f ∙ is) others in
    rw (fault, past, again) refl

-- what words that are written leave marked
abbrev pub marked : List Bool → List (Field × ℕ) → List Bool
marked given [] = given
marked given (w ∷ ws) = marked (set given (field_number w.0) true) ws

-- fields of several lines are given twice in one of them or among them
pub has_repeated_field-append : (given : List Bool) (xs ys : List (Field × ℕ)) → has_repeated_field given (xs ++ ys) ≡ (has_repeated_field given xs || has_repeated_field (marked given xs) ys)
has_repeated_field-append given [] ys = refl
has_repeated_field-append given (x ∷ xs) ys = rw (has_repeated_field-append (set given (field_number x.0) true) xs ys) (or_assoc (get_or given (field_number x.0) false) _ _)

-- the fields that words mark as given
pub given_marked : (progress : ImageReadProgress) (ws : List (Field × ℕ)) → (progress_with_field_writes progress ws).given ≡ marked progress.given ws
given_marked progress [] = refl
given_marked progress (w ∷ ws) = given_marked (progress_after_field_write progress w) ws

-- words of several lines are written one after the other
pub progress_with_field_writes-append : (progress : ImageReadProgress) (xs ys : List (Field × ℕ)) → progress_with_field_writes progress (xs ++ ys) ≡ progress_with_field_writes (progress_with_field_writes progress xs) ys
progress_with_field_writes-append progress [] ys = refl
progress_with_field_writes-append progress (x ∷ xs) ys = progress_with_field_writes-append (progress_after_field_write progress x) xs ys

-- the tests of a field line pass
pub in_memory : (field : Field) (count : ℕ) → IsRowWithinBank field count → row_exceeds_bank field count ≡ false
in_memory A count fits = refl
in_memory B count fits = refl
in_memory P count fits = refl
in_memory I count fits = refl
in_memory Io count fits = refl
in_memory Carry count fits = refl
in_memory Slot count fits = refl
in_memory Wait count fits = refl
in_memory Stop count fits = refl
in_memory (Data k) count fits = grind (arith, nat_tests)
in_memory (Return k) count fits = grind (arith, nat_tests)
in_memory (Ram cell) count fits = grind (arith, nat_tests)
in_memory (Rom cell) count fits = grind (arith, nat_tests)

-- no word is past the greatest
pub all_small : (most : ℕ) (words : List ℕ) → AllByRecursion (λ word. word ≤ most) words → list_any (λ word. nat_lt most word) words ≡ false
all_small most [] small = refl
all_small most (word ∷ words) small =
    let here : nat_lt most word ≡ false = let h = small.0 in grind (arith, nat_tests) in
    rw here (all_small most words small.1)

field_passes : (progress : ImageReadProgress) (node : ℕ) (field : Field) (words : List ℕ) → progress.stage ≡ stage.Block node → IsFieldLineInRange (field, words) → has_repeated_field progress.given (fields_with_words field words) ≡ false → fault_after_header progress (Some (Words field words)) ≡ None
unfolding field_line_fault
field_passes progress node field words block is once = rw (block, in_memory field (length words) is.0, all_small (greatest_field_word field) words is.1, once) refl

-- the field lines of a block, read one after the other
pub fields_read : (field_lines : List (Field × List ℕ)) (progress : ImageReadProgress) (node line : ℕ) (rest : List LineForm) → progress.stage ≡ stage.Block node → AllByRecursion IsFieldLineInRange field_lines → has_repeated_field progress.given (field_line_writes field_lines) ≡ false
    → reads progress line (map field_line_form field_lines ++ rest) ≡ reads (progress_with_field_writes progress (field_line_writes field_lines)) (line + length field_lines) rest
fields_read [] progress node line rest block each once = rw add-zero refl
fields_read (field_line ∷ field_lines) progress node line rest block each once =
    let split = sym (has_repeated_field-append progress.given (fields_with_words field_line.0 field_line.1) (field_line_writes field_lines)) ∙ once in
    let parts = or_false (has_repeated_field progress.given (fields_with_words field_line.0 field_line.1)) (has_repeated_field (marked progress.given (fields_with_words field_line.0 field_line.1)) (field_line_writes field_lines)) split in
    let none = field_passes progress node field_line.0 field_line.1 block each.0 parts.0 in
    let next = progress_with_field_writes progress (fields_with_words field_line.0 field_line.1) in
    let again = fields_read field_lines next node (line + 1) rest (stage_kept progress (fields_with_words field_line.0 field_line.1) ∙ block) each.1
    (ap (λ g. has_repeated_field g (field_line_writes field_lines)) (given_marked progress (fields_with_words field_line.0 field_line.1)) ∙ parts.1) in
    let counted : line + 1 + length field_lines ≡ line + suc (length field_lines) = omega arith in
    rw (none, again, progress_with_field_writes-append progress (fields_with_words field_line.0 field_line.1) (field_line_writes field_lines), counted) refl

-- ---- what the grammar has is read

-- the places of writes, by their numbers
abbrev pub numbers : List (Field × ℕ) → List ℕ
numbers ws = map (λ w. field_number w.0) ws

-- a field is given twice where its number is
pub repeats_numbers : (flags : List Bool) (ws : List (Field × ℕ)) → has_repeated_field flags ws ≡ seen_twice flags (numbers ws)
repeats_numbers flags [] = refl
repeats_numbers flags (w ∷ ws) = rw (repeats_numbers (set flags (field_number w.0) true) ws) refl

-- the numbers of fields within a memory
pub field_below : (field : Field) (words : List ℕ) → IsRowWithinBank field (length words) → AreBelow 156 (numbers (fields_with_words field words))
field_below field [] fits = tt
field_below A (word ∷ words) fits = (omega arith, field_below A words fits)
field_below B (word ∷ words) fits = (omega arith, field_below B words fits)
field_below P (word ∷ words) fits = (omega arith, field_below P words fits)
field_below I (word ∷ words) fits = (omega arith, field_below I words fits)
field_below Io (word ∷ words) fits = (omega arith, field_below Io words fits)
field_below Carry (word ∷ words) fits = (omega arith, field_below Carry words fits)
field_below Slot (word ∷ words) fits = (omega arith, field_below Slot words fits)
field_below Wait (word ∷ words) fits = (omega arith, field_below Wait words fits)
field_below Stop (word ∷ words) fits = (omega arith, field_below Stop words fits)
field_below (Data k) (word ∷ words) fits = (omega arith, field_below (Data (k + 1)) words (omega arith))
field_below (Return k) (word ∷ words) fits = (omega arith, field_below (Return (k + 1)) words (omega arith))
field_below (Ram cell) (word ∷ words) fits = (omega arith, field_below (Ram (cell + 1)) words (omega arith))
field_below (Rom cell) (word ∷ words) fits = (omega arith, field_below (Rom (cell + 1)) words (omega arith))

below-append : (xs ys : List (Field × ℕ)) → AreBelow 156 (numbers xs) → AreBelow 156 (numbers ys) → AreBelow 156 (numbers (xs ++ ys))
below-append [] ys p q = q
below-append (x ∷ xs) ys p q = (p.0, below-append xs ys p.1 q)

-- and those of a whole block
pub fields_below : (field_lines : List (Field × List ℕ)) → AllByRecursion IsFieldLineInRange field_lines → AreBelow 156 (numbers (field_line_writes field_lines))
fields_below [] each = tt
fields_below (field_line ∷ field_lines) each = below-append (fields_with_words field_line.0 field_line.1) (field_line_writes field_lines) (field_below field_line.0 field_line.1 each.0.0) (fields_below field_lines each.1)

-- the state after words that are written one after the other
pub all_written : (progress : ImageReadProgress) (ws : List (Field × ℕ)) → progress_with_field_writes progress ws ≡ record progress { given = marked progress.given ws; held = run_state_after_words progress.held ws; chip = chip_with_words (block_node_of_stage progress.stage) progress.chip ws }
all_written progress [] = refl
all_written progress (w ∷ ws) = all_written (progress_after_field_write progress w) ws

-- a block or the end may come, and the block before is consistent
abbrev pub IsReady : ImageReadProgress → Type 0
IsReady progress = (progress.stage ≡ stage.Open) ⊎ ((node : ℕ) × (progress.stage ≡ stage.Block node) × (is_inconsistent_run_state progress.held ≡ false))

end_passes : (progress : ImageReadProgress) → IsReady progress → fault_after_header progress (Some End) ≡ None
end_passes progress (inl is) = rw is refl
end_passes progress (inr (node, is, steady)) = rw (is, steady) refl

node_passes : (progress : ImageReadProgress) (n : ℕ) → IsReady progress → n < 144 → get_or progress.blocks n false ≡ false → fault_after_header progress (Some (Node (decimal_name_of_node n))) ≡ None
unfolding node_line_fault
node_passes progress n (inl is) small free = rw (is, node_of_yxx n small, free) refl
node_passes progress n (inr (node, is, steady)) small free = rw (is, steady, node_of_yxx n small, free) refl

-- blocks without fault are read, up to the end
pub blocks_read : (blocks : List NodeBlock) (progress : ImageReadProgress) (line : ℕ) → IsReady progress → length progress.blocks ≡ 144 → AllByRecursion IsBlockOfGridNode blocks → seen_twice progress.blocks (map (λ b. b.node) blocks) ≡ false
    → reads progress line (flat_map line_forms_of_block blocks ++ End ∷ []) ≡ Ok (chip_with_blocks progress.chip blocks)
blocks_read [] progress line ready size each once = rw (end_passes progress ready) refl
blocks_read (block ∷ blocks) progress line ready size each once =
    let parts = or_false (get_or progress.blocks block.node false) _ once in
    let none = node_passes progress block.node ready each.0.node parts.0 in
    let begun : ImageReadProgress = record progress { stage = stage.Block block.node; blocks = set progress.blocks block.node true; given = no_fields_given; held = run_state_at_load } in
    let is : progress_after_line_form progress (Some (Node (decimal_name_of_node block.node))) ≡ begun = ap (progress_with_block progress) (node_of_yxx block.node each.0.node) in
    let below = fields_below block.field_lines each.0.field_lines in
    let free : has_repeated_field no_fields_given (field_line_writes block.field_lines) ≡ false =
    repeats_numbers no_fields_given (field_line_writes block.field_lines)
    ∙ apart_once no_fields_given (numbers (field_line_writes block.field_lines)) below (all_free 156 _) each.0.apart in
    let done : ImageReadProgress = record begun { given = marked no_fields_given (field_line_writes block.field_lines); held = run_state_after_words run_state_at_load (field_line_writes block.field_lines); chip = chip_with_words block.node progress.chip (field_line_writes block.field_lines) } in
    let after = all_written begun (field_line_writes block.field_lines) in
    let field_lines = fields_read block.field_lines begun block.node (line + 1) (flat_map line_forms_of_block blocks ++ End ∷ []) refl each.0.field_lines free in
    let rest = blocks_read blocks done (line + 1 + length block.field_lines) (inr (block.node, refl, each.0.steady)) (length-set progress.blocks block.node true ∙ size) each.1 parts.1 in
    let regroup = append_assoc (map field_line_form block.field_lines) (flat_map line_forms_of_block blocks) (End ∷ []) in
    rw (none, is, regroup, field_lines, after) rest

-- the nodes of blocks are nodes of the grid
pub nodes_below : (blocks : List NodeBlock) → AllByRecursion IsBlockOfGridNode blocks → AreBelow 144 (map (λ b. b.node) blocks)
nodes_below [] each = tt
nodes_below (block ∷ blocks) each = (each.0.node, nodes_below blocks each.1)

-- the state after the header
abbrev pub opened : Format → ImageReadProgress
opened format = record initial_read_progress { format = format; stage = stage.Open }

header_passes : (format : Format) (lines : List (List ℕ)) → read_result_of_lines initial_read_progress 1 (header_of_format format ∷ lines) ≡ read_result_of_lines (opened format) 2 lines
unfolding read_result_of_lines first_fault_of_line progress_after_line initial_read_progress
header_passes One lines = refl
header_passes Two lines = refl

-- the fields of that state
pub opened_ready : (format : Format) → ((opened format).stage ≡ stage.Open) × (length (opened format).blocks ≡ 144) × ((opened format).chip ≡ default_chip) × ((opened format).blocks ≡ replicate 144 false)
unfolding initial_read_progress
opened_ready format = (refl, refl, refl, refl)

-- an image is read
pub image_read : (texts : List (List ℕ)) (chip : List NodeState) → IsImage texts chip → read_result_of_lines initial_read_progress 1 texts ≡ Ok chip
image_read texts chip image =
    let ready = opened_ready image.format in
    let from = opened image.format in
    let below : AreBelow (length from.blocks) (map (λ b. b.node) image.blocks) = rw ready.1 (nodes_below image.blocks image.each) in
    let free : AreFree from.blocks (map (λ b. b.node) image.blocks) = rw ready.3 (all_free 144 _) in
    let once = apart_once from.blocks (map (λ b. b.node) image.blocks) below free image.apart in
    let later : from.stage ≢ stage.Header = rw ready.0 (λ e. cc) in
    rw (image.starts)
    (header_passes image.format image.lines
    ∙ reading_forms (flat_map line_forms_of_block image.blocks ++ End ∷ []) image.lines from image.format 2 later refl (forms_read image.format image.lines (flat_map line_forms_of_block image.blocks ++ End ∷ []) image.spelled)
    ∙ blocks_read image.blocks from 2 (inl ready.0) ready.1 image.each once
    ∙ ap (λ c. Ok (chip_with_blocks c image.blocks)) ready.2
    ∙ ap (λ c. Ok c) (sym image.describes))
