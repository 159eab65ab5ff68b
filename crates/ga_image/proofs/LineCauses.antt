-- The words of a field line, one after the other.
-- What a test finds wrong with a line that begins a block or gives words is the first of its causes.
use Rattle.std.specs.Prelude.{◌==◌, ◌-◌, nat_lt, nat_eq, is_none}
use Rattle.std.proofs.Common.{◌≡◌, sym, ◌∙◌, cond, ℕ, ◌+◌, ◌<◌, Bool, true, false, List, [], ◌∷◌, length, drop, get_or, set, Some, refl, ap, arith, ◌⊎◌, inl, inr, ◌||◌, Option, None, subst}
use Rattle.std.proofs.lemmas.Bool.Decides.{nat_tests, Decides-or, Decides-ltb}
use Rattle.std.proofs.lemmas.List.{drop_more}
use Rattle.ga_node.specs.declared.place.NodePlace.TheVariants as place
use Rattle.ga_node.specs.Places.{greatest_place_value}
use Rattle.ga_image.specs.declared.field.Field.{Field}
use Rattle.ga_image.specs.declared.field.Field.TheVariants.{A, B, P, I, Io, Carry, Slot, Wait, Stop, Data, Return, Ram, Rom}
use Rattle.ga_image.specs.declared.fault.ImageFaultCause.TheVariants.{RepeatedNodeOrField}
use Rattle.ga_image.specs.inner.{IsFieldWithinBank, IsFieldWord, AreFieldWords}
use Rattle.ga_image.specs.Fields.{row_exceeds_bank, greatest_field_word, next_field, field_number, fields_with_words, has_repeated_field, has_too_great_word}
use Rattle.ga_image.specs.Reading.{ImageReadProgress, field_line_fault, progress_after_field_write, progress_with_field_writes, ImageReadStage, node_line_fault, is_misplaced_line, node_has_block}
use Rattle.std.specs.Bool.{Decides}
use Rattle.std.specs.List.{AllByRecursion, IsDistinct, list_any}
use Rattle.std.proofs.lemmas.Bool.{ne_eqb}
use Rattle.ga_grid.specs.Grid.{node_number_of_name}
use Rattle.ga_image.specs.declared.fault.ImageFaultCause.TheVariants as cause
use Rattle.ga_image.specs.Spelling.{Node, Words, IsLineFormText, HasFieldWordCount}
use Rattle.ga_image.specs.Grammar.{IsRowWithinBank}
use Rattle.ga_image.specs.Reading as stage
use Rattle.ga_image.specs.FirstFault.{HoldsForSomeElement, IsLineBeginningNode, IsFieldGiven, HasUnknownNode, HasCellOutOfRange, HasWordOutOfRange, IsRepeatedNode, IsRepeatedField}
use Rattle.ga_image.proofs.Short.{count_spelled}
use Rattle.ga_image.proofs.Meanings.{AreFree, AreBelow, apart_once, once_apart, or_false, in_memory, numbers, repeats_numbers, field_below}
use Rattle.ga_image.proofs.Found.{within, named as known}
use Rattle.ga_image.proofs.Standing.{Tells, after_word, after_place, after_node, after_state, tested, passed_over, one_form, node_no_words, IsAfter}

-- where the words fit, the first has a cell
pub has_cell : (field : Field) (count : ℕ) → 0 < count → row_exceeds_bank field count ≡ false → IsFieldWithinBank field
has_cell A count some fits = tt
has_cell B count some fits = tt
has_cell P count some fits = tt
has_cell I count some fits = tt
has_cell Io count some fits = tt
has_cell Carry count some fits = tt
has_cell Slot count some fits = tt
has_cell Wait count some fits = tt
has_cell Stop count some fits = tt
has_cell (Data k) count some fits = grind (arith, nat_tests)
has_cell (Return k) count some fits = grind (arith, nat_tests)
has_cell (Ram cell) count some fits = grind (arith, nat_tests)
has_cell (Rom cell) count some fits = grind (arith, nat_tests)

-- and the others fit after it
pub next_fits : (field : Field) (count less : ℕ) → count ≡ less + 1 → row_exceeds_bank field count ≡ false → row_exceeds_bank (next_field field) less ≡ false
next_fits A count less e fits = refl
next_fits B count less e fits = refl
next_fits P count less e fits = refl
next_fits I count less e fits = refl
next_fits Io count less e fits = refl
next_fits Carry count less e fits = refl
next_fits Slot count less e fits = refl
next_fits Wait count less e fits = refl
next_fits Stop count less e fits = refl
next_fits (Data k) count less e fits = grind (arith, nat_tests)
next_fits (Return k) count less e fits = grind (arith, nat_tests)
next_fits (Ram cell) count less e fits = grind (arith, nat_tests)
next_fits (Rom cell) count less e fits = grind (arith, nat_tests)

-- every word of a stack may be as great as a word
data_greatest : (k : ℕ) → greatest_field_word (Data k) ≡ 0x3ffff
data_greatest k = either (k == 0) (k == 1) where
  either : (b c : Bool) → greatest_place_value (cond b place.T (cond c place.S (place.DataCell (k - 2)))) ≡ 0x3ffff
  either true c = refl
  either false true = refl
  either false false = refl

return_greatest : (k : ℕ) → greatest_field_word (Return k) ≡ 0x3ffff
return_greatest k = either (k == 0) where
  either : (b : Bool) → greatest_place_value (cond b place.R (place.ReturnCell (k - 1))) ≡ 0x3ffff
  either true = refl
  either false = refl

-- the words of a stack and the cells of a memory hold the same words
pub next_greatest : (field : Field) → greatest_field_word (next_field field) ≡ greatest_field_word field
next_greatest A = refl
next_greatest B = refl
next_greatest P = refl
next_greatest I = refl
next_greatest Io = refl
next_greatest Carry = refl
next_greatest Slot = refl
next_greatest Wait = refl
next_greatest Stop = refl
next_greatest (Data k) = data_greatest (k + 1) ∙ sym (data_greatest k)
next_greatest (Return k) = return_greatest (k + 1) ∙ sym (return_greatest k)
next_greatest (Ram cell) = refl
next_greatest (Rom cell) = refl

-- the words from index i on are the word there and those after it
pub one_write : (field : Field) (words : List ℕ) (i : ℕ) → i < length words → fields_with_words field (drop i words) ≡ (field, get_or words i 0) ∷ fields_with_words (next_field field) (drop (i + 1) words)
one_write field words i within = ap (fields_with_words field) (drop_more words i 0 within)

-- a word for a field that was given
pub repeats_here : (given : List Bool) (field : Field) (words : List ℕ) (i : ℕ) → i < length words → get_or given (field_number field) false ≡ true → has_repeated_field given (fields_with_words field (drop i words)) ≡ true
repeats_here given field words i within is = rw (one_write field words i within, is) refl

-- the only fault of a field line
pub repeated_field : (progress : ImageReadProgress) (field : Field) (words : List ℕ) → row_exceeds_bank field (length words) ≡ false → has_too_great_word field words ≡ false → has_repeated_field progress.given (fields_with_words field words) ≡ true → field_line_fault progress field words ≡ Some RepeatedNodeOrField
unfolding field_line_fault
repeated_field progress field words fits small again = rw (fits, small, again) refl

-- past a word for a field that was not given
pub repeats_later : (given : List Bool) (field : Field) (words : List ℕ) (i : ℕ) → i < length words → get_or given (field_number field) false ≡ false
    → has_repeated_field given (fields_with_words field (drop i words)) ≡ has_repeated_field (set given (field_number field) true) (fields_with_words (next_field field) (drop (i + 1) words))
repeats_later given field words i within free = rw (one_write field words i within, free) refl

-- one word is written, then the others
pub written_later : (progress : ImageReadProgress) (field : Field) (words : List ℕ) (i : ℕ) → i < length words
    → progress_with_field_writes progress (fields_with_words field (drop i words)) ≡ progress_with_field_writes (progress_after_field_write progress (field, get_or words i 0)) (fields_with_words (next_field field) (drop (i + 1) words))
written_later progress field words i within = ap (progress_with_field_writes progress) (one_write field words i within)

-- the words of a line are for fields of one kind
next_holds : (field : Field) (word : ℕ) → IsFieldWord field word → IsFieldWord (next_field field) word
next_holds A word holds = tt
next_holds B word holds = tt
next_holds P word holds = tt
next_holds I word holds = tt
next_holds Io word holds = tt
next_holds Carry word holds = tt
next_holds Slot word holds = tt
next_holds Wait word holds = holds
next_holds Stop word holds = tt
next_holds (Data k) word holds = tt
next_holds (Return k) word holds = tt
next_holds (Ram cell) word holds = tt
next_holds (Rom cell) word holds = tt

pub next_codes : (field : Field) (words : List ℕ) → AreFieldWords field words → AreFieldWords (next_field field) words
next_codes field [] codes = tt
next_codes field (word ∷ words) codes = (next_holds field word codes.0, next_codes field words codes.1)

-- ---- a line that begins a block

is_missing : (found : Option ℕ) → Decides (is_none found) (found ≡ None)
is_missing None = (λ e. refl, λ e. refl)
is_missing (Some n) = (λ e. cc, λ e. cc)

no_node : (before : List (List ℕ)) (line : List ℕ) (y : ℕ) → IsLineFormText line (Node y) → Decides (is_none (node_number_of_name y)) (HasUnknownNode line)
no_node before line y spelled = (
  λ e. (y, spelled, (is_missing (node_number_of_name y)).0 e),
  λ names. let same : Node y ≡ Node names.0 = one_form line _ _ spelled names.1 in
      let number : y ≡ names.0 = cc in (is_missing (node_number_of_name y)).1 (ap node_number_of_name number ∙ names.2),
)

repeated_node : (progress : ImageReadProgress) (before : List (List ℕ)) (line : List ℕ) (y n : ℕ) → IsAfter progress before → IsLineFormText line (Node y) → node_number_of_name y ≡ Some n
    → Decides (node_has_block progress (node_number_of_name y)) (IsRepeatedNode before line ⊎ IsRepeatedField before line)
repeated_node progress before line y n after spelled is =
    let block = after.blocks y n is in
    let same : node_has_block progress (node_number_of_name y) ≡ get_or progress.blocks n false = ap (node_has_block progress) is in (
      λ e. inl (y, spelled, block.0 (sym same ∙ e)),
      λ has_repeated_field. elim has_repeated_field [
        | inl node ↦
            let form_is : Node node.0 ≡ Node y = one_form line _ _ node.1 spelled in
            let number : node.0 ≡ y = cc in
            same ∙ block.1 (subst (λ (k : ℕ). HoldsForSomeElement (IsLineBeginningNode k) before) number node.2)
        | inr field ↦ absurd (node_no_words line y field.1.0 field.1.1 spelled field.1.2)
      ],
    )

pub node_tells : (progress : ImageReadProgress) (before : List (List ℕ)) (line : List ℕ) (y : ℕ) → IsAfter progress before → IsLineFormText line (Node y)
    → Tells before line after_state (node_line_fault progress y)
unfolding node_line_fault
node_tells progress before line y after spelled =
    tested before line cause.UnknownNode after_node (is_none (node_number_of_name y)) _ (no_node before line y spelled) (λ some.
    let node = known (node_number_of_name y) some in
    passed_over before line cause.Place after_place _ (λ gives. node_no_words line y gives.0 gives.1 spelled gives.2)
    (passed_over before line cause.WordOutOfRange after_word _ (λ gives. node_no_words line y gives.0 gives.1 spelled gives.2)
    (tested before line cause.RepeatedNodeOrField [] (node_has_block progress (node_number_of_name y)) None (repeated_node progress before line y node.0 after spelled node.1) (λ e. tt))))

-- ---- a field line

fits : (field : Field) (count : ℕ) (past : Bool) → row_exceeds_bank field count ≡ past → Decides past (¬ IsRowWithinBank field count)
fits field count true e = (λ _. λ fit. let never : true ≡ false = sym e ∙ in_memory field count fit in cc, λ _. refl)
fits field count false e = (λ e'. cc, λ no. absurd (no (within field count e)))

no_cell : (before : List (List ℕ)) (line : List ℕ) (field : Field) (words : List ℕ) → IsLineFormText line (Words field words) → Decides (row_exceeds_bank field (length words)) (HasCellOutOfRange line)
no_cell before line field words spelled =
    let decides = fits field (length words) (row_exceeds_bank field (length words)) refl in (
      λ e. (field, words, spelled, decides.0 e),
      λ gives.
          let same : Words field words ≡ Words gives.0 gives.1 = one_form line _ _ spelled gives.2 in
          let fields : field ≡ gives.0 = cc in
          let word_lists : words ≡ gives.1 = cc in
          let P : List ℕ → Type 0 = λ ws. ¬ IsRowWithinBank field (length ws) in
          let Q : Field → Type 0 = λ f. ¬ IsRowWithinBank f (length gives.1) in
          decides.1 (subst P (sym word_lists) (subst Q (sym fields) gives.3)),
    )

any_greater : (most : ℕ) (words : List ℕ) → Decides (list_any (λ word. nat_lt most word) words) (HoldsForSomeElement (λ word. most < word) words)
any_greater most [] = (λ e. cc, λ none. absurd none)
any_greater most (word ∷ words) = Decides-or (nat_lt most word) _ (Decides-ltb most word) (any_greater most words)

great_word : (before : List (List ℕ)) (line : List ℕ) (field : Field) (words : List ℕ) → IsLineFormText line (Words field words) → Decides (has_too_great_word field words) (HasWordOutOfRange line)
great_word before line field words spelled =
    let decides = any_greater (greatest_field_word field) words in (
      λ e. (field, words, spelled, decides.0 e),
      λ gives.
          let same : Words field words ≡ Words gives.0 gives.1 = one_form line _ _ spelled gives.2 in
          let fields : field ≡ gives.0 = cc in
          let word_lists : words ≡ gives.1 = cc in
          let P : List ℕ → Type 0 = λ ws. HoldsForSomeElement (λ word. greatest_field_word field < word) ws in
          let Q : Field → Type 0 = λ f. HoldsForSomeElement (λ word. greatest_field_word f < word) gives.1 in
          decides.1 (subst P (sym word_lists) (subst Q (sym fields) gives.3)),
    )

-- each field that words are for has its cell
pub each_has_cell : (field : Field) (words : List ℕ) → row_exceeds_bank field (length words) ≡ false → AllByRecursion (λ w. IsFieldWithinBank w.0) (fields_with_words field words)
each_has_cell field [] inside = tt
each_has_cell field (word ∷ words) inside =
    (has_cell field (length (word ∷ words)) (omega arith) inside, each_has_cell (next_field field) words (next_fits field (length (word ∷ words)) (length words) (omega arith) inside))

-- numbers above another one
abbrev AreAbove : ℕ → List ℕ → Type 0
AreAbove low ns = AllByRecursion (λ n. low < n) ns

none_below : (n : ℕ) (ns : List ℕ) → AreAbove n ns → AllByRecursion (λ m. nat_eq n m ≡ false) ns
none_below n [] above = tt
none_below n (m ∷ ns) above = (ne_eqb n m (λ e. let less : n < m = above.0 in absurd (omega arith)), none_below n ns above.1)

-- the cells of a line follow one another
ram_rising : (low cell : ℕ) (words : List ℕ) → low < 28 + cell → AreAbove low (numbers (fields_with_words (Ram cell) words)) × IsDistinct nat_eq (numbers (fields_with_words (Ram cell) words))
unfolding IsDistinct
ram_rising low cell [] less = (tt, tt)
ram_rising low cell (word ∷ words) less =
    let rest = ram_rising low (cell + 1) words (omega arith) in
    let others = ram_rising (28 + cell) (cell + 1) words (omega arith) in
    ((less, rest.0), (none_below _ _ others.0, others.1))

rom_rising : (low cell : ℕ) (words : List ℕ) → low < 92 + cell → AreAbove low (numbers (fields_with_words (Rom cell) words)) × IsDistinct nat_eq (numbers (fields_with_words (Rom cell) words))
unfolding IsDistinct
rom_rising low cell [] less = (tt, tt)
rom_rising low cell (word ∷ words) less =
    let rest = rom_rising low (cell + 1) words (omega arith) in
    let others = rom_rising (92 + cell) (cell + 1) words (omega arith) in
    ((less, rest.0), (none_below _ _ others.0, others.1))

data_rising : (low cell : ℕ) (words : List ℕ) → low < 9 + cell → AreAbove low (numbers (fields_with_words (Data cell) words)) × IsDistinct nat_eq (numbers (fields_with_words (Data cell) words))
unfolding IsDistinct
data_rising low cell [] less = (tt, tt)
data_rising low cell (word ∷ words) less =
    let rest = data_rising low (cell + 1) words (omega arith) in
    let others = data_rising (9 + cell) (cell + 1) words (omega arith) in
    ((less, rest.0), (none_below _ _ others.0, others.1))

return_rising : (low cell : ℕ) (words : List ℕ) → low < 19 + cell → AreAbove low (numbers (fields_with_words (Return cell) words)) × IsDistinct nat_eq (numbers (fields_with_words (Return cell) words))
unfolding IsDistinct
return_rising low cell [] less = (tt, tt)
return_rising low cell (word ∷ words) less =
    let rest = return_rising low (cell + 1) words (omega arith) in
    let others = return_rising (19 + cell) (cell + 1) words (omega arith) in
    ((less, rest.0), (none_below _ _ others.0, others.1))

single : (field : Field) (words : List ℕ) → length words ≡ 1 → IsDistinct nat_eq (numbers (fields_with_words field words))
unfolding IsDistinct
single field [] one = tt
single field (word ∷ []) one = (tt, tt)
single field (word ∷ other ∷ words) one = absurd (omega arith)

-- a line gives no field twice
pub once_each : (field : Field) (words : List ℕ) → HasFieldWordCount field (length words) → IsDistinct nat_eq (numbers (fields_with_words field words))
once_each A words count = single A words count
once_each B words count = single B words count
once_each P words count = single P words count
once_each I words count = single I words count
once_each Io words count = single Io words count
once_each Carry words count = single Carry words count
once_each Slot words count = single Slot words count
once_each Wait words count = single Wait words count
once_each Stop words count = single Stop words count
once_each (Data k) words count = (data_rising 0 k words (omega arith)).1
once_each (Return k) words count = (return_rising 0 k words (omega arith)).1
once_each (Ram cell) words count = (ram_rising 0 cell words (omega arith)).1
once_each (Rom cell) words count = (rom_rising 0 cell words (omega arith)).1

-- one of the fields is marked
abbrev pub any_marked : List Bool → List (Field × ℕ) → Bool
any_marked given [] = false
any_marked given (w ∷ ws) = get_or given (field_number w.0) false || any_marked given ws

none_marked : (given : List Bool) (ws : List (Field × ℕ)) → any_marked given ws ≡ false → AreFree given (numbers ws)
none_marked given [] e = tt
none_marked given (w ∷ ws) e = let parts = or_false (get_or given (field_number w.0) false) (any_marked given ws) e in (parts.0, none_marked given ws parts.1)

free_unmarked : (given : List Bool) (ws : List (Field × ℕ)) → AreFree given (numbers ws) → any_marked given ws ≡ false
free_unmarked given [] free = refl
free_unmarked given (w ∷ ws) free = rw free.0 (free_unmarked given ws free.1)

split_bool : (x y : Bool) → (x ≡ false → y ≡ false) → (y ≡ false → x ≡ false) → x ≡ y
split_bool true true p q = refl
split_bool true false p q = q refl
split_bool false true p q = sym (p refl)
split_bool false false p q = refl

-- a line repeats a field where one of its fields is marked
pub repeats_marked : (given : List Bool) (field : Field) (words : List ℕ) → length given ≡ 156 → IsRowWithinBank field (length words) → HasFieldWordCount field (length words)
    → has_repeated_field given (fields_with_words field words) ≡ any_marked given (fields_with_words field words)
repeats_marked given field words size fit count =
    let below : AreBelow (length given) (numbers (fields_with_words field words)) = rw size (field_below field words fit) in
    repeats_numbers given (fields_with_words field words) ∙ split_bool _ _
    (λ once. free_unmarked given (fields_with_words field words) (once_apart given _ below once).0)
    (λ none. apart_once given _ below (none_marked given _ none) (once_each field words count))

any_given : (progress : ImageReadProgress) (before : List (List ℕ)) (node : ℕ) (ws : List (Field × ℕ)) → IsAfter progress before → progress.stage ≡ stage.Block node → AllByRecursion (λ w. IsFieldWithinBank w.0) ws
    → Decides (any_marked progress.given ws) (HoldsForSomeElement (λ w. IsFieldGiven before w.0) ws)
any_given progress before node [] after block cells = (λ e. cc, λ none. absurd none)
any_given progress before node (w ∷ ws) after block cells =
    Decides-or (get_or progress.given (field_number w.0) false) _ (after.given node block w.0 cells.0) (any_given progress before node ws after block cells.1)

-- one of the fields, with the fact that it was given
found_field : (before : List (List ℕ)) (ws : List (Field × ℕ)) → HoldsForSomeElement (λ w. IsFieldGiven before w.0) ws → (field : Field) × HoldsForSomeElement (λ w. w.0 ≡ field) ws × IsFieldGiven before field
found_field before [] none = absurd none
found_field before (w ∷ ws) (inl here) = (w.0, inl refl, here)
found_field before (w ∷ ws) (inr there) = let rest = found_field before ws there in (rest.0, inr rest.1, rest.2)

field_found : (before : List (List ℕ)) (ws : List (Field × ℕ)) (field : Field) → HoldsForSomeElement (λ w. w.0 ≡ field) ws → IsFieldGiven before field → HoldsForSomeElement (λ w. IsFieldGiven before w.0) ws
field_found before [] field none given = absurd none
field_found before (w ∷ ws) field (inl here) given = inl (subst (IsFieldGiven before) (sym here) given)
field_found before (w ∷ ws) field (inr there) given = inr (field_found before ws field there given)

field_repeated : (progress : ImageReadProgress) (before : List (List ℕ)) (line : List ℕ) (node : ℕ) (field : Field) (words : List ℕ) → IsAfter progress before → progress.stage ≡ stage.Block node
    → IsLineFormText line (Words field words) → row_exceeds_bank field (length words) ≡ false → Decides (has_repeated_field progress.given (fields_with_words field words)) (IsRepeatedNode before line ⊎ IsRepeatedField before line)
field_repeated progress before line node field words after block spelled inside =
    let same = repeats_marked progress.given field words after.sized.given (within field (length words) inside) (count_spelled line field words spelled) in
    let decides = any_given progress before node (fields_with_words field words) after block (each_has_cell field words inside) in (
      λ e. let found = found_field before (fields_with_words field words) (decides.0 (sym same ∙ e)) in inr (found.0, (field, words, spelled, found.1), found.2),
      λ has_repeated_field. elim has_repeated_field [
        | inl begins_with_text ↦ absurd (node_no_words line begins_with_text.0 field words begins_with_text.1 spelled)
        | inr gives ↦
            let form_is : Words gives.1.0 gives.1.1 ≡ Words field words = one_form line _ _ gives.1.2 spelled in
            let fields : gives.1.0 ≡ field = cc in
            let word_lists : gives.1.1 ≡ words = cc in
            let P : List ℕ → Type 0 = λ ws. HoldsForSomeElement (λ w. w.0 ≡ gives.0) (fields_with_words field ws) in
            let Q : Field → Type 0 = λ f. HoldsForSomeElement (λ w. w.0 ≡ gives.0) (fields_with_words f gives.1.1) in
            same ∙ decides.1 (field_found before (fields_with_words field words) gives.0 (subst P word_lists (subst Q fields gives.1.3)) gives.2)
      ],
    )

pub in_block : (st : ImageReadStage) (field : Field) (words : List ℕ) → is_misplaced_line st (Some (Words field words)) ≡ false → (node : ℕ) × (st ≡ stage.Block node)
in_block stage.Header field words e = cc
in_block stage.Open field words e = cc
in_block (stage.Block node) field words e = (node, refl)
in_block stage.Ended field words e = cc

pub words_tell : (progress : ImageReadProgress) (before : List (List ℕ)) (line : List ℕ) (field : Field) (words : List ℕ) → IsAfter progress before → IsLineFormText line (Words field words)
    → is_misplaced_line progress.stage (Some (Words field words)) ≡ false → Tells before line after_state (field_line_fault progress field words)
unfolding field_line_fault
words_tell progress before line field words after spelled placed =
    let block = in_block progress.stage field words placed in
    passed_over before line cause.UnknownNode after_node _ (λ names. node_no_words line names.0 field words names.1 spelled)
    (tested before line cause.Place after_place (row_exceeds_bank field (length words)) _ (no_cell before line field words spelled) (λ inside.
    tested before line cause.WordOutOfRange after_word (has_too_great_word field words) _ (great_word before line field words spelled) (λ small.
    tested before line cause.RepeatedNodeOrField [] (has_repeated_field progress.given (fields_with_words field words)) None (field_repeated progress before line block.0 field words after block.1 spelled inside) (λ e. tt))))
