-- A text of a form parses as the form, in each format.
use Rattle.ga_image.specs.declared.parser.ImageReadStage.TheVariants as expects
use Rattle.std.proofs.Common.{◌≢◌, refl, ◌≡◌, ℕ, ◌+◌, inl, inr, ◌<◌, ◌≤◌, true, false, ◌&&◌, List, [], ◌∷◌, ◌++◌, length, map, Option, Some, None, sym, ◌∙◌, ap, subst, arith}
use Rattle.ga_image.specs.declared.parser.ImageReadStage.{ImageReadStage as Expects}
use Rattle.ga_image.specs.inner.{stage_of_parser, IsAfterHeader, IsFieldWord, AreFieldWords}
use Rattle.std.specs.Prelude.{nat_le, codes, ◌==◌, ◌-◌}
use Rattle.std.specs.Char.{to_ascii_lowercase}
use Rattle.std.specs.Str.{str_to_ascii_lowercase}
use Rattle.std.proofs.lemmas.Bool.Decides.{nat_tests}
use Rattle.ga_word.specs.Word.{hex_digit_at_place, hex_digits_of_word, six_hex_digits_value}
use Rattle.ga_ports.specs.Address.{is_single_side_set}
use Rattle.ga_image.specs.declared.field.Field.{Field}
use Rattle.ga_image.specs.declared.field.Field.TheVariants.{A, B, P, I, Io, Carry, Slot, Wait, Stop, Data, Return, Ram, Rom}
use Rattle.ga_node.specs.State.{IsWaitCode}
use Rattle.ga_image.specs.declared.field.Format.{Format}
use Rattle.ga_image.specs.Fields.{format_has_field}
use Rattle.ga_image.specs.Spelling.{LineForm, Node, Words, End, side_set_text, wait_text, field_name, field_code_text, IsFieldWordsText, IsFieldCodeText, IsTextOfField, IsLineFormText, IsFormatLineForm, IsTextInFormat, line_form, word_line_form, cells_line_form, stack_line_form, digit_line_form, side_set_wait_form, side_write_wait_form, node_wait_line_form, node_line_form, stack_memory_or_node_form, state_line_form}
use Rattle.ga_text.specs.Digits.{three_decimal_digits, two_hex_digits_text, spaced_words_text}
use Rattle.ga_image.specs.Reading.{form_in_format, form_if_allowed}
use Rattle.ga_image.specs.Grammar.{AreLinesOfForms}
use Rattle.ga_text.proofs.Numbers.{word_read, cell_read, node_read}
use Rattle.ga_image.proofs.Spelled.{set_read, AreSix, guarded, lower_space, row_read, fetch_text, read_text, write_text, form_spelled}

-- ---- the stage of a parser

-- neither before the header nor after the end
pub behind : (stage : Expects) → stage ≢ expects.Header → stage ≢ expects.Ended → IsAfterHeader (stage_of_parser stage)
behind expects.Header begun unended = absurd (begun refl)
behind expects.Open begun unended = tt
behind (expects.Block node) begun unended = tt
behind expects.Ended begun unended = absurd (unended refl)

one_word : (ws : List ℕ) → length ws ≡ 1 → (w : ℕ) × (ws ≡ w ∷ [])
one_word [] one = absurd (omega arith)
one_word (w ∷ []) one = (w, refl)
one_word (w ∷ v ∷ ws) one = absurd (omega arith)

-- the numbers after the name of a register
register_numbers : (numbers ws : List ℕ) → length ws ≡ 1 → AreSix ws → str_to_ascii_lowercase numbers ≡ spaced_words_text ws
    → (digits : List ℕ) × (w : ℕ) × (ws ≡ w ∷ []) × (numbers ≡ 32 ∷ digits) × (six_hex_digits_value digits ≡ Some w)
register_numbers [] [] one six is = absurd (omega arith)
register_numbers (s ∷ digits) [] one six is = absurd (omega arith)
register_numbers numbers (w ∷ v ∷ ws) one six is = absurd (omega arith)
register_numbers [] (w ∷ []) one six is = cc
register_numbers (s ∷ digits) (w ∷ []) one six is =
    let space : to_ascii_lowercase s ≡ 32 = cc in
    let lower : str_to_ascii_lowercase digits ≡ hex_digits_of_word w = cc in
    (digits, w, refl, ap (λ c. c ∷ digits) (lower_space s space), word_read digits w six.0 lower)

-- the numbers after the name of a memory
cells_read : (field : ℕ → Field) (cell : ℕ) (numbers ws : List ℕ) → cell < 256 → AreSix ws → str_to_ascii_lowercase numbers ≡ two_hex_digits_text cell ++ spaced_words_text ws → 1 ≤ length ws → length ws ≤ 16
    → cells_line_form field numbers ≡ Some (Words (field cell) ws)
unfolding cells_line_form
cells_read field cell [] ws small six is some most = cc
cells_read field cell (x ∷ []) ws small six is some most = cc
cells_read field cell (x ∷ y ∷ text) ws small six is some most =
    let high : to_ascii_lowercase x ≡ hex_digit_at_place cell 1 = cc in
    let low : to_ascii_lowercase y ≡ hex_digit_at_place cell 0 = cc in
    let rest : str_to_ascii_lowercase text ≡ spaced_words_text ws = cc in
    rw (cell_read x y cell small high low, row_read text ws six rest some most) refl

register_read : (field : Field) (name : List ℕ) → ((digits : List ℕ) (w : ℕ) → six_hex_digits_value digits ≡ Some w → line_form (name ++ 32 ∷ digits) ≡ Some (Words field (w ∷ [])))
    → (text numbers ws : List ℕ) → text ≡ name ++ numbers → length ws ≡ 1 → AreSix ws → str_to_ascii_lowercase numbers ≡ spaced_words_text ws → line_form text ≡ Some (Words field ws)
register_read field name reads text numbers ws parts one six is =
    let (digits, w, single, spaced, word) = register_numbers numbers ws one six is in
    ap line_form (parts ∙ ap (λ xs. name ++ xs) spaced) ∙ reads digits w word ∙ ap (λ xs. Some (Words field xs)) (sym single)

a_read : (digits : List ℕ) (w : ℕ) → six_hex_digits_value digits ≡ Some w → line_form (codes "a" ++ 32 ∷ digits) ≡ Some (Words A (w ∷ []))
unfolding line_form word_line_form
a_read digits w is = rw is refl

b_read : (digits : List ℕ) (w : ℕ) → six_hex_digits_value digits ≡ Some w → line_form (codes "b" ++ 32 ∷ digits) ≡ Some (Words B (w ∷ []))
unfolding line_form word_line_form
b_read digits w is = rw is refl

p_read : (digits : List ℕ) (w : ℕ) → six_hex_digits_value digits ≡ Some w → line_form (codes "p" ++ 32 ∷ digits) ≡ Some (Words P (w ∷ []))
unfolding line_form word_line_form
p_read digits w is = rw is refl

i_read : (digits : List ℕ) (w : ℕ) → six_hex_digits_value digits ≡ Some w → line_form (codes "i" ++ 32 ∷ digits) ≡ Some (Words I (w ∷ []))
unfolding line_form word_line_form
i_read digits w is = rw is refl

io_read : (digits : List ℕ) (w : ℕ) → six_hex_digits_value digits ≡ Some w → line_form (codes "io" ++ 32 ∷ digits) ≡ Some (Words Io (w ∷ []))
unfolding line_form word_line_form
io_read digits w is = rw is refl

stack_read : (field : Field) (count : ℕ) (numbers ws : List ℕ) → length ws ≡ count → 1 ≤ count → count ≤ 16 → AreSix ws → str_to_ascii_lowercase numbers ≡ spaced_words_text ws → stack_line_form field count numbers ≡ Some (Words field ws)
unfolding stack_line_form
stack_read field count numbers ws counted some most six lower =
    let row = row_read numbers ws six lower (omega arith) (omega arith) in
    let same : (length ws == count) ≡ true = grind (arith, nat_tests) in
    rw (row, same) refl

-- a row of words begins with a space
spaced : (numbers ws : List ℕ) → 0 < length ws → str_to_ascii_lowercase numbers ≡ spaced_words_text ws → (rest : List ℕ) × (numbers ≡ 32 ∷ rest)
spaced numbers [] some lower = absurd (omega arith)
spaced [] (w ∷ ws) some lower = cc
spaced (s ∷ rest) (w ∷ ws) some lower = let space : to_ascii_lowercase s ≡ 32 = cc in (rest, ap (λ c. c ∷ rest) (lower_space s space))

data_form : (rest : List ℕ) → line_form (codes "d" ++ 32 ∷ rest) ≡ stack_line_form (Data 0) 10 (32 ∷ rest)
unfolding line_form state_line_form stack_memory_or_node_form
data_form rest = refl

return_form : (rest : List ℕ) → line_form (codes "r" ++ 32 ∷ rest) ≡ stack_line_form (Return 0) 9 (32 ∷ rest)
unfolding line_form state_line_form stack_memory_or_node_form
return_form rest = refl

stack_line_read : (field : Field) (count : ℕ) (name : List ℕ) → ((rest : List ℕ) → line_form (name ++ 32 ∷ rest) ≡ stack_line_form field count (32 ∷ rest)) → (text numbers ws : List ℕ) → text ≡ name ++ numbers
    → length ws ≡ count → 1 ≤ count → count ≤ 16 → AreSix ws → str_to_ascii_lowercase numbers ≡ spaced_words_text ws → line_form text ≡ Some (Words field ws)
stack_line_read field count name reads text numbers ws parts counted some most six lower =
    let (rest, space) = spaced numbers ws (omega arith) lower in
    ap line_form (parts ∙ ap (λ xs. name ++ xs) space) ∙ reads rest ∙ ap (stack_line_form field count) (sym space) ∙ stack_read field count numbers ws counted some most six lower

data_line_read : (text : List ℕ) (k : ℕ) (ws : List ℕ) → IsFieldWordsText text (Data k) ws → line_form text ≡ Some (Words (Data k) ws)
data_line_read text k ws is =
    stack_line_read (Data 0) 10 (codes "d") data_form text is.numbers ws is.parts is.count.1 (omega arith) (omega arith) is.six_digits is.digits
    ∙ ap (λ (n : ℕ). Some (Words (Data n) ws)) (sym is.count.0)

return_line_read : (text : List ℕ) (k : ℕ) (ws : List ℕ) → IsFieldWordsText text (Return k) ws → line_form text ≡ Some (Words (Return k) ws)
return_line_read text k ws is =
    stack_line_read (Return 0) 9 (codes "r") return_form text is.numbers ws is.parts is.count.1 (omega arith) (omega arith) is.six_digits is.digits
    ∙ ap (λ (n : ℕ). Some (Words (Return n) ws)) (sym is.count.0)

ram_form : (numbers : List ℕ) → line_form (codes "ram " ++ numbers) ≡ cells_line_form Ram numbers
unfolding line_form state_line_form stack_memory_or_node_form
ram_form numbers = refl

rom_form : (numbers : List ℕ) → line_form (codes "rom " ++ numbers) ≡ cells_line_form Rom numbers
unfolding line_form state_line_form stack_memory_or_node_form
rom_form numbers = refl

digit_read : (field : Field) (least most code : ℕ) → least ≤ code → code ≤ most → digit_line_form field least most ((48 + code) ∷ []) ≡ Some (Words field (code ∷ []))
unfolding digit_line_form
digit_read field least most code low high =
    let test : (nat_le (48 + least) (48 + code) && nat_le (48 + code) (48 + most)) ≡ true = grind (arith, nat_tests) in
    let same : 48 + code - 48 ≡ code = omega arith in
    rw (test, same) refl

carry_form : (text : List ℕ) → line_form (codes "carry " ++ text) ≡ digit_line_form Carry 0 1 text
unfolding line_form state_line_form
carry_form text = refl

slot_form : (text : List ℕ) → line_form (codes "slot " ++ text) ≡ digit_line_form Slot 0 4 text
unfolding line_form state_line_form
slot_form text = refl

stop_form : (text : List ℕ) → line_form (codes "stop " ++ text) ≡ digit_line_form Stop 1 3 text
unfolding line_form state_line_form
stop_form text = refl

wait_line_form : (text : List ℕ) → line_form (codes "wait " ++ text) ≡ node_wait_line_form text
unfolding line_form state_line_form
wait_line_form text = refl

fetch_read : (sides : ℕ) → 0 < sides → sides < 16 → node_wait_line_form (codes "fetch " ++ side_set_text sides) ≡ Some (Words Wait ((16 + sides) ∷ []))
unfolding node_wait_line_form side_set_wait_form
fetch_read sides some small = let other : (sides == 0) ≡ false = grind (arith, nat_tests) in rw (set_read sides small, other) refl

read_read : (sides : ℕ) → 0 < sides → sides < 16 → node_wait_line_form (codes "read " ++ side_set_text sides) ≡ Some (Words Wait ((32 + sides) ∷ []))
unfolding node_wait_line_form side_set_wait_form
read_read sides some small = let other : (sides == 0) ≡ false = grind (arith, nat_tests) in rw (set_read sides small, other) refl

write_read : (sides : ℕ) → is_single_side_set sides ≡ true → sides < 16 → node_wait_line_form (codes "write " ++ side_set_text sides) ≡ Some (Words Wait ((48 + sides) ∷ []))
unfolding node_wait_line_form side_write_wait_form
write_read sides single small = rw (set_read sides small, single) refl

-- the three kinds of waits
wait_read : (code : ℕ) → IsWaitCode code → code ≢ 0 → node_wait_line_form (wait_text code) ≡ Some (Words Wait (code ∷ []))
wait_read code (inl none) some = absurd (some none)
wait_read code (inr (inl (low, high))) some =
    let whole : code ≡ 16 + (code - 16) = omega arith in
    ap (λ (n : ℕ). node_wait_line_form (wait_text n)) whole ∙ ap node_wait_line_form (fetch_text (code - 16) (omega arith)) ∙ fetch_read (code - 16) (omega arith) (omega arith) ∙ ap (λ (n : ℕ). Some (Words Wait (n ∷ []))) (sym whole)
wait_read code (inr (inr (inl (low, high)))) some =
    let whole : code ≡ 32 + (code - 32) = omega arith in
    ap (λ (n : ℕ). node_wait_line_form (wait_text n)) whole ∙ ap node_wait_line_form (read_text (code - 32) (omega arith)) ∙ read_read (code - 32) (omega arith) (omega arith) ∙ ap (λ (n : ℕ). Some (Words Wait (n ∷ []))) (sym whole)
wait_read code (inr (inr (inr one))) some =
    let whole : code ≡ 48 + (code - 48) = grind (arith, one) in
    let single : is_single_side_set (code - 48) ≡ true = grind (arith, nat_tests, one) in
    let small : code - 48 < 16 = grind (arith, one) in
    ap (λ (n : ℕ). node_wait_line_form (wait_text n)) whole ∙ ap node_wait_line_form (write_text (code - 48)) ∙ write_read (code - 48) single small ∙ ap (λ (n : ℕ). Some (Words Wait (n ∷ []))) (sym whole)

code_line_read : (text : List ℕ) (field : Field) (ws : List ℕ) (is : IsFieldCodeText text field ws) → line_form (field_name field ++ field_code_text field is.code) ≡ Some (Words field (is.code ∷ [])) → line_form text ≡ Some (Words field ws)
code_line_read text field ws is reads = ap line_form is.parts ∙ reads ∙ ap (λ xs. Some (Words field xs)) (sym is.one)

words_line_read : (text : List ℕ) (field : Field) (ws : List ℕ) → IsTextOfField text field ws → line_form text ≡ Some (Words field ws)
words_line_read text A ws is = register_read A (codes "a") a_read text is.numbers ws is.parts is.count is.six_digits is.digits
words_line_read text B ws is = register_read B (codes "b") b_read text is.numbers ws is.parts is.count is.six_digits is.digits
words_line_read text P ws is = register_read P (codes "p") p_read text is.numbers ws is.parts is.count is.six_digits is.digits
words_line_read text I ws is = register_read I (codes "i") i_read text is.numbers ws is.parts is.count is.six_digits is.digits
words_line_read text Io ws is = register_read Io (codes "io") io_read text is.numbers ws is.parts is.count is.six_digits is.digits
words_line_read text Carry ws is = code_line_read text Carry ws is (carry_form ((48 + is.code) ∷ []) ∙ digit_read Carry 0 1 is.code (omega arith) is.valid)
words_line_read text Slot ws is = code_line_read text Slot ws is (slot_form ((48 + is.code) ∷ []) ∙ digit_read Slot 0 4 is.code (omega arith) is.valid)
words_line_read text Wait ws is = code_line_read text Wait ws is (wait_line_form (wait_text is.code) ∙ wait_read is.code is.valid.0 is.valid.1)
words_line_read text Stop ws is = code_line_read text Stop ws is (stop_form ((48 + is.code) ∷ []) ∙ digit_read Stop 1 3 is.code is.valid.0 is.valid.1)
words_line_read text (Data k) ws is = data_line_read text k ws is
words_line_read text (Return k) ws is = return_line_read text k ws is
words_line_read text (Ram cell) ws is = ap line_form is.parts ∙ ram_form is.numbers ∙ cells_read Ram cell is.numbers ws is.count.0 is.six_digits is.digits is.count.1 is.count.2
words_line_read text (Rom cell) ws is = ap line_form is.parts ∙ rom_form is.numbers ∙ cells_read Rom cell is.numbers ws is.count.0 is.six_digits is.digits is.count.1 is.count.2

node_line_read : (text : List ℕ) (decimal_name : ℕ) → decimal_name < 1000 → text ≡ codes "node " ++ three_decimal_digits decimal_name → line_form text ≡ Some (Node decimal_name)
unfolding line_form state_line_form stack_memory_or_node_form node_line_form
node_line_read text decimal_name small is = rw is (rw (node_read decimal_name small) refl)

end_line_read : line_form (codes "end") ≡ Some End
unfolding line_form state_line_form stack_memory_or_node_form
end_line_read = refl

-- a text of a form parses as the form
pub form_read : (text : List ℕ) (f : LineForm) → IsLineFormText text f → line_form text ≡ Some f
form_read text (Node decimal_name) is = node_line_read text decimal_name is.0 is.1
form_read text (Words field ws) is = words_line_read text field ws is
form_read text End is = ap line_form is ∙ end_line_read

kept_parts : (format : Format) (found : Option LineForm) (f : LineForm) → form_if_allowed format found ≡ Some f → (found ≡ Some f) × IsFormatLineForm format f
kept_parts format None f e = cc
kept_parts format (Some (Node decimal_name)) f e = (e, let same : Node decimal_name ≡ f = cc in subst (IsFormatLineForm format) same tt)
kept_parts format (Some End) f e = (e, let same : End ≡ f = cc in subst (IsFormatLineForm format) same tt)
kept_parts format (Some (Words field ws)) f e =
    let (test, same) = guarded (format_has_field format field) (Words field ws) f e in
    (ap (λ g. Some g) same, subst (IsFormatLineForm format) same test)

-- a line that parses as a form in a format is a text of it in the format
pub kept_spelled : (format : Format) (text : List ℕ) (f : LineForm) → form_in_format format text ≡ Some f → IsTextInFormat format text f
kept_spelled format text f e = let (found, has) = kept_parts format (line_form text) f e in (form_spelled text f found, has)

kept : (format : Format) (f : LineForm) → IsFormatLineForm format f → form_if_allowed format (Some f) ≡ Some f
kept format (Node decimal_name) has = refl
kept format (Words field ws) has = rw has refl
kept format End has = refl

-- and the other way
pub kept_read : (format : Format) (text : List ℕ) (f : LineForm) → IsTextInFormat format text f → form_in_format format text ≡ Some f
kept_read format text f is = ap (form_if_allowed format) (form_read text f is.0) ∙ kept format f is.1

each_code : (field : Field) (ws : List ℕ) → ((w : ℕ) → IsFieldWord field w) → AreFieldWords field ws
each_code field [] holds = tt
each_code field (w ∷ ws) holds = (holds w, each_code field ws holds)

-- the waits of a field line are numbers of waits
pub codes_spelled : (text : List ℕ) (field : Field) (ws : List ℕ) → IsTextOfField text field ws → AreFieldWords field ws
codes_spelled text Wait ws is = subst (AreFieldWords Wait) (sym is.one) (is.valid.0, tt)
codes_spelled text A ws is = each_code A ws (λ w. tt)
codes_spelled text B ws is = each_code B ws (λ w. tt)
codes_spelled text P ws is = each_code P ws (λ w. tt)
codes_spelled text I ws is = each_code I ws (λ w. tt)
codes_spelled text Io ws is = each_code Io ws (λ w. tt)
codes_spelled text Carry ws is = each_code Carry ws (λ w. tt)
codes_spelled text Slot ws is = each_code Slot ws (λ w. tt)
codes_spelled text Stop ws is = each_code Stop ws (λ w. tt)
codes_spelled text (Data k) ws is = each_code (Data k) ws (λ w. tt)
codes_spelled text (Return k) ws is = each_code (Return k) ws (λ w. tt)
codes_spelled text (Ram cell) ws is = each_code (Ram cell) ws (λ w. tt)
codes_spelled text (Rom cell) ws is = each_code (Rom cell) ws (λ w. tt)

-- lines that parse as forms are texts of them
pub forms_spelled : (format : Format) (texts : List (List ℕ)) (forms : List LineForm) → map (form_in_format format) texts ≡ map (λ f. Some f) forms → AreLinesOfForms format texts forms
forms_spelled format [] [] e = tt
forms_spelled format [] (f ∷ forms) e = cc
forms_spelled format (text ∷ texts) [] e = cc
forms_spelled format (text ∷ texts) (f ∷ forms) e =
    let first : form_in_format format text ≡ Some f = cc in
    let others : map (form_in_format format) texts ≡ map (λ f. Some f) forms = cc in
    (kept_spelled format text f first, forms_spelled format texts forms others)

-- and the other way
pub forms_read : (format : Format) (texts : List (List ℕ)) (forms : List LineForm) → AreLinesOfForms format texts forms → map (form_in_format format) texts ≡ map (λ f. Some f) forms
forms_read format [] [] is = refl
forms_read format [] (f ∷ forms) is = absurd is
forms_read format (text ∷ texts) [] is = absurd is
forms_read format (text ∷ texts) (f ∷ forms) is = rw (kept_read format text f is.0, forms_read format texts forms is.1) refl
