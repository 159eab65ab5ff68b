-- Whether words are refused, by what is open and by the labels that stand.
use Rattle.std.proofs.Common.{◌≡◌, ◌∙◌, ℕ, zero, suc, ◌-◌, ◌<◌, ◌≤◌, Bool, true, false, cond, List, [], ◌∷◌, ◌++◌, length, take, get_or, ap, sym, refl, arith, subst, Option, Some, None}
use Rattle.std.specs.Prelude.{reverse, Result, Ok, is_none, bytes_eq, codes}
use Rattle.std.specs.Option.{option_map_or}
use Rattle.std.proofs.lemmas.List.{reverse-append, length-take-le}
use Rattle.ga_slots.specs.declared.op.Op.TheVariants.{Jump as JumpOp, Next as NextOp}
use Rattle.ga_parser.specs.declared.item.AssemblyRequest.TheVariants.{Unext as UnextAsked}
use Rattle.ga_parser.specs.declared.controls.Open.{Open}
use Rattle.ga_parser.specs.declared.controls.Open.TheVariants.{Loop, JumpToLaterLabel as JumpAhead}
use Rattle.ga_parser.specs.declared.fault.SourceFaultCause.{SourceFaultCause}
use Rattle.ga_parser.specs.declared.fault.SourceFaultCause.TheVariants.{LabelTwice as StandsTwice, NameTaken as IsTaken}
use Rattle.ga_parser.specs.declared.vocabulary.Control.{Control}
use Rattle.ga_parser.specs.declared.vocabulary.Control.TheVariants.{Begin, For, Again, Until, Next, NextAround, Unext, While, Repeat, If, Else, Then}
use Rattle.ga_parser.specs.Asking.{ParseState, LabelContent, Refusal, refusal_at_line, ◌▷◌, is_placed_label, labels_with_added_label, control_word_requests, mark_label, jump_to_label, begin_jump_ahead, state_with_added_request, state_with_open_words, innermost_loop_label, innermost_ahead_label, end_jump_ahead, outer_loop_label, label_name_requests, known_label_number, set_register_once, given_value_of_register, word_requests, value_of_word, value_or_call_requests}
use Rattle.ga_parser.specs.Asking.RefusalCause.{LabelTwice, NameTaken, RegisterTwice}
use Rattle.ga_parser.specs.declared.item.RegisterValue.{RegisterValue}
use Rattle.ga_parser.specs.declared.item.Operand.{Operand}
use Rattle.ga_parser.specs.declared.vocabulary.Register.{Register as RegisterName}
use Rattle.ga_parser.specs.Vocabulary.{is_reserved_word, directive_of_word, opcode_of_word, control_of_word}
use Rattle.ga_parser.specs.inner.Refusing.{RefusesForCause, first_open, open_words_around_first, loop_end_refusal_cause, jump_ahead_refusal_cause, first_present_cause, control_word_refusal_cause, label_name_refusal_cause, repeated_label_cause, repeated_register_cause}

-- ---- what is open

-- items of which the last is at k: the others and that one
ends : (items : List Open) (k : ℕ) (d : Open) → length items ≡ suc k → items ≡ take k items ++ get_or items k d ∷ []
ends [] k d e = absurd (omega arith)
ends (one ∷ []) zero d e = refl
ends (one ∷ two ∷ items) zero d e = absurd (omega arith)
ends (one ∷ items) (suc k) d e = ap (λ (rest : List Open). one ∷ rest) (ends items k d (omega arith))

reversed : (items : List Open) (k : ℕ) (d : Open) → length items ≡ suc k → reverse items ≡ get_or items k d ∷ reverse (take k items)
reversed items k d e = ap reverse (ends items k d e) ∙ reverse-append (take k items) (get_or items k d ∷ [])

pub last_is_first : (items : List Open) (d : Open) → 0 < length items → first_open (reverse items) ≡ Some (get_or items (length items - 1) d)
last_is_first items d some = ap first_open (reversed items (length items - 1) d (omega arith))

front_length : (items : List Open) (k : ℕ) → length items ≡ suc (suc k) → length (take (suc k) items) ≡ suc k
front_length items k e = length-take-le (suc k) items (omega arith)

front_last : (items : List Open) (k : ℕ) (d : Open) → get_or (take (suc k) items) k d ≡ get_or items k d
front_last [] zero d = refl
front_last [] (suc k) d = refl
front_last (one ∷ items) zero d = refl
front_last (one ∷ items) (suc k) d = front_last items k d

pub last_but_one : (items : List Open) (d : Open) → 2 ≤ length items → first_open (open_words_around_first (reverse items)) ≡ Some (get_or items (length items - 2) d)
last_but_one items d some =
    let k = length items - 2 in
    let e : length items ≡ suc (suc k) = omega arith in
    ap (λ (l : List Open). first_open (open_words_around_first l)) (reversed items (suc k) d e)
    ∙ (ap first_open (reversed (take (suc k) items) k d (front_length items k e)) ∙ ap (λ (one : Open). Some one) (front_last items k d))

-- ---- labels that stand

-- one more, which doesn't stand
pub behind_more : (labels : List LabelContent) (line : ℕ) (name : List ℕ) (k : ℕ) → is_placed_label (labels_with_added_label labels line name false) k ≡ is_placed_label labels k
behind_more [] line name zero = refl
behind_more [] line name (suc k) = refl
behind_more (label ∷ labels) line name zero = refl
behind_more (label ∷ labels) line name (suc k) = behind_more labels line name k

none_behind : (labels : List LabelContent) → is_placed_label labels (length labels) ≡ false
none_behind [] = refl
none_behind (label ∷ labels) = none_behind labels

abbrev marked_or : Bool → ParseState → ℕ → Result ParseState Refusal
marked_or b after line = cond b (refusal_at_line line LabelTwice) (Ok after)

same_mark : (b : Bool) (after : ParseState) (line : ℕ) → RefusesForCause (cond b (Some StandsTwice) None) line (marked_or b after line)
same_mark true after line = refl
same_mark false after line = refl

by_mark : (a b : Bool) → b ≡ a → (after : ParseState) (line : ℕ) → RefusesForCause (cond a (Some StandsTwice) None) line (marked_or b after line)
by_mark a b e after line = subst (λ (t : Bool). RefusesForCause (cond a (Some StandsTwice) None) line (marked_or t after line)) (sym e) (same_mark a after line)

-- ---- control words

loop_refused : (now : ParseState) (opened : List Open) (line : ℕ) (asks : ℕ × ParseState → ParseState) → RefusesForCause (loop_end_refusal_cause (first_open opened)) line (innermost_loop_label now opened line ▷ (λ end. Ok (asks end)))
loop_refused now [] line asks = refl
loop_refused now (Loop l k ∷ around) line asks = refl
loop_refused now (JumpAhead l k ∷ around) line asks = refl

around_refused : (now : ParseState) (opened : List Open) (line : ℕ) → RefusesForCause (loop_end_refusal_cause (first_open (open_words_around_first opened))) line (outer_loop_label now opened line ▷ (λ end. Ok (jump_to_label end.1 line NextOp end.0)))
around_refused now [] line = refl
around_refused now (one ∷ []) line = refl
around_refused now (one ∷ Loop l k ∷ around) line = refl
around_refused now (one ∷ JumpAhead l k ∷ around) line = refl

else_refused : (now : ParseState) (opened : List Open) (line : ℕ) → RefusesForCause (jump_ahead_refusal_cause now.labels (first_open opened)) line (innermost_ahead_label now opened line ▷ (λ end. mark_label (begin_jump_ahead end.1 line JumpOp) line end.0))
else_refused now [] line = refl
else_refused now (Loop l k ∷ around) line = refl
else_refused now (JumpAhead l k ∷ around) line = by_mark (is_placed_label now.labels k) (is_placed_label (labels_with_added_label now.labels line [] false) k) (behind_more now.labels line [] k) _ line

then_refused : (now : ParseState) (opened : List Open) (line : ℕ) → RefusesForCause (jump_ahead_refusal_cause now.labels (first_open opened)) line (innermost_ahead_label now opened line ▷ (λ end. mark_label end.1 line end.0))
then_refused now [] line = refl
then_refused now (Loop l k ∷ around) line = refl
then_refused now (JumpAhead l k ∷ around) line = by_mark (is_placed_label now.labels k) (is_placed_label now.labels k) refl _ line

repeat_refused : (now : ParseState) (opened : List Open) (line : ℕ) → RefusesForCause (first_present_cause (loop_end_refusal_cause (first_open opened)) (jump_ahead_refusal_cause now.labels (first_open (open_words_around_first opened)))) line
    (innermost_loop_label now opened line ▷ (λ end. end_jump_ahead (jump_to_label end.1 line JumpOp end.0) line ▷ (λ out. mark_label out.1 line out.0)))
repeat_refused now [] line = refl
repeat_refused now (JumpAhead l k ∷ around) line = refl
repeat_refused now (Loop l k ∷ []) line = refl
repeat_refused now (Loop l k ∷ Loop m j ∷ around) line = refl
repeat_refused now (Loop l k ∷ JumpAhead m j ∷ around) line = by_mark (is_placed_label now.labels j) (is_placed_label now.labels j) refl _ line

pub control_refused : (now : ParseState) (line : ℕ) (word : Control) → RefusesForCause (control_word_refusal_cause now.labels now.opened word) line (control_word_requests now line word)
control_refused now line Begin = refl
control_refused now line For = refl
control_refused now line (If op) = refl
control_refused now line Else = else_refused now now.opened line
control_refused now line Then = then_refused now now.opened line
control_refused now line Again = loop_refused now now.opened line (λ end. jump_to_label end.1 line JumpOp end.0)
control_refused now line (Until op) = loop_refused now now.opened line (λ end. jump_to_label end.1 line op end.0)
control_refused now line Next = loop_refused now now.opened line (λ end. jump_to_label end.1 line NextOp end.0)
control_refused now line NextAround = around_refused now now.opened line
control_refused now line Unext = loop_refused now now.opened line (λ end. state_with_added_request end.1 line (UnextAsked end.0))
control_refused now line (While op) = loop_refused now now.opened line (λ end. state_with_open_words (begin_jump_ahead end.1 line op) (Loop line end.0 ∷ (begin_jump_ahead end.1 line op).opened))
control_refused now line Repeat = repeat_refused now now.opened line

-- ---- names

name_by : (now : ParseState) (line : ℕ) (name : List ℕ) (is_taken_name : Bool) (before : Option ℕ) → RefusesForCause (cond is_taken_name (Some IsTaken) (repeated_label_cause now.labels before)) line
    (cond is_taken_name (refusal_at_line line NameTaken) (mark_label (record now { labels = option_map_or (λ _. now.labels) before (labels_with_added_label now.labels line name false) }) line (option_map_or (λ k. k) before (length now.labels))))
name_by now line name true before = refl
name_by now line name false (Some k) = by_mark (is_placed_label now.labels k) (is_placed_label now.labels k) refl _ line
name_by now line name false None =
    by_mark false (is_placed_label (labels_with_added_label now.labels line name false) (length now.labels)) (behind_more now.labels line name (length now.labels) ∙ none_behind now.labels) _ line

pub name_refused : (now : ParseState) (line : ℕ) (name : List ℕ) → RefusesForCause (label_name_refusal_cause now.labels name) line (label_name_requests now line name)
unfolding label_name_requests
name_refused now line name = name_by now line name (is_reserved_word name) (known_label_number now.labels name)

-- ---- registers

give_by : (after : ParseState) (line : ℕ) (before : Option RegisterValue) → RefusesForCause (repeated_register_cause before) line (cond (is_none before) (Ok after) (refusal_at_line line RegisterTwice))
give_by after line None = refl
give_by after line (Some given) = refl

pub give_refused : (now : ParseState) (line : ℕ) (register : RegisterName) (value : Operand) → RefusesForCause (repeated_register_cause (given_value_of_register now.registers register)) line (set_register_once now line register value)
give_refused now line register value = give_by _ line (given_value_of_register now.registers register)

-- ---- a word without arguments

pub control_word_refused : (now : ParseState) (line : ℕ) (word next : List ℕ) (one : Control) (cause : Option SourceFaultCause) → bytes_eq next (codes ",") ≡ false → directive_of_word word ≡ None → opcode_of_word word ≡ None → control_of_word word ≡ Some one
    → cause ≡ control_word_refusal_cause now.labels now.opened one → RefusesForCause cause line (word_requests now line word next)
unfolding word_requests
control_word_refused now line word next one cause comma none other is e =
    rw (e, comma, none, other, is) (control_refused now line one)

pub other_word_refused : (now : ParseState) (line : ℕ) (word next : List ℕ) (cause : Option SourceFaultCause) → bytes_eq next (codes ",") ≡ false → directive_of_word word ≡ None → opcode_of_word word ≡ None → control_of_word word ≡ None
    → RefusesForCause cause line (value_of_word now line word ▷ (λ said. value_or_call_requests said.1 line word next said.0)) → RefusesForCause cause line (word_requests now line word next)
unfolding word_requests
other_word_refused now line word next cause comma none other is refused = rw (comma, none, other, is) refused
