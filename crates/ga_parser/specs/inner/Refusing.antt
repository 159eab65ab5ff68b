-- Whether a word would be refused, before it is taken.
use Rattle.std.specs.Prelude.{ℕ, ◌≡◌, if◌then◌else◌, List, [], ◌∷◌, Option, Some, None, Result, IsOk}
use Rattle.ga_parser.specs.declared.controls.Open.{Open}
use Rattle.ga_parser.specs.declared.controls.Open.TheVariants.{Loop, JumpToLaterLabel as JumpAhead}
use Rattle.ga_parser.specs.declared.fault.SourceFaultCause.{SourceFaultCause}
use Rattle.ga_parser.specs.declared.fault.SourceFaultCause.TheVariants.{LabelTwice, RegisterTwice, NameTaken, UnmatchedControlWord}
use Rattle.ga_parser.specs.declared.item.RegisterValue.{RegisterValue}
use Rattle.ga_parser.specs.declared.vocabulary.Control.{Control}
use Rattle.ga_parser.specs.declared.vocabulary.Control.TheVariants.{Begin, For, Again, Until, Next, NextAround, Unext, While, Repeat, If, Else, Then}
use Rattle.ga_parser.specs.Asking.{LabelContent, Refusal, refusal_at_line, is_placed_label, known_label_number}
use Rattle.ga_parser.specs.Requests.{refusal_cause_of_fault_cause}
use Rattle.ga_parser.specs.Vocabulary.{is_reserved_word}

-- what words ask for is refused for just this cause, where there is one
abbrev pub RefusesForCause : {X : Type 0} → Option SourceFaultCause → ℕ → Result X Refusal → Type 0
RefusesForCause None line asks = IsOk asks
RefusesForCause (Some cause) line asks = asks ≡ refusal_at_line line (refusal_cause_of_fault_cause cause)

-- ---- the causes

-- the open word that comes first
abbrev pub first_open : List Open → Option Open
first_open [] = None
first_open (one ∷ around) = Some one

-- those around it
abbrev pub open_words_around_first : List Open → List Open
open_words_around_first [] = []
open_words_around_first (one ∷ around) = around

abbrev pub loop_end_refusal_cause : Option Open → Option SourceFaultCause
loop_end_refusal_cause (Some (Loop _ _)) = None
loop_end_refusal_cause _ = Some UnmatchedControlWord

abbrev pub jump_ahead_refusal_cause : List LabelContent → Option Open → Option SourceFaultCause
jump_ahead_refusal_cause labels (Some (JumpAhead _ label)) = if is_placed_label labels label then Some LabelTwice else None
jump_ahead_refusal_cause labels _ = Some UnmatchedControlWord

-- the first of two causes
abbrev pub first_present_cause : Option SourceFaultCause → Option SourceFaultCause → Option SourceFaultCause
first_present_cause (Some cause) _ = Some cause
first_present_cause None other = other

abbrev pub control_word_refusal_cause : List LabelContent → List Open → Control → Option SourceFaultCause
control_word_refusal_cause labels opened Begin = None
control_word_refusal_cause labels opened For = None
control_word_refusal_cause labels opened (If op) = None
control_word_refusal_cause labels opened Else = jump_ahead_refusal_cause labels (first_open opened)
control_word_refusal_cause labels opened Then = jump_ahead_refusal_cause labels (first_open opened)
control_word_refusal_cause labels opened Again = loop_end_refusal_cause (first_open opened)
control_word_refusal_cause labels opened (Until op) = loop_end_refusal_cause (first_open opened)
control_word_refusal_cause labels opened Next = loop_end_refusal_cause (first_open opened)
control_word_refusal_cause labels opened NextAround = loop_end_refusal_cause (first_open (open_words_around_first opened))
control_word_refusal_cause labels opened Unext = loop_end_refusal_cause (first_open opened)
control_word_refusal_cause labels opened (While op) = loop_end_refusal_cause (first_open opened)
control_word_refusal_cause labels opened Repeat = first_present_cause (loop_end_refusal_cause (first_open opened)) (jump_ahead_refusal_cause labels (first_open (open_words_around_first opened)))

-- a label that has a place already
abbrev pub repeated_label_cause : List LabelContent → Option ℕ → Option SourceFaultCause
repeated_label_cause labels (Some label) = if is_placed_label labels label then Some LabelTwice else None
repeated_label_cause labels None = None

abbrev pub label_name_refusal_cause : List LabelContent → List ℕ → Option SourceFaultCause
label_name_refusal_cause labels name = if is_reserved_word name then Some NameTaken else repeated_label_cause labels (known_label_number labels name)

-- a register that is given already
abbrev pub repeated_register_cause : Option RegisterValue → Option SourceFaultCause
repeated_register_cause (Some given) = Some RegisterTwice
repeated_register_cause None = None
