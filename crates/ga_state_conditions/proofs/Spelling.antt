-- Conditions that are read from a text one after another.
use Rattle.std.proofs.Common.{◌≡◌, ◌∙◌, ℕ, zero, suc, List, [], ◌∷◌, ◌++◌, Option, Some, None, Result, Ok, Err, refl, sym, ap, append_assoc}
use Rattle.ga_text.specs.Lines.{Line}
use Rattle.ga_debug_info.specs.declared.notes.DebugInfo.{DebugInfo}
use Rattle.ga_conditions.specs.Conditions.{split_first_condition}
use Rattle.ga_state_conditions.specs.declared.condition.StateCondition.{StateCondition}
use Rattle.ga_state_conditions.specs.declared.asked.ConditionFault.{ConditionFault}
use Rattle.ga_state_conditions.specs.declared.asked.ConditionFault.TheVariants.{TooManyConditions}
use Rattle.ga_state_conditions.specs.Asked.{parsed_state_condition, prepend_state_condition, joined_state_conditions, state_conditions_after_first, parsed_state_conditions_within}

-- conditions after others that were read
abbrev pub after_others : List StateCondition → Result (List StateCondition) ConditionFault → Result (List StateCondition) ConditionFault
after_others before (Ok more) = Ok (before ++ more)
after_others before (Err why) = Err why

one_more : (before : List StateCondition) (one : StateCondition) (rest : Result (List StateCondition) ConditionFault)
    → after_others (before ++ one ∷ []) rest ≡ after_others before (prepend_state_condition one rest)
one_more before one (Ok more) = ap (λ (z : List StateCondition). Ok z) (append_assoc before (one ∷ []) more)
one_more before one (Err why) = refl

-- the conditions of a text whose first one is this
split_at : (notes : Option DebugInfo) (more : ℕ) (text : Line) (first : Result StateCondition ConditionFault) (others : Option Line)
    → parsed_state_condition notes (split_first_condition text).0 ≡ first → (split_first_condition text).1 ≡ others
    → parsed_state_conditions_within notes (suc more) text ≡ joined_state_conditions first (state_conditions_after_first (parsed_state_conditions_within notes more) others)
unfolding parsed_state_conditions_within
split_at notes more text first others one rest =
    ap (λ (z : Result StateCondition ConditionFault). joined_state_conditions z (state_conditions_after_first (parsed_state_conditions_within notes more) (split_first_condition text).1)) one
    ∙ ap (λ (z : Option Line). joined_state_conditions first (state_conditions_after_first (parsed_state_conditions_within notes more) z)) rest

pub fault_first : (notes : Option DebugInfo) (more : ℕ) (text : Line) (before : List StateCondition) (why : ConditionFault) (whole : Result (List StateCondition) ConditionFault)
    → parsed_state_condition notes (split_first_condition text).0 ≡ Err why → after_others before (parsed_state_conditions_within notes (suc more) text) ≡ whole → whole ≡ Err why
fault_first notes more text before why whole fault is =
    sym is ∙ ap (after_others before) (split_at notes more text (Err why) (split_first_condition text).1 fault refl)

pub last_first : (notes : Option DebugInfo) (more : ℕ) (text : Line) (before : List StateCondition) (one : StateCondition) (whole : Result (List StateCondition) ConditionFault)
    → parsed_state_condition notes (split_first_condition text).0 ≡ Ok one → (split_first_condition text).1 ≡ None
    → after_others before (parsed_state_conditions_within notes (suc more) text) ≡ whole → whole ≡ Ok (before ++ one ∷ [])
last_first notes more text before one whole first last is =
    sym is ∙ ap (after_others before) (split_at notes more text (Ok one) None first last)

pub next_first : (notes : Option DebugInfo) (more : ℕ) (text others : Line) (before : List StateCondition) (one : StateCondition) (whole : Result (List StateCondition) ConditionFault)
    → parsed_state_condition notes (split_first_condition text).0 ≡ Ok one → (split_first_condition text).1 ≡ Some others
    → after_others before (parsed_state_conditions_within notes (suc more) text) ≡ whole → after_others (before ++ one ∷ []) (parsed_state_conditions_within notes more others) ≡ whole
next_first notes more text others before one whole first next is =
    one_more before one (parsed_state_conditions_within notes more others)
    ∙ sym (ap (after_others before) (split_at notes more text (Ok one) (Some others) first next)) ∙ is

pub too_many : (notes : Option DebugInfo) (text : Line) (before : List StateCondition) (whole : Result (List StateCondition) ConditionFault)
    → after_others before (parsed_state_conditions_within notes zero text) ≡ whole → whole ≡ Err TooManyConditions
unfolding parsed_state_conditions_within
too_many notes text before whole is = sym is
