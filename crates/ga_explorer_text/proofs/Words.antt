-- The line of a row has the word of its value, wherever that was read.
use Rattle.std.proofs.Common.{◌≡◌, ℕ, ◌-◌, ◌≤◌, ◌==◌, ◌&&◌, ◌||◌, Bool, true, false, cond, List, [], ◌++◌, codes, Option, Some, None, length, refl, sym, ap, ◌∙◌, arith, ◌<◌, ◌⊎◌, inl, inr}
use Rattle.std.specs.Prelude.{min}
use Rattle.std.proofs.lemmas.Bool.{cases_lt}
use Rattle.std.specs.List.{slice_get}
use Rattle.ga_word.specs.Word.{hex_digits_of_word}
use Rattle.ga_node.specs.Record.{HasValidListSizes}
use Rattle.ga_node.specs.declared.kind.OwnEventKind.{OwnEventKind}
use Rattle.ga_node.specs.declared.kind.OwnEventKind.TheVariants as kind
use Rattle.ga_grid.specs.declared.node_id.NodeId.{NodeId}
use Rattle.ga_event.specs.declared.made.MadeEvent.{MadeEvent}
use Rattle.ga_event.specs.declared.made.MadeEvent.TheVariants.{Own, Pass}
use Rattle.ga_event.specs.declared.flow.part.NodePart.{NodePart}
use Rattle.ga_event.specs.declared.flow.part.NodePart.TheVariants as part
use Rattle.ga_event.specs.Told.{count_steps}
use Rattle.ga_event.specs.Flow.{IsNodePartInRange, node_part_value}
use Rattle.ga_lab.specs.Machine.{MachineState, history_of_node}
use Rattle.ga_display.specs.Texts.{register_text}
use Rattle.ga_provenance.specs.declared.value.PartValue.{PartValue}
use Rattle.ga_provenance.specs.Origins.{makes_t_with_a_or_carry, is_made_with_a_or_carry, value_made_by_step, node_after_steps, origin_after_steps, origin_of_value}
use Rattle.ga_provenance.specs.inner.{HasMachineAllNodes}
use Rattle.ga_provenance.proofs.Words.{word_kept}
use Rattle.ga_provenance.proofs.Made.{origin_last}
use Rattle.ga_provenance.proofs.Causes.{made_before}
use Rattle.ga_explorer_text.specs.Whence.{part_name_suffix, step_action_text, word_of_value, register_a_after_making_step, op_result_text, own_event_result_text, transfer_result_text, step_result_text, value_with_word_text, value_origin_text}
use Rattle.ga_explorer_text.specs.inner.{is_transferred_part, is_part_transferred_by, has_only_transferred_word}

-- ---- lines that have no word of their own

passed_line : (at : NodePart) (word other : ℕ) → is_transferred_part at ≡ true → transfer_result_text at word ≡ transfer_result_text at other
passed_line (part.Data k) word other h = ap (λ (b : Bool). cond b [] (codes " " ++ hex_digits_of_word word)) h ∙ sym (ap (λ (b : Bool). cond b [] (codes " " ++ hex_digits_of_word other)) h)
passed_line part.I word other h = refl
passed_line at word other h = absurd (cc)

transferred_line : (o : Option MadeEvent) (at : NodePart) (word a other b : ℕ) → is_part_transferred_by o at ≡ true → step_result_text o at word a ≡ step_result_text o at other b
transferred_line None at word a other b h = absurd (cc)
transferred_line (Some (Own node step what)) at word a other b h = absurd (cc)
transferred_line (Some (Pass w i r j sent)) at word a other b h = passed_line at word other h

by_step : (b z : Bool) (x y x' y' : List ℕ) → cond b false z ≡ true → (z ≡ true → y ≡ y') → cond b x y ≡ cond b x' y'
by_step true z x y x' y' h same = absurd (cc)
by_step false z x y x' y' h same = same h

pub no_word : (s : MachineState) (value : PartValue) (word a : ℕ) → has_only_transferred_word s value ≡ true → value_with_word_text s value word a ≡ value_origin_text s value
no_word s value word a h =
    let made = slice_get (history_of_node s value.node.number) (value.step - 1) in
    by_step (value.step == 0) (is_part_transferred_by made value.part) _ _ _ _ h
    (λ is. ap (λ (z : List ℕ). step_action_text s value.node value.step ++ part_name_suffix value.part ++ z) (transferred_line made value.part word a (word_of_value s value) (register_a_after_making_step s value) is))

-- ---- lines without A

left_false : (b c : Bool) → (b || c) ≡ false → b ≡ false
left_false true c h = absurd (cc)
left_false false c h = refl

op_line : (code : ℕ) (at : NodePart) (word a b : ℕ) → makes_t_with_a_or_carry (kind.Run code) ≡ false → op_result_text code at word a ≡ op_result_text code at word b
op_line code (part.Data k) word a b h =
    let first = left_false (code == 16) (code == 20) h in
    ap (λ (z : Bool). cond (z && k == 0) ((codes " " ++ hex_digits_of_word word) ++ register_text (codes "a") a) (codes " " ++ hex_digits_of_word word)) first
    ∙ sym (ap (λ (z : Bool). cond (z && k == 0) ((codes " " ++ hex_digits_of_word word) ++ register_text (codes "a") b) (codes " " ++ hex_digits_of_word word)) first)
op_line code at word a b h = refl

kind_line : (what : OwnEventKind) (at : NodePart) (word a b : ℕ) → makes_t_with_a_or_carry what ≡ false → own_event_result_text what at word a ≡ own_event_result_text what at word b
kind_line (kind.Run code) at word a b h = op_line code at word a b h
kind_line what at word a b h = refl

made_line : (o : Option MadeEvent) (at : NodePart) (word a b : ℕ) → is_made_with_a_or_carry o ≡ false → step_result_text o at word a ≡ step_result_text o at word b
made_line None at word a b h = refl
made_line (Some (Own node step what)) at word a b h = kind_line what at word a b h
made_line (Some (Pass w i r j sent)) at word a b h = refl

without_a : (s : MachineState) (value : PartValue) (word a b : ℕ) → is_made_with_a_or_carry (slice_get (history_of_node s value.node.number) (value.step - 1)) ≡ false → value_with_word_text s value word a ≡ value_with_word_text s value word b
without_a s value word a b h =
    let made = slice_get (history_of_node s value.node.number) (value.step - 1) in
    by_load (value.step == 0) _ _ _ (ap (λ (z : List ℕ). step_action_text s value.node value.step ++ part_name_suffix value.part ++ z) (made_line made value.part word a b h))
  where
    by_load : (c : Bool) (x y y' : List ℕ) → y ≡ y' → cond c x y ≡ cond c x y'
    by_load c x y y' same = ap (cond c x) same

pub used_line : (s : MachineState) (value used : PartValue) (word a : ℕ) → is_made_with_a_or_carry (slice_get (history_of_node s value.node.number) (value.step - 1)) ≡ false → origin_of_value s used ≡ value → word ≡ word_of_value s (origin_of_value s used)
    → value_with_word_text s value word a ≡ value_origin_text s value
used_line s value used word a h made e =
    ap (λ (z : ℕ). value_with_word_text s value z a) (e ∙ ap (word_of_value s) made)
    ∙ without_a s value (word_of_value s value) a (register_a_after_making_step s value) h

-- ---- the word where a value was used

least : (m n : ℕ) → min m n ≤ n
least m n = omega arith

pub word_there : (s : MachineState) (used : PartValue) (place steps : ℕ) → HasMachineAllNodes s → place ≡ min used.step steps → steps ≡ count_steps used.node.number s.kept → steps ≡ length (history_of_node s used.node.number) → IsNodePartInRange used.part
    → HasValidListSizes (node_after_steps s used.node.number place) → is_made_with_a_or_carry (slice_get (history_of_node s used.node.number) ((origin_of_value s used).step - 1)) ≡ false
    → node_part_value 0 (node_after_steps s used.node.number place) used.part ≡ word_of_value s (origin_of_value s used)
word_there s used place steps whole is count told at sizes apart =
    let near = value_made_by_step used.node place used.part in
    let same : origin_of_value s near ≡ origin_of_value s used = kept_origin (cases_lt used.step steps) in
    let made : (origin_of_value s near).step ≤ place = (made_before s used.node place used.part).1 in
    let node : (origin_of_value s near).node ≡ used.node = (made_before s used.node place used.part).0 in
    word_kept s near whole (omega (arith, is, told)) at sizes (λ top. ap (λ (v : PartValue). is_made_with_a_or_carry (slice_get (history_of_node s used.node.number) (v.step - 1))) same ∙ apart)
    ∙ ap (λ (k : ℕ). node_part_value 0 (node_after_steps s used.node.number k) (origin_of_value s near).part) (let f : (origin_of_value s near).step ≡ min (origin_of_value s near).step (count_steps used.node.number s.kept) = omega (arith, made, is, count) in f)
    ∙ ap (λ (n : NodeId). node_part_value 0 (node_after_steps s n.number (min (origin_of_value s near).step (count_steps n.number s.kept))) (origin_of_value s near).part) (sym node)
    ∙ ap (word_of_value s) same
  where
    kept_origin : (used.step < steps) ⊎ (steps ≤ used.step) → origin_of_value s (value_made_by_step used.node place used.part) ≡ origin_of_value s used
    kept_origin (inl l) = ap (λ (k : ℕ). origin_after_steps s used.node k used.part) (let f : place ≡ used.step = omega (arith, is, l) in f)
    kept_origin (inr l) =
        ap (λ (k : ℕ). origin_after_steps s used.node k used.part) (let f : place ≡ steps = omega (arith, is, l) in f)
        ∙ origin_last s used.node used.step steps used.part at told l

-- the step of a value that was only moved, by where it was used
pub apart_of : (s : MachineState) (value used : PartValue) → origin_of_value s used ≡ value → is_made_with_a_or_carry (slice_get (history_of_node s value.node.number) (value.step - 1)) ≡ false
    → is_made_with_a_or_carry (slice_get (history_of_node s used.node.number) ((origin_of_value s used).step - 1)) ≡ false
apart_of s value used made apart =
    ap (λ (n : NodeId). is_made_with_a_or_carry (slice_get (history_of_node s n.number) ((origin_of_value s used).step - 1))) (sym (made_before s used.node used.step used.part).0)
    ∙ ap (λ (v : PartValue). is_made_with_a_or_carry (slice_get (history_of_node s v.node.number) (v.step - 1))) made
    ∙ apart
