use Rattle.std.proofs.Common.{◌≡◌, List, ℕ, [], ◌++◌, take, codes, ap, sym, ◌∙◌, append_assoc}
use Rattle.ga_explorer_json.specs.Refusals.{text_after_first_such_byte, text_before_first_such_byte}
use Rattle.ga_explorer_json.proofs.Refusals.{noted, seven_parts}
use Rattle.ga_explorer_json.proofs.noted_refusal.note_refusal.Goals as goal

pub returns : goal.returns
returns c =
    let rest = c.args.rest.now in
    let number_on = c.text_after_first_such_byte-number_on.ensures in
    let word_on = c.text_after_first_such_byte-word_on.ensures ∙ ap (λ (z : List ℕ). text_after_first_such_byte 34 z) (c.text_after_first_such_byte.ensures ∙ ap (λ (z : List ℕ). text_after_first_such_byte 58 z) number_on) in
    let hint_on = c.text_after_first_such_byte-hint_on.ensures ∙ ap (λ (z : List ℕ). text_after_first_such_byte 34 z) (c.text_after_first_such_byte-2.ensures ∙ ap (λ (z : List ℕ). text_after_first_such_byte 58 z) word_on) in
    seven_parts c.append_front.new.text.items c.append_front-2.new.text.items c.append_front-3.new.text.items c.append_front-4.new.text.items
    c.append_front-5.new.text.items c.append_front-6.new.text.items c.append_front-7.new.text.items
    _ _ _
    (c.append_front.ensures ∙ ap (λ (z : List ℕ). take 201 (z ++ codes "no ")) c.clear.ensures)
    (c.append_front-2.ensures ∙ ap (λ (z : List ℕ). take 201 (c.append_front.new.text.items ++ z)) (c.text_before_first_such_byte.ensures ∙ ap (λ (z : List ℕ). text_before_first_such_byte 44 z) number_on))
    c.append_front-3.ensures
    (c.append_front-4.ensures ∙ ap (λ (z : List ℕ). take 201 (c.append_front-3.new.text.items ++ z)) (c.text_before_first_such_byte-2.ensures ∙ ap (λ (z : List ℕ). text_before_first_such_byte 34 z) word_on))
    c.append_front-5.ensures
    (c.append_front-6.ensures ∙ ap (λ (z : List ℕ). take 201 (c.append_front-5.new.text.items ++ z)) (c.text_before_first_such_byte-3.ensures ∙ ap (λ (z : List ℕ). text_before_first_such_byte 34 z) hint_on))
    c.append_front-7.ensures
