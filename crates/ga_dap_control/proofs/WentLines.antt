-- The text about a node that was rolled back.
use Rattle.std.proofs.Common.{◌≡◌, ◌∙◌, ◌<◌, ◌+◌, ℕ, List, ◌++◌, length, set, slice_index_or, sym, ap, arith, add-one, inl, inr, get_or-set_other}
use Rattle.std.proofs.lemmas.Bool.{cases_eq}
use Rattle.std.proofs.lemmas.Grind.{get_or-set_at}
use Rattle.std.proofs.lemmas.List.{append-nil, append_assoc}
use Rattle.ga_text.specs.Lines.{Text}
use Rattle.ga_lab.specs.Machine.{MachineState}
use Rattle.ga_dap_control.specs.Back.{removed_steps_of_other_node_text, removed_steps_text_below}

pub counted_more : (steps : List ℕ) (k count : ℕ) (f : ℕ → ℕ) → k < length steps → ((n : ℕ) → n < k → slice_index_or steps n 0 ≡ f n) → count ≡ f k
    → (n : ℕ) → n < k + 1 → slice_index_or (set steps k count) n 0 ≡ f n
counted_more steps k count f within old e n lt = elim (cases_eq n k) as (λ w. slice_index_or (set steps k count) n 0 ≡ f n) [
  | inl q ↦ (let here : slice_index_or (set steps k count) n 0 ≡ count = get_or-set_at steps k n count 0 q within in here ∙ e ∙ ap f (sym q))
  | inr ne ↦ (let here : slice_index_or (set steps k count) n 0 ≡ slice_index_or steps n 0 = get_or-set_other steps k n count 0 ne in here ∙ old n (omega (arith, lt, ne)))
]

pub none_gone : (node : ℕ) (before : List ℕ) (s : MachineState) (text : Text) → text ≡ text ++ removed_steps_text_below node before s 0
unfolding removed_steps_text_below
none_gone node before s text = sym (append-nil text)

pub one_gone : (node : ℕ) (before : List ℕ) (s : MachineState) (n : ℕ) (first old new : Text) → old ≡ first ++ removed_steps_text_below node before s n → new ≡ old ++ removed_steps_of_other_node_text node before s n
    → new ≡ first ++ removed_steps_text_below node before s (n + 1)
unfolding removed_steps_text_below
one_gone node before s n first old new so grown =
    rw add-one (grown ∙ ap (λ (z : Text). z ++ removed_steps_of_other_node_text node before s n) so ∙ append_assoc first (removed_steps_text_below node before s n) (removed_steps_of_other_node_text node before s n))
