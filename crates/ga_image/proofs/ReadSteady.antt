-- What an image describes is steady.
use Rattle.std.specs.Prelude.{nat_lt, nat_eq, ◌==◌, ◌-◌, ◌&&◌, ◌||◌, not}
use Rattle.std.specs.List.{AllByRecursion, IsDistinct}
use Rattle.std.proofs.Common.{◌≡◌, ◌≢◌, ℕ, ◌<◌, ◌⊎◌, inl, inr, Bool, true, false, cond, List, [], ◌∷◌, length, map, refl, sym, ◌∙◌, ap, subst, arith}
use Rattle.std.proofs.lemmas.Bool.{eqb-true, eqb-false}
use Rattle.std.proofs.lemmas.Bool.Decides.{eqb_tells}
use Rattle.std.proofs.lemmas.Map.Keys.{IsDistinct-head, IsDistinct-tail}
use Rattle.ga_ports.specs.Address.{side_of_single_set}
use Rattle.ga_node.specs.declared.wait.Wait.TheVariants.{Nothing, Fetch, Read, Write}
use Rattle.ga_node.specs.declared.wait.Wait.{Wait as NodeWait}
use Rattle.ga_node.specs.declared.place.NodePlace.TheVariants as place
use Rattle.ga_node.specs.State.{wait_of_code, node_with_value}
use Rattle.ga_node.specs.Record.{NodeState, node_at_load_defaults, record_of_node, IsWaitFittingSlotAndStop, HasWaitFittingSlotAndStop}
use Rattle.ga_grid.specs.Grid.{initial_p_of_node, default_chip}
use Rattle.ga_grid.specs.Chip.{node_at, chip_with_node, records_of_chip, HaveWaitsFittingSlotsAndStops}
use Rattle.ga_grid.proofs.Chips.{node_record_at-records_of_chip, node_at-with_node_same, node_at-with_node_other, length-chip_with_node, node_at-default_chip, length-default_chip}
use Rattle.ga_image.specs.declared.field.RunState.{RunState}
use Rattle.ga_image.specs.declared.field.Field.{Field}
use Rattle.ga_image.specs.declared.field.Field.TheVariants.{A, B, P, I, Io, Carry, Slot, Wait, Stop, Data, Return, Ram, Rom}
use Rattle.ga_image.specs.Fields.{run_state_at_load, run_state_with_field_write, run_state_with_field_word, run_state_after_words, is_inconsistent_run_state}
use Rattle.ga_image.specs.Grammar.{NodeBlock, IsBlockOfGridNode, field_line_writes, node_with_field_word, chip_with_blocks, IsImage}
use Rattle.ga_image.proofs.PrintedStates.{given}
use Rattle.ga_image.proofs.PrintedBack.{written_given}

-- a node has its block's wait, stop and slot, except for a wait or a stop that a later word cleared
record IsTied (node : NodeState) (held : RunState) : Type 0 where
  slot : node.slot ≡ held.slot
  wait : (node.wait ≡ Nothing) ⊎ (node.wait ≡ wait_of_code held.wait)
  stop : (node.stop ≡ 0) ⊎ (node.stop ≡ held.stop)

-- a node with the same three
same_tied : (node other : NodeState) (held : RunState) → other.slot ≡ node.slot → other.wait ≡ node.wait → other.stop ≡ node.stop → IsTied node held → IsTied other held
same_tied node other held slot wait stop tied = record {
  slot = slot ∙ tied.slot;
  wait = subst (λ (w : NodeWait). (w ≡ Nothing) ⊎ (w ≡ wait_of_code held.wait)) (sym wait) tied.wait;
  stop = subst (λ (n : ℕ). (n ≡ 0) ⊎ (n ≡ held.stop)) (sym stop) tied.stop;
}

data_tied : (node : NodeState) (held : RunState) (k word : ℕ) → IsTied node held → IsTied (node_with_field_word node (Data k) word) held
data_tied node held k word tied = either (k == 0) (k == 1) where
  either : (b c : Bool) → IsTied (node_with_value node (cond b place.T (cond c place.S (place.DataCell (k - 2)))) word) held
  either true c = same_tied node (node_with_value node place.T word) held refl refl refl tied
  either false true = same_tied node (node_with_value node place.S word) held refl refl refl tied
  either false false = same_tied node (node_with_value node (place.DataCell (k - 2)) word) held refl refl refl tied

return_tied : (node : NodeState) (held : RunState) (k word : ℕ) → IsTied node held → IsTied (node_with_field_word node (Return k) word) held
return_tied node held k word tied = either (k == 0) where
  either : (b : Bool) → IsTied (node_with_value node (cond b place.R (place.ReturnCell (k - 1))) word) held
  either true = same_tied node (node_with_value node place.R word) held refl refl refl tied
  either false = same_tied node (node_with_value node (place.ReturnCell (k - 1)) word) held refl refl refl tied

word_tied : (node : NodeState) (held : RunState) (field : Field) (word : ℕ) → IsTied node held → IsTied (node_with_field_word node field word) (run_state_with_field_word held field word)
word_tied node held A word tied = same_tied node _ held refl refl refl tied
word_tied node held B word tied = same_tied node _ held refl refl refl tied
word_tied node held P word tied = same_tied node _ held refl refl refl tied
word_tied node held I word tied = same_tied node _ held refl refl refl tied
word_tied node held Io word tied = same_tied node _ held refl refl refl tied
word_tied node held Carry word tied = same_tied node _ held refl refl refl tied
word_tied node held Slot word tied = record { slot = refl; wait = tied.wait; stop = tied.stop }
word_tied node held Wait word tied = record { slot = tied.slot; wait = inr refl; stop = inl refl }
word_tied node held Stop word tied = record { slot = tied.slot; wait = inl refl; stop = inr refl }
word_tied node held (Data k) word tied = data_tied node held k word tied
word_tied node held (Return k) word tied = return_tied node held k word tied
word_tied node held (Ram cell) word tied = same_tied node _ held refl refl refl tied
word_tied node held (Rom cell) word tied = same_tied node _ held refl refl refl tied

words_tied : (node : NodeState) (held : RunState) (ws : List (Field × ℕ)) → IsTied node held → IsTied (given node ws) (run_state_after_words held ws)
words_tied node held [] tied = tied
words_tied node held (w ∷ ws) tied = words_tied (node_with_field_word node w.0 w.1) (run_state_with_field_write held w) ws (word_tied node held w.0 w.1 tied)

-- what is not unsteady fits
fits : (zero low middle none due : Bool) (code slot stop : ℕ) → (none ≡ true → stop ≡ 0) → (due ≡ true → slot ≡ 4) → (due ≡ false → slot ≢ 4)
    → (not zero && (not none || cond low (not due) due)) ≡ false
    → IsWaitFittingSlotAndStop (cond zero Nothing (cond low (Fetch (code - 16)) (cond middle (Read (code - 32)) (Write (side_of_single_set (code - 48)))))) slot stop
fits true low middle none due code slot stop runs_on is other test = tt
fits false low middle false due code slot stop runs_on is other test = cc
fits false true middle true true code slot stop runs_on is other test = (is refl, runs_on refl)
fits false true middle true false code slot stop runs_on is other test = cc
fits false false middle true true code slot stop runs_on is other test = cc
fits false false true true false code slot stop runs_on is other test = (other refl, runs_on refl)
fits false false false true false code slot stop runs_on is other test = (other refl, runs_on refl)

held_fits : (node : NodeState) (held : RunState) → IsTied node held → is_inconsistent_run_state held ≡ false → IsWaitFittingSlotAndStop node.wait node.slot node.stop
held_fits node held tied test =
    let slot_due : (held.slot == 4) ≡ true → node.slot ≡ 4 = λ e. tied.slot ∙ eqb-true held.slot 4 e in
    let slot_other : (held.slot == 4) ≡ false → node.slot ≢ 4 = λ e same. eqb-false held.slot 4 e (sym tied.slot ∙ same) in
    let none : (held.stop == 0) ≡ true → node.stop ≡ 0 = λ e. elim tied.stop [ inl is ↦ is | inr is ↦ is ∙ eqb-true held.stop 0 e ] in
    elim tied.wait [
      | inl is ↦ subst (λ (w : NodeWait). IsWaitFittingSlotAndStop w node.slot node.stop) (sym is) tt
      | inr is ↦ subst (λ (w : NodeWait). IsWaitFittingSlotAndStop w node.slot node.stop) (sym is)
          (fits (held.wait == 0) (nat_lt held.wait 32) (nat_lt held.wait 48) (held.stop == 0) (held.slot == 4) held.wait node.slot node.stop none slot_due slot_other test)
    ]

-- ---- chips

abbrev Steady : List NodeState → Type 0
Steady chip = (n : ℕ) → n < 144 → IsWaitFittingSlotAndStop (node_at chip n).wait (node_at chip n).slot (node_at chip n).stop

-- the nodes of these blocks are as a block finds them
abbrev AreUntouched : List NodeState → List NodeBlock → Type 0
AreUntouched chip blocks = AllByRecursion (λ block. IsTied (node_at chip block.node) run_state_at_load) blocks

still_untouched : (chip : List NodeState) (n : ℕ) (node : NodeState) (blocks : List NodeBlock) → AllByRecursion (λ m. nat_eq n m ≡ false) (map (λ block. block.node) blocks) → AreUntouched chip blocks → AreUntouched (chip_with_node chip n node) blocks
still_untouched chip n node [] other untouched = tt
still_untouched chip n node (block ∷ blocks) other untouched =
    let apart : block.node ≢ n = λ e. eqb-false n block.node other.0 (sym e) in
    (subst (λ (at : NodeState). IsTied at run_state_at_load) (sym (node_at-with_node_other chip n block.node node apart)) untouched.0, still_untouched chip n node blocks other.1 untouched.1)

loaded_steady : (blocks : List NodeBlock) (chip : List NodeState) → length chip ≡ 144 → AllByRecursion IsBlockOfGridNode blocks → IsDistinct nat_eq (map (λ block. block.node) blocks) → AreUntouched chip blocks → Steady chip → Steady (chip_with_blocks chip blocks)
loaded_steady [] chip size each apart untouched steady = steady
loaded_steady (block ∷ blocks) chip size each apart untouched steady =
    let ws = field_line_writes block.field_lines in
    let k = block.node in
    let small : k < length chip = let h = each.0.node in omega arith in
    let node = given (node_at chip k) ws in
    let next = chip_with_node chip k node in
    let here : IsWaitFittingSlotAndStop node.wait node.slot node.stop = held_fits node (run_state_after_words run_state_at_load ws) (words_tied (node_at chip k) run_state_at_load ws untouched.0) each.0.steady in
    let still : Steady next = λ n below. elim (eqb_tells n k) [
      | inl same ↦ subst (λ (at : NodeState). IsWaitFittingSlotAndStop at.wait at.slot at.stop) (sym (ap (node_at next) same.1 ∙ node_at-with_node_same chip k node small)) here
      | inr other ↦ subst (λ (at : NodeState). IsWaitFittingSlotAndStop at.wait at.slot at.stop) (sym (node_at-with_node_other chip k n node other.1)) (steady n below)
    ] in
    let heads = IsDistinct-head nat_eq k (map (λ block. block.node) blocks) apart in
    subst (λ (c : List NodeState). Steady (chip_with_blocks c blocks)) (sym (written_given k chip ws small))
    (loaded_steady blocks next (length-chip_with_node chip k node ∙ size) each.1 (IsDistinct-tail nat_eq k (map (λ block. block.node) blocks) apart) (still_untouched chip k node blocks heads untouched.1) still)

fresh_tied : (p : ℕ) → IsTied (node_at_load_defaults p) run_state_at_load
unfolding node_at_load_defaults
fresh_tied p = record { slot = refl; wait = inl refl; stop = inl refl }

all_untouched : (blocks : List NodeBlock) → AllByRecursion IsBlockOfGridNode blocks → AreUntouched default_chip blocks
all_untouched [] each = tt
all_untouched (block ∷ blocks) each =
    (subst (λ (at : NodeState). IsTied at run_state_at_load) (sym (node_at-default_chip block.node each.0.node)) (fresh_tied (initial_p_of_node block.node)), all_untouched blocks each.1)

fresh_steady : (p : ℕ) → IsWaitFittingSlotAndStop (node_at_load_defaults p).wait (node_at_load_defaults p).slot (node_at_load_defaults p).stop
unfolding node_at_load_defaults
fresh_steady p = tt

default_steady : Steady default_chip
default_steady n small = subst (λ (at : NodeState). IsWaitFittingSlotAndStop at.wait at.slot at.stop) (sym (node_at-default_chip n small)) (fresh_steady (initial_p_of_node n))

record_steady : (node : NodeState) → IsWaitFittingSlotAndStop node.wait node.slot node.stop → HasWaitFittingSlotAndStop (record_of_node node)
unfolding record_of_node
record_steady node fit = fit

-- the law
pub images_steady : (texts : List (List ℕ)) (chip : List NodeState) → IsImage texts chip → HaveWaitsFittingSlotsAndStops (records_of_chip chip)
images_steady texts chip image = λ n small.
    let steady = loaded_steady image.blocks default_chip length-default_chip image.each image.apart (all_untouched image.blocks image.each) default_steady in
    let at : Steady chip = subst Steady (sym image.describes) steady in
    subst HasWaitFittingSlotAndStop (sym (node_record_at-records_of_chip chip n)) (record_steady (node_at chip n) (at n small))
