-- Stacks as at load, word by word, and the lines of nodes, one by one.
use Rattle.std.proofs.Common.{◌≡◌, ◌∙◌, ℕ, ◌+◌, ◌<◌, ◌≤◌, true, false, List, [], ◌++◌, length, get_or, drop, ap, sym, arith, append_assoc, append-nil}
use Rattle.std.specs.Prelude.{◌==◌, ◌&&◌}
use Rattle.std.specs.List.{list_all}
use Rattle.std.proofs.lemmas.List.{drop_more, drop_all}
use Rattle.ga_node.specs.Record.{NodeState}
use Rattle.ga_grid.specs.Chip.{node_at, default_node}
use Rattle.ga_stacks.specs.Ring.{initial_stack_word}
use Rattle.ga_debug_info.specs.Unrepresented.{is_initial_stack_word, unrepresented_fields_line, unrepresented_fields, unrepresented_lines_from}

pub fresh_more : (words : List ℕ) (k : ℕ) → k < length words → (get_or words k 0 == initial_stack_word) ≡ true → list_all is_initial_stack_word (drop k words) ≡ list_all is_initial_stack_word (drop (k + 1) words)
fresh_more words k within is = ap (list_all is_initial_stack_word) (drop_more words k 0 within) ∙ ap (λ b. b && list_all is_initial_stack_word (drop (k + 1) words)) is

pub fresh_none : (words : List ℕ) (k : ℕ) → k < length words → (get_or words k 0 == initial_stack_word) ≡ false → list_all is_initial_stack_word (drop k words) ≡ false
fresh_none words k within is = ap (list_all is_initial_stack_word) (drop_more words k 0 within) ∙ ap (λ b. b && list_all is_initial_stack_word (drop (k + 1) words)) is

pub fresh_all : (words : List ℕ) (k : ℕ) → length words ≤ k → list_all is_initial_stack_word (drop k words) ≡ true
fresh_all words k end = ap (list_all is_initial_stack_word) (drop_all k words end)

node_more : (n : ℕ) (nodes : List NodeState) → n < length nodes → unrepresented_lines_from n (drop n nodes) ≡ unrepresented_fields_line n (unrepresented_fields (node_at nodes n)) ++ unrepresented_lines_from (n + 1) (drop (n + 1) nodes)
unfolding unrepresented_lines_from
node_more n nodes within = ap (unrepresented_lines_from n) (drop_more nodes n default_node within)

node_none : (n : ℕ) (nodes : List NodeState) → length nodes ≤ n → unrepresented_lines_from n (drop n nodes) ≡ []
unfolding unrepresented_lines_from
node_none n nodes end = ap (unrepresented_lines_from n) (drop_all n nodes end)

-- the lines so far, and those of the other nodes, are all lines
pub record AreLines (chip : List NodeState) (text : List ℕ) (n : ℕ) : Type 0 where
  pub lines : text ++ unrepresented_lines_from n (drop n chip) ≡ unrepresented_lines_from 0 chip
  pub size : 0 < n → length chip ≡ 144

pub no_lines : (chip : List NodeState) (text : List ℕ) → text ≡ [] → AreLines chip text 0
no_lines chip text none = record { lines = ap (λ (t : List ℕ). t ++ unrepresented_lines_from 0 chip) none; size = λ some. absurd (omega arith) }

pub one_line_more : (chip : List NodeState) (text new : List ℕ) (n id : ℕ) (node : NodeState) → length chip ≡ 144 → n < 144 → id ≡ n → node ≡ node_at chip id
    → new ≡ text ++ unrepresented_fields_line id (unrepresented_fields node) → AreLines chip text n → AreLines chip new (n + 1)
one_line_more chip text new n id node size within is_id is_node pushed before =
    let line : unrepresented_fields_line id (unrepresented_fields node) ≡ unrepresented_fields_line n (unrepresented_fields (node_at chip n)) =
    ap (λ (k : ℕ). unrepresented_fields_line k (unrepresented_fields node)) is_id
    ∙ ap (λ (s : NodeState). unrepresented_fields_line n (unrepresented_fields s)) (is_node ∙ ap (node_at chip) is_id) in
    record {
      lines =
          ap (λ (t : List ℕ). t ++ unrepresented_lines_from (n + 1) (drop (n + 1) chip)) (pushed ∙ ap (λ (l : List ℕ). text ++ l) line)
          ∙ (append_assoc text (unrepresented_fields_line n (unrepresented_fields (node_at chip n))) (unrepresented_lines_from (n + 1) (drop (n + 1) chip))
          ∙ (ap (λ (t : List ℕ). text ++ t) (sym (node_more n chip (omega arith))) ∙ before.lines));
      size = λ some. size;
    }

pub all_lines : (chip : List NodeState) (text : List ℕ) (n : ℕ) → 144 ≤ n → AreLines chip text n → text ≡ unrepresented_lines_from 0 chip
all_lines chip text n end before =
    let size : length chip ≡ 144 = before.size (omega arith) in
    sym (append-nil text) ∙ (ap (λ (rest : List ℕ). text ++ rest) (sym (node_none n chip (omega arith))) ∙ before.lines)
