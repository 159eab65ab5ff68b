-- Texts of nodes and rows, one more at a time.
use Rattle.std.proofs.Common.{◌≡◌, ℕ, zero, suc, ◌+◌, List, [], ◌++◌, refl, sym, ap, ◌∙◌, append_assoc}
use Rattle.std.proofs.lemmas.List.{append-nil}
use Rattle.ga_lab.specs.Machine.{MachineState}
use Rattle.ga_explorer_text.specs.Texts.{node_symbol_text, node_symbols_text, chip_row_text, chip_rows_text}

no_cells : (s : MachineState) (n : ℕ) → node_symbols_text s n zero ≡ []
unfolding node_symbols_text
no_cells s n = refl

one_cell : (s : MachineState) (n more : ℕ) → node_symbols_text s n (suc more) ≡ node_symbol_text s n ++ node_symbols_text s (n + 1) more
unfolding node_symbols_text
one_cell s n more = refl

no_rows : (s : MachineState) → chip_rows_text s zero ≡ []
unfolding chip_rows_text
no_rows s = refl

one_row : (s : MachineState) (row : ℕ) → chip_rows_text s (suc row) ≡ chip_row_text s row ++ chip_rows_text s row
unfolding chip_rows_text
one_row s row = refl

pub same_cells : (s : MachineState) (n k left more : ℕ) (out : List ℕ) → k ≡ n → left ≡ more → out ++ node_symbols_text s k left ≡ out ++ node_symbols_text s n more
same_cells s n k left more out e f = ap (λ (z : ℕ). out ++ node_symbols_text s z left) e ∙ ap (λ (z : ℕ). out ++ node_symbols_text s n z) f

pub next_cell : (s : MachineState) (k m left more : ℕ) (out new rest : List ℕ) → m ≡ k + 1 → left ≡ suc more → new ≡ out ++ node_symbol_text s k
    → out ++ node_symbols_text s k left ≡ rest → new ++ node_symbols_text s m more ≡ rest
next_cell s k m left more out new rest e f g h =
    ap (λ (z : List ℕ). z ++ node_symbols_text s m more) g ∙ append_assoc out (node_symbol_text s k) (node_symbols_text s m more)
    ∙ ap (λ (z : ℕ). out ++ (node_symbol_text s k ++ node_symbols_text s z more)) e ∙ ap (λ (z : List ℕ). out ++ z) (sym (one_cell s k more))
    ∙ ap (λ (z : ℕ). out ++ node_symbols_text s k z) (sym f) ∙ h

pub all_cells : (s : MachineState) (k left : ℕ) (out rest : List ℕ) → left ≡ zero → out ++ node_symbols_text s k left ≡ rest → out ≡ rest
all_cells s k left out rest e h =
    sym (append-nil out) ∙ ap (λ (z : List ℕ). out ++ z) (sym (no_cells s k)) ∙ ap (λ (z : ℕ). out ++ node_symbols_text s k z) (sym e) ∙ h

pub next_row : (s : MachineState) (row below : ℕ) (out new rest : List ℕ) → row ≡ suc below → new ≡ out ++ chip_row_text s below
    → out ++ chip_rows_text s row ≡ rest → new ++ chip_rows_text s below ≡ rest
next_row s row below out new rest e g h =
    ap (λ (z : List ℕ). z ++ chip_rows_text s below) g ∙ append_assoc out (chip_row_text s below) (chip_rows_text s below)
    ∙ ap (λ (z : List ℕ). out ++ z) (sym (one_row s below)) ∙ ap (λ (z : ℕ). out ++ chip_rows_text s z) (sym e) ∙ h

pub all_rows : (s : MachineState) (row : ℕ) (out rest : List ℕ) → row ≡ zero → out ++ chip_rows_text s row ≡ rest → out ≡ rest
all_rows s row out rest e h =
    sym (append-nil out) ∙ ap (λ (z : List ℕ). out ++ z) (sym (no_rows s)) ∙ ap (λ (z : ℕ). out ++ chip_rows_text s z) (sym e) ∙ h
