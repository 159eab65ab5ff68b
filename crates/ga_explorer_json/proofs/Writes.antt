-- The steps that wrote a cell, one after another from the newest on.
use Rattle.std.proofs.Common.{◌≡◌, ℕ, zero, suc, ◌-◌, Option, Some, None, ap, sym, ◌∙◌, refl, arith}
use Rattle.ga_lab.specs.Machine.{MachineState}
use Rattle.ga_provenance.specs.Writes.{cell_write_at, newer_cell_write, newest_cell_write}
use Rattle.ga_provenance.specs.declared.writes.CellWrite.{CellWrite}
use Rattle.ga_provenance.proofs.Keeping.{written_step}
use Rattle.ga_json.specs.Values.{no_items, item}
use Rattle.ga_explorer_json.specs.Writes.{cell_write_json, rows_with_cell_write, cell_write_rows}

pub no_step : (s : MachineState) (n cell : ℕ) → cell_write_rows s n cell zero ≡ no_items
unfolding cell_write_rows
no_step s n cell = refl

one_step : (s : MachineState) (n cell k : ℕ) → cell_write_rows s n cell (suc k) ≡ rows_with_cell_write (cell_write_at s n cell k) (cell_write_rows s n cell k)
unfolding cell_write_rows
one_step s n cell k = refl

-- a step that wrote nothing has no row
passed : (s : MachineState) (n cell k : ℕ) → cell_write_at s n cell k ≡ None → cell_write_rows s n cell (suc k) ≡ cell_write_rows s n cell k
passed s n cell k is = one_step s n cell k ∙ ap (λ (o : Option CellWrite). rows_with_cell_write o (cell_write_rows s n cell k)) is

pub no_write : (s : MachineState) (n cell left : ℕ) → None ≡ newest_cell_write s n cell left → cell_write_rows s n cell left ≡ no_items
no_write s n cell zero e = no_step s n cell
no_write s n cell (suc k) e = go (cell_write_at s n cell k) refl (λ h. no_write s n cell k h) e
  where
    go : (o : Option CellWrite) → cell_write_at s n cell k ≡ o → (None ≡ newest_cell_write s n cell k → cell_write_rows s n cell k ≡ no_items)
        → None ≡ newer_cell_write o (newest_cell_write s n cell k) → cell_write_rows s n cell (suc k) ≡ no_items
    go None is before h = passed s n cell k is ∙ before h
    go (Some wrote) is before h = absurd (cc)

-- the newest is first, and then those before it
newest : (s : MachineState) (n cell left : ℕ) (wrote : CellWrite) → Some wrote ≡ newest_cell_write s n cell left
    → cell_write_rows s n cell left ≡ rows_with_cell_write (Some wrote) (cell_write_rows s n cell (wrote.step - 1))
newest s n cell zero wrote e = absurd (cc)
newest s n cell (suc k) wrote e = go (cell_write_at s n cell k) refl (λ h. newest s n cell k wrote h) e
  where
    go : (o : Option CellWrite) → cell_write_at s n cell k ≡ o
        → (Some wrote ≡ newest_cell_write s n cell k → cell_write_rows s n cell k ≡ rows_with_cell_write (Some wrote) (cell_write_rows s n cell (wrote.step - 1)))
        → Some wrote ≡ newer_cell_write o (newest_cell_write s n cell k)
        → cell_write_rows s n cell (suc k) ≡ rows_with_cell_write (Some wrote) (cell_write_rows s n cell (wrote.step - 1))
    go None is before h = passed s n cell k is ∙ before h
    go (Some other) is before h =
        let step = written_step s n cell k wrote (h ∙ sym is) in
        one_step s n cell k
        ∙ ap (λ (o : Option CellWrite). rows_with_cell_write o (cell_write_rows s n cell k)) (is ∙ sym h)
        ∙ ap (λ (m : ℕ). rows_with_cell_write (Some wrote) (cell_write_rows s n cell m)) (let f : k ≡ wrote.step - 1 = omega (arith, step) in f)

pub next_write : (s : MachineState) (n cell left rest : ℕ) (wrote : CellWrite) → Some wrote ≡ newest_cell_write s n cell left → suc rest ≡ wrote.step
    → cell_write_rows s n cell left ≡ item (cell_write_json wrote) (cell_write_rows s n cell rest)
next_write s n cell left rest wrote e step =
    newest s n cell left wrote e
    ∙ ap (λ (m : ℕ). rows_with_cell_write (Some wrote) (cell_write_rows s n cell m)) (let f : wrote.step - 1 ≡ rest = omega (arith, step) in f)
