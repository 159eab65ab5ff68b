use Rattle.std.proofs.Common.{◌≡◌, ℕ, suc, sym, ap, ◌∙◌, arith}
use Rattle.ga_provenance.specs.Writes.{CellWriteSearch, cell_write_search, cell_write_at, newest_cell_write}
use Rattle.ga_provenance.proofs.Keeping.{wrote_last, wrote_before}
use Rattle.ga_provenance.proofs.writes.CellWrites.next.Goals as goal

pub returns-in-Some-clause-value : goal.returns-in-Some-clause-value
returns-in-Some-clause-value c =
    let begun = c.args.self.now in
    let k : ℕ = c.back.new.self.step in
    let is : suc k ≡ c.going.self.step = omega (arith, c.back.ensures.step) in
    wrote_last begun.machine begun.node.number begun.cell c.going.self.step k c.in-Some.written is
    (c.in-Some.ensures.value ∙ ap (λ (w : CellWriteSearch). cell_write_at w.machine w.node.number w.cell k) c.going.invariant.same)
    ∙ c.going.invariant.newest

pub going-preserved : goal.going-preserved
going-preserved c =
    let begun = c.args.self.now in
    let k : ℕ = c.back.new.self.step in
    let is : suc k ≡ c.going.self.step = omega (arith, c.back.ensures.step) in
    let back_same = c.back.ensures.same ∙ ap (λ (w : CellWriteSearch). cell_write_search w.machine w.node w.cell k) c.going.invariant.same in
    record {
      same = c.seek-in-going.ensures.same ∙ ap (λ (w : CellWriteSearch). cell_write_search w.machine w.node w.cell c.seek-in-going.new.self.step) back_same;
      newest = sym (ap (λ (w : CellWriteSearch). newest_cell_write w.machine w.node.number w.cell c.seek-in-going.new.self.step) back_same) ∙ c.seek-in-going.ensures.newest
          ∙ ap (λ (w : CellWriteSearch). newest_cell_write w.machine w.node.number w.cell k) back_same
          ∙ wrote_before begun.machine begun.node.number begun.cell c.going.self.step k is
          (sym c.in_default.is ∙ c.back.ensures.value ∙ ap (λ (w : CellWriteSearch). cell_write_at w.machine w.node.number w.cell k) c.going.invariant.same)
          ∙ c.going.invariant.newest;
    }
