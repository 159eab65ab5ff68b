use Rattle.std.proofs.Common.{◌≡◌, ◌-◌, ℕ, List, ◌++◌, [], refl, sym, ap, ◌∙◌, arith}
use Rattle.ga_event.specs.Told.{count_steps}
use Rattle.ga_text.proofs.WriteLemmas.{truncated_here, written_pending}
use Rattle.ga_explorer_text.specs.Writing.{cell_writes_lines}
use Rattle.ga_explorer_text.proofs.Saying.{line_written, line_truncated, all_said, next_write, no_write}
use Rattle.ga_provenance.specs.Writes.{CellWriteSearch, cell_write_search, newest_cell_write}
use Rattle.ga_provenance.proofs.Keeping.{newest_within}
use Rattle.ga_explorer_text.proofs.writes_text.say_cell.Goals as goal

pub going-init : goal.going-init
going-init g c = record {
  writes = c.new-writes.ensures ∙ ap (cell_write_search c.args.lab.now c.args.node c.args.cell) (sym (ap (λ (w : CellWriteSearch). w.step) c.new-writes.ensures));
  same = refl;
  said = λ before said h. record {
    front = [];
    splits = ap (cell_writes_lines c.args.lab.now c.args.node c.args.cell) (ap (λ (w : CellWriteSearch). w.step) c.new-writes.ensures);
    is_said = written_pending _ before said _ h;
  };
}

pub returns-in_err-write_blocks : goal.returns-in_err-write_blocks
returns-in_err-write_blocks g c = (
  c.in_err-write_blocks.ensures.0 ∙ c.going.invariant.same,
  λ before said h.
      let s = c.args.lab.now in
      let whole : List ℕ = cell_writes_lines s c.args.node c.args.cell (count_steps c.args.node.number s.kept) in
      let line : List ℕ = c.as_slice.result.now in
      let done = c.going.invariant.said before said h in (
        whole,
        refl,
        truncated_here c.from_residual.result _ before (said ++ whole) _ c.from_residual.ensures.0
            (line_truncated _ before said whole _ line _ done.front
            (next_write s c.args.node c.args.cell c.going.writes.step c.in-Some.written line (c.in-Some.ensures.value ∙ ap (λ (w : CellWriteSearch). newest_cell_write w.machine w.node.number w.cell c.going.writes.step) c.going.invariant.writes) (c.as_slice.ensures.value ∙ c.written_line.ensures)) done.splits
            (c.in_err-write_blocks.ensures.1 before (said ++ done.front) done.is_said)),
      ),
)

pub going-preserved : goal.going-preserved
going-preserved g c = record {
  writes = c.in-Some.ensures.same ∙ ap (λ (w : CellWriteSearch). cell_write_search w.machine w.node w.cell c.next.new.self.step) c.going.invariant.writes;
  same = c.in_ok-write_blocks.ensures.0 ∙ c.going.invariant.same;
  said = λ before said h.
      let s = c.args.lab.now in
      let whole : List ℕ = cell_writes_lines s c.args.node c.args.cell (count_steps c.args.node.number s.kept) in
      let line : List ℕ = c.as_slice.result.now in
      let at : c.in-Some.written.step - 1 ≡ c.next.new.self.step = omega (arith, c.in-Some.ensures.step) in
      let done = c.going.invariant.said before said h in
      line_written _ before said whole _ line _ done.front _
      (next_write s c.args.node c.args.cell c.going.writes.step c.in-Some.written line (c.in-Some.ensures.value ∙ ap (λ (w : CellWriteSearch). newest_cell_write w.machine w.node.number w.cell c.going.writes.step) c.going.invariant.writes) (c.as_slice.ensures.value ∙ c.written_line.ensures)
      ∙ ap (λ (k : ℕ). line ++ cell_writes_lines s c.args.node c.args.cell k) at) done.splits
      (c.in_ok-write_blocks.ensures.1 before (said ++ done.front) done.is_said);
}

pub going-smaller : goal.going-smaller
going-smaller g c =
    let within = newest_within c.args.lab.now c.args.node.number c.args.cell c.going.writes.step c.in-Some.written (c.in-Some.ensures.value ∙ ap (λ (w : CellWriteSearch). newest_cell_write w.machine w.node.number w.cell c.going.writes.step) c.going.invariant.writes) in
    omega (arith, c.in-Some.ensures.step, within.0, within.1)

pub returns : goal.returns
returns g c = (
  c.going.invariant.same,
  λ before said h.
      let s = c.args.lab.now in
      let whole : List ℕ = cell_writes_lines s c.args.node c.args.cell (count_steps c.args.node.number s.kept) in (
        whole,
        refl,
        all_said _ before said whole _ _ (no_write s c.args.node c.args.cell c.going.writes.step (sym c.in_default.is ∙ c.next.ensures.value ∙ ap (λ (w : CellWriteSearch). newest_cell_write w.machine w.node.number w.cell c.going.writes.step) c.going.invariant.writes)) (c.going.invariant.said before said h),
      ),
)
