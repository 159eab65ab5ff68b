use Rattle.std.proofs.Common.{◌∙◌, ◌+◌, ℕ, Some, ap, sym, arith}
use Rattle.std.specs.Prelude.{map}
use Rattle.std.proofs.lemmas.List.{drop_all}
use Rattle.ga_explorer.specs.Forms.{command_index_from_place}
use Rattle.ga_explorer.specs.inner.{command_entry_of_row}
use Rattle.ga_explorer.proofs.Finding.{place_here, place_behind}
use Rattle.ga_explorer.proofs.forms.place_among.Goals as goal

pub returns-then-eq : goal.returns-then-eq
returns-then-eq c =
    ap Some c.rows.invariant.at
    ∙ place_here c.args.word.now c.args.rows.now c.rows.row-index _ (omega arith) c.eq.result c.if-eq.true c.eq.ensures ∙ c.rows.invariant.left

pub rows-preserved : goal.rows-preserved
rows-preserved c = record {
  at = ap (λ (z : ℕ). z + 1) c.rows.invariant.at;
  left = place_behind c.args.word.now c.args.rows.now c.rows.row-index _ (omega arith) c.eq.result c.if-eq.false c.eq.ensures ∙ c.rows.invariant.left;
}

pub returns : goal.returns
unfolding command_index_from_place
returns c = sym (ap (λ z. command_index_from_place c.args.word.now c.rows.row-index (map command_entry_of_row z)) (drop_all c.rows.row-index c.args.rows.now (omega arith))) ∙ c.rows.invariant.left
