use Rattle.std.proofs.Common.{◌≡◌, ◌+◌, ◌*◌, ◌/◌, ℕ, ◌∙◌, sym, ap, arith}
use Rattle.std.specs.Prelude.{is_some}
use Rattle.ga_debug_info.proofs.Adding.{nearest_less, nearest_here, nearest_last}
use Rattle.ga_dap_views.specs.Labels.{label_index_of_cell}
use Rattle.ga_dap_views.proofs.labels.place_near.Goals as goal

pub returns-in-Some : goal.returns-in-Some
returns-in-Some c =
    c.in-Some.ensures
    ∙ nearest_here (label_index_of_cell c.args.names.now c.args.node) (c.args.cell / 64 * 64) c.looking.behind (ap is_some (sym c.in-Some.ensures))
    ∙ c.looking.invariant.same

pub looking-preserved : goal.looking-preserved
looking-preserved c = record {
  low = omega (arith, c.looking.invariant.low);
  same = nearest_less (label_index_of_cell c.args.names.now c.args.node) (c.args.cell / 64 * 64) c.looking.behind c.looking-test.true (sym c.in-None.ensures) ∙ c.looking.invariant.same;
}

pub returns : goal.returns
returns c =
    let first : ℕ = c.args.cell / 64 * 64 in
    let found = label_index_of_cell c.args.names.now c.args.node in
    c.label_index_of_cell-2.ensures
    ∙ ap found (let e : first ≡ first + c.looking.behind = omega arith in e)
    ∙ nearest_last found first c.looking.behind (omega arith)
    ∙ c.looking.invariant.same
