use Rattle.std.proofs.Common.{◌≡◌, ◌∙◌, ◌+◌, not, arith, ap}
use Rattle.ga_debug_info.specs.Source.{result_at_nearest_place}
use Rattle.ga_debug_info.specs.inner.{label_at_cell}
use Rattle.ga_debug_info.proofs.Adding.{none_is, nearest_less, nearest_here, nearest_last, found_before}
use Rattle.ga_debug_info.proofs.label.LastLabels.before.Goals as goal
use Rattle.ga_debug_info.proofs.label.LastLabels.before.Goals.{then-loop-behind-test+else-is_none, else-loop-behind-test}

pub loop-behind-preserved : goal.loop-behind-preserved
loop-behind-preserved c = record {
  first = c.loop-behind.invariant.first;
  low = omega arith;
  same = nearest_less (label_at_cell c.args.self.now.labels) c.from-first.result c.loop-behind.behind c.loop-behind-test.true
      (none_is _ (c.is_none.ensures ∙ ap not c.if-is_none.true)) ∙ c.loop-behind.invariant.same;
}

pub returns : goal.returns
returns c = λ program marked.
    let labels = c.args.self.now.labels in
    let first = c.from-first.result in
    let behind = c.loop-behind.behind in
    let here : label_at_cell labels (first + behind) ≡ result_at_nearest_place (label_at_cell labels) first behind = elim c.loop-behind-test.branch [
      | then-loop-behind-test+else-is_none w ↦ nearest_here (label_at_cell labels) first behind (w.is_none.ensures ∙ ap not w.if-is_none.false)
      | else-loop-behind-test w ↦ nearest_last (label_at_cell labels) first behind w.loop-behind-test.false
    ] in
    found_before program labels first behind c.args.cell c.requires marked c.loop-behind.invariant.first here c.loop-behind.invariant.same
