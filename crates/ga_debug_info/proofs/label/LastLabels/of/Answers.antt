use Rattle.std.proofs.Common.{arith}
use Rattle.ga_debug_info.proofs.Adding.{last_none, last_more, last_all}
use Rattle.ga_debug_info.proofs.label.LastLabels.of.Goals as goal

pub loop-asked-init : goal.loop-asked-init
loop-asked-init c = record {
  size = c.none_marked-labels.ensures.size;
  last = λ cell below. last_none c.args.program.now cell 192 _ _ c.none_marked-labels.result c.none_marked-labels.ensures.none c.deref-asked-items.ensures.value;
}

pub loop-asked-preserved : goal.loop-asked-preserved
loop-asked-preserved c = record {
  size = c.mark.ensures.size;
  last = λ cell below. last_more c.args.program.now cell c.deref-asked-items.result.now c.loop-asked.asked-index _ _ _ _ c.loop-asked-test.true
      (c.mark.ensures.marked cell below) (c.loop-asked.invariant.last cell below);
}

pub returns : goal.returns
returns c = record {
  last = λ cell below. last_all c.args.program.now cell c.deref-asked-items.result.now c.loop-asked.asked-index _ _ (omega arith) (c.loop-asked.invariant.last cell below);
}
