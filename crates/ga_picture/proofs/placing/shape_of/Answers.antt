use Rattle.std.proofs.Common.{refl}
use Rattle.ga_picture.proofs.Listed.{mark_drawn, arrow_drawn}
use Rattle.ga_picture.proofs.placing.shape_of.Goals as goal

pub returns-in-Own-clause-drawn : goal.returns-in-Own-clause-drawn
returns-in-Own-clause-drawn c lines h =
    (mark_drawn c.args.item.now.cause lines c.args.columns.now c.in-Own.node c.index.result c.in-Own.is c.index.ensures.value h, refl)

pub returns-in-Pass-clause-drawn : goal.returns-in-Pass-clause-drawn
returns-in-Pass-clause-drawn c lines h =
    arrow_drawn c.args.item.now.cause lines c.args.columns.now c.in-Pass.writer c.in-Pass.reader c.in-Pass.side c.index-in-Pass.result c.index-in-Pass-2.result c.in-Pass.is
    c.index-in-Pass.ensures.value c.index-in-Pass-2.ensures.value h
