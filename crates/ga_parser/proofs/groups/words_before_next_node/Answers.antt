use Rattle.std.proofs.Common.{◌∙◌, sym, ap}
use Rattle.ga_parser.specs.inner.Placing.{placed_all}
use Rattle.ga_parser.proofs.Grouping.{one_inside, body_ends, inside_end}
use Rattle.ga_parser.proofs.groups.words_before_next_node.Goals as goal

pub loop-i-preserved : goal.loop-i-preserved
loop-i-preserved c = one_inside c.args.words.now c.loop-i.i _ _ c.loop-i-test.true (sym c.begins.ensures ∙ c.if-begins.false) c.loop-i.invariant

pub returns-then-begins : goal.returns-then-begins
returns-then-begins c =
    ap placed_all c.split_at.ensures.front
    ∙ body_ends c.args.words.now c.loop-i.i _ _ c.loop-i-test.true (sym c.begins.ensures ∙ c.if-begins.true) c.loop-i.invariant

pub returns : goal.returns
returns c = inside_end c.args.words.now c.loop-i.i _ c.loop-i-test.false c.loop-i.invariant
