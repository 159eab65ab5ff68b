use Rattle.std.proofs.Common.{◌∙◌, sym, ap}
use Rattle.ga_parser.specs.Saying.{token_contents}
use Rattle.ga_parser.proofs.Grouping.{one_whole, one_faulty, whole_end}
use Rattle.ga_parser.proofs.scan.tokens_through_first_fault.Goals as goal

pub loop-i-preserved : goal.loop-i-preserved
loop-i-preserved c = one_whole c.args.words.now c.loop-i.i _ _ c.loop-i-test.true (sym c.is_whole.ensures ∙ c.if-not-is_whole.false) c.loop-i.invariant

pub returns-then-not-is_whole : goal.returns-then-not-is_whole
returns-then-not-is_whole c =
    ap token_contents c.split_at.ensures.front
    ∙ one_faulty c.args.words.now c.loop-i.i _ _ c.loop-i-test.true (sym c.is_whole.ensures ∙ c.if-not-is_whole.true) c.loop-i.invariant

pub returns : goal.returns
returns c = whole_end c.args.words.now c.loop-i.i _ c.loop-i-test.false c.loop-i.invariant
