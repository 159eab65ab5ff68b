use Rattle.std.proofs.Common.{◌∙◌, sym}
use Rattle.std.proofs.lemmas.List.{drop_all}
use Rattle.ga_parser.specs.inner.Expecting.{node_group_of_parser}
use Rattle.ga_parser.proofs.Expecting.{one_before, one_left, none_before, all_from, no_word_before, no_word_from, all_dropped}
use Rattle.ga_parser.proofs.expectations.take_before.Goals as goal

pub returns-then-word-line-clause-group : goal.returns-then-word-line-clause-group
returns-then-word-line-clause-group c =
    sym (none_before c.args.line (node_group_of_parser c.loop-at.group) c.args.words.now c.loop-at.at _ c.loop-at-test.true c.if-word-line.true) ∙ c.loop-at.invariant.group

pub returns-then-word-line-clause-left : goal.returns-then-word-line-clause-left
returns-then-word-line-clause-left c =
    sym (all_from c.args.line c.args.words.now c.loop-at.at _ c.loop-at-test.true c.if-word-line.true) ∙ c.loop-at.invariant.left

pub loop-at-preserved : goal.loop-at-preserved
loop-at-preserved c = record {
  group = sym (one_before c.args.line (node_group_of_parser c.loop-at.group) (node_group_of_parser c.take.new.self) c.args.words.now c.loop-at.at _ c.loop-at-test.true c.if-word-line.false c.in_ok-take.ensures) ∙ c.loop-at.invariant.group;
  left = sym (one_left c.args.line c.args.words.now c.loop-at.at _ c.loop-at-test.true c.if-word-line.false) ∙ c.loop-at.invariant.left;
}

pub returns-clause-group : goal.returns-clause-group
returns-clause-group c =
    sym (no_word_before c.args.line (node_group_of_parser c.loop-at.group) _ (drop_all c.loop-at.at c.args.words.now c.loop-at-test.false)) ∙ c.loop-at.invariant.group

pub returns-clause-left : goal.returns-clause-left
returns-clause-left c =
    all_dropped c.args.words.now
    ∙ (sym (no_word_from c.args.line _ (drop_all c.loop-at.at c.args.words.now c.loop-at-test.false)) ∙ c.loop-at.invariant.left)
