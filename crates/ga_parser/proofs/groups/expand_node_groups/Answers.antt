use Rattle.std.proofs.Common.{◌∙◌, ◌+◌, List, ◌++◌, drop, ap}
use Rattle.std.proofs.lemmas.List.{drop_all, map-append}
use Rattle.ga_parser.specs.Groups.{expand_node_groups}
use Rattle.ga_parser.specs.Saying.{PlacedToken}
use Rattle.ga_parser.specs.inner.Placing.{placed, placed_all}
use Rattle.ga_parser.specs.inner.Grouping.{node_naming_of_parser}
use Rattle.ga_parser.proofs.Grouping.{one_grouped, none_grouped}
use Rattle.ga_parser.proofs.groups.expand_node_groups.Goals as goal

pub loop-i-preserved : goal.loop-i-preserved
loop-i-preserved c =
    ap (λ (l : List PlacedToken). l ++ expand_node_groups c.args.is_whole (node_naming_of_parser c.node_naming_after_word-begun.result) (placed_all (drop (c.loop-i.i + 1) c.args.words.now)))
    (ap placed_all c.in_ok-push.ensures.items ∙ map-append placed c.push_before.new.all.items _)
    ∙ one_grouped c.args.is_whole (node_naming_of_parser c.loop-i.begun) (node_naming_of_parser c.node_naming_after_word-begun.result) _ (placed_all c.loop-i.all.items) (placed_all c.push_before.new.all.items) c.args.words.now c.split_at.result.1.now c.loop-i.i _ c.loop-i-test.true
    c.split_at.ensures.back c.in_ok-push_before.ensures c.node_naming_after_word-begun.ensures c.loop-i.invariant

pub returns : goal.returns
returns c = none_grouped c.args.is_whole (node_naming_of_parser c.loop-i.begun) _ _ (placed_all c.loop-i.all.items) (drop_all c.loop-i.i c.args.words.now c.loop-i-test.false) c.loop-i.invariant
