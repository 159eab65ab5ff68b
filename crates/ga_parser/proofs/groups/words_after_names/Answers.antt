use Rattle.std.proofs.Common.{◌∙◌, sym, ap}
use Rattle.std.proofs.lemmas.List.{drop_all}
use Rattle.ga_parser.specs.inner.Placing.{placed, placed_all}
use Rattle.ga_parser.proofs.Grouping.{one_name, no_name, names_end}
use Rattle.ga_parser.proofs.groups.words_after_names.Goals as goal

pub loop-i-preserved : goal.loop-i-preserved
loop-i-preserved c = sym (one_name (placed c.args.node) c.args.words.now c.loop-i.i _ c.loop-i-test.true (sym c.is_further_node_name.ensures ∙ c.if-not-is_further_node_name.false)) ∙ c.loop-i.invariant

pub returns-then-not-is_further_node_name : goal.returns-then-not-is_further_node_name
returns-then-not-is_further_node_name c =
    ap placed_all c.split_at.ensures.back
    ∙ (sym (no_name (placed c.args.node) c.args.words.now c.loop-i.i _ c.loop-i-test.true (sym c.is_further_node_name.ensures ∙ c.if-not-is_further_node_name.true)) ∙ c.loop-i.invariant)

pub returns : goal.returns
returns c = sym (names_end (placed c.args.node) _ (drop_all c.loop-i.i c.args.words.now c.loop-i-test.false)) ∙ c.loop-i.invariant
