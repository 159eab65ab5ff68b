use Rattle.std.proofs.Common.{◌∙◌, ℕ, drop, ap, sym, refl}
use Rattle.ga_parser.specs.Saying.{token_contents}
use Rattle.ga_source.specs.Recovery.{words_from_next_node}
use Rattle.ga_source.proofs.Recovering.{left_from, left_whole, left_faulty}
use Rattle.ga_source.proofs.node_start.skipped_length.Goals as goal

pub returns-clause-left : goal.returns-clause-left
returns-clause-left c =
    left_whole c.args.words.now _ _ c.requires (sym c.is_whole.ensures ∙ c.if-not-is_whole.false)
    (left_from c.args.words.now c.split_at.result.1.now c.head_length-head.result c.body_length.result _ refl c.split_at.ensures.back c.body_length.ensures.in_range c.body_length.ensures.said
    ∙ ap (λ (n : ℕ). words_from_next_node (drop n (token_contents c.args.words.now))) c.head_length-head.ensures.count)

pub returns-then-not-is_whole-clause-left : goal.returns-then-not-is_whole-clause-left
returns-then-not-is_whole-clause-left c = left_faulty c.args.words.now _ c.requires (sym c.is_whole.ensures ∙ c.if-not-is_whole.true)
