use Rattle.std.proofs.Common.{arith, ◌∙◌, sym, below_more, length}
use Rattle.std.proofs.lemmas.List.{length-map}
use Rattle.ga_source.proofs.Bodies.{front_of, behind_of, next_of, tested, said_front, said_behind}
use Rattle.ga_source.proofs.program.body_length.Goals as goal

pub returns-then-is_node_keyword-clause-front : goal.returns-then-is_node_keyword-clause-front
returns-then-is_node_keyword-clause-front c =
    front_of c.args.tokens.now c.loop-i.i c.loop-i.invariant (λ within. tested c.args.tokens.now c.loop-i.i _ _ c.loop-i-test.true (sym c.is_node_keyword.ensures ∙ c.if-is_node_keyword.true))

pub returns-then-is_node_keyword-clause-behind : goal.returns-then-is_node_keyword-clause-behind
returns-then-is_node_keyword-clause-behind c = behind_of c.args.tokens.now c.loop-i.i c.loop-i.invariant

pub loop-i-preserved : goal.loop-i-preserved
loop-i-preserved c =
    below_more _ _ c.loop-i.invariant (tested c.args.tokens.now c.loop-i.i _ _ c.loop-i-test.true (sym c.is_node_keyword.ensures ∙ c.if-is_node_keyword.false))

pub returns-clause-front : goal.returns-clause-front
returns-clause-front c =
    let same = length-map c.args.tokens.now (λ token. token.text.now) in
    front_of c.args.tokens.now (length c.args.tokens.now) (λ k below. c.loop-i.invariant k (omega arith)) (λ within. absurd (omega (arith, same)))

pub returns-clause-behind : goal.returns-clause-behind
returns-clause-behind c = behind_of c.args.tokens.now (length c.args.tokens.now) (λ k below. c.loop-i.invariant k (omega arith))

pub returns-then-is_node_keyword-clause-next : goal.returns-then-is_node_keyword-clause-next
returns-then-is_node_keyword-clause-next c =
    next_of c.args.tokens.now c.loop-i.i (λ within. tested c.args.tokens.now c.loop-i.i _ _ c.loop-i-test.true (sym c.is_node_keyword.ensures ∙ c.if-is_node_keyword.true))

pub returns-clause-next : goal.returns-clause-next
returns-clause-next c =
    let same = length-map c.args.tokens.now (λ token. token.text.now) in
    next_of c.args.tokens.now (length c.args.tokens.now) (λ within. absurd (omega (arith, same)))

pub returns-then-is_node_keyword-clause-said : goal.returns-then-is_node_keyword-clause-said
returns-then-is_node_keyword-clause-said c =
    said_front c.args.tokens.now c.loop-i.i c.loop-i.invariant (λ within. tested c.args.tokens.now c.loop-i.i _ _ c.loop-i-test.true (sym c.is_node_keyword.ensures ∙ c.if-is_node_keyword.true))

pub returns-then-is_node_keyword-clause-said_behind : goal.returns-then-is_node_keyword-clause-said_behind
returns-then-is_node_keyword-clause-said_behind c = said_behind c.args.tokens.now c.loop-i.i c.loop-i.invariant

pub returns-clause-said : goal.returns-clause-said
returns-clause-said c =
    let same = length-map c.args.tokens.now (λ token. token.text.now) in
    said_front c.args.tokens.now (length c.args.tokens.now) (λ k below. c.loop-i.invariant k (omega arith)) (λ within. absurd (omega (arith, same)))

pub returns-clause-said_behind : goal.returns-clause-said_behind
returns-clause-said_behind c = said_behind c.args.tokens.now (length c.args.tokens.now) (λ k below. c.loop-i.invariant k (omega arith))
