use Rattle.std.proofs.Common.{◌∙◌, ◌++◌, map, sym, arith, ap}
use Rattle.std.proofs.lemmas.Bool.{eqb-true}
use Rattle.ga_parser.specs.Expectations.{NodeGroup, expectation_content, expectation_of_tokens}
use Rattle.ga_parser.specs.Saying.{tokens_of_line_with_expectation}
use Rattle.ga_parser.specs.inner.Placing.{placed_all}
use Rattle.ga_parser.specs.inner.Resolving.{known_names_of_parser}
use Rattle.ga_parser.proofs.Scanning.{first_split}
use Rattle.ga_parser.proofs.Expecting.{expected_end, expected_other, expected_none, expected_all, expected_more}
use Rattle.ga_parser.proofs.expectations.read_lines.Goals as goal

pub returns-then-eq : goal.returns-then-eq
returns-then-eq c =
    let same = rw c.as_slice.ensures at c.eq.ensures in
    expected_all _ _ _
    (expected_end (known_names_of_parser c.args.resolved.now) (placed_all c.args.resolved.now.words.items) c.loop-rest.line c.loop-rest.rest.now c.first_line.result.0.now c.stripped_source_line-text.result.now c.first_line.result.1.now
    (first_split c.loop-rest.rest.now c.first_line.result.0.now c.first_line.result.1.now c.first_line.ensures.splits) c.stripped_source_line-text.ensures (sym same ∙ c.if-eq.true))
    c.loop-rest.invariant.lines

pub loop-rest-preserved : goal.loop-rest-preserved
loop-rest-preserved c =
    let same = rw c.as_slice.ensures at c.eq.ensures in
    rw c.saturating_add-line.ensures (record {
      lines = expected_more _ _ _ _ _ _
          (c.in_ok-next.ensures.lines ∙ ap (λ (group : NodeGroup). map expectation_content c.loop-rest.all.items ++ expectation_of_tokens (known_names_of_parser c.args.resolved.now) group.nodes c.loop-rest.line (tokens_of_line_with_expectation c.loop-rest.line c.stripped_source_line-text.result.now))
          (c.loop-rest.invariant.group c.loop-rest.line (omega arith)))
          (expected_other (known_names_of_parser c.args.resolved.now) (placed_all c.args.resolved.now.words.items) c.loop-rest.line c.loop-rest.rest.now c.first_line.result.0.now c.stripped_source_line-text.result.now c.first_line.result.1.now
          (first_split c.loop-rest.rest.now c.first_line.result.0.now c.first_line.result.1.now c.first_line.ensures.splits) c.stripped_source_line-text.ensures (sym same ∙ c.if-eq.false))
          c.loop-rest.invariant.lines;
      group = λ later from. c.in_ok-next.ensures.left later (omega (arith, from)) ∙ c.loop-rest.invariant.group later (omega (arith, from));
      small = omega arith;
      within = c.in_ok-next.ensures.within;
    })

pub returns : goal.returns
returns c =
    expected_all _ _ _
    (expected_none (known_names_of_parser c.args.resolved.now) (placed_all c.args.resolved.now.words.items) c.loop-rest.line c.loop-rest.rest.now (eqb-true _ _ (sym c.loop-rest-test.ensures)))
    c.loop-rest.invariant.lines
