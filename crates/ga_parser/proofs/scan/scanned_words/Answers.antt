use Rattle.std.proofs.Common.{◌∙◌, sym, refl}
use Rattle.std.proofs.lemmas.Bool.{eqb-true}
use Rattle.ga_parser.proofs.Scanning.{first_split, ends_here, other_line, no_line_left, said_all, resolution_with_token, columns_end_here, columns_other_line, no_columns_left, columns_all, columns_more}
use Rattle.ga_parser.proofs.scan.scanned_words.Goals as goal

pub loop-rest-init : goal.loop-rest-init
loop-rest-init c = record { says = rw c.new-words.ensures.items refl; columns = rw c.new-words.ensures.items refl }

pub returns-then-eq-clause-says : goal.returns-then-eq-clause-says
returns-then-eq-clause-says c =
    let same = rw c.as_slice.ensures at c.eq.ensures in
    said_all _ _ _
    (ends_here c.loop-rest.line c.loop-rest.rest.now c.first_line.result.0.now c.stripped_source_line-first.result.now c.first_line.result.1.now (first_split c.loop-rest.rest.now c.first_line.result.0.now c.first_line.result.1.now c.first_line.ensures.splits) c.stripped_source_line-first.ensures (sym same ∙ c.if-eq.true))
    c.loop-rest.invariant.says

pub returns-then-eq-clause-columns : goal.returns-then-eq-clause-columns
returns-then-eq-clause-columns c =
    let same = rw c.as_slice.ensures at c.eq.ensures in
    columns_all _ _ _
    (columns_end_here c.loop-rest.line c.loop-rest.rest.now c.first_line.result.0.now c.stripped_source_line-first.result.now c.first_line.result.1.now (first_split c.loop-rest.rest.now c.first_line.result.0.now c.first_line.result.1.now c.first_line.ensures.splits) c.stripped_source_line-first.ensures (sym same ∙ c.if-eq.true))
    c.loop-rest.invariant.columns

pub loop-rest-preserved : goal.loop-rest-preserved
loop-rest-preserved c =
    let same = rw c.as_slice.ensures at c.eq.ensures in
    rw c.saturating_add-line.ensures (record {
      says = resolution_with_token _ _ _ _ _ _ c.in_ok-scan_line.ensures.says
          (other_line c.loop-rest.line c.loop-rest.rest.now c.first_line.result.0.now c.stripped_source_line-first.result.now c.first_line.result.1.now (first_split c.loop-rest.rest.now c.first_line.result.0.now c.first_line.result.1.now c.first_line.ensures.splits) c.stripped_source_line-first.ensures (sym same ∙ c.if-eq.false))
          c.loop-rest.invariant.says;
      columns = columns_more _ _ _ _ _ _ c.in_ok-scan_line.ensures.columns
          (columns_other_line c.loop-rest.line c.loop-rest.rest.now c.first_line.result.0.now c.stripped_source_line-first.result.now c.first_line.result.1.now (first_split c.loop-rest.rest.now c.first_line.result.0.now c.first_line.result.1.now c.first_line.ensures.splits) c.stripped_source_line-first.ensures (sym same ∙ c.if-eq.false))
          c.loop-rest.invariant.columns;
    })

pub returns-clause-says : goal.returns-clause-says
returns-clause-says c = said_all _ _ _ (no_line_left c.loop-rest.line c.loop-rest.rest.now (eqb-true _ _ (sym c.loop-rest-test.ensures))) c.loop-rest.invariant.says

pub returns-clause-columns : goal.returns-clause-columns
returns-clause-columns c = columns_all _ _ _ (no_columns_left c.loop-rest.line c.loop-rest.rest.now (eqb-true _ _ (sym c.loop-rest-test.ensures))) c.loop-rest.invariant.columns
