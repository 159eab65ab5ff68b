use Rattle.std.proofs.Common.{ℕ, ◌∙◌, ◌+◌, ◌-◌, ◌++◌, ◌∷◌, sym, ap, arith, refl, Bool, false, not, [], length, append-nil}
use Rattle.std.proofs.lemmas.Bool.{eqb-true, eqb-false}
use Rattle.ga_parser.specs.Saying.{parts_ended_by_bytes, is_blank, source_words, tokens_of_words, token_contents, columns_of_parts, token_columns}
use Rattle.ga_parser.proofs.Scanning.{hear_open, hear_remark, hear_opening, hear_nothing, hear_word, told_same, told_word, none_left, open_left, line_told, line_whole, columns_same, columns_more, columns_open, columns_remark, columns_opening, columns_nothing, columns_word, columns_none, columns_left_open, columns_line}
use Rattle.ga_parser.proofs.scan.scan_all_of_line.Goals as goal

pub returns-then-eq-clause-says : goal.returns-then-eq-clause-says
returns-then-eq-clause-says c =
    let same = rw c.as_slice.ensures at c.eq.ensures in
    let left = ap (λ (o : Bool). tokens_of_words c.args.line o (source_words c.loop-rest.rest.now)) c.if-is_open.false
    ∙ hear_remark c.args.line c.loop-rest.rest.now c.first_part.result.0.now c.first_part.result.1.now c.first_part.ensures.splits (sym same ∙ c.if-eq.true) in
    line_told c.args.line c.args.text.now (token_contents c.args.tokens.now.items) (token_contents c.loop-rest.tokens.items) (token_contents c.loop-rest.tokens.items) []
    c.loop-rest.is_open c.loop-rest.rest.now (omega arith) c.loop-rest.invariant.told left (sym (append-nil (token_contents c.loop-rest.tokens.items)))

pub returns-then-eq-clause-whole : goal.returns-then-eq-clause-whole
returns-then-eq-clause-whole c =
    let same = rw c.as_slice.ensures at c.eq.ensures in
    let left = ap (λ (o : Bool). tokens_of_words c.args.line o (source_words c.loop-rest.rest.now)) c.if-is_open.false
    ∙ hear_remark c.args.line c.loop-rest.rest.now c.first_part.result.0.now c.first_part.result.1.now c.first_part.ensures.splits (sym same ∙ c.if-eq.true) in
    line_whole c.args.line c.args.text.now (token_contents c.args.tokens.now.items) (token_contents c.loop-rest.tokens.items) [] c.loop-rest.is_open
    c.loop-rest.rest.now (omega arith) c.loop-rest.invariant.told left

pub loop-rest-preserved-then-is_open : goal.loop-rest-preserved-then-is_open
loop-rest-preserved-then-is_open c =
    record {
      told = told_same _ _ _ _ c.loop-rest.is_open _ c.loop-rest.rest.now c.first_part.result.1.now
          (ap (λ (o : Bool). tokens_of_words c.args.line o (source_words c.loop-rest.rest.now)) c.if-is_open.true
          ∙ (hear_open c.args.line c.loop-rest.rest.now c.first_part.result.0.now c.first_part.result.1.now c.first_part.ensures.splits
          ∙ ap (λ (closed : Bool). tokens_of_words c.args.line (not closed) (source_words c.first_part.result.1.now)) (sym c.is_comment_end-is_open.ensures)))
          c.loop-rest.invariant.told;
      within = omega (arith, c.first_part.ensures.shorter, c.loop-rest.invariant.within);
      columns = columns_same _ _ _ _
          (ap (λ (o : Bool). columns_of_parts (length c.args.text.now - length c.loop-rest.rest.now + 1) o (parts_ended_by_bytes is_blank c.loop-rest.rest.now)) c.if-is_open.true
          ∙ (columns_open (length c.args.text.now) c.loop-rest.rest.now c.first_part.result.0.now c.first_part.result.1.now c.first_part.ensures.splits c.loop-rest.invariant.within c.first_part.ensures.left
          ∙ ap (λ (closed : Bool). columns_of_parts (length c.args.text.now - length c.first_part.result.1.now + 1) (not closed) (parts_ended_by_bytes is_blank c.first_part.result.1.now)) (sym c.is_comment_end-is_open.ensures)))
          c.loop-rest.invariant.columns;
    }

pub loop-rest-preserved-then-eq-2 : goal.loop-rest-preserved-then-eq-2
loop-rest-preserved-then-eq-2 c =
    let same = rw c.as_slice.ensures at c.eq.ensures in
    let same_2 = rw c.as_slice-else-eq.ensures at c.eq-else-eq.ensures in
    record {
      told = told_same _ _ _ _ c.loop-rest.is_open _ c.loop-rest.rest.now c.first_part.result.1.now
          (ap (λ (o : Bool). tokens_of_words c.args.line o (source_words c.loop-rest.rest.now)) c.if-is_open.false
          ∙ hear_opening c.args.line c.loop-rest.rest.now c.first_part.result.0.now c.first_part.result.1.now c.first_part.ensures.splits
          (sym same ∙ c.if-eq.false) (sym same_2 ∙ c.if-eq-2.true))
          c.loop-rest.invariant.told;
      within = omega (arith, c.first_part.ensures.shorter, c.loop-rest.invariant.within);
      columns = columns_same _ _ _ _
          (ap (λ (o : Bool). columns_of_parts (length c.args.text.now - length c.loop-rest.rest.now + 1) o (parts_ended_by_bytes is_blank c.loop-rest.rest.now)) c.if-is_open.false
          ∙ columns_opening (length c.args.text.now) c.loop-rest.rest.now c.first_part.result.0.now c.first_part.result.1.now c.first_part.ensures.splits c.loop-rest.invariant.within c.first_part.ensures.left (sym same ∙ c.if-eq.false) (sym same_2 ∙ c.if-eq-2.true))
          c.loop-rest.invariant.columns;
    }

pub loop-rest-preserved-in_ok-push-2 : goal.loop-rest-preserved-in_ok-push-2
loop-rest-preserved-in_ok-push-2 c =
    let same = rw c.as_slice.ensures at c.eq.ensures in
    let same_2 = rw c.as_slice-else-eq.ensures at c.eq-else-eq.ensures in
    let some = eqb-false _ _ (sym c.is_empty-else-eq-2.ensures ∙ c.if-not-is_empty.true) in
    record {
      told = told_word _ _ _ _ _ _ c.loop-rest.rest.now c.first_part.result.0.now c.first_part.result.1.now c.if-is_open.false c.in_ok-push-2.ensures.says
          (hear_word c.args.line c.loop-rest.rest.now c.first_part.result.0.now c.first_part.result.1.now c.first_part.ensures.splits (omega arith)
          (sym same ∙ c.if-eq.false) (sym same_2 ∙ c.if-eq-2.false))
          c.loop-rest.invariant.told;
      within = omega (arith, c.first_part.ensures.shorter, c.loop-rest.invariant.within);
      columns = columns_more _ _ _ _ _ _ c.in_ok-push-2.ensures.column
          (ap (λ (o : Bool). columns_of_parts (length c.args.text.now - length c.loop-rest.rest.now + 1) o (parts_ended_by_bytes is_blank c.loop-rest.rest.now)) c.if-is_open.false
          ∙ (columns_word (length c.args.text.now) c.loop-rest.rest.now c.first_part.result.0.now c.first_part.result.1.now c.first_part.ensures.splits c.loop-rest.invariant.within c.first_part.ensures.left (sym same ∙ c.if-eq.false) (sym same_2 ∙ c.if-eq-2.false) (omega (arith, some))
          ∙ ap (λ (o : Bool). (length c.args.text.now - length c.loop-rest.rest.now + 1) ∷ columns_of_parts (length c.args.text.now - length c.first_part.result.1.now + 1) o (parts_ended_by_bytes is_blank c.first_part.result.1.now)) (sym c.if-is_open.false)))
          c.loop-rest.invariant.columns;
    }

pub returns-then-is_open-2-clause-says : goal.returns-then-is_open-2-clause-says
returns-then-is_open-2-clause-says c =
    let none = eqb-true _ _ (sym c.is_empty.ensures ∙ c.loop-rest-test.false) in
    let left = ap (λ (o : Bool). tokens_of_words c.args.line o (source_words c.loop-rest.rest.now)) c.if-is_open-2.true ∙ open_left c.args.line c.loop-rest.rest.now none in
    line_told c.args.line c.args.text.now (token_contents c.args.tokens.now.items) (token_contents c.loop-rest.tokens.items) _ _
    c.loop-rest.is_open c.loop-rest.rest.now (omega arith) c.loop-rest.invariant.told left c.in_ok-push-3.ensures.says

pub returns-then-is_open-2-clause-whole : goal.returns-then-is_open-2-clause-whole
returns-then-is_open-2-clause-whole c =
    let none = eqb-true _ _ (sym c.is_empty.ensures ∙ c.loop-rest-test.false) in
    let left = ap (λ (o : Bool). tokens_of_words c.args.line o (source_words c.loop-rest.rest.now)) c.if-is_open-2.true ∙ open_left c.args.line c.loop-rest.rest.now none in
    line_whole c.args.line c.args.text.now (token_contents c.args.tokens.now.items) (token_contents c.loop-rest.tokens.items) _ c.loop-rest.is_open
    c.loop-rest.rest.now (omega arith) c.loop-rest.invariant.told left

pub returns-clause-says : goal.returns-clause-says
returns-clause-says c =
    let none = eqb-true _ _ (sym c.is_empty.ensures ∙ c.loop-rest-test.false) in
    let left = ap (λ (o : Bool). tokens_of_words c.args.line o (source_words c.loop-rest.rest.now)) c.if-is_open-2.false ∙ none_left c.args.line c.loop-rest.rest.now none in
    line_told c.args.line c.args.text.now (token_contents c.args.tokens.now.items) (token_contents c.loop-rest.tokens.items) (token_contents c.loop-rest.tokens.items) []
    c.loop-rest.is_open c.loop-rest.rest.now (omega arith) c.loop-rest.invariant.told left (sym (append-nil (token_contents c.loop-rest.tokens.items)))

pub returns-clause-whole : goal.returns-clause-whole
returns-clause-whole c =
    let none = eqb-true _ _ (sym c.is_empty.ensures ∙ c.loop-rest-test.false) in
    let left = ap (λ (o : Bool). tokens_of_words c.args.line o (source_words c.loop-rest.rest.now)) c.if-is_open-2.false ∙ none_left c.args.line c.loop-rest.rest.now none in
    line_whole c.args.line c.args.text.now (token_contents c.args.tokens.now.items) (token_contents c.loop-rest.tokens.items) [] c.loop-rest.is_open
    c.loop-rest.rest.now (omega arith) c.loop-rest.invariant.told left

pub loop-rest-init : goal.loop-rest-init
loop-rest-init c = record {
  told = record { says = refl; whole = refl };
  within = omega arith;
  columns = ap (λ (k : ℕ). token_columns c.args.tokens.now.items ++ columns_of_parts k false (parts_ended_by_bytes is_blank c.args.text.now)) (omega arith);
}

pub returns-then-eq-clause-columns : goal.returns-then-eq-clause-columns
returns-then-eq-clause-columns c =
    let same = rw c.as_slice.ensures at c.eq.ensures in
    let left = ap (λ (o : Bool). columns_of_parts (length c.args.text.now - length c.loop-rest.rest.now + 1) o (parts_ended_by_bytes is_blank c.loop-rest.rest.now)) c.if-is_open.false
    ∙ columns_remark (length c.args.text.now) c.loop-rest.rest.now c.first_part.result.0.now c.first_part.result.1.now c.first_part.ensures.splits c.loop-rest.invariant.within c.first_part.ensures.left (sym same ∙ c.if-eq.true) in
    columns_line c.args.text.now (token_columns c.loop-rest.tokens.items) _ (token_columns c.args.tokens.now.items) (token_columns c.loop-rest.tokens.items) [] (omega arith) (sym (append-nil (token_columns c.loop-rest.tokens.items))) left c.loop-rest.invariant.columns

pub returns-then-is_open-2-clause-columns : goal.returns-then-is_open-2-clause-columns
returns-then-is_open-2-clause-columns c =
    let none = eqb-true _ _ (sym c.is_empty.ensures ∙ c.loop-rest-test.false) in
    let left = ap (λ (o : Bool). columns_of_parts (length c.args.text.now - length c.loop-rest.rest.now + 1) o (parts_ended_by_bytes is_blank c.loop-rest.rest.now)) c.if-is_open-2.true
    ∙ columns_left_open (length c.args.text.now - length c.loop-rest.rest.now + 1) c.loop-rest.rest.now none in
    columns_line c.args.text.now (token_columns c.loop-rest.tokens.items) _ (token_columns c.args.tokens.now.items) _ (1 ∷ []) (omega arith) c.in_ok-push-3.ensures.column left c.loop-rest.invariant.columns

pub returns-clause-columns : goal.returns-clause-columns
returns-clause-columns c =
    let none = eqb-true _ _ (sym c.is_empty.ensures ∙ c.loop-rest-test.false) in
    let left = ap (λ (o : Bool). columns_of_parts (length c.args.text.now - length c.loop-rest.rest.now + 1) o (parts_ended_by_bytes is_blank c.loop-rest.rest.now)) c.if-is_open-2.false
    ∙ columns_none (length c.args.text.now - length c.loop-rest.rest.now + 1) c.loop-rest.rest.now none in
    columns_line c.args.text.now (token_columns c.loop-rest.tokens.items) _ (token_columns c.args.tokens.now.items) (token_columns c.loop-rest.tokens.items) [] (omega arith) (sym (append-nil (token_columns c.loop-rest.tokens.items))) left c.loop-rest.invariant.columns

pub loop-rest-preserved : goal.loop-rest-preserved
loop-rest-preserved c =
    let same = rw c.as_slice.ensures at c.eq.ensures in
    let same_2 = rw c.as_slice-else-eq.ensures at c.eq-else-eq.ensures in
    let none = eqb-true _ _ (sym c.is_empty-else-eq-2.ensures ∙ c.if-not-is_empty.false) in
    record {
      told = told_same _ _ _ _ c.loop-rest.is_open c.loop-rest.is_open c.loop-rest.rest.now c.first_part.result.1.now
          (ap (λ (o : Bool). tokens_of_words c.args.line o (source_words c.loop-rest.rest.now)) c.if-is_open.false
          ∙ (hear_nothing c.args.line c.loop-rest.rest.now c.first_part.result.0.now c.first_part.result.1.now c.first_part.ensures.splits none
          ∙ ap (λ (o : Bool). tokens_of_words c.args.line o (source_words c.first_part.result.1.now)) (sym c.if-is_open.false)))
          c.loop-rest.invariant.told;
      within = omega (arith, c.first_part.ensures.shorter, c.loop-rest.invariant.within);
      columns = columns_same _ _ _ _
          (ap (λ (o : Bool). columns_of_parts (length c.args.text.now - length c.loop-rest.rest.now + 1) o (parts_ended_by_bytes is_blank c.loop-rest.rest.now)) c.if-is_open.false
          ∙ (columns_nothing (length c.args.text.now) c.loop-rest.rest.now c.first_part.result.0.now c.first_part.result.1.now c.first_part.ensures.splits c.loop-rest.invariant.within c.first_part.ensures.left (sym same ∙ c.if-eq.false) (sym same_2 ∙ c.if-eq-2.false) none
          ∙ ap (λ (o : Bool). columns_of_parts (length c.args.text.now - length c.first_part.result.1.now + 1) o (parts_ended_by_bytes is_blank c.first_part.result.1.now)) (sym c.if-is_open.false)))
          c.loop-rest.invariant.columns;
    }
