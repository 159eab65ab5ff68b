use Rattle.std.proofs.Common.{◌∙◌, ◌++◌, ◌∷◌, [], List, ℕ, ap, sym, append-nil}
use Rattle.ga_parser.specs.declared.scan.TokenKind.TheVariants.{OpenComment}
use Rattle.ga_parser.specs.Saying.{TokenContent, line_fault_token, token_contents, token_columns}
use Rattle.ga_parser.proofs.Scanning.{begins_added, truncated_tokens, truncated_columns, plain_line, plain_columns, whole_expectation, whole_columns, open_expectation, open_columns}
use Rattle.ga_parser.proofs.scan.scan_line.Goals as goal

pub returns-then-not-begins_expectation-clause-says : goal.returns-then-not-begins_expectation-clause-says
returns-then-not-begins_expectation-clause-says c =
    let begins = begins_added c.args.line c.args.text.now c.args.tokens.now.items c.scan_all_of_line.new.tokens.items c.split_at.result.1.now c.len-before.result c.begins_expectation.result
    c.in_ok-is_whole.ensures.says (c.len-before.ensures ∙ c.args.tokens.now.ok.0) (rw c.as_slice.ensures.value at c.split_at.ensures.back) c.begins_expectation.ensures in
    c.in_ok-is_whole.ensures.says
    ∙ ap (λ (l : List TokenContent). token_contents c.args.tokens.now.items ++ l) (sym (plain_line c.args.line c.args.text.now (begins ∙ c.if-not-begins_expectation.true)))

pub returns-then-not-begins_expectation-clause-columns : goal.returns-then-not-begins_expectation-clause-columns
returns-then-not-begins_expectation-clause-columns c =
    let begins = begins_added c.args.line c.args.text.now c.args.tokens.now.items c.scan_all_of_line.new.tokens.items c.split_at.result.1.now c.len-before.result c.begins_expectation.result
    c.in_ok-is_whole.ensures.says (c.len-before.ensures ∙ c.args.tokens.now.ok.0) (rw c.as_slice.ensures.value at c.split_at.ensures.back) c.begins_expectation.ensures in
    c.in_ok-is_whole.ensures.columns
    ∙ ap (λ (l : List ℕ). token_columns c.args.tokens.now.items ++ l) (sym (plain_columns c.args.line c.args.text.now (begins ∙ c.if-not-begins_expectation.true)))

pub returns-then-is_whole-clause-says : goal.returns-then-is_whole-clause-says
returns-then-is_whole-clause-says c =
    let begins = begins_added c.args.line c.args.text.now c.args.tokens.now.items c.scan_all_of_line.new.tokens.items c.split_at.result.1.now c.len-before.result c.begins_expectation.result
    c.in_ok-is_whole.ensures.says (c.len-before.ensures ∙ c.args.tokens.now.ok.0) (rw c.as_slice.ensures.value at c.split_at.ensures.back) c.begins_expectation.ensures in
    truncated_tokens c.args.tokens.now.items c.scan_all_of_line.new.tokens.items c.truncate.new.self.items c.len-before.result _ c.in_ok-is_whole.ensures.says (c.len-before.ensures ∙ c.args.tokens.now.ok.0) c.truncate.ensures.items
    ∙ (sym (append-nil (token_contents c.args.tokens.now.items))
    ∙ ap (λ (l : List TokenContent). token_contents c.args.tokens.now.items ++ l) (sym (whole_expectation c.args.line c.args.text.now (begins ∙ c.if-not-begins_expectation.false) (sym c.in_ok-is_whole.ensures.whole ∙ c.if-is_whole.true))))

pub returns-then-is_whole-clause-columns : goal.returns-then-is_whole-clause-columns
returns-then-is_whole-clause-columns c =
    let begins = begins_added c.args.line c.args.text.now c.args.tokens.now.items c.scan_all_of_line.new.tokens.items c.split_at.result.1.now c.len-before.result c.begins_expectation.result
    c.in_ok-is_whole.ensures.says (c.len-before.ensures ∙ c.args.tokens.now.ok.0) (rw c.as_slice.ensures.value at c.split_at.ensures.back) c.begins_expectation.ensures in
    truncated_columns c.args.tokens.now.items c.scan_all_of_line.new.tokens.items c.truncate.new.self.items c.len-before.result _ c.in_ok-is_whole.ensures.columns (c.len-before.ensures ∙ c.args.tokens.now.ok.0) c.truncate.ensures.items
    ∙ (sym (append-nil (token_columns c.args.tokens.now.items))
    ∙ ap (λ (l : List ℕ). token_columns c.args.tokens.now.items ++ l) (sym (whole_columns c.args.line c.args.text.now (begins ∙ c.if-not-begins_expectation.false) (sym c.in_ok-is_whole.ensures.whole ∙ c.if-is_whole.true))))

pub returns-clause-says : goal.returns-clause-says
returns-clause-says c =
    let begins = begins_added c.args.line c.args.text.now c.args.tokens.now.items c.scan_all_of_line.new.tokens.items c.split_at.result.1.now c.len-before.result c.begins_expectation.result
    c.in_ok-is_whole.ensures.says (c.len-before.ensures ∙ c.args.tokens.now.ok.0) (rw c.as_slice.ensures.value at c.split_at.ensures.back) c.begins_expectation.ensures in
    c.in_ok-push.ensures.says
    ∙ (ap (λ (l : List TokenContent). l ++ line_fault_token c.args.line OpenComment ∷ []) (truncated_tokens c.args.tokens.now.items c.scan_all_of_line.new.tokens.items c.truncate.new.self.items c.len-before.result _ c.in_ok-is_whole.ensures.says (c.len-before.ensures ∙ c.args.tokens.now.ok.0) c.truncate.ensures.items)
    ∙ ap (λ (l : List TokenContent). token_contents c.args.tokens.now.items ++ l) (sym (open_expectation c.args.line c.args.text.now (begins ∙ c.if-not-begins_expectation.false) (sym c.in_ok-is_whole.ensures.whole ∙ c.if-is_whole.false))))

pub returns-clause-columns : goal.returns-clause-columns
returns-clause-columns c =
    let begins = begins_added c.args.line c.args.text.now c.args.tokens.now.items c.scan_all_of_line.new.tokens.items c.split_at.result.1.now c.len-before.result c.begins_expectation.result
    c.in_ok-is_whole.ensures.says (c.len-before.ensures ∙ c.args.tokens.now.ok.0) (rw c.as_slice.ensures.value at c.split_at.ensures.back) c.begins_expectation.ensures in
    c.in_ok-push.ensures.column
    ∙ (ap (λ (l : List ℕ). l ++ 1 ∷ []) (truncated_columns c.args.tokens.now.items c.scan_all_of_line.new.tokens.items c.truncate.new.self.items c.len-before.result _ c.in_ok-is_whole.ensures.columns (c.len-before.ensures ∙ c.args.tokens.now.ok.0) c.truncate.ensures.items)
    ∙ ap (λ (l : List ℕ). token_columns c.args.tokens.now.items ++ l) (sym (open_columns c.args.line c.args.text.now (begins ∙ c.if-not-begins_expectation.false) (sym c.in_ok-is_whole.ensures.whole ∙ c.if-is_whole.false))))
