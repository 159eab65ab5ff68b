use Rattle.std.proofs.Common.{◌≡◌, ◌≤◌, ◌+◌, ◌-◌, ◌++◌, false, length}
use Rattle.ga_parser.specs.Saying.{parts_ended_by_bytes, is_blank, token_contents, columns_of_parts, token_columns}
use Rattle.ga_parser.specs.inner.Drafting.{AreTokensListedBeforeRest}
use Rattle.ga_parser.proofs.scan.scan_all_of_line.Given as goal

abbrev pub invariant-loop-rest : goal.invariant-loop-rest
invariant-loop-rest l = record {
  told : AreTokensListedBeforeRest l.line l.text (token_contents l.initial.tokens.items) (token_contents l.tokens.items) l.is_open l.rest;
  within : length l.rest ≤ length l.text;
  columns : token_columns l.tokens.items ++ columns_of_parts (length l.text - length l.rest + 1) l.is_open (parts_ended_by_bytes is_blank l.rest)
      ≡ token_columns l.initial.tokens.items ++ columns_of_parts 1 false (parts_ended_by_bytes is_blank l.text);
}

abbrev pub decreases-loop-rest : goal.decreases-loop-rest
decreases-loop-rest l = length l.rest
