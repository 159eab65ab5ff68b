use Rattle.ga_parser.proofs.Placing.{all_read, columns_read}
use Rattle.ga_parser.proofs.scan.source_words.Goals as goal

pub returns-clause-says : goal.returns-clause-says
returns-clause-says c =
    all_read c.args.source.now c.in_ok-scanned.scanned.items c.in_ok-resolved.resolved.items _ c.in_ok-scanned.ensures.says c.in_ok-scanned.ensures.columns
    (rw c.as_slice.ensures.value at c.in_ok-resolved.ensures) (rw c.as_slice-2.ensures.value at c.in_ok-expand_node_groups.ensures)

pub returns-clause-columns : goal.returns-clause-columns
returns-clause-columns c =
    columns_read c.args.source.now c.in_ok-scanned.scanned.items c.in_ok-resolved.resolved.items _ c.in_ok-scanned.ensures.says c.in_ok-scanned.ensures.columns
    (rw c.as_slice.ensures.value at c.in_ok-resolved.ensures) (rw c.as_slice-2.ensures.value at c.in_ok-expand_node_groups.ensures)
