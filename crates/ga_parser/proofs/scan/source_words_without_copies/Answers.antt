use Rattle.ga_parser.proofs.Placing.{once_read}
use Rattle.ga_parser.proofs.scan.source_words_without_copies.Goals as goal

pub returns : goal.returns
returns c =
    once_read c.args.source.now c.in_ok-scanned.scanned.items c.in_ok-resolved.resolved.items _ c.in_ok-scanned.ensures.says c.in_ok-scanned.ensures.columns
    (rw c.as_slice.ensures.value at c.in_ok-resolved.ensures) (rw c.as_slice-2.ensures.value at c.in_ok-expand_node_groups.ensures)
