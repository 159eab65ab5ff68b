use Rattle.std.proofs.Common.{ap, ◌∙◌}
use Rattle.ga_scheduler.specs.Words.{link_transfers, link_transfer_count, unlisted_transfers}
use Rattle.ga_explorer_json.specs.Rows.{json_rows_of_items}
use Rattle.ga_explorer_json.specs.Words.{transfer_json, link_words_head_fields}
use Rattle.ga_explorer_json.proofs.Writing.{report_as}
use Rattle.ga_explorer_json.proofs.words_json.write_transfers.Goals as goal

pub returns : goal.returns
returns g c =
    let s = c.args.lab.now in
    let from = c.args.from in
    let to = c.args.to in
    report_as g.W.Write.contents c.write_report.result c.args.writer.now c.write_report.new.writer c.link_words_head_fields-head.result
    (link_words_head_fields from to (link_transfer_count s from.number to.number)) (json_rows_of_items transfer_json (unlisted_transfers s c.new.result)) (json_rows_of_items transfer_json (link_transfers s from.number to.number))
    (c.link_words_head_fields-head.ensures ∙ ap (link_words_head_fields from to) c.count_transfers.ensures) (ap (json_rows_of_items transfer_json) (c.new.ensures s)) c.write_report.ensures
