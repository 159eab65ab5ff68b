use Rattle.std.proofs.Common.{◌≡◌, ◌≢◌, ◌<◌, true, length, sym, ◌∙◌, subst, arith}
use Rattle.std.proofs.lemmas.List.{get_or-set_other}
use Rattle.ga_node.specs.State.{HasAtMostOneStatus}
use Rattle.ga_node.specs.Record.{record_of_node}
use Rattle.ga_node.specs.Table.{register_t, sent, send_changes, taken, take_changes}
use Rattle.ga_node.specs.Saving.{IsUndoLog}
use Rattle.ga_grid.specs.Chip.{default_node, node_at, records_of_chip, node_record_at}
use Rattle.ga_event.specs.Apply.{is_transfer_ready}
use Rattle.ga_event.proofs.Applied.{pass_applied, open_apart}
use Rattle.ga_event.proofs.forward.apply_pass.Goals as goal

pub returns : goal.returns
returns c =
    let w = c.args.writer.number in
    let r = c.args.reader.number in
    let size : length c.args.chip.now ≡ 144 = c.node_mut.ensures.size in
    let lw : w < length c.args.chip.now = omega arith in
    let lr : r < length c.args.chip.now = omega arith in
    let open_ : is_transfer_ready w r c.args.side (node_record_at (records_of_chip c.args.chip.now) w).wait (node_record_at (records_of_chip c.args.chip.now) r).wait ≡ true = c.requires.open in
    let other : w ≢ r = open_apart w r c.args.side _ _ open_ in
    let at_w : c.node_mut.result.now ≡ node_at c.args.chip.now w = c.node_mut.ensures.value in
    let at_r : c.node_mut-2.result.now ≡ node_at c.args.chip.now r =
    c.node_mut-2.ensures.value ∙ get_or-set_other c.args.chip.now w r c.send_transfer_word_logged-word.new.self default_node (λ e. other (sym e)) in
    pass_applied c.args.chip.now c.args.writer c.args.reader c.args.side c.send_transfer_word_logged-word.new.self c.take_transfer_word_logged.new.self c.send_transfer_word_logged-word.result
    c.send_transfer_word_logged-word.new.saved c.take_transfer_word_logged.new.saved lw lr other open_
    (subst (λ z. c.send_transfer_word_logged-word.result ≡ register_t (record_of_node z)) at_w c.send_transfer_word_logged-word.ensures.word)
    (subst (λ z. record_of_node c.send_transfer_word_logged-word.new.self ≡ sent (record_of_node z)) at_w c.send_transfer_word_logged-word.ensures.sent)
    (subst (λ z. IsUndoLog send_changes z c.send_transfer_word_logged-word.new.self c.send_transfer_word_logged-word.new.saved) at_w c.send_transfer_word_logged-word.ensures.saves)
    (subst (λ z. HasAtMostOneStatus z) at_w c.send_transfer_word_logged-word.ensures.apart)
    (subst (λ z. record_of_node c.take_transfer_word_logged.new.self ≡ taken c.send_transfer_word_logged-word.result (record_of_node z)) at_r c.take_transfer_word_logged.ensures.taken)
    (subst (λ z. IsUndoLog (take_changes (record_of_node z).wait c.send_transfer_word_logged-word.result) z c.take_transfer_word_logged.new.self c.take_transfer_word_logged.new.saved) at_r c.take_transfer_word_logged.ensures.saves)
    (subst (λ z. HasAtMostOneStatus z) at_r c.take_transfer_word_logged.ensures.apart)
