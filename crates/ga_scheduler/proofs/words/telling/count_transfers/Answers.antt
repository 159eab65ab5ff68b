use Rattle.std.proofs.Common.{◌≡◌, ◌∙◌, ℕ, ◌+◌, ◌≤◌, List, length, drop, ap, arith}
use Rattle.ga_event.specs.declared.made.MadeEvent.{MadeEvent}
use Rattle.ga_lab.specs.Machine.{history_of_node}
use Rattle.ga_scheduler.specs.Words.{transfers_over_link_by_event, numbered_transfers, link_transfer_count}
use Rattle.ga_scheduler.proofs.WordCounts.{read_all, one_more, few_words}
use Rattle.ga_scheduler.proofs.words.telling.count_transfers.Goals as goal

pub overflow_add-words : goal.overflow_add-words
overflow_add-words c =
    let w = c.args.writer.number in
    let r = c.args.reader.number in
    let list = history_of_node c.args.lab.now c.scanned_link_end-end.result.number in
    let more : length (numbered_transfers w r 0 (drop c.places.place list)) ≡ transfers_over_link_by_event w r c.in-Some.made + length (numbered_transfers w r 0 (drop (c.places.place + 1) list)) =
    one_more w r list c.places.place c.in-Some.made c.in-Some.ensures in
    let few : length (numbered_transfers w r 0 list) ≤ length list = few_words w r list in
    let all : length (numbered_transfers w r 0 list) ≡ link_transfer_count c.args.lab.now w r =
    ap (λ (z : ℕ). length (numbered_transfers w r 0 (history_of_node c.args.lab.now z))) c.scanned_link_end-end.ensures ∙ ap length c.is_shorter.ensures in
    omega (arith, more, few, all, c.places.invariant, c.transfers_over_link_by_event-words.ensures.one, c.steps-place-end.ensures.told)

pub places-preserved : goal.places-preserved
places-preserved c =
    let w = c.args.writer.number in
    let r = c.args.reader.number in
    let list = history_of_node c.args.lab.now c.scanned_link_end-end.result.number in
    let more : length (numbered_transfers w r 0 (drop c.places.place list)) ≡ transfers_over_link_by_event w r c.in-Some.made + length (numbered_transfers w r 0 (drop (c.places.place + 1) list)) =
    one_more w r list c.places.place c.in-Some.made c.in-Some.ensures in
    omega (arith, more, c.places.invariant, c.transfers_over_link_by_event-words.ensures.one)

pub returns-in-None : goal.returns-in-None
returns-in-None c =
    let w = c.args.writer.number in
    let r = c.args.reader.number in
    let list = history_of_node c.args.lab.now c.scanned_link_end-end.result.number in
    let none : length (numbered_transfers w r 0 (drop c.places.place list)) ≡ 0 = ap (λ (z : List MadeEvent). length (numbered_transfers w r 0 z)) (read_all list c.places.place c.in-None.ensures) in
    omega (arith, none, c.places.invariant)
