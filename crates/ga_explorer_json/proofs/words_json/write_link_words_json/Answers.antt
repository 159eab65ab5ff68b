use Rattle.std.proofs.Common.{codes, ◌∙◌, sym}
use Rattle.ga_races.specs.HappensBefore.{are_neighbours}
use Rattle.ga_explorer_text.specs.Texts.{no_link_refusal}
use Rattle.ga_explorer_json.specs.Refusals.{hint_of_refusal, refusal_json}
use Rattle.ga_explorer_json.specs.Words.{transfers_json, link_words_answer_json}
use Rattle.ga_explorer_json.proofs.Writing.{answer_as, by_true, by_false}
use Rattle.ga_explorer_json.proofs.words_json.write_link_words_json.Goals as goal

pub returns-then-are_neighbours : goal.returns-then-are_neighbours
returns-then-are_neighbours g c =
    let s = c.args.lab.now in
    let from = c.args.from in
    let to = c.args.to in
    answer_as g.W.Write.contents c.write_transfers.result c.args.writer.now c.write_transfers.new.writer (transfers_json s from to) (link_words_answer_json s from to)
    (by_true (are_neighbours from.number to.number) (transfers_json s from to) (refusal_json (codes "words") 34 (codes "nolink") (hint_of_refusal no_link_refusal)) (sym c.are_neighbours.ensures ∙ c.if-are_neighbours.true))
    c.write_transfers.ensures

pub returns-else-are_neighbours : goal.returns-else-are_neighbours
returns-else-are_neighbours g c =
    let s = c.args.lab.now in
    let from = c.args.from in
    let to = c.args.to in
    let refusal = refusal_json (codes "words") 34 (codes "nolink") (hint_of_refusal no_link_refusal) in
    answer_as g.W.Write.contents c.write_refusal.result c.args.writer.now c.write_refusal.new.writer refusal (link_words_answer_json s from to)
    (by_false (are_neighbours from.number to.number) (transfers_json s from to) refusal (sym c.are_neighbours.ensures ∙ c.if-are_neighbours.false))
    c.write_refusal.ensures
