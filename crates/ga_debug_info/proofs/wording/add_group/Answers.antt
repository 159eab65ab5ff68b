use Rattle.std.proofs.Common.{◌≡◌, ◌++◌, ◌∷◌, [], map, length, arith, rules, ◌∙◌}
use Rattle.std.specs.Slice.Iter.{iter_rest}
use Rattle.std.specs.Iterator.Adapters.{zip_first, zip_second}
use Rattle.std.proofs.lemmas.List.{length_push}
use Rattle.std.proofs.lemmas.Slice.Zip.{zip_turn, zip_end}
use Rattle.ga_debug_info.specs.Notes.{displayed_word_content, displayed_literal_words, displayed_group_words}
use Rattle.ga_debug_info.proofs.Adding.{literals_step, literals_all, told_all}
use Rattle.ga_debug_info.proofs.wording.add_group.Goals as goal

pub loop-item-preserved : goal.loop-item-preserved
loop-item-preserved c =
    let first : iter_rest (zip_first c.into_iter-item-iterator.result) ≡ c.args.group.now.items.items = search rules in
    let second : iter_rest (zip_second c.into_iter-item-iterator.result) ≡ c.args.group.now.lines.items = search rules in
    let turn = zip_turn _ _ c.loop-item.yielded c.into_iter-item-iterator.result c.loop-item.item-iterator c.next.new.self c.next.result first second c.loop-item.yielded_by _ c.in-Some.is c.next.ensures.steps in
    let words = rw c.loop-item.invariant.same at c.in_ok-p.ensures.words in
    record {
      same = c.add_literal.ensures.same ∙ c.loop-item.invariant.same;
      words = literals_step (displayed_literal_words c.args.lines.now c.args.words.now c.args.node) c.args.group.now.items.items c.args.group.now.lines.items
          (map displayed_word_content c.loop-item.told.items) (map displayed_word_content c.add_literal.new.told.items) (map displayed_word_content c.args.told.now.items ++ displayed_group_words c.args.lines.now c.args.words.now c.args.node c.args.group.now)
          (length c.loop-item.yielded) (length (c.loop-item.yielded ++ (c.in-Some.item, c.in-Some.number) ∷ [])) c.loop-item.p c.in_ok-p.p c.in-Some.item.now c.in-Some.number.now
          turn.0 turn.1 (turn.2 c.in-Some.item.now) (turn.3 0)
          (length_push c.loop-item.yielded (c.in-Some.item, c.in-Some.number)) c.in_ok-p.ensures.p words c.loop-item.invariant.words;
    }

pub returns-clause-words : goal.returns-clause-words
returns-clause-words c =
    let first : iter_rest (zip_first c.into_iter-item-iterator.result) ≡ c.args.group.now.items.items = search rules in
    let second : iter_rest (zip_second c.into_iter-item-iterator.result) ≡ c.args.group.now.lines.items = search rules in
    let end = zip_end _ _ c.loop-item.yielded c.into_iter-item-iterator.result c.loop-item.item-iterator c.next.new.self c.next.result first second c.loop-item.yielded_by c.in-None.is c.next.ensures.steps in
    told_all _ _ _ (literals_all (displayed_literal_words c.args.lines.now c.args.words.now c.args.node) c.loop-item.p c.args.group.now.items.items c.args.group.now.lines.items (length c.loop-item.yielded) (omega (arith, end))) c.loop-item.invariant.words
