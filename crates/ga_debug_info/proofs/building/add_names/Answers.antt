use Rattle.std.proofs.Common.{◌≡◌, ◌++◌, ◌∷◌, [], map, length, arith, rules}
use Rattle.std.specs.Slice.Iter.{iter_rest}
use Rattle.std.specs.Iterator.Adapters.{zip_first, zip_second}
use Rattle.std.proofs.lemmas.List.{length_push}
use Rattle.std.proofs.lemmas.Slice.Zip.{zip_turn, zip_end}
use Rattle.ga_debug_info.specs.Source.{label_address_content, program_label_addresses}
use Rattle.ga_debug_info.proofs.Adding.{among_step, among_all, told_all}
use Rattle.ga_debug_info.proofs.building.add_names.Goals as goal

pub loop-label-preserved : goal.loop-label-preserved
loop-label-preserved c =
    let first : iter_rest (zip_first c.into_iter-label-iterator.result) ≡ c.args.program.now.names.items = search rules in
    let second : iter_rest (zip_second c.into_iter-label-iterator.result) ≡ c.args.program.now.labels.items = search rules in
    let turn = zip_turn _ _ c.loop-label.yielded c.into_iter-label-iterator.result c.loop-label.label-iterator c.next.new.self c.next.result first second c.loop-label.yielded_by _ c.in-Some.is c.next.ensures.steps in
    among_step c.args.program.now.node c.args.program.now.names.items c.args.program.now.labels.items
    (map label_address_content c.loop-label.names.items) (map label_address_content c.add_name.new.names.items) (map label_address_content c.args.names.now.items ++ program_label_addresses c.args.program.now)
    (length c.loop-label.yielded) (length (c.loop-label.yielded ++ (c.in-Some.label, c.in-Some.address) ∷ [])) c.in-Some.label.now c.in-Some.address.now
    turn.0 turn.1 (turn.2 c.in-Some.label.now) (turn.3 c.in-Some.address.now)
    (length_push c.loop-label.yielded (c.in-Some.label, c.in-Some.address)) c.in_ok-add_name.ensures c.loop-label.invariant

pub returns : goal.returns
returns c =
    let first : iter_rest (zip_first c.into_iter-label-iterator.result) ≡ c.args.program.now.names.items = search rules in
    let second : iter_rest (zip_second c.into_iter-label-iterator.result) ≡ c.args.program.now.labels.items = search rules in
    let end = zip_end _ _ c.loop-label.yielded c.into_iter-label-iterator.result c.loop-label.label-iterator c.next.new.self c.next.result first second c.loop-label.yielded_by c.in-None.is c.next.ensures.steps in
    told_all _ _ _ (among_all c.args.program.now.node c.args.program.now.names.items c.args.program.now.labels.items (length c.loop-label.yielded) (omega (arith, end))) c.loop-label.invariant
