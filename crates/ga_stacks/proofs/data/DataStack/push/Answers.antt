use Rattle.std.proofs.Common.{◌≡◌, ◌%◌, ◌+◌, length, slice_index, ◌∙◌, arith, rules}
use Rattle.std.proofs.lemmas.List.{get_or_default}
use Rattle.ga_stacks.proofs.Eight.{words_of_stack-after_push, restored-after_push}
use Rattle.ga_stacks.proofs.data.DataStack.push.Goals as goal

pub returns-clause-words_after_push : goal.returns-clause-words_after_push
returns-clause-words_after_push c =
    let eight : length c.self.inside.cells ≡ 8 = search rules in
    rw (← c.self.view_is)
    (words_of_stack-after_push c.args.word c.self.inside.top c.self.inside.second c.self.inside.cells c.self.inside.pointer eight c.self.invariant)

pub returns-clause-state_after_undo : goal.returns-clause-state_after_undo
returns-clause-state_after_undo c =
    let eight : length c.self.inside.cells ≡ 8 = search rules in
    let old : c.get.result ≡ slice_index c.self.inside.cells ((c.self.inside.pointer + 7) % 8) = c.get.ensures.value ∙ get_or_default c.self.inside.cells ((c.self.inside.pointer + 7) % 8) _ 0 (omega arith) in
    rw (c.push-4.ensures.items, c.push-3.ensures.items, c.push-2.ensures.items, c.push.ensures.items, c.new-saved.ensures, ← c.self.view_is, c.get-3.ensures.value, c.get-2.ensures.value, old, c.from.ensures)
    (restored-after_push c.args.word c.self.inside.top c.self.inside.second c.self.inside.cells c.self.inside.pointer eight c.self.invariant)
