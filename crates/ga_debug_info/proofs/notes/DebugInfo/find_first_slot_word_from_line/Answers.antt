use Rattle.std.proofs.Common.{◌∙◌, ap, arith}
use Rattle.ga_debug_info.specs.declared.wording.DisplayedWord.{DisplayedWord}
use Rattle.ga_debug_info.specs.Notes.{earlier_slot_word_from_line}
use Rattle.ga_debug_info.proofs.LineLemmas.{one_nearer, none_nearer}
use Rattle.ga_debug_info.proofs.notes.DebugInfo.find_first_slot_word_from_line.Goals as goal

pub loop-told-preserved : goal.loop-told-preserved
loop-told-preserved c =
    let nearer = c.nearer-best.ensures ∙ ap (λ (one : DisplayedWord). earlier_slot_word_from_line c.args.line c.loop-told.best one.word) c.told-item.is in
    one_nearer c.args.line c.loop-told.best c.nearer-best.result c.deref-told-items.result.now c.loop-told.told-index c.told-item.result _ (omega arith) nearer c.loop-told.invariant

pub returns : goal.returns
returns c = none_nearer c.args.line c.loop-told.best c.deref-told-items.result.now c.loop-told.told-index _ (omega arith) c.loop-told.invariant
