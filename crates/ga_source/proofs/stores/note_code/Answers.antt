use Rattle.std.proofs.Common.{◌∙◌, sym, ap, drop}
use Rattle.std.proofs.lemmas.List.{drop_all}
use Rattle.ga_source.proofs.Storing.{literals_all}
use Rattle.ga_source.proofs.stores.note_code.Goals as goal

pub returns-clause-noted : goal.returns-clause-noted
returns-clause-noted c =
    sym (literals_all c.loop-i.code c.args.group.now.lines.items c.loop-i.p c.loop-i.i (drop c.loop-i.i c.args.group.now.items.items)
    (ap (drop c.loop-i.i) (sym c.as_slice-item-items.ensures.value) ∙ drop_all c.loop-i.i c.as_slice-item-items.result.now c.loop-i-test.false))
    ∙ c.loop-i.invariant.noted
