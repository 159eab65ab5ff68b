use Rattle.std.proofs.Common.{◌∙◌, sym, ap, drop}
use Rattle.std.proofs.lemmas.List.{drop_all}
use Rattle.ga_source.proofs.Storing.{groups_all}
use Rattle.ga_source.proofs.stores.code_line_of_each_cell.Goals as goal

pub returns-clause-lines : goal.returns-clause-lines
returns-clause-lines c =
    sym (groups_all c.groups.code (drop c.groups.group-index c.args.program.now.groups.items)
    (ap (drop c.groups.group-index) (sym c.deref-group-items.ensures.value) ∙ drop_all c.groups.group-index c.deref-group-items.result.now c.groups-test.false))
    ∙ c.groups.invariant.noted
