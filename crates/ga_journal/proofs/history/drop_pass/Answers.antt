use Rattle.std.proofs.Common.{◌<◌, ◌≤◌, ◌-◌, ◌∙◌, ◌++◌, ap, sym, subst, arith, length, vec_len}
use Rattle.std.specs.Prelude.{option_to_list, slice_index_or}
use Rattle.ga_journal.specs.declared.entry.Part.{Part}
use Rattle.ga_journal.specs.inner.Stored.{default_pass, count_passes_of_part, IsPassOfPartDropped}
use Rattle.ga_journal.proofs.history.drop_pass.Goals as goal

pub returns-in-Passed : goal.returns-in-Passed
returns-in-Passed c =
    let one : 1 ≤ length c.args.passes.now.items = subst (λ (p : Part). count_passes_of_part p ≤ length c.args.passes.now.items) c.in-Passed.is c.requires in
    let some : 0 < vec_len c.args.passes.now = omega (arith, one, c.args.passes.now.ok) in
    subst (λ (p : Part). IsPassOfPartDropped p c.args.passes.now.items c.pop.new.self.items) (sym c.in-Passed.is) (
      slice_index_or c.args.passes.now.items (vec_len c.args.passes.now - 1) default_pass,
      c.pop.ensures.items ∙ ap (λ z. c.pop.new.self.items ++ option_to_list z) (c.pop.ensures.value default_pass some),
    )
