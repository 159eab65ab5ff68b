use Rattle.std.proofs.Common.{sym, ◌∙◌, ap, arith}
use Rattle.std.specs.Prelude.{option_map}
use Rattle.ga_provenance.specs.inner.{part_value_of_traced_value}
use Rattle.ga_provenance.proofs.Runs.{is_next}
use Rattle.ga_provenance.proofs.lines.find_following.Goals as goal

pub follows_oldest_in_run-requires : goal.follows_oldest_in_run-requires
follows_oldest_in_run-requires c =
    let next = is_next c.args.search.lab.now c.args.oldest.now.value c.in-Some.next.value (sym c.next_value_in_run-found.ensures.next ∙ ap (option_map part_value_of_traced_value) c.in-Some.is) in
    let earlier = next.earlier in
    omega (arith, earlier)
