use Rattle.std.proofs.Common.{Some, None, refl, sym, ◌∙◌, ap, subst, arith}
use Rattle.std.specs.Prelude.{option_map}
use Rattle.ga_lab.specs.Machine.{MachineState}
use Rattle.ga_provenance.specs.declared.value.PartValue.{PartValue}
use Rattle.ga_provenance.specs.Sources.{value_sources}
use Rattle.ga_provenance.specs.inner.{part_value_of_traced_value, IsValueTraced}
use Rattle.ga_provenance.proofs.Runs.{IsGrowing, IsLine, one_value, is_next, follows, follows_by, grown, line_so}
use Rattle.ga_provenance.proofs.lines.find_line.Goals as goal

pub run-init : goal.run-init
run-init c = record {
  lab = c.trace_value_sources-search.ensures.lab;
  traced = c.trace_value_sources-search.ensures.traced;
  user = refl;
  used = refl;
  value = refl;
  run = subst (IsGrowing c.args.search.lab.now c.args.lines.now c.args.value 1 0) (sym c.trace_value_sources-search.ensures.value) (one_value c.args.search.lab.now c.args.lines.now c.args.value);
}

pub overflow_sub-line : goal.overflow_sub-line
overflow_sub-line c =
    let s = c.args.search.lab.now in
    let fol = follows_by s c.run.search.lab.now c.args.lines.now c.run.line c.run.oldest.value (option_map part_value_of_traced_value c.find_following-found.result.1) (Some c.in-Some.next.value) c.run.invariant.lab c.find_following-found.ensures.next
    (ap (option_map part_value_of_traced_value) c.in-Some.is) in
    let earlier = (is_next s c.run.oldest.value c.in-Some.next.value (follows s c.args.lines.now c.run.line c.run.oldest.value c.in-Some.next.value fol).next).earlier in
    omega (arith, earlier)

pub overflow_add-line : goal.overflow_add-line
overflow_add-line c =
    let s = c.args.search.lab.now in
    let fol = follows_by s c.run.search.lab.now c.args.lines.now c.run.line c.run.oldest.value (option_map part_value_of_traced_value c.find_following-found.result.1) (Some c.in-Some.next.value) c.run.invariant.lab c.find_following-found.ensures.next
    (ap (option_map part_value_of_traced_value) c.in-Some.is) in
    let next = is_next s c.run.oldest.value c.in-Some.next.value (follows s c.args.lines.now c.run.line c.run.oldest.value c.in-Some.next.value fol).next in
    let g = grown s c.args.lines.now c.args.value c.run.oldest.value c.in-Some.next.value c.run.line c.run.invariant.run fol in
    let few = g.few in
    let counts = g.counts in
    let later = next.later in
    omega (arith, few, counts, later)

pub run-smaller : goal.run-smaller
run-smaller c =
    let s = c.args.search.lab.now in
    let fol = follows_by s c.run.search.lab.now c.args.lines.now c.run.line c.run.oldest.value (option_map part_value_of_traced_value c.find_following-found.result.1) (Some c.in-Some.next.value) c.run.invariant.lab c.find_following-found.ensures.next
    (ap (option_map part_value_of_traced_value) c.in-Some.is) in
    let earlier = (is_next s c.run.oldest.value c.in-Some.next.value (follows s c.args.lines.now c.run.line c.run.oldest.value c.in-Some.next.value fol).next).earlier in
    omega (arith, earlier)

pub run-preserved : goal.run-preserved
run-preserved c =
    let s = c.args.search.lab.now in
    let fol = follows_by s c.run.search.lab.now c.args.lines.now c.run.line c.run.oldest.value (option_map part_value_of_traced_value c.find_following-found.result.1) (Some c.in-Some.next.value) c.run.invariant.lab c.find_following-found.ensures.next
    (ap (option_map part_value_of_traced_value) c.in-Some.is) in
    record {
      lab = c.find_following-found.ensures.lab ∙ c.run.invariant.lab;
      traced = subst (λ (z : MachineState). IsValueTraced z c.in-Some.next) c.run.invariant.lab (rw c.in-Some.is at c.find_following-found.ensures.traced);
      user = c.run.invariant.user;
      used = c.run.invariant.used;
      value = c.run.invariant.value;
      run = grown s c.args.lines.now c.args.value c.run.oldest.value c.in-Some.next.value c.run.line c.run.invariant.run fol;
    }

ends : (c : goal.In-None) → IsLine c.args.search.lab.now c.args.lines.now c.args.usage c.run.line c.run.oldest.value
ends c =
    let s = c.args.search.lab.now in
    let fol = follows_by s c.run.search.lab.now c.args.lines.now c.run.line c.run.oldest.value (option_map part_value_of_traced_value c.find_following-found.result.1) None c.run.invariant.lab c.find_following-found.ensures.next
    (ap (option_map part_value_of_traced_value) c.in-None.is) in
    line_so s c.args.lines.now c.args.usage c.run.line c.run.oldest.value c.run.invariant.user c.run.invariant.used (c.run.invariant.value ∙ c.requires.value)
    (subst (λ (v : PartValue). IsGrowing s c.args.lines.now v c.run.line.count c.run.line.period c.run.oldest.value) c.requires.value c.run.invariant.run) fol

pub returns-in-None-clause-line : goal.returns-in-None-clause-line
returns-in-None-clause-line c = (ends c).line_is

pub returns-in-None-clause-used : goal.returns-in-None-clause-used
returns-in-None-clause-used c = c.run.invariant.traced.used ∙ ap (value_sources c.args.search.lab.now) (ends c).oldest_is
