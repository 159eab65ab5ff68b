use Rattle.std.proofs.Common.{◌<◌, length, Some, sym, ◌∙◌, ap, subst, get_or, arith}
use Rattle.std.specs.List.{find}
use Rattle.std.proofs.lemmas.List.Elements.{All-get_or}
use Rattle.ga_lab.specs.Machine.{MachineState}
use Rattle.ga_provenance.specs.Lines.{is_next_value_in_run}
use Rattle.ga_provenance.specs.inner.{IsValueInHistory}
use Rattle.ga_provenance.proofs.Finding.{found_at, passed_at, drop_all}
use Rattle.ga_provenance.proofs.Runs.{not_next, next_by}
use Rattle.ga_provenance.proofs.source_search.SourceSearch.next_value_in_run.Goals as goal

pub trace_value_sources-found-requires : goal.trace_value_sources-found-requires
trace_value_sources-found-requires c =
    let s = c.args.self.lab.now in
    let xs = c.as_slice-next-items.result.now in
    let x = c.next-item.result in
    let kept = subst (λ l. IsValueInHistory s (get_or l c.origins.next-index x)) (sym c.as_slice-next-items.ensures.value)
    (All-get_or (IsValueInHistory s) c.args.traced.now.origins.items c.origins.next-index x (subst (λ l. c.origins.next-index < length l) c.as_slice-next-items.ensures.value c.origins-test.true) c.requires.kept) in
    subst (λ (z : MachineState). IsValueInHistory z x) (sym c.origins.invariant.lab) (subst (IsValueInHistory s) (sym c.next-item.is) kept)

pub origins-preserved-then-not-is_same_opcode_repetition : goal.origins-preserved-then-not-is_same_opcode_repetition
origins-preserved-then-not-is_same_opcode_repetition c =
    let s = c.args.self.lab.now in
    let v = c.args.traced.now.value in
    let x = c.next-item.result in
    let not_so = not_next s c.origins.search.lab.now v x c.origins.invariant.lab (sym c.is_same_opcode_repetition.ensures ∙ c.if-not-is_same_opcode_repetition.true) in
    record {
      lab = c.origins.invariant.lab;
      passed = sym (passed_at (is_next_value_in_run s v) c.as_slice-next-items.result.now c.origins.next-index x c.origins-test.true c.next-item.is not_so) ∙ c.origins.invariant.passed;
    }

pub origins-preserved : goal.origins-preserved
origins-preserved c =
    let s = c.args.self.lab.now in
    let v = c.args.traced.now.value in
    let x = c.next-item.result in
    let next_is = next_by s c.origins.search.lab.now v x c.trace_value_sources-found.result.1.value c.are_values_among.result c.as_slice.result.now c.trace_value_sources-found.result.1.origins.items c.as_slice-in-origins.result.now
    c.origins.invariant.lab (sym c.is_same_opcode_repetition.ensures ∙ c.if-not-is_same_opcode_repetition.false) c.trace_value_sources-found.ensures.value c.as_slice.ensures.value c.trace_value_sources-found.ensures.traced.origins
    (c.as_slice-in-origins.ensures.value ∙ c.requires.origins) c.are_values_among.ensures in
    record {
      lab = c.trace_value_sources-found.ensures.lab ∙ c.origins.invariant.lab;
      passed = sym (passed_at (is_next_value_in_run s v) c.as_slice-next-items.result.now c.origins.next-index x c.origins-test.true c.next-item.is (next_is ∙ c.if-are_values_among.false)) ∙ c.origins.invariant.passed;
    }

pub returns-then-are_values_among-clause-next : goal.returns-then-are_values_among-clause-next
returns-then-are_values_among-clause-next c =
    let s = c.args.self.lab.now in
    let v = c.args.traced.now.value in
    let x = c.next-item.result in
    let next_is = next_by s c.origins.search.lab.now v x c.trace_value_sources-found.result.1.value c.are_values_among.result c.as_slice.result.now c.trace_value_sources-found.result.1.origins.items c.as_slice-in-origins.result.now
    c.origins.invariant.lab (sym c.is_same_opcode_repetition.ensures ∙ c.if-not-is_same_opcode_repetition.false) c.trace_value_sources-found.ensures.value c.as_slice.ensures.value c.trace_value_sources-found.ensures.traced.origins
    (c.as_slice-in-origins.ensures.value ∙ c.requires.origins) c.are_values_among.ensures in
    ap Some c.trace_value_sources-found.ensures.value
    ∙ sym (found_at (is_next_value_in_run s v) c.as_slice-next-items.result.now c.origins.next-index x c.origins-test.true c.next-item.is (next_is ∙ c.if-are_values_among.true))
    ∙ c.origins.invariant.passed
    ∙ ap (find (is_next_value_in_run s v)) (c.as_slice-next-items.ensures.value ∙ c.requires.origins)

pub returns-clause-next : goal.returns-clause-next
returns-clause-next c =
    let s = c.args.self.lab.now in
    let v = c.args.traced.now.value in
    ap (find (is_next_value_in_run s v)) (sym (drop_all c.as_slice-next-items.result.now c.origins.next-index (omega arith)))
    ∙ c.origins.invariant.passed
    ∙ ap (find (is_next_value_in_run s v)) (c.as_slice-next-items.ensures.value ∙ c.requires.origins)
