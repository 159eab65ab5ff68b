use Rattle.std.proofs.Common.{refl}
use Rattle.std.specs.Prelude.{is_some}
use Rattle.ga_causal.specs.Dependence.{is_node_flagged}
use Rattle.ga_dap.proofs.Known.{shown_so, carries_so}
use Rattle.ga_dap.proofs.session.go_on_launched.Goals as goal

pub returns-clause-sends : goal.returns-clause-sends
returns-clause-sends c =
    let marks = is_node_flagged c.thread_flags_by_node-before.result in
    let threads = shown_so c.args.launched.now.program c.as_slice.result.now marks c.as_slice.ensures.value c.thread_flags_by_node-before.ensures.marks in
    carries_so _ _ _ _ _ _ _ c.emit_slice_with_retry.ensures
    (λ messages told. (c.make_event_slice-stop.result, (is_some c.args.watched.now, c.make_event_slice-stop.ensures.slice, refl, marks, threads, told))) (λ none. tt)
