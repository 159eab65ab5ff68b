use Rattle.std.proofs.Common.{◌∙◌, ap, arith, length-set}
use Rattle.ga_dap_views.specs.Threads.{has_thread}
use Rattle.ga_dap_queries.proofs.Sent.{marked_more}
use Rattle.ga_dap_queries.proofs.telling.thread_flags_by_node.Goals as goal

pub loop-number-preserved : goal.loop-number-preserved
loop-number-preserved c = record {
  size = length-set c.loop-number.nodes c.loop-number.number c.has_thread-is_shown.result ∙ c.loop-number.invariant.size;
  marked = marked_more c.loop-number.nodes c.loop-number.number c.has_thread-is_shown.result (has_thread c.args.lab.now c.args.programs.now)
      (omega (arith, c.loop-number.invariant.size, c.loop-number-test.true)) c.loop-number.invariant.marked
      (c.has_thread-is_shown.ensures ∙ ap (has_thread c.args.lab.now c.args.programs.now) c.new.ensures);
}
