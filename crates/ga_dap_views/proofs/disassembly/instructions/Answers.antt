use Rattle.std.proofs.Common.{◌%◌, ℕ, arith}
use Rattle.ga_dap_views.specs.Disassembly.{instruction_object_at}
use Rattle.ga_dap_views.proofs.Lists.{range_step}
use Rattle.ga_dap_views.proofs.disassembly.instructions.Goals as goal

pub cells-preserved : goal.cells-preserved
cells-preserved c = record {
  from = omega (arith, c.cells.invariant.from);
  list = range_step (λ (k : ℕ). instruction_object_at c.args.file c.args.notes.now c.args.lab.now c.args.node (k % 4096)) c.args.first c.cells.address c.cells.list.items c.push.new.list.items c.in_ok-value.value
      c.cells.invariant.from c.in_ok-push.ensures.ok c.in_ok-value.ensures c.cells.invariant.list;
}
