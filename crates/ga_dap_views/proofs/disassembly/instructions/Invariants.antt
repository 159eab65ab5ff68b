use Rattle.std.proofs.Common.{◌≡◌, ◌≤◌, ◌-◌, ◌%◌, map}
use Rattle.std.specs.List.{range_with_len}
use Rattle.serde_json.specs.View.{view}
use Rattle.ga_dap_views.specs.Disassembly.{instruction_object_at}
use Rattle.ga_dap_views.proofs.disassembly.instructions.Given as goal

abbrev pub invariant-cells : goal.invariant-cells
invariant-cells l = record {
  from : l.fn.first ≤ l.address;
  list : map view l.list.items ≡ map (λ k. instruction_object_at l.file l.notes l.lab l.node (k % 4096)) (range_with_len l.fn.first (l.address - l.fn.first));
}
